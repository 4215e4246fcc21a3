-- The line that is logged of a request.
use Rattle.std.specs.Prelude.{ℕ, List, [], ◌∷◌, ◌++◌, codes}
use Rattle.std.specs.Fmt.{decimal}
use Rattle.percent_encoding.specs.Percent.{percent_encode}
use Rattle.dav_live.specs.declared.line.TheConstants.{SPACED}

-- a word of a line: `-` for no bytes; else these, escaped where they are controls, spaces or not ASCII (RFC 3986, section 2.1)
abbrev pub word_text : List ℕ → List ℕ
word_text [] = codes "-"
word_text (byte ∷ bytes) = percent_encode SPACED (byte ∷ bytes)

-- the line of a request: its date, the address, the user, the method and the target that it told, and the status and the length of the
-- reply's body
abbrev pub line_text : List ℕ → List ℕ → List ℕ → List ℕ → List ℕ → ℕ → ℕ → List ℕ
line_text date address user method target status bytes =
    date ++ codes " " ++ word_text address ++ codes " " ++ word_text user ++ codes " " ++ word_text method ++ codes " "
    ++ word_text target ++ codes " " ++ decimal status ++ codes " " ++ decimal bytes
