-- The lines of replies, written one after another.
use Rattle.std.proofs.Common.{◌≡◌, ◌<◌, ◌+◌, ℕ, List, [], ◌∷◌, ◌++◌, Option, Some, None, length, take, get_or, append_assoc, append-nil, subst, sym, ap, ◌∙◌}
use Rattle.std.proofs.lemmas.List.{take_more}
use Rattle.std.proofs.lemmas.Grind.{flat_map-append}
use Rattle.std.specs.Io.KnownBytes.{Appends, Keeps}
use Rattle.dav_run.specs.Print.{line_of, lines_of}
use Rattle.dav_engine.specs.Reply.{Reply}

-- one more reply is one more line
lines_more : (rs : List Reply) (i : ℕ) (r : Reply) → i < length rs → r ≡ get_or rs i r
    → lines_of (take (i + 1) rs) ≡ lines_of (take i rs) ++ line_of r
lines_more rs i r below at =
    ap lines_of (take_more rs i r below ∙ ap (λ w. take i rs ++ w ∷ []) (sym at))
    ∙ flat_map-append line_of (take i rs) (r ∷ [])
    ∙ ap (λ w. lines_of (take i rs) ++ w) (append-nil (line_of r))

-- bytes are appended after others
appends_more : (a b c d : Option (List ℕ)) (x y : List ℕ) → Appends a b x → Appends b c y → Keeps c d → Appends a d (x ++ y)
appends_more None b c d x y p q k = tt
appends_more (Some u) None c d x y p q k = absurd p
appends_more (Some u) (Some v) None d x y p q k = absurd q
appends_more (Some u) (Some v) (Some w) None x y p q k = absurd k
appends_more (Some u) (Some v) (Some w) (Some z) x y p q k = k ∙ q ∙ ap (λ b. b ++ y) p ∙ append_assoc u x y

-- the lines so far and the next one
pub lines_written : (rs : List Reply) (i : ℕ) (r : Reply) (a b c d : Option (List ℕ)) (bytes text : List ℕ) → i < length rs → r ≡ get_or rs i r
    → text ≡ line_of r → bytes ≡ text → Appends a b (lines_of (take i rs)) → Appends b c bytes → Keeps c d
    → Appends a d (lines_of (take (i + 1) rs))
lines_written rs i r a b c d bytes text below at line same before added kept =
    subst (Appends a d)
    (ap (λ w. lines_of (take i rs) ++ w) (same ∙ line) ∙ sym (lines_more rs i r below at))
    (appends_more a b c d (lines_of (take i rs)) bytes before added kept)
