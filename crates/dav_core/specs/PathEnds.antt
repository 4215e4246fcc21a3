-- The end of a path, as the code takes it off.
use Rattle.std.specs.Prelude.{ℕ, ◌==◌, Bool, not, ◌||◌, if◌then◌else◌, List, [], ◌∷◌}
use Rattle.dav_core.specs.Path.{is_nonempty, is_root, names_of}

-- a byte before a text, which is left out where it passes p and no text follows
abbrev pub onto_end : (ℕ → Bool) → ℕ → List ℕ → List ℕ
onto_end p b [] = if p b then [] else b ∷ []
onto_end p b (c ∷ cs) = b ∷ c ∷ cs

-- the text without the bytes at its end that pass p
abbrev pub without_end : (ℕ → Bool) → List ℕ → List ℕ
without_end p [] = []
without_end p (b ∷ bs) = onto_end p b (without_end p bs)

-- Everything up to the slash before the last name, with that slash.
abbrev pub before_last_name : List ℕ → List ℕ
before_last_name bytes = without_end (λ b. not (b == 47)) (without_end (λ b. b == 47) bytes)

-- the parent of a path: what is before its last name; but where that is empty, a path without names is its own parent
abbrev pub parent_by : Bool → List ℕ → List ℕ
parent_by is_root bytes = if is_nonempty (before_last_name bytes) || not is_root then before_last_name bytes else bytes

-- The bytes of the parent of a path.
abbrev pub parent_bytes : List ℕ → List ℕ
parent_bytes bytes = parent_by (is_root (names_of bytes)) bytes
