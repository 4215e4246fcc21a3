-- The end of a text: what is left of it without the bytes there that pass a test.
use Rattle.std.proofs.Common.{◌≡◌, ℕ, ◌+◌, ◌-◌, ◌≤◌, ◌==◌, Bool, true, false, not, ◌||◌, List, [], ◌∷◌, ◌++◌, length, take, drop, get_or, refl, sym, ap, ◌∙◌, inl, inr, arith, append_assoc, length-append, length-drop}
use Rattle.std.proofs.lemmas.Bool.{cases_Bool}
use Rattle.std.proofs.lemmas.List.{take_more, take_all, take_at, take-take, drop-take, append-nil}
use Rattle.dav_core.specs.Path.{is_nonempty, is_root, names_of}
use Rattle.dav_core.specs.PathEnds.{onto_end, without_end, before_last_name, parent_bytes}

-- a byte at the end that passes is left out
pub without_end_more : (p : ℕ → Bool) (xs : List ℕ) (c : ℕ) → p c ≡ true → without_end p (xs ++ c ∷ []) ≡ without_end p xs
without_end_more p [] c e = rw e refl
without_end_more p (x ∷ xs) c e = ap (onto_end p x) (without_end_more p xs c e)

-- a byte before a text that isn't empty stays
onto_end_some : (p : ℕ → Bool) (x : ℕ) (xs : List ℕ) (c : ℕ) → onto_end p x (xs ++ c ∷ []) ≡ x ∷ (xs ++ c ∷ [])
onto_end_some p x [] c = refl
onto_end_some p x (y ∷ xs) c = refl

-- a byte at the end that doesn't pass stays the end of the text
pub without_end_stop : (p : ℕ → Bool) (xs : List ℕ) (c : ℕ) → p c ≡ false → without_end p (xs ++ c ∷ []) ≡ xs ++ c ∷ []
without_end_stop p [] c e = rw e refl
without_end_stop p (x ∷ xs) c e =
    ap (onto_end p x) (without_end_stop p xs c e) ∙ onto_end_some p x xs c

-- a list is what comes before its last item, and that item
pub last_apart : (xs : List ℕ) → 1 ≤ length xs → xs ≡ take (length xs - 1) xs ++ get_or xs (length xs - 1) 0 ∷ []
last_apart xs some =
    let whole : length xs - 1 + 1 ≡ length xs = omega (arith, some) in
    sym (take_all (length xs - 1 + 1) xs (omega (arith, whole)))
    ∙ take_more xs (length xs - 1) 0 (omega (arith, some))

-- the same by the last place
pub without_end_cut : (p : ℕ → Bool) (xs : List ℕ) → 1 ≤ length xs → p (get_or xs (length xs - 1) 0) ≡ true → without_end p (take (length xs - 1) xs) ≡ without_end p xs
without_end_cut p xs some e =
    sym (ap (without_end p) (last_apart xs some) ∙ without_end_more p (take (length xs - 1) xs) (get_or xs (length xs - 1) 0) e)

pub without_end_kept : (p : ℕ → Bool) (xs : List ℕ) → 1 ≤ length xs → p (get_or xs (length xs - 1) 0) ≡ false → without_end p xs ≡ xs
without_end_kept p xs some e =
    ap (without_end p) (last_apart xs some)
    ∙ without_end_stop p (take (length xs - 1) xs) (get_or xs (length xs - 1) 0) e
    ∙ sym (last_apart xs some)

-- what is left is a front
onto_end_front : (p : ℕ → Bool) (x : ℕ) (left rest : List ℕ) → (more : List ℕ) × (x ∷ (left ++ rest) ≡ onto_end p x left ++ more)
onto_end_front p x [] rest =
    elim (cases_Bool (p x)) [ inl e ↦ (x ∷ rest, rw e refl) | inr e ↦ (rest, rw e refl) ]
onto_end_front p x (y ∷ left) rest = (rest, refl)

pub without_end_front : (p : ℕ → Bool) (xs : List ℕ) → (rest : List ℕ) × (xs ≡ without_end p xs ++ rest)
without_end_front p [] = ([], refl)
without_end_front p (x ∷ xs) =
    let (rest, e) = without_end_front p xs in
    let (more, f) = onto_end_front p x (without_end p xs) rest in
    (more, ap (λ ys. x ∷ ys) e ∙ f)

-- the parent is a front of the path
pub parent_front : (bytes : List ℕ) → (rest : List ℕ) × (bytes ≡ parent_bytes bytes ++ rest)
parent_front bytes =
    let (a, e) = without_end_front (λ b. b == 47) bytes in
    let (b, f) = without_end_front (λ b. not (b == 47)) (without_end (λ b. b == 47) bytes) in
    elim (cases_Bool (is_nonempty (before_last_name bytes) || not (is_root (names_of bytes)))) [
      | inl h ↦ (b ++ a, rw h (e ∙ ap (λ ys. ys ++ a) f ∙ append_assoc (before_last_name bytes) b a))
      | inr h ↦ ([], rw h (sym (append-nil bytes)))
    ]

-- the path cut after its parent
pub parent_cut : (bytes : List ℕ) → (length (parent_bytes bytes) ≤ length bytes) × (take (length (parent_bytes bytes)) bytes ≡ parent_bytes bytes)
parent_cut bytes =
    let (rest, e) = parent_front bytes in (
      omega (arith, ap length e, length-append (parent_bytes bytes) rest),
      ap (take (length (parent_bytes bytes))) e ∙ take_at (parent_bytes bytes) rest (length (parent_bytes bytes)) refl,
    )

-- the same of a path after a prefix of k bytes
pub parent_within : (full : List ℕ) (k : ℕ) → k ≤ length full → k + length (parent_bytes (drop k full)) ≤ length full
parent_within full k within =
    omega (arith, within, (parent_cut (drop k full)).0, length-drop k full)

pub parent_text : (full : List ℕ) (k : ℕ) → drop k (take (k + length (parent_bytes (drop k full))) full) ≡ parent_bytes (drop k full)
parent_text full k =
    drop-take k (length (parent_bytes (drop k full))) full ∙ (parent_cut (drop k full)).1

pub parent_prefix : (full : List ℕ) (k m : ℕ) → take k (take (k + m) full) ≡ take k full
parent_prefix full k m = take-take k (k + m) full (omega arith)
