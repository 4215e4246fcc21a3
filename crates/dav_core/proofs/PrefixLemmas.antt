-- The prefix of a path is a text.
use Rattle.std.proofs.Common.{◌≡◌, ℕ, ◌+◌, ◌-◌, ◌≤◌, ◌++◌, Bool, true, List, [], ◌∷◌, length, get_or, take, drop, not, Some, sym, subst, refl, ap, ◌∙◌, length-append, inl, inr, arith}
use Rattle.std.specs.Str.{IsUtf8}
use Rattle.std.proofs.lemmas.Bool.{cases_Bool}
use Rattle.std.proofs.lemmas.Bool.Decides.{Decides-eqb}
use Rattle.std.proofs.lemmas.List.{length-take-le, get_or_push, take-append-le, take-append-drop, drop-append-le}
use Rattle.std.proofs.lemmas.Slice.Eq.{ends_is}
use Rattle.std.proofs.lemmas.Str.{IsUtf8-take, IsCharBoundary-before_ascii}
use Rattle.dav_core.specs.Path.{PathText, is_collection, without_slash, full_bytes, end_for, IsCut}
use Rattle.dav_core.specs.PathRef.{CutsAt}
use Rattle.dav_core.proofs.CutOnce.{cut_prefix}

-- a text without the slash at its end is a text
cut_slash : (bs : List ℕ) → IsUtf8 bs → is_collection bs ≡ true → IsUtf8 (take (length bs - 1) bs)
cut_slash bs text e =
    let parts = (ends_is Decides-eqb bs (47 ∷ []) (is_collection bs) refl).0 e in
    let short : length (take (length bs - 1) bs) ≡ length bs - 1 = length-take-le (length bs - 1) bs (omega arith) in
    let last : get_or bs (length bs - 1) 0 ≡ 47 = ap (λ l. get_or l (length bs - 1) 0) parts ∙ get_or_push (take (length bs - 1) bs) 47 0 (length bs - 1) short in
    let some : length bs ≡ length bs - 1 + 1 = ap length parts ∙ length-append (take (length bs - 1) bs) (47 ∷ []) ∙ ap (λ k. k + 1) short in
    IsUtf8-take bs (length bs - 1) text (IsCharBoundary-before_ascii bs (length bs - 1) (omega (arith, some)) (omega (arith, last)))

pub text_without_slash : (bs : List ℕ) → IsUtf8 bs → IsUtf8 (without_slash bs)
text_without_slash bs text =
    elim (cases_Bool (is_collection bs)) [ inl e ↦ rw e (cut_slash bs text e) | inr e ↦ rw e text ]

-- so the path begins with this prefix, also where more is added at its end, and the prefix is a text
pub prefix_fits : (text p bytes more full : List ℕ) (lacks_slash : Bool) → IsUtf8 text → p ≡ without_slash text → CutsAt p bytes (Some lacks_slash) → full ≡ bytes ++ more → (length p ≤ length full) × IsUtf8 (take (length p) full)
prefix_fits text p bytes more full lacks_slash utf8 is cut whole =
    let front : take (length p) full ≡ p = rw whole (take-append-le (length p) bytes more cut.0 ∙ cut_prefix p bytes _ cut.1) in (
      omega (arith, cut.0, ap length whole, length-append bytes more),
      rw (front, is) (text_without_slash text utf8),
    )

-- and it is cut after the prefix
pub cut_made : (text old p bytes full : List ℕ) (lacks_slash : Bool) → p ≡ text → bytes ≡ old → CutsAt p bytes (Some lacks_slash) → full ≡ bytes ++ end_for (not lacks_slash)
    → IsCut text old (record { prefix = take (length p) full; bytes = drop (length p) full })
cut_made text old p bytes full lacks_slash same is cut whole =
    let front : take (length p) full ≡ take (length p) bytes = ap (take (length p)) whole ∙ take-append-le (length p) bytes (end_for (not lacks_slash)) cut.0 in
    let back : drop (length p) full ≡ drop (length p) bytes ++ end_for (not lacks_slash) = ap (drop (length p)) whole ∙ drop-append-le (length p) bytes (end_for (not lacks_slash)) cut.0 in
    let made : IsCut p bytes (record { prefix = take (length p) full; bytes = drop (length p) full }) = subst (IsCut p bytes) (λ i. record { prefix = sym front i; bytes = sym back i }) cut.1 in
    subst (λ (t : List ℕ). IsCut t old (record { prefix = take (length p) full; bytes = drop (length p) full })) same
    (subst (λ (o : List ℕ). IsCut p o (record { prefix = take (length p) full; bytes = drop (length p) full })) is made)

-- the same cut of the same texts
pub cut_also : (text old p bytes : List ℕ) (cut : PathText) → p ≡ text → bytes ≡ old → IsCut text old cut → IsCut p bytes cut
cut_also text old p bytes cut same is h =
    subst (λ (t : List ℕ). IsCut t bytes cut) (sym same) (subst (λ (o : List ℕ). IsCut text o cut) (sym is) h)

-- the bytes of a path with a prefix of k bytes are all its bytes
pub full_is : (t : PathText) (full : List ℕ) (k : ℕ) → record { prefix = take k full; bytes = drop k full } ≡ t → full ≡ full_bytes t
full_is t full k is = sym (take-append-drop k full) ∙ ap full_bytes is
