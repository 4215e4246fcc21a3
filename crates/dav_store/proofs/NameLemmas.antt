-- The names in the bytes of a path.
use Rattle.std.proofs.Common.{◌≡◌, ◌≢◌, zero, suc, ◌==◌, All, subst, ℕ, ◌<◌, Bool, true, false, cond, List, [], ◌∷◌, ◌++◌, if◌then◌else◌, length, get_or, Option, Some, None, refl, sym, ap, ◌∙◌, ⊎_elim, arith}
use Rattle.std.specs.Prelude.{bytes_eq}
use Rattle.std.specs.Option.{unwrap_or}
use Rattle.std.proofs.lemmas.List.Splits.{slice_split-cons_yes, slice_split-cons_no}
use Rattle.std.proofs.lemmas.Bool.Decides.{nat_tests}
use Rattle.std.specs.List.{AllByRecursion, slice_split, onto_first, filter, last_or}
use Rattle.dav_core.specs.Path.{Path, is_nonempty, is_root, parent_of, names_in, names_of, last_name, star, IsSegment}
use Rattle.dav_core.proofs.Theorems.{shape}

-- bytes without a slash
abbrev Slashless : List ℕ → Type 0
Slashless p = AllByRecursion (λ b. b ≢ 47) p

begun_with : (b : ℕ) (ps : List (List ℕ)) → b ≢ 47 → AllByRecursion Slashless ps → AllByRecursion Slashless (onto_first b ps)
begun_with b [] h all = ((h, tt), tt)
begun_with b (p ∷ ps) h all = ((h, all.0), all.1)

slashless : (bs : List ℕ) → AllByRecursion Slashless (slice_split (λ b. b == 47) bs)
slashless [] = (tt, tt)
slashless (b ∷ bs) =
    elim (b == 47) as (λ c. (b == 47) ≡ c → AllByRecursion Slashless (slice_split (λ b. b == 47) (b ∷ bs))) [
      | true ↦ λ h. subst (AllByRecursion Slashless) (sym (slice_split-cons_yes (λ b. b == 47) b bs h)) (tt, slashless bs)
      | false ↦ λ h. subst (AllByRecursion Slashless) (sym (slice_split-cons_no (λ b. b == 47) b bs h)) (begun_with b _ (grind (arith, nat_tests)) (slashless bs))
    ] refl

all_of : (p : List ℕ) → Slashless p → All (λ b. b ≢ 47) p
all_of [] h = λ k d lt. absurd (omega arith)
all_of (b ∷ p) h = λ k d lt. elim k as (λ i. i < length (b ∷ p) → get_or (b ∷ p) i d ≢ 47) [ zero ↦ λ _. h.0 | suc i ↦ λ l. all_of p h.1 i d (omega arith) ] lt

kept_step : (p : List ℕ) (c : Bool) → is_nonempty p ≡ c → (ps qs : List (List ℕ)) → Slashless p → AllByRecursion IsSegment qs → AllByRecursion IsSegment (cond c (p ∷ qs) qs)
kept_step p false e ps qs free more = more
kept_step [] true e ps qs free more = cc
kept_step (b ∷ p) true e ps qs free more = ((λ h. cc, all_of (b ∷ p) free), more)

kept : (ps : List (List ℕ)) → AllByRecursion Slashless ps → AllByRecursion IsSegment (filter is_nonempty ps)
kept [] all = tt
kept (p ∷ ps) all = kept_step p (is_nonempty p) refl ps _ all.0 (kept ps all.1)

-- the first of the names in bytes is a segment
pub first_is_segment : (bytes name : List ℕ) (rest : Path) → names_in bytes ≡ name ∷ rest → IsSegment name
first_is_segment bytes name rest e =
    let all : AllByRecursion IsSegment (name ∷ rest) = subst (AllByRecursion IsSegment) e (kept (slice_split (λ b. b == 47) bytes) (slashless bytes)) in
    all.0

only_last : (p : Path) (x : List ℕ) → AllByRecursion IsSegment (p ++ x ∷ []) → IsSegment x
only_last [] x all = all.0
only_last (y ∷ p) x all = only_last p x all.1

if_star : (b : Bool) (p : Path) → AllByRecursion IsSegment p → AllByRecursion IsSegment (if b then [] else p)
if_star true p all = tt
if_star false p all = all

-- the last of the names in bytes is a segment
last_is_segment : (bytes : List ℕ) (p : Path) (x : List ℕ) → names_of bytes ≡ p ++ x ∷ [] → IsSegment x
last_is_segment bytes p x e = only_last p x (subst (AllByRecursion IsSegment) e (if_star (bytes_eq bytes star) (names_in bytes) (kept (slice_split (λ b. b == 47) bytes) (slashless bytes))))

last_push : (o : Option (List ℕ)) (p : Path) (x : List ℕ) → last_or o (p ++ x ∷ []) ≡ Some x
last_push o [] x = refl
last_push o (y ∷ p) x = last_push (Some y) p x

last_name_is : (bytes : List ℕ) (p : Path) (x : List ℕ) → names_of bytes ≡ p ++ x ∷ [] → last_name bytes ≡ x
last_name_is bytes p x e = ap (λ (q : Path). unwrap_or (last_or None q) []) e ∙ ap (λ (o : Option (List ℕ)). unwrap_or o []) (last_push None p x)

-- the last name in bytes ends the path that they name, and is a segment
pub named_last : (bytes k : List ℕ) → is_root (names_of bytes) ≡ false → k ≡ last_name bytes → (names_of bytes ≡ parent_of (names_of bytes) ++ k ∷ []) × IsSegment k
named_last bytes k below last =
    ⊎_elim
    (λ e. let yes : is_root (names_of bytes) ≡ true = ap is_root e in let clash : true ≡ false = sym yes ∙ below in cc)
    (λ s. let name : k ≡ s.0 = last ∙ last_name_is bytes (parent_of (names_of bytes)) s.0 s.1 in (
      s.1 ∙ ap (λ (x : List ℕ). parent_of (names_of bytes) ++ x ∷ []) (sym name),
      subst IsSegment (sym name) (last_is_segment bytes (parent_of (names_of bytes)) s.0 s.1),
    ))
    (shape (names_of bytes))
