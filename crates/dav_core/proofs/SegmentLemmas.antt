-- The names in the bytes of a path, one after another.
use Rattle.std.proofs.Common.{◌≡◌, ◌≢◌, ℕ, ◌+◌, ◌==◌, List, [], ◌∷◌, take, drop, refl, ap, suc, arith, inl, inr}
use Rattle.std.specs.List.{filter, slice_split, prefix_len, position_or_len}
use Rattle.std.proofs.lemmas.Bool.{eqb-true, cases_Bool}
use Rattle.dav_core.specs.Path.{names_in, is_nonempty}
use Rattle.dav_core.proofs.Tests.{no_slash}

-- slashes at the beginning change no name
pub names_behind : (bs : List ℕ) → names_in (drop (prefix_len (λ b. b == 47) bs) bs) ≡ names_in bs
names_behind [] = refl
names_behind (b ∷ bs) =
    elim (cases_Bool (b == 47)) [
      | inl e ↦
          let step : 1 + prefix_len (λ b. b == 47) bs ≡ suc (prefix_len (λ b. b == 47) bs) = omega arith in
          rw (e, step) (names_behind bs)
      | inr e ↦ rw e (rw e refl)
    ]

-- the first piece, and the names in what follows it
head_piece : (bs : List ℕ) → (more : List (List ℕ)) × (slice_split (λ b. b == 47) bs ≡ take (position_or_len (λ b. b == 47) bs) bs ∷ more) × (filter is_nonempty more ≡ names_in (drop (position_or_len (λ b. b == 47) bs) bs))
head_piece [] = ([], refl, refl)
head_piece (b ∷ bs) =
    elim (cases_Bool (b == 47)) [
      | inl e ↦ (slice_split (λ b. b == 47) bs, rw e refl, rw e (rw e refl))
      | inr e ↦
          let (more, split, names) = head_piece bs in
          let step : 1 + position_or_len (λ b. b == 47) bs ≡ suc (position_or_len (λ b. b == 47) bs) = omega arith in
          (more, rw (e, step, split) refl, rw (e, step) names)
    ]

-- A text that doesn't begin with a slash is its first name and the rest.
pub first_name : (bs : List ℕ) → bs ≢ [] → ((rest : List ℕ) → bs ≢ 47 ∷ rest) → names_in bs ≡ take (position_or_len (λ b. b == 47) bs) bs ∷ names_in (drop (position_or_len (λ b. b == 47) bs) bs)
first_name [] some bare = absurd (some refl)
first_name (b ∷ bs) some bare =
    elim (cases_Bool (b == 47)) [
      | inl e ↦ absurd (bare bs (ap (λ c. c ∷ bs) (eqb-true b 47 e)))
      | inr e ↦
          let (more, split, names) = head_piece bs in
          let step : 1 + position_or_len (λ b. b == 47) bs ≡ suc (position_or_len (λ b. b == 47) bs) = omega arith in
          rw (e, step, split) (ap (λ ns. (b ∷ take (position_or_len (λ b. b == 47) bs) bs) ∷ ns) names)
    ]

-- what comes after the slashes doesn't begin with one
pub bare_behind : (bs rest : List ℕ) → drop (prefix_len (λ b. b == 47) bs) bs ≢ 47 ∷ rest
bare_behind [] rest = λ e. cc
bare_behind (b ∷ bs) rest =
    elim (cases_Bool (b == 47)) [
      | inl h ↦
          let step : 1 + prefix_len (λ b. b == 47) bs ≡ suc (prefix_len (λ b. b == 47) bs) = omega arith in
          rw (h, step) (bare_behind bs rest)
      | inr h ↦ rw h (λ e. let same : b ≡ 47 = cc in no_slash b h same)
    ]
