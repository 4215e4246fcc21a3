-- Climbs from a node to one above it: as many steps as there are nodes are enough.
use Rattle.std.proofs.Common.{◌≡◌, ◌<◌, ◌≤◌, ℕ, zero, suc, List, [], ◌∷◌, Option, Some, None, Bool, true, false, refl, sym, ap, subst, ◌∙◌, arith, ⊎_elim, length}
use Rattle.std.specs.Prelude.{◌==◌, ◌||◌, if◌then◌else◌}
use Rattle.std.specs.Option.{option_map_or, is_some, IsSome}
use Rattle.std.specs.Ordering.{nat_cmp, eq_by_cmp}
use Rattle.std.specs.Cmp.{unsigned_tied, eq_by_cmp_equiv, nat_cmp_total}
use Rattle.std.specs.List.{list_any, IsDistinct, AllByRecursion}
use Rattle.std.proofs.lemmas.Bool.{cases_Bool, or_cases, eqb-true}
use Rattle.std.proofs.lemmas.Map.Steps.{length-le_from_keys}
use Rattle.dav_store.specs.Tree.{Tree, Node, node, is_within}
use Rattle.dav_store.specs.TreeLaws.{ClimbsFarEnough}
use Rattle.dav_store.proofs.TreeSteps.{step_up, no_node, at_top}

abbrev same : ℕ → ℕ → Bool
same = eq_by_cmp nat_cmp

same_number : (q n : ℕ) → same q n ≡ true → q ≡ n
same_number q n e = eqb-true q n (sym (unsigned_tied q n) ∙ e)

all_step : (p : ℕ → Bool) (x : ℕ) (xs : List ℕ) (a b : Bool) → p x ≡ a → list_any p xs ≡ b → (a || b) ≡ false
    → (list_any p xs ≡ false → AllByRecursion (λ y. p y ≡ false) xs) → AllByRecursion (λ y. p y ≡ false) (x ∷ xs)
all_step p x xs true b is rest e ih = cc
all_step p x xs false true is rest e ih = cc
all_step p x xs false false is rest e ih = (is, ih rest)

all_other : (p : ℕ → Bool) (xs : List ℕ) → list_any p xs ≡ false → AllByRecursion (λ y. p y ≡ false) xs
all_other p [] e = tt
all_other p (x ∷ xs) e = all_step p x xs (p x) (list_any p xs) refl refl e (all_other p xs)

module _ {K D : Type 0} (t : Tree K D) (top : ℕ) where
  -- more steps lead at least as far
  more_step : (f g : ℕ) (b : Bool) (o : Option (Node K D)) → ((m : ℕ) → is_within f t top m ≡ true → is_within g t top m ≡ true)
      → (if b then true else option_map_or (λ x. is_within f t top x.parent) o false) ≡ true → (if b then true else option_map_or (λ x. is_within g t top x.parent) o false) ≡ true
  more_step f g true o ih e = refl
  more_step f g false None ih e = e
  more_step f g false (Some x) ih e = ih x.parent e

  more : (f g n : ℕ) → is_within f t top n ≡ true → f ≤ g → is_within g t top n ≡ true
  more zero g n e le = cc
  more (suc f) zero n e le = absurd (omega (arith, le))
  more (suc f) (suc g) n e le = more_step f g (n == top) (node t n) (λ m h. more f g m h (omega (arith, le))) e

  -- the nodes on the way
  abbrev way : ℕ → ℕ → List ℕ
  way zero n = []
  way (suc f) n = n ∷ (if n == top then [] else option_map_or (λ x. way f x.parent) (node t n) [])

  -- from each of them no more steps are left
  on_rest : (f y : ℕ) (b : Bool) (o : Option (Node K D)) → ((m : ℕ) → is_within f t top m ≡ true → list_any (same y) (way f m) ≡ true → (g : ℕ) × (g ≤ f) × (is_within g t top y ≡ true))
      → (if b then true else option_map_or (λ x. is_within f t top x.parent) o false) ≡ true
      → list_any (same y) (if b then [] else option_map_or (λ x. way f x.parent) o []) ≡ true → (g : ℕ) × (g ≤ f) × (is_within g t top y ≡ true)
  on_rest f y true o ih e h = cc
  on_rest f y false None ih e h = cc
  on_rest f y false (Some x) ih e h = ih x.parent e h

  on_way : (f n y : ℕ) → is_within f t top n ≡ true → list_any (same y) (way f n) ≡ true → (g : ℕ) × (g ≤ f) × (is_within g t top y ≡ true)
  on_way zero n y e h = cc
  on_way (suc f) n y e h =
      ⊎_elim
      (λ a. (suc f, omega arith, ap (is_within (suc f) t top) (same_number y n a) ∙ e))
      (λ a. let w = on_rest f y (n == top) (node t n) (λ m. on_way f m y) e a in (w.0, omega (arith, w.1), w.2))
      (or_cases (same y n) (list_any (same y) (if n == top then [] else option_map_or (λ x. way f x.parent) (node t n) [])) h)

  -- the least number of steps that leads there
  record Least (g n : ℕ) : Type 0 where
    at : is_within g t top n ≡ true
    before : (h : ℕ) → h < g → is_within h t top n ≡ false

  not_yet : (h f n : ℕ) → is_within f t top n ≡ false → h ≤ f → is_within h t top n ≡ false
  not_yet h f n e le = ⊎_elim (λ a. let yes = more h f n a le in cc) (λ a. a) (cases_Bool (is_within h t top n))

  find_least : (f n : ℕ) → is_within f t top n ≡ true → (g : ℕ) × (g ≤ f) × Least g n
  find_least zero n e = cc
  find_least (suc f) n e =
      ⊎_elim
      (λ a. let w = find_least f n a in (w.0, omega (arith, w.1), w.2))
      (λ a. (suc f, omega arith, record { at = e; before = λ h lt. not_yet h f n a (omega (arith, lt)) }))
      (cases_Bool (is_within f t top n))

  least_up : (g n : ℕ) (x : Node K D) → (n == top) ≡ false → node t n ≡ Some x → Least (suc g) n → Least g x.parent
  least_up g n x isb iso l = record {
    at = sym (step_up t top n x g iso isb) ∙ l.at;
    before = λ h lt. sym (step_up t top n x h iso isb) ∙ l.before (suc h) (omega (arith, lt));
  }

  -- it leads over no node twice
  twice_step : (g n : ℕ) (b : Bool) (o : Option (Node K D)) → (n == top) ≡ b → node t n ≡ o → Least (suc g) n → ((m : ℕ) → Least g m → IsDistinct same (way g m))
      → IsDistinct same (n ∷ (if b then [] else option_map_or (λ x. way g x.parent) o []))
  unfolding IsDistinct
  twice_step g n true o isb iso l ih = (tt, tt)
  twice_step g n false None isb iso l ih = let none = no_node t top n (suc g) iso isb in let yes = l.at in cc
  twice_step g n false (Some x) isb iso l ih =
      let least = least_up g n x isb iso l in (
        all_other (same n) (way g x.parent)
            (⊎_elim (λ a. let w = on_way g x.parent n least.at a in let none = l.before w.0 (omega (arith, w.1)) in let yes = w.2 in cc) (λ a. a) (cases_Bool (list_any (same n) (way g x.parent)))),
        ih x.parent least,
      )

  none_twice : (g n : ℕ) → Least g n → IsDistinct same (way g n)
  unfolding IsDistinct
  none_twice zero n l = tt
  none_twice (suc g) n l = twice_step g n (n == top) (node t n) refl refl l (none_twice g)

  -- and over as many nodes as there are steps
  long_step : (g n : ℕ) (b : Bool) (o : Option (Node K D)) → (n == top) ≡ b → node t n ≡ o → Least (suc g) n → ((m : ℕ) → Least g m → g ≤ length (way g m))
      → suc g ≤ length (n ∷ (if b then [] else option_map_or (λ x. way g x.parent) o []))
  long_step zero n true o isb iso l ih = omega arith
  long_step (suc g) n true o isb iso l ih = let none = l.before 1 (omega arith) in let yes = at_top t top n 1 (omega arith) (eqb-true n top isb) in cc
  long_step g n false None isb iso l ih = let none = no_node t top n (suc g) iso isb in let yes = l.at in cc
  long_step g n false (Some x) isb iso l ih = omega (arith, ih x.parent (least_up g n x isb iso l))

  long : (g n : ℕ) → Least g n → g ≤ length (way g n)
  long zero n l = omega arith
  long (suc g) n l = long_step g n (n == top) (node t n) refl refl l (long g)

  -- all of which are there
  there_step : (f n : ℕ) (b : Bool) (o : Option (Node K D)) → (n == top) ≡ b → node t n ≡ o → IsSome (node t top) → is_within (suc f) t top n ≡ true → IsSome (node t n)
  there_step f n true o isb iso some e = subst (λ m. IsSome (node t m)) (sym (eqb-true n top isb)) some
  there_step f n false None isb iso some e = let none = no_node t top n (suc f) iso isb in cc
  there_step f n false (Some x) isb iso some e = ap is_some iso

  there : (f n : ℕ) → IsSome (node t top) → is_within f t top n ≡ true → IsSome (node t n)
  there zero n some e = cc
  there (suc f) n some e = there_step f n (n == top) (node t n) refl refl some e

  enough : (f n : ℕ) → IsSome (node t top) → is_within f t top n ≡ true → is_within (length t.nodes) t top n ≡ true
  enough f n some e =
      let w = find_least f n e in
      let all : length (way w.0 n) ≤ length t.nodes =
      length-le_from_keys (eq_by_cmp_equiv nat_cmp_total) (way w.0 n) t.nodes (none_twice w.0 n w.2)
      (λ q h. let at = on_way w.0 n q w.2.at h in there at.0 q some at.2) in
      more w.0 (length t.nodes) n w.2.at (omega (arith, all, long w.0 n w.2))

pub climbs_far_enough : (K D : Type 0) → ClimbsFarEnough K D
climbs_far_enough K D t top n steps some e = enough t top steps n some e
