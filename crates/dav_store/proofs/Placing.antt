-- What is found in the list that a tree stands for.
use Rattle.std.proofs.Common.{◌≡◌, ℕ, ◌+◌, ◌≤◌, Bool, true, false, cond, T, List, [], ◌∷◌, Option, Some, None, refl, sym, ap, ◌∙◌, arith, ⊎_elim, reverse, if◌then◌else◌}
use Rattle.std.specs.Prelude.{◌==◌, nat_eq}
use Rattle.std.specs.Option.{option_map, option_map_or, option_and_then, IsSome, is_some}
use Rattle.std.specs.Ordering.{nat_cmp, is_eq}
use Rattle.std.specs.Cmp.{unsigned_tied, tied_itself, nat_cmp_total}
use Rattle.std.specs.Cmp.Lexicographic.{pointwise}
use Rattle.std.proofs.lemmas.Cmp.{nat_list_eq_equiv}
use native.Mathlib.Decide.{dec_lt}
use Rattle.std.specs.BTreeMap.{is_at}
use Rattle.std.specs.Map.{lookup}
use Rattle.std.specs.FinMap.{find, put, is_sorted}
use Rattle.std.specs.FinMap.Entries.{find-put, is_sorted-put, same_entries}
use Rattle.std.proofs.lemmas.Bool.{cases_Bool, eqb-true, eq-eqb}
use Rattle.std.proofs.lemmas.Slice.Eq.{slice_eq-Decides}
use Rattle.std.proofs.lemmas.List.{reverse-reverse}
use Rattle.dav_core.specs.Path.{Path, path_cmp, is_same_path}
use Rattle.dav_core.proofs.Theorems.{path_total, path_exact, same_path, path-itself}
use Rattle.dav_store.specs.Tree.{Tree, Node, node, value_of, children_of, root_id}
use Rattle.dav_store.specs.Walks.{reach, climb}
use Rattle.dav_store.specs.Placed.{is_same_name, name_among, named, seat, seat_of, by_path, placed, found, stands, IsNamedTree}
use Rattle.dav_store.proofs.Walks.{inner, IsSeated, climb_reach, reach_climb, one_path, one_walk, short, reach-reverse}

pub number_is : (q n : ℕ) → is_at (nat_cmp q) n ≡ true → q ≡ n
number_is q n e = eqb-true q n (sym (unsigned_tied q n) ∙ e)

pub number-itself : (n : ℕ) → is_at (nat_cmp n) n ≡ true
number-itself n = ap is_eq (tied_itself nat_cmp_total n)

pub other_number : (q n : ℕ) → (q ≡ n → ⊥) → is_at (nat_cmp q) n ≡ false
other_number q n apart = ⊎_elim (λ a. absurd (apart (number_is q n a))) (λ a. a) (cases_Bool (is_at (nat_cmp q) n))

pub name_is : (k l : List ℕ) → is_same_name k l ≡ true → k ≡ l
name_is k l e = (slice_eq-Decides (λ (a b : ℕ). (eqb-true a b, eq-eqb a b)) k l (pointwise nat_eq k l) refl).0 e

pub name-itself : (k : List ℕ) → is_same_name k k ≡ true
name-itself k = nat_list_eq_equiv.refl k

pub other_name : (k l : List ℕ) → (k ≡ l → ⊥) → is_same_name k l ≡ false
other_name k l apart = ⊎_elim (λ a. absurd (apart (name_is k l a))) (λ a. a) (cases_Bool (is_same_name k l))

-- the first name by which a number is found
among_step : (all es : List (List ℕ × ℕ)) (e : List ℕ × ℕ) (m : ℕ) (k : List ℕ) (o : Option ℕ) → lookup (is_same_name e.0) all ≡ o
    → (name_among all es m ≡ Some k → lookup (is_same_name k) all ≡ Some m)
    → (if option_map_or (λ n. n == m) o false then Some e.0 else name_among all es m) ≡ Some k → lookup (is_same_name k) all ≡ Some m
among_step all es e m k None was ih h = ih h
among_step all es e m k (Some n) was ih h = by (n == m) refl h where
  by : (b : Bool) → (n == m) ≡ b → (if b then Some e.0 else name_among all es m) ≡ Some k → lookup (is_same_name k) all ≡ Some m
  by true is h = ap (λ l. lookup (is_same_name l) all) (sym (inner e.0 k h)) ∙ was ∙ ap Some (eqb-true n m is)
  by false is h = ih h

pub among_is : (all es : List (List ℕ × ℕ)) (m : ℕ) (k : List ℕ) → name_among all es m ≡ Some k → lookup (is_same_name k) all ≡ Some m
among_is all [] m k h = cc
among_is all (e ∷ es) m k h = among_step all es e m k (lookup (is_same_name e.0) all) refl (among_is all es m k) h

-- there is one, where the number is found by some name
among_some_step : (all es : List (List ℕ × ℕ)) (e : List ℕ × ℕ) (m : ℕ) (k : List ℕ) (o : Option ℕ) (b : Bool) → lookup (is_same_name k) all ≡ Some m
    → lookup (is_same_name e.0) all ≡ o → is_same_name k e.0 ≡ b
    → (lookup (is_same_name k) es ≡ Some m → (l : List ℕ) × (name_among all es m ≡ Some l))
    → cond b (Some e.1) (lookup (is_same_name k) es) ≡ Some m → (l : List ℕ) × ((if option_map_or (λ n. n == m) o false then Some e.0 else name_among all es m) ≡ Some l)
among_some_step all es e m k o true at was is ih h =
    let here : o ≡ Some m = sym was ∙ ap (λ l. lookup (is_same_name l) all) (sym (name_is k e.0 is)) ∙ at in (
      e.0,
      ap (λ p. if option_map_or (λ n. n == m) p false then Some e.0 else name_among all es m) here
          ∙ ap (λ b. if b then Some e.0 else name_among all es m) (eq-eqb m m refl),
    )
among_some_step all es e m k None false at was is ih h = ih h
among_some_step all es e m k (Some n) false at was is ih h = by (n == m) where
  by : (b : Bool) → (l : List ℕ) × ((if b then Some e.0 else name_among all es m) ≡ Some l)
  by true = (e.0, refl)
  by false = ih h

pub among_some : (all es : List (List ℕ × ℕ)) (m : ℕ) (k : List ℕ) → lookup (is_same_name k) all ≡ Some m → lookup (is_same_name k) es ≡ Some m
    → (l : List ℕ) × (name_among all es m ≡ Some l)
among_some all [] m k at h = cc
among_some all (e ∷ es) m k at h = among_some_step all es e m k (lookup (is_same_name e.0) all) (is_same_name k e.0) at refl refl (among_some all es m k at) h

module _ {D : Type 0} (t : Tree (List ℕ) D) where
  -- a child is found among its parent's children
  pub named_from : (n : ℕ) (k : List ℕ) → named t n k ≡ lookup (is_same_name k) (children_of t n)
  named_from n k = by (node t n) where
    by : (o : Option (Node (List ℕ) D)) → option_and_then (λ x. lookup (is_same_name k) x.children) o ≡ lookup (is_same_name k) (option_map_or (λ x. x.children) o [])
    by None = refl
    by (Some x) = refl

  seat_other : (m : ℕ) → (m ≡ 1 → ⊥) → seat t m ≡ option_and_then (seat_of t m) (node t m)
  seat_other m apart =
      ⊎_elim (λ a. absurd (apart (eqb-true m 1 a)))
      (λ a. ap (λ b. if b then Some None else option_and_then (seat_of t m) (node t m)) a)
      (cases_Bool (m == 1))

  -- what a seat says
  seat_by : (m n : ℕ) (k : List ℕ) (o : Option (Node (List ℕ) D)) → option_and_then (seat_of t m) o ≡ Some (Some (n, k))
      → named t n k ≡ Some m
  seat_by m n k None e = cc
  seat_by m n k (Some x) e = by (name_among (children_of t x.parent) (children_of t x.parent) m) refl e where
    by : (p : Option (List ℕ)) → name_among (children_of t x.parent) (children_of t x.parent) m ≡ p → option_map {U = Option (ℕ × List ℕ)} (λ k. Some (x.parent, k)) p ≡ Some (Some (n, k)) → named t n k ≡ Some m
    by None was e = cc
    by (Some l) was e =
        let pair : (x.parent, l) ≡ (n, k) = inner (x.parent, l) (n, k) (inner (Some (x.parent, l)) (Some (n, k)) e) in
        (λ i. named t (sym (ap (λ (s : ℕ × List ℕ). s.0) pair) i) (sym (ap (λ (s : ℕ × List ℕ). s.1) pair) i)) ∙ named_from x.parent l
        ∙ among_is (children_of t x.parent) (children_of t x.parent) m l was

  seat_some : (m : ℕ) (p : Option (ℕ × List ℕ)) (o : Option (Node (List ℕ) D)) → option_and_then (seat_of t m) o ≡ Some p
      → (IsSome o) × ((p ≡ None) → ⊥)
  seat_some m p None e = cc
  seat_some m p (Some x) e = by (name_among (children_of t x.parent) (children_of t x.parent) m) e where
    by : (q : Option (List ℕ)) → option_map {U = Option (ℕ × List ℕ)} (λ k. Some (x.parent, k)) q ≡ Some p → (IsSome (Some x)) × ((p ≡ None) → ⊥)
    by None e = cc
    by (Some l) e = (refl, λ none. let clash : Some (Some (x.parent, l)) ≡ Some None = e ∙ ap Some none in cc)

value_there : {D : Type 0} (t : Tree (List ℕ) D) (m : ℕ) → IsSome (value_of t m) → (x : Node (List ℕ) D) × (node t m ≡ Some x)
value_there {D} t m h = by (node t m) refl h where
  by : (o : Option (Node (List ℕ) D)) → node t m ≡ o → IsSome (option_map (λ x. x.value) o) → (x : Node (List ℕ) D) × (node t m ≡ Some x)
  by None is h = let no : false ≡ true = h in cc
  by (Some x) is h = (x, is)

module _ {D : Type 0} {holds : Option D → Bool} {fits : List ℕ → Type 0} (t : Tree (List ℕ) D) (grown : IsNamedTree holds fits t) where
  pub root_there : IsSome (value_of t root_id)
  root_there = grown.some (value_of t root_id) grown.root

  down_seat : (n : ℕ) (k : List ℕ) (m : ℕ) → named t n k ≡ Some m → seat t m ≡ Some (Some (n, k))
  down_seat n k m e =
      let c = grown.children n k m e in
      let at = value_there t m c.there in
      let up : at.0.parent ≡ n = sym (ap (λ o. option_map_or (λ x. x.parent) o 0) at.1) ∙ c.parent in
      let some = among_some (children_of t n) (children_of t n) m k (sym (named_from t n k) ∙ e) (sym (named_from t n k) ∙ e) in
      let back : named t n some.0 ≡ Some m = named_from t n some.0 ∙ among_is (children_of t n) (children_of t n) m some.0 some.1 in
      let one : some.0 ≡ k = grown.once n some.0 k m back e in
      seat_other t m c.not_root
      ∙ ap (option_and_then (seat_of t m)) at.1
      ∙ ap (λ p. option_map {U = Option (ℕ × List ℕ)} (λ k. Some (p, k)) (name_among (children_of t p) (children_of t p) m)) up
      ∙ ap (option_map {U = Option (ℕ × List ℕ)} (λ k. Some (n, k))) (some.1 ∙ ap Some one)

  -- the children and the seats of a grown tree agree
  pub seated : IsSeated (named t) (seat t)
  seated = record {
    root = refl;
    only = λ m e. ⊎_elim (λ a. eqb-true m 1 a) (λ a. let other : (m ≡ 1 → ⊥) = λ one. let yes = eq-eqb m 1 one in cc in
        absurd ((seat_some t m None (node t m) (sym (seat_other t m other) ∙ e)).1 refl)) (cases_Bool (m == 1));
    down = down_seat;
    up = λ n k m e. ⊎_elim
        (λ a. let root : seat t m ≡ Some None = ap (seat t) (eqb-true m 1 a) in let clash : Some None ≡ Some (Some (n, k)) = sym root ∙ e in cc)
        (λ a. let other : (m ≡ 1 → ⊥) = λ one. let yes = eq-eqb m 1 one in cc in seat_by t m n k (node t m) (sym (seat_other t m other) ∙ e))
        (cases_Bool (m == 1));
  }

  there_within : (m : ℕ) → IsSome (node t m) → m ≤ t.last
  there_within m some =
      elim (dec_lt t.last m) [
        | yes a ↦ let no : false ≡ true = sym (ap is_some (grown.above m a)) ∙ some in cc
        | no a ↦ omega (arith, a)
      ]

  seats_within : (m : ℕ) (p : Option (ℕ × List ℕ)) → seat t m ≡ Some p → m ≤ t.last
  seats_within m p e =
      ⊎_elim
      (λ a. let root = value_there t 1 root_there in there_within m (ap is_some (ap (node t) (eqb-true m 1 a) ∙ root.1)))
      (λ a. let other : (m ≡ 1 → ⊥) = λ one. let yes = eq-eqb m 1 one in cc in there_within m (seat_some t m p (node t m) (sym (seat_other t m other) ∙ e)).0)
      (cases_Bool (m == 1))

  -- one path leads to a node
  pub one_at : (p q : Path) (m : ℕ) → found t p ≡ Some m → found t q ≡ Some m → p ≡ q
  one_at = one_walk (named t) (seat t) seated

  -- what is found at a path among some nodes
  abbrev value_among : List (ℕ × Node (List ℕ) D) → ℕ → Option D
  value_among es m = option_map (λ x. x.value) (lookup (is_at (nat_cmp m)) es)

  tail_of : (m : ℕ) (e : ℕ × Node (List ℕ) D) (es : List (ℕ × Node (List ℕ) D)) → (m ≡ e.0 → ⊥) → value_among (e ∷ es) m ≡ value_among es m
  tail_of m e es apart = ap (λ b. option_map (λ x. x.value) (cond b (Some e.1) (lookup (is_at (nat_cmp m)) es))) (other_number m e.0 apart)

  later : (e : ℕ × Node (List ℕ) D) (es : List (ℕ × Node (List ℕ) D)) (o : Option ℕ) → (o ≡ Some e.0 → ⊥) → option_and_then (value_among (e ∷ es)) o ≡ option_and_then (value_among es) o
  later e es None apart = refl
  later e es (Some m) apart = tail_of m e es (λ a. apart (ap Some a))

  head_of : (e : ℕ × Node (List ℕ) D) (es : List (ℕ × Node (List ℕ) D)) → value_among (e ∷ es) e.0 ≡ Some e.1.value
  head_of e es = ap (λ b. option_map (λ x. x.value) (cond b (Some e.1) (lookup (is_at (nat_cmp e.0)) es))) (number-itself e.0)

  find_step : (q : Path) (e : ℕ × Node (List ℕ) D) (es : List (ℕ × Node (List ℕ) D)) (o : Option Path) → climb (seat t) (t.last + 1) e.0 ≡ o
      → find path_cmp q (by_path t es) ≡ option_and_then (value_among es) (reach (named t) (reverse q))
      → find path_cmp q (option_map_or (λ r. put path_cmp (reverse r) e.1.value (by_path t es)) o (by_path t es)) ≡ option_and_then (value_among (e ∷ es)) (reach (named t) (reverse q))
  find_step q e es None was ih =
      ih ∙ sym (later e es (reach (named t) (reverse q)) (λ a. let c = climb_reach (named t) (seat t) seated (reverse q) e.0 (t.last + 1) a (short (named t) (seat t) seated t.last seats_within (reverse q) e.0 a) in cc))
  find_step q e es (Some r) was ih =
      let at : reach (named t) r ≡ Some e.0 = reach_climb (named t) (seat t) seated (t.last + 1) e.0 r was in
      find-put path_cmp path_total q (reverse r) e.1.value (by_path t es)
      ∙ ⊎_elim
      (λ a. let same : reverse q ≡ r = ap reverse (same_path q (reverse r) a) ∙ reverse-reverse r in
      ap (λ b. cond b (Some e.1.value) (find path_cmp q (by_path t es))) a
      ∙ sym (ap (option_and_then (value_among (e ∷ es))) (ap (reach (named t)) same ∙ at) ∙ head_of e es))
      (λ a. ap (λ b. cond b (Some e.1.value) (find path_cmp q (by_path t es))) a
      ∙ ih ∙ sym (later e es (reach (named t) (reverse q)) (λ b. let one = one_path (named t) (seat t) seated (reverse q) r e.0 b at in
      let twice : is_same_path q (reverse r) ≡ true = ap (is_same_path q) (sym (ap reverse one) ∙ reverse-reverse q) ∙ path-itself q in cc)))
      (cases_Bool (is_same_path q (reverse r)))

  none_for : (o : Option ℕ) → None ≡ option_and_then (value_among []) o
  none_for None = refl
  none_for (Some m) = refl

  find-by_path : (q : Path) (es : List (ℕ × Node (List ℕ) D)) → find path_cmp q (by_path t es) ≡ option_and_then (value_among es) (reach (named t) (reverse q))
  find-by_path q [] = none_for (reach (named t) (reverse q))
  find-by_path q (e ∷ es) = find_step q e es (climb (seat t) (t.last + 1) e.0) refl (find-by_path q es)

  -- what is found at a path in the list that the tree stands for is what a walk leads to
  pub find-placed : (q : Path) → find path_cmp q (placed t) ≡ stands t q
  find-placed q = find-by_path q t.nodes ∙ ap (option_and_then (value_of t)) (reach-reverse (named t) q)

  sorted_step : (e : ℕ × Node (List ℕ) D) (es : List (ℕ × Node (List ℕ) D)) (o : Option Path) → T (is_sorted path_cmp (by_path t es)) → T (is_sorted path_cmp (option_map_or (λ r. put path_cmp (reverse r) e.1.value (by_path t es)) o (by_path t es)))
  sorted_step e es None h = h
  sorted_step e es (Some r) h = is_sorted-put path_cmp path_total (reverse r) e.1.value (by_path t es) h

  sorted-by_path : (es : List (ℕ × Node (List ℕ) D)) → T (is_sorted path_cmp (by_path t es))
  sorted-by_path [] = tt
  sorted-by_path (e ∷ es) = sorted_step e es (climb (seat t) (t.last + 1) e.0) (sorted-by_path es)

  pub sorted-placed : T (is_sorted path_cmp (placed t))
  sorted-placed = sorted-by_path t.nodes

  -- and a list in order that has the same at each path is that list
  pub same_placed : (ns : List (Path × D)) → T (is_sorted path_cmp ns) → ((q : Path) → stands t q ≡ find path_cmp q ns) → placed t ≡ ns
  same_placed ns sorted same = same_entries path_cmp path_total path_exact (placed t) ns sorted-placed sorted (λ q. find-placed q ∙ same q)
