-- How much is among some nodes is how much is in two parts of them; and what two stores hold alike is as much.
use Rattle.std.proofs.Common.{◌≡◌, ◌&&◌, ◌+◌, ℕ, Bool, true, false, not, cond, T, List, [], ◌∷◌, map, length, Option, Some, None, option_map, refl, sym, ap, subst, ◌∙◌, arith}
use Rattle.std.proofs.lemmas.List.Sums.{sum_by-cons}
use Rattle.std.specs.FinMap.{find, is_sorted}
use Rattle.std.specs.FinMap.Entries.{below_all, find-where_key, is_sorted-where_key, same_entries, where_key}
use Rattle.std.specs.List.{filter, sum_by}
use Rattle.std.specs.Ordering.{eq_by_cmp, is_lt}
use Rattle.dav_core.specs.Path.{Path, path_cmp}
use Rattle.dav_core.specs.World.{Node, Nodes}
use Rattle.dav_core.proofs.NodesLemmas.{path_exact, path_total}
use Rattle.dav_store.specs.Used.{len_of, size_of}

-- ---- two parts

len_step : (a b : Bool) (x y z : Nodes) (e : Path × Node) → length x ≡ length y + length z → length (cond a (e ∷ x) x) ≡ length (cond (a && b) (e ∷ y) y) + length (cond (a && not b) (e ∷ z) z)
len_step true true x y z e is = omega (arith, is)
len_step true false x y z e is = omega (arith, is)
len_step false b x y z e is = is

sum_step : (a b : Bool) (x y z : Nodes) (e : Path × Node) → sum_by len_of x ≡ sum_by len_of y + sum_by len_of z
    → sum_by len_of (cond a (e ∷ x) x) ≡ sum_by len_of (cond (a && b) (e ∷ y) y) + sum_by len_of (cond (a && not b) (e ∷ z) z)
sum_step true true x y z e is = omega (arith, is, sum_by-cons len_of e x, sum_by-cons len_of e y)
sum_step true false x y z e is = omega (arith, is, sum_by-cons len_of e x, sum_by-cons len_of e z)
sum_step false b x y z e is = is

module _ (f g : Path × Node → Bool) where
  pub len_parts : (xs : Nodes) → length (filter f xs) ≡ length (filter (λ e. f e && g e) xs) + length (filter (λ e. f e && not (g e)) xs)
  len_parts [] = refl
  len_parts (e ∷ es) = len_step (f e) (g e) (filter f es) (filter (λ e. f e && g e) es) (filter (λ e. f e && not (g e)) es) e (len_parts es)

  pub sum_parts : (xs : Nodes) → sum_by len_of (filter f xs) ≡ sum_by len_of (filter (λ e. f e && g e) xs) + sum_by len_of (filter (λ e. f e && not (g e)) xs)
  sum_parts [] = refl
  sum_parts (e ∷ es) = sum_step (f e) (g e) (filter f es) (filter (λ e. f e && g e) es) (filter (λ e. f e && not (g e)) es) e (sum_parts es)

-- ---- filters

filter_step : (a b : Bool) (x y : Nodes) (e : Path × Node) → a ≡ b → x ≡ y → cond a (e ∷ x) x ≡ cond b (e ∷ y) y
filter_step a b x y e same is i = cond (same i) (e ∷ is i) (is i)

-- tests that say the same leave the same
pub same_filter : (f g : Path × Node → Bool) → ((e : Path × Node) → f e ≡ g e) → (xs : Nodes) → filter f xs ≡ filter g xs
same_filter f g same [] = refl
same_filter f g same (e ∷ es) = filter_step (f e) (g e) (filter f es) (filter g es) e (same e) (same_filter f g same es)

pub none_left : (xs : Nodes) → filter (λ (e : Path × Node). false) xs ≡ []
none_left [] = refl
none_left (e ∷ es) = none_left es

-- ---- what two stores hold alike

abbrev sizes : Nodes → List (Path × ℕ)
sizes ns = map (λ e. (e.0, len_of e)) ns

found_step : (b : Bool) (n : Node) (r : Option ℕ) (o : Option Node) → r ≡ option_map size_of o → cond b (Some (size_of n)) r ≡ option_map size_of (cond b (Some n) o)
found_step true n r o is = refl
found_step false n r o is = is

find-sizes : (q : Path) (ns : Nodes) → find path_cmp q (sizes ns) ≡ option_map size_of (find path_cmp q ns)
find-sizes q [] = refl
find-sizes q (e ∷ es) = found_step (eq_by_cmp path_cmp q e.0) e.1 (find path_cmp q (sizes es)) (find path_cmp q es) (find-sizes q es)

below-sizes : (x : Path) (ns : Nodes) → below_all path_cmp x (sizes ns) ≡ below_all path_cmp x ns
below-sizes x [] = refl
below-sizes x (e ∷ es) = ap (λ b. is_lt (path_cmp x e.0) && b) (below-sizes x es)

sorted-sizes : (ns : Nodes) → is_sorted path_cmp (sizes ns) ≡ is_sorted path_cmp ns
sorted-sizes [] = refl
sorted-sizes (e ∷ es) = λ i. below-sizes e.0 es i && sorted-sizes es i

len-sizes : (ns : Nodes) → length (sizes ns) ≡ length ns
len-sizes [] = refl
len-sizes (e ∷ es) = omega (arith, len-sizes es)

sum-sizes : (ns : Nodes) → sum_by (λ e. e.1) (sizes ns) ≡ sum_by len_of ns
sum-sizes [] = refl
sum-sizes (e ∷ es) = omega (arith, sum-sizes es, sum_by-cons len_of e es, sum_by-cons (λ (e : Path × ℕ). e.1) (e.0, len_of e) (sizes es))

module _ (P : Path → Bool) (old new : Nodes) (sorted : T (is_sorted path_cmp old)) (other : T (is_sorted path_cmp new))
    (alike : (q : Path) → P q ≡ true → option_map size_of (find path_cmp q old) ≡ option_map size_of (find path_cmp q new)) where
  at : (q : Path) (b : Bool) → P q ≡ b → option_map size_of (cond b (find path_cmp q old) None) ≡ option_map size_of (cond b (find path_cmp q new) None)
  at q true is = alike q is
  at q false is = refl

  find_in : (q : Path) (ns : Nodes) → find path_cmp q (sizes (where_key path_cmp P ns)) ≡ option_map size_of (cond (P q) (find path_cmp q ns) None)
  find_in q ns = find-sizes q (where_key path_cmp P ns) ∙ ap (option_map size_of) (find-where_key path_cmp P q (λ x e. ap P (sym (path_exact q x e))) ns)

  sorted_in : (ns : Nodes) → T (is_sorted path_cmp ns) → T (is_sorted path_cmp (sizes (where_key path_cmp P ns)))
  sorted_in ns rises = subst T (sym (sorted-sizes (where_key path_cmp P ns))) (is_sorted-where_key path_cmp P ns rises)

  same : sizes (where_key path_cmp P old) ≡ sizes (where_key path_cmp P new)
  same =
      same_entries path_cmp path_total path_exact (sizes (where_key path_cmp P old)) (sizes (where_key path_cmp P new)) (sorted_in old sorted) (sorted_in new other)
      (λ q. find_in q old ∙ at q (P q) refl ∙ sym (find_in q new))

  pub same_len : length (filter (λ e. P e.0) old) ≡ length (filter (λ e. P e.0) new)
  same_len = sym (len-sizes (where_key path_cmp P old)) ∙ ap length same ∙ len-sizes (where_key path_cmp P new)

  pub same_sum : sum_by len_of (filter (λ e. P e.0) old) ≡ sum_by len_of (filter (λ e. P e.0) new)
  same_sum = sym (sum-sizes (where_key path_cmp P old)) ∙ ap (sum_by (λ e. e.1)) same ∙ sum-sizes (where_key path_cmp P new)

-- ---- one node

abbrev pub one : Path → Option Node → Nodes
one p None = []
one p (Some n) = (p, n) ∷ []
