-- What holds of a tree of names that is a root alone.
use Rattle.std.proofs.Common.{◌≡◌, ℕ, Bool, true, false, cond, List, [], Option, Some, None, refl, ap, sym}
use Rattle.std.specs.Option.{option_and_then, option_map, option_map_or, IsSome}
use Rattle.std.specs.Ordering.{nat_cmp}
use Rattle.std.specs.BTreeMap.{is_at}
use Rattle.std.specs.Map.{lookup, keys_of}
use Rattle.std.specs.List.{IsDistinct}
use Rattle.dav_store.specs.Tree.{single, leaf}
use Rattle.dav_store.specs.Placed.{is_same_name, IsNamedTree}
use Rattle.dav_store.proofs.Placing.{number_is}
use Rattle.dav_store.proofs.TreeNumbers.{begins_at_the_root}

pub named_single : {D : Type 0} {holds : Option D → Bool} {fits : List ℕ → Type 0} → ((o : Option D) → holds o ≡ true → IsSome o) → (root : D) → holds (Some root) ≡ true → IsNamedTree holds fits (single {K = List ℕ} root)
unfolding IsDistinct
named_single {D = D} some root folder = record {
  some = some;
  above = begins_at_the_root (List ℕ) D root;
  numbers = (tt, tt);
  names = λ n. by (is_at (nat_cmp n) 1);
  root = folder;
  children = λ n k m e. absurd (no_child n k m (is_at (nat_cmp n) 1) e);
  once = λ n k l m e f. absurd (no_child n k m (is_at (nat_cmp n) 1) e);
  reached = λ m some. ([], at m (is_at (nat_cmp m) 1) refl some);
} where
  by : (b : Bool) → IsDistinct is_same_name (keys_of (option_map_or (λ x. x.children) (cond b (Some (leaf {K = List ℕ} 0 root)) None) []))
  by true = tt
  by false = tt

  no_child : (n : ℕ) (k : List ℕ) (m : ℕ) (b : Bool) → option_and_then (λ x. lookup (is_same_name k) x.children) (cond b (Some (leaf {K = List ℕ} 0 root)) None) ≡ Some m → ⊥
  no_child n k m true e = cc
  no_child n k m false e = cc

  at : (m : ℕ) (b : Bool) → is_at (nat_cmp m) 1 ≡ b → IsSome (option_map (λ x. x.value) (cond b (Some (leaf {K = List ℕ} 0 root)) None)) → Some 1 ≡ Some m
  at m true is some = ap Some (sym (number_is m 1 is))
  at m false is some = let no : false ≡ true = some in cc
