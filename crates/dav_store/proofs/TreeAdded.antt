-- What stands at each path after a node was added.
use Rattle.std.proofs.Common.{◌≡◌, ℕ, Bool, true, false, cond, List, [], ◌∷◌, ◌++◌, Option, Some, None, refl, sym, ap, subst, ◌∙◌, ⊎_elim}
use Rattle.std.specs.Option.{option_and_then, IsSome, is_some}
use Rattle.std.proofs.lemmas.Bool.{cases_eq}
use Rattle.dav_core.specs.Path.{Path, rest_after, is_same_path}
use Rattle.dav_core.proofs.Theorems.{from_rest, path-itself}
use Rattle.dav_store.specs.Tree.{Tree, value_of, parent_of, NoneAbove, root_id}
use Rattle.dav_store.specs.Placed.{named, found, stands, IsNamedChild, IsNamedTree}
use Rattle.dav_store.proofs.Walks.{inner}
use Rattle.dav_store.proofs.Placing.{root_there}
use Rattle.dav_store.proofs.TreeLooks.{IsOnce, cases_seat}
use Rattle.dav_store.proofs.TreePaths.{then_same, not_longer, no_rest_from, differs, differs_behind, found_there, found-push, found-below, none-below, leaf_below, outside, goes_by}

module _ {D : Type 0} where
  -- u is t with a new node m of value v under the name k of p
  pub record IsAdded (t u : Tree (List ℕ) D) (p : ℕ) (k : List ℕ) (m : ℕ) (v : D) : Type 0 where
    pub once : IsOnce u
    pub above : NoneAbove u
    pub here : named u p k ≡ Some m
    pub others : (q : ℕ) (l : List ℕ) → ((q ≡ p) × (l ≡ k) → ⊥) → named u q l ≡ named t q l
    pub value : value_of u m ≡ Some v
    pub values : (q : ℕ) → (q ≡ m → ⊥) → value_of u q ≡ value_of t q
    pub parent : parent_of u m ≡ p
    pub parents : (q : ℕ) → (q ≡ m → ⊥) → parent_of u q ≡ parent_of t q

module _ {D : Type 0} {holds : Option D → Bool} {fits : List ℕ → Type 0} (t : Tree (List ℕ) D) (grown : IsNamedTree holds fits t) (u : Tree (List ℕ) D) (path : Path) (p : ℕ) (k : List ℕ) (m : ℕ) (v : D) (added : IsAdded t u p k m v)
    (at : found t path ≡ Some p) (free : named t p k ≡ None) (new : value_of t m ≡ None) (folder : holds (value_of t p) ≡ true) (segment : fits k) where
  abbrev full : Path
  full = path ++ k ∷ []

  isnt_new : (x : ℕ) → IsSome (value_of t x) → x ≡ m → ⊥
  isnt_new x some e = let no : false ≡ true = sym (ap is_some (ap (value_of t) e ∙ new)) ∙ some in cc

  parent_isnt : p ≡ m → ⊥
  parent_isnt = isnt_new p (grown.some (value_of t p) folder)

  no_children : (l : List ℕ) → named t m l ≡ None
  no_children l = by (named t m l) refl where
    by : (o : Option ℕ) → named t m l ≡ o → o ≡ None
    by None is = refl
    by (Some x) is = absurd (isnt_new m (grown.some (value_of t m) (grown.children m l x is).folder) refl)

  found_outside : (q : Path) → ((b : Path) → q ≡ full ++ b → ⊥) → found u q ≡ found t q
  found_outside q out = outside t grown u q (λ a b l n cut there. added.others n l (λ same. out b (goes_by t grown u path a b q k l p n at there cut same)))

  found_above : found u path ≡ Some p
  found_above = found_outside path (λ b. not_longer path b k) ∙ at

  pub found_full : found u full ≡ Some m
  found_full = found-push u path p k found_above ∙ added.here

  was_none : (s : Path) → found t (full ++ s) ≡ None
  was_none s = none-below t full s (found-push t path p k at ∙ free)

  none_behind : (l : List ℕ) (s : Path) → found u (full ++ l ∷ s) ≡ None
  none_behind l s = found-below u full (l ∷ s) m found_full ∙ leaf_below u m l s (added.others m l (λ same. parent_isnt (sym same.0)) ∙ no_children l)

  value_outside : (q : Path) (x : ℕ) → found t q ≡ Some x → value_of u x ≡ value_of t x
  value_outside q x is = added.values x (isnt_new x (found_there t grown q x is))

  stands_by : (q : Path) (o : Option Path) → rest_after full q ≡ o → stands u q ≡ cond (is_same_path q full) (Some v) (stands t q)
  stands_by q None is =
      ap (option_and_then (value_of u)) (found_outside q (no_rest_from full q is))
      ∙ then_same (value_of u) (value_of t) (found t q) (value_outside q)
      ∙ sym (ap (λ b. cond b (Some v) (stands t q)) (differs full q is))
  stands_by q (Some []) is =
      let same : q ≡ full = from_rest full q [] is ∙ sym (empty full) in
      ap (stands u) same ∙ ap (option_and_then (value_of u)) found_full ∙ added.value
      ∙ sym (ap (λ b. cond b (Some v) (stands t q)) (ap (λ (r : Path). is_same_path r full) same ∙ path-itself full)) where
        empty : (r : Path) → r ≡ r ++ []
        empty [] = refl
        empty (x ∷ r) = ap (λ y. x ∷ y) (empty r)
  stands_by q (Some (l ∷ s)) is =
      let same = from_rest full q (l ∷ s) is in
      ap (stands u) same ∙ ap (option_and_then (value_of u)) (none_behind l s)
      ∙ sym (ap (λ b. cond b (Some v) (stands t q)) (ap (λ (r : Path). is_same_path r full) same ∙ differs_behind full s l)
      ∙ ap (stands t) same ∙ ap (option_and_then (value_of t)) (was_none (l ∷ s)))

  -- at its path stands the new node, and at every other path what stood there
  pub stands_added : (q : Path) → stands u q ≡ cond (is_same_path q full) (Some v) (stands t q)
  stands_added q = stands_by q (rest_after full q) refl

  child_new : (n : ℕ) (l : List ℕ) (x : ℕ) → (n ≡ p) × (l ≡ k) → named u n l ≡ Some x → IsNamedChild holds fits u n l x
  child_new n l x same e =
      let is : m ≡ x = inner m x (sym added.here ∙ (λ i. named u (sym same.0 i) (sym same.1 i)) ∙ e) in
      record {
        not_root = λ r. isnt_new root_id (root_there t grown) (sym (is ∙ r));
        there = ap is_some (ap (value_of u) (sym is) ∙ added.value);
        parent = ap (parent_of u) (sym is) ∙ added.parent ∙ sym same.0;
        name = subst fits (sym same.1) segment;
        folder = ap holds (ap (value_of u) same.0 ∙ added.values p parent_isnt) ∙ folder;
      }

  child_old : (n : ℕ) (l : List ℕ) (x : ℕ) → named t n l ≡ Some x → IsNamedChild holds fits u n l x
  child_old n l x e =
      let c = grown.children n l x e in
      let other = isnt_new x c.there in
      record {
        not_root = c.not_root;
        there = ap is_some (added.values x other) ∙ c.there;
        parent = added.parents x other ∙ c.parent;
        name = c.name;
        folder = ap holds (added.values n (isnt_new n (grown.some (value_of t n) c.folder))) ∙ c.folder;
      }

  new_only : (n : ℕ) (l : List ℕ) → named t n l ≡ Some m → ⊥
  new_only n l e = isnt_new m (grown.children n l m e).there refl

  once_by : (n : ℕ) (l o : List ℕ) (x : ℕ) → named u n l ≡ Some x → named u n o ≡ Some x → l ≡ o
  once_by n l o x a b =
      ⊎_elim
      (λ one. ⊎_elim
      (λ two. one.1 ∙ sym two.1)
      (λ two. let is : m ≡ x = inner m x (sym added.here ∙ (λ i. named u (sym one.0 i) (sym one.1 i)) ∙ a) in
      absurd (new_only n o (sym (added.others n o two) ∙ b ∙ ap Some (sym is))))
      (cases_seat n p o k))
      (λ one. ⊎_elim
      (λ two. let is : m ≡ x = inner m x (sym added.here ∙ (λ i. named u (sym two.0 i) (sym two.1 i)) ∙ b) in
      absurd (new_only n l (sym (added.others n l one) ∙ a ∙ ap Some (sym is))))
      (λ two. grown.once n l o x (sym (added.others n l one) ∙ a) (sym (added.others n o two) ∙ b))
      (cases_seat n p o k))
      (cases_seat n p l k)

  reached_old : (x : ℕ) → IsSome (value_of t x) → (q : Path) × (found u q ≡ Some x)
  reached_old x some =
      let r = grown.reached x some in
      (r.0, found_outside r.0 (λ b cut. let clash : None ≡ Some x = sym (was_none b) ∙ ap (found t) (sym cut) ∙ r.1 in cc) ∙ r.1)

  pub grown_added : IsNamedTree holds fits u
  grown_added = record {
    some = grown.some;
    above = added.above;
    numbers = added.once.numbers;
    names = added.once.names;
    root = ap holds (added.values root_id (isnt_new root_id (root_there t grown))) ∙ grown.root;
    children = λ n l x e. ⊎_elim (λ same. child_new n l x same e) (λ other. child_old n l x (sym (added.others n l other) ∙ e)) (cases_seat n p l k);
    once = once_by;
    reached = λ x some. ⊎_elim (λ e. (full, found_full ∙ ap Some (sym e))) (λ other. reached_old x (sym (ap is_some (added.values x other)) ∙ some)) (cases_eq x m);
  }
