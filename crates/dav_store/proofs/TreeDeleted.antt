-- What stands at each path after a node without children was deleted.
use Rattle.std.proofs.Common.{◌≡◌, ℕ, Bool, true, false, cond, List, [], ◌∷◌, ◌++◌, Option, Some, None, refl, sym, ap, ◌∙◌, ⊎_elim}
use Rattle.std.specs.Option.{option_and_then, IsSome, is_some}
use Rattle.std.proofs.lemmas.Bool.{cases_eq}
use Rattle.dav_core.specs.Path.{Path, rest_after, is_at_or_under}
use Rattle.dav_core.proofs.Theorems.{from_rest}
use Rattle.dav_store.specs.Tree.{Tree, value_of, parent_of, NoneAbove, root_id}
use Rattle.dav_store.specs.Placed.{named, found, stands, IsNamedChild, IsNamedTree}
use Rattle.dav_store.proofs.Walks.{inner}
use Rattle.dav_store.proofs.Placing.{one_at}
use Rattle.dav_store.proofs.TreeLooks.{IsOnce, cases_seat}
use Rattle.dav_store.proofs.TreePaths.{then_same, not_longer, no_rest_from, found-push, found-below, none-below, leaf_below, one_seat, outside, goes_by}

module _ {D : Type 0} where
  -- u is t without the node m, the child under the name k of p
  pub record IsDeleted (t u : Tree (List ℕ) D) (p : ℕ) (k : List ℕ) (m : ℕ) : Type 0 where
    pub once : IsOnce u
    pub above : NoneAbove u
    pub gone : named u p k ≡ None
    pub others : (q : ℕ) (l : List ℕ) → ((q ≡ p) × (l ≡ k) → ⊥) → named u q l ≡ named t q l
    pub removed : value_of u m ≡ None
    pub values : (q : ℕ) → (q ≡ m → ⊥) → value_of u q ≡ value_of t q
    pub parents : (q : ℕ) → (q ≡ m → ⊥) → parent_of u q ≡ parent_of t q

module _ {D : Type 0} {holds : Option D → Bool} {fits : List ℕ → Type 0} (t : Tree (List ℕ) D) (grown : IsNamedTree holds fits t) (u : Tree (List ℕ) D) (path : Path) (p : ℕ) (k : List ℕ) (m : ℕ) (deleted : IsDeleted t u p k m)
    (at : found t path ≡ Some p) (child : named t p k ≡ Some m) (leaf : (l : List ℕ) → named t m l ≡ None) where
  abbrev full : Path
  full = path ++ k ∷ []

  found_outside : (q : Path) → ((b : Path) → q ≡ full ++ b → ⊥) → found u q ≡ found t q
  found_outside q out = outside t grown u q (λ a b l n cut there. deleted.others n l (λ same. out b (goes_by t grown u path a b q k l p n at there cut same)))

  found_full : found t full ≡ Some m
  found_full = found-push t path p k at ∙ child

  none_at : (s : Path) → found u (full ++ s) ≡ None
  none_at s = none-below u full s (found-push u path p k (found_outside path (λ b. not_longer path b k) ∙ at) ∙ deleted.gone)

  -- only the deleted node was at or below its path
  pub was_only : (s : Path) (x : ℕ) → found t (full ++ s) ≡ Some x → x ≡ m
  was_only [] x e = inner x m (sym e ∙ found-below t full [] m found_full)
  was_only (l ∷ s) x e = let clash : None ≡ Some x = sym (found-below t full (l ∷ s) m found_full ∙ leaf_below t m l s (leaf l)) ∙ e in cc

  value_outside : (q : Path) → rest_after full q ≡ None → (x : ℕ) → found t q ≡ Some x → value_of u x ≡ value_of t x
  value_outside q none x is = deleted.values x (λ e. no_rest_from full q none [] (one_at t grown q full m (is ∙ ap Some e) found_full ∙ empty full)) where
    empty : (r : Path) → r ≡ r ++ []
    empty [] = refl
    empty (y ∷ r) = ap (λ z. y ∷ z) (empty r)

  stands_by : (q : Path) (o : Option Path) → rest_after full q ≡ o → stands u q ≡ cond (is_some o) None (stands t q)
  stands_by q None is =
      ap (option_and_then (value_of u)) (found_outside q (no_rest_from full q is))
      ∙ then_same (value_of u) (value_of t) (found t q) (value_outside q is)
  stands_by q (Some s) is = ap (option_and_then (value_of u)) (ap (found u) (from_rest full q s is) ∙ none_at s)

  -- nothing is at its path or below it, and at every other path what stood there
  pub stands_deleted : (q : Path) → stands u q ≡ cond (is_at_or_under q full) None (stands t q)
  stands_deleted q = stands_by q (rest_after full q) refl

  is_old : (n : ℕ) (l : List ℕ) (x : ℕ) → named u n l ≡ Some x → named t n l ≡ Some x
  is_old n l x e =
      ⊎_elim
      (λ same. let clash : None ≡ Some x = sym deleted.gone ∙ (λ i. named u (sym same.0 i) (sym same.1 i)) ∙ e in cc)
      (λ other. sym (deleted.others n l other) ∙ e)
      (cases_seat n p l k)

  isnt_deleted : (n : ℕ) (l : List ℕ) (x : ℕ) → named u n l ≡ Some x → x ≡ m → ⊥
  isnt_deleted n l x e is =
      let seat = one_seat t grown n p l k m (is_old n l x e ∙ ap Some is) child in
      let clash : None ≡ Some x = sym deleted.gone ∙ (λ i. named u (sym seat.0 i) (sym seat.1 i)) ∙ e in cc

  child_still : (n : ℕ) (l : List ℕ) (x : ℕ) → named u n l ≡ Some x → IsNamedChild holds fits u n l x
  child_still n l x e =
      let c = grown.children n l x (is_old n l x e) in
      let other = isnt_deleted n l x e in
      record {
        not_root = c.not_root;
        there = ap is_some (deleted.values x other) ∙ c.there;
        parent = deleted.parents x other ∙ c.parent;
        name = c.name;
        folder = ap holds (deleted.values n (λ is. let clash : None ≡ Some x = sym (leaf l) ∙ ap (λ a. named t a l) (sym is) ∙ is_old n l x e in cc)) ∙ c.folder;
      }

  reached_still : (x : ℕ) → (x ≡ m → ⊥) → IsSome (value_of t x) → (q : Path) × (found u q ≡ Some x)
  reached_still x other some =
      let r = grown.reached x some in
      (r.0, found_outside r.0 (λ b cut. other (was_only b x (ap (found t) (sym cut) ∙ r.1))) ∙ r.1)

  pub grown_deleted : IsNamedTree holds fits u
  grown_deleted = record {
    some = grown.some;
    above = deleted.above;
    numbers = deleted.once.numbers;
    names = deleted.once.names;
    root = ap holds (deleted.values root_id (λ e. (grown.children p k m child).not_root (sym e))) ∙ grown.root;
    children = child_still;
    once = λ n l o x a b. grown.once n l o x (is_old n l x a) (is_old n o x b);
    reached = λ x some. ⊎_elim
        (λ e. let no : false ≡ true = sym (ap is_some (ap (value_of u) e ∙ deleted.removed)) ∙ some in cc)
        (λ other. reached_still x other (sym (ap is_some (deleted.values x other)) ∙ some))
        (cases_eq x m);
  }
