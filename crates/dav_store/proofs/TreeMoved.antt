-- What stands at each path after a node was moved.
use Rattle.std.proofs.Common.{◌≡◌, ℕ, Bool, true, false, cond, List, [], ◌∷◌, ◌++◌, Option, Some, None, refl, sym, ap, subst, ◌∙◌, ⊎_elim, inl, inr, append_assoc}
use Rattle.std.specs.Prelude.{◌⊎◌}
use Rattle.std.specs.Option.{option_and_then, option_or, IsSome, is_some}
use Rattle.std.proofs.lemmas.Bool.{cases_eq}
use Rattle.dav_core.specs.Path.{Path, rest_after}
use Rattle.dav_core.proofs.Theorems.{from_rest}
use Rattle.dav_store.specs.Tree.{Tree, value_of, parent_of, NoneAbove, root_id}
use Rattle.dav_store.specs.Walks.{walk}
use Rattle.dav_store.specs.Placed.{named, found, stands, IsNamedChild, IsNamedTree}
use Rattle.dav_store.proofs.Walks.{inner, walk_same}
use Rattle.dav_store.proofs.Placing.{one_at}
use Rattle.dav_store.proofs.TreeLooks.{IsOnce, cases_seat}
use Rattle.dav_store.proofs.TreePaths.{then_same, not_longer, no_rest_from, found-push, found-below, none-below, leaf_below, one_seat, outside, goes_by}

module _ {D : Type 0} where
  -- u is t with the node n, the child under fk of fp, under tk of tp, in the place of the old one that may be there
  pub record IsMoved (t u : Tree (List ℕ) D) (n fp : ℕ) (fk : List ℕ) (tp : ℕ) (tk : List ℕ) (old : Option ℕ) : Type 0 where
    pub once : IsOnce u
    pub above : NoneAbove u
    pub here : named u tp tk ≡ Some n
    pub gone : named u fp fk ≡ None
    pub others : (q : ℕ) (l : List ℕ) → ((q ≡ tp) × (l ≡ tk) → ⊥) → ((q ≡ fp) × (l ≡ fk) → ⊥) → named u q l ≡ named t q l
    pub removed : (q : ℕ) → old ≡ Some q → value_of u q ≡ None
    pub values : (q : ℕ) → (old ≡ Some q → ⊥) → value_of u q ≡ value_of t q
    pub parent : parent_of u n ≡ tp
    pub parents : (q : ℕ) → (q ≡ n → ⊥) → (old ≡ Some q → ⊥) → parent_of u q ≡ parent_of t q

-- what is found at a path after a move, by what follows the new path and the old one
abbrev pub after_move : {X : Type 0} (S : Path → Option X) (from q : Path) → Option Path → Option Path → Option X
after_move S from q a b = option_or (option_and_then (λ rest. S (from ++ rest)) a) (cond (is_some a) None (cond (is_some b) None (S q)))

or_none : {X : Type 0} (o : Option X) → option_or o None ≡ o
or_none None = refl
or_none (Some x) = refl

empty : (r : Path) → r ≡ r ++ []
empty [] = refl
empty (y ∷ r) = ap (λ z. y ∷ z) (empty r)

pub is_or_isnt : (o : Option ℕ) (x : ℕ) → (o ≡ Some x) ⊎ (o ≡ Some x → ⊥)
is_or_isnt None x = inr (λ e. let clash : None ≡ Some x = e in cc)
is_or_isnt (Some y) x = ⊎_elim (λ e. inl (ap Some e)) (λ differ. inr (λ e. differ (inner y x e))) (cases_eq y x)

module _ {D : Type 0} {holds : Option D → Bool} {fits : List ℕ → Type 0} (t : Tree (List ℕ) D) (grown : IsNamedTree holds fits t) (u : Tree (List ℕ) D) (F T : Path) (n fp : ℕ) (fk : List ℕ) (tp : ℕ) (tk : List ℕ) (old : Option ℕ) (moved : IsMoved t u n fp fk tp tk old)
    (at_from : found t F ≡ Some fp) (child : named t fp fk ≡ Some n) (at_to : found t T ≡ Some tp) (old_is : named t tp tk ≡ old)
    (leaf : (o : ℕ) → old ≡ Some o → (l : List ℕ) → named t o l ≡ None)
    (apart : (s : Path) → T ++ tk ∷ [] ≡ (F ++ fk ∷ []) ++ s → ⊥) (folder : holds (value_of t tp) ≡ true) (segment : fits tk) where
  abbrev from : Path
  from = F ++ fk ∷ []

  abbrev to : Path
  to = T ++ tk ∷ []

  was_from : found t from ≡ Some n
  was_from = found-push t F fp fk at_from ∙ child

  was_to : found t to ≡ old
  was_to = found-push t T tp tk at_to ∙ old_is

  isnt_old : old ≡ Some n → ⊥
  isnt_old e = apart [] (one_at t grown to from n (was_to ∙ e) was_from ∙ empty from)

  found_outside : (q : Path) → ((b : Path) → q ≡ to ++ b → ⊥) → ((b : Path) → q ≡ from ++ b → ⊥) → found u q ≡ found t q
  found_outside q out_to out_from =
      outside t grown u q (λ a b l x cut there.
      moved.others x l
      (λ same. out_to b (goes_by t grown u T a b q tk l tp x at_to there cut same))
      (λ same. out_from b (goes_by t grown u F a b q fk l fp x at_from there cut same)))

  under_from : (s : Path) → T ≡ from ++ s → ⊥
  under_from s e = apart (s ++ tk ∷ []) (ap (λ r. r ++ tk ∷ []) e ∙ append_assoc from s (tk ∷ []))

  found_to : found u to ≡ Some n
  found_to = found-push u T tp tk (found_outside T (λ b. not_longer T b tk) under_from ∙ at_to) ∙ moved.here

  -- below the node nothing changed
  below : (s : Path) → walk (named u) n s ≡ walk (named t) n s
  below s =
      walk_same (named t) (named u) s n (λ a b l x cut there.
      moved.others x l
      (λ same. under_from a (one_at t grown T (from ++ a) tp at_to (found-below t from a n was_from ∙ there ∙ ap Some same.0)))
      (λ same. not_longer F a fk (one_at t grown F (from ++ a) fp at_from (found-below t from a n was_from ∙ there ∙ ap Some same.0))))

  found_at_to : (s : Path) → found u (to ++ s) ≡ found t (from ++ s)
  found_at_to s = found-below u to s n found_to ∙ below s ∙ sym (found-below t from s n was_from)

  none_at_from : (q s : Path) → q ≡ from ++ s → ((b : Path) → q ≡ to ++ b → ⊥) → found u q ≡ None
  none_at_from q s cut out =
      let above : found u F ≡ Some fp =
      found_outside F (λ b e. out (b ++ fk ∷ s) (cut ∙ append_assoc F (fk ∷ []) s ∙ ap (λ r. r ++ fk ∷ s) e ∙ append_assoc to b (fk ∷ s))) (λ b. not_longer F b fk) ∙ at_from in
      ap (found u) cut ∙ none-below u from s (found-push u F fp fk above ∙ moved.gone)

  value_from : (s : Path) (x : ℕ) → found t (from ++ s) ≡ Some x → value_of u x ≡ value_of t x
  value_from s x is = moved.values x (λ e. apart s (one_at t grown to (from ++ s) x (was_to ∙ e) is))

  value_outside : (q : Path) → rest_after to q ≡ None → (x : ℕ) → found t q ≡ Some x → value_of u x ≡ value_of t x
  value_outside q none x is = moved.values x (λ e. no_rest_from to q none [] (one_at t grown q to x is (was_to ∙ e) ∙ empty to))

  stands_by : (q : Path) (a b : Option Path) → rest_after to q ≡ a → rest_after from q ≡ b → stands u q ≡ after_move (stands t) from q a b
  stands_by q (Some s) b is_to is_from =
      ap (option_and_then (value_of u)) (ap (found u) (from_rest to q s is_to) ∙ found_at_to s)
      ∙ then_same (value_of u) (value_of t) (found t (from ++ s)) (value_from s)
      ∙ sym (or_none (stands t (from ++ s)))
  stands_by q None (Some s) is_to is_from = ap (option_and_then (value_of u)) (none_at_from q s (from_rest from q s is_from) (no_rest_from to q is_to))
  stands_by q None None is_to is_from =
      ap (option_and_then (value_of u)) (found_outside q (no_rest_from to q is_to) (no_rest_from from q is_from))
      ∙ then_same (value_of u) (value_of t) (found t q) (value_outside q is_to)

  -- at and below the new path stands what stood at and below the old one, where now nothing is
  pub stands_moved : (q : Path) → stands u q ≡ after_move (stands t) from q (rest_after to q) (rest_after from q)
  stands_moved q = stands_by q (rest_after to q) (rest_after from q) refl refl

  -- a child is the moved node in its new place, or one that was there before and is another node
  which : (m : ℕ) (l : List ℕ) (x : ℕ) → named u m l ≡ Some x → ((m ≡ tp) × (l ≡ tk) × (n ≡ x)) ⊎ ((named t m l ≡ Some x) × (x ≡ n → ⊥) × (old ≡ Some x → ⊥))
  which m l x e =
      ⊎_elim
      (λ same. inl (same.0, same.1, inner n x (sym moved.here ∙ (λ i. named u (sym same.0 i) (sym same.1 i)) ∙ e)))
      (λ other. ⊎_elim
      (λ same. let clash : None ≡ Some x = sym moved.gone ∙ (λ i. named u (sym same.0 i) (sym same.1 i)) ∙ e in cc)
      (λ differ. let was : named t m l ≡ Some x = sym (moved.others m l other differ) ∙ e in
      inr (was, (λ is. differ (one_seat t grown m fp l fk n (was ∙ ap Some is) child)), (λ is. other (one_seat t grown m tp l tk x was (old_is ∙ is)))))
      (cases_seat m fp l fk))
      (cases_seat m tp l tk)

  child_new : (m : ℕ) (l : List ℕ) (x : ℕ) → m ≡ tp → l ≡ tk → n ≡ x → IsNamedChild holds fits u m l x
  child_new m l x same_parent same_name is =
      let c = grown.children fp fk n child in
      record {
        not_root = λ r. c.not_root (is ∙ r);
        there = ap is_some (ap (value_of u) (sym is) ∙ moved.values n isnt_old) ∙ c.there;
        parent = ap (parent_of u) (sym is) ∙ moved.parent ∙ sym same_parent;
        name = subst fits (sym same_name) segment;
        folder = ap holds (ap (value_of u) same_parent ∙ moved.values tp (λ e. not_longer T [] tk (one_at t grown T to tp at_to (was_to ∙ e) ∙ empty to))) ∙ folder;
      }

  child_old : (m : ℕ) (l : List ℕ) (x : ℕ) → named t m l ≡ Some x → (x ≡ n → ⊥) → (old ≡ Some x → ⊥) → IsNamedChild holds fits u m l x
  child_old m l x was other stays =
      let c = grown.children m l x was in
      record {
        not_root = c.not_root;
        there = ap is_some (moved.values x stays) ∙ c.there;
        parent = moved.parents x other stays ∙ c.parent;
        name = c.name;
        folder = ap holds (moved.values m (λ e. let clash : None ≡ Some x = sym (leaf m e l) ∙ was in cc)) ∙ c.folder;
      }

  once_by : (m : ℕ) (l o : List ℕ) (x : ℕ) → named u m l ≡ Some x → named u m o ≡ Some x → l ≡ o
  once_by m l o x a b =
      ⊎_elim
      (λ one. ⊎_elim (λ two. one.1 ∙ sym two.1) (λ two. absurd (two.1 (sym one.2))) (which m o x b))
      (λ one. ⊎_elim (λ two. absurd (one.1 (sym two.2))) (λ two. grown.once m l o x one.0 two.0) (which m o x b))
      (which m l x a)

  was_old : (s : Path) (x : ℕ) → found t (to ++ s) ≡ Some x → old ≡ Some x
  was_old s x e = by old refl s e where
    by : (o : Option ℕ) → old ≡ o → (r : Path) → found t (to ++ r) ≡ Some x → old ≡ Some x
    by None is r e = let clash : None ≡ Some x = sym (none-below t to r (was_to ∙ is)) ∙ e in cc
    by (Some o) is [] e = sym was_to ∙ ap (found t) (empty to) ∙ e
    by (Some o) is (l ∷ r) e = let clash : None ≡ Some x = sym (found-below t to (l ∷ r) o (was_to ∙ is) ∙ leaf_below t o l r (leaf o is l)) ∙ e in cc

  reached_by : (x : ℕ) → (old ≡ Some x → ⊥) → (r : Path) → found t r ≡ Some x → (o : Option Path) → rest_after from r ≡ o → (q : Path) × (found u q ≡ Some x)
  reached_by x stays r at (Some s) is = (to ++ s, found_at_to s ∙ ap (found t) (sym (from_rest from r s is)) ∙ at)
  reached_by x stays r at None is = (r, found_outside r (λ b cut. stays (was_old b x (ap (found t) (sym cut) ∙ at))) (no_rest_from from r is) ∙ at)

  reached_still : (x : ℕ) → (old ≡ Some x → ⊥) → IsSome (value_of t x) → (q : Path) × (found u q ≡ Some x)
  reached_still x stays some = let r = grown.reached x some in reached_by x stays r.0 r.1 (rest_after from r.0) refl

  pub grown_moved : IsNamedTree holds fits u
  grown_moved = record {
    some = grown.some;
    above = moved.above;
    numbers = moved.once.numbers;
    names = moved.once.names;
    root = ap holds (moved.values root_id (λ e. (grown.children tp tk root_id (old_is ∙ e)).not_root refl)) ∙ grown.root;
    children = λ m l x e. ⊎_elim (λ one. child_new m l x one.0 one.1 one.2) (λ one. child_old m l x one.0 one.1 one.2) (which m l x e);
    once = once_by;
    reached = λ x some. ⊎_elim
        (λ e. let no : false ≡ true = sym (ap is_some (moved.removed x e)) ∙ some in cc)
        (λ stays. reached_still x stays (sym (ap is_some (moved.values x stays)) ∙ some))
        (is_or_isnt old x);
  }
