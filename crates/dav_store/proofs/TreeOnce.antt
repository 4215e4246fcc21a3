-- That each node has one place, and what deleting below a node leaves of the numbers.
use Rattle.std.proofs.Common.{◌≡◌, ◌<◌, ℕ, List, [], ◌∷◌, Option, Some, None, Bool, true, false, cond, not, refl, sym, ap, subst, ◌∙◌, arith}
use Rattle.std.specs.Option.{option_map, option_map_or, option_and_then, is_some, IsSome}
use Rattle.std.specs.Map.{lookup}
use Rattle.std.specs.Prelude.{◌==◌, IfSome, OnSome, position, slice_get, get_or}
use Rattle.std.proofs.Common.{Bor}
use Rattle.std.specs.Map.Iter.{deref_pair}
use Rattle.std.proofs.lemmas.Bool.{eqb-true}
use Rattle.std.proofs.lemmas.List.Quantifiers.{position-Some}
use Rattle.std.proofs.lemmas.Option.{slice_get-get_or, get_or_from_slice_get}
use Rattle.std.specs.Cmp.{IsEquivalence}
use Rattle.dav_store.specs.Tree.{Tree, Node, IsRooted, IsFoundUnderKey, node, child, children_of, parent_of, place_of, times_listed, unlinked, subtree_deleted, is_at_or_below}
use Rattle.dav_store.specs.TreeLaws.{HandsOutNone, HasOnePlaceEach, FindsChildren, IsFound, IsFoundOnce, ClimbsToTheRoot, KeepsNumbersBelow}
use Rattle.dav_store.proofs.TreeForest.{hit_is, same_number, no_number, parent_there}
use Rattle.dav_store.proofs.TreeNumbers.{child_removed, still_none_above}
use Rattle.dav_store.proofs.TreeHangs.{up, has_up, node_up, is_there, hangs, where_listed, unlisted_elsewhere, one_self}
use Rattle.dav_store.proofs.TreeNodes.{times, times-cons, one_if}
use Rattle.dav_store.proofs.TreeKept.{looked_up, times_at, child_at, old_up}
use Rattle.dav_store.proofs.TreeBelow.{node_left, none_either}

keys_step : {K : Type 0} (n : ℕ) (e : K × ℕ) (es : List (K × ℕ)) (P Q : K → Type 0) (a b : Bool) (r s : Option ℕ) → (a ≡ true → P e.0) → (b ≡ true → Q e.0) → times n (e ∷ es) ≡ 1
    → cond a (Some e.1) r ≡ Some n → cond b (Some e.1) s ≡ Some n → (r ≡ Some n → 0 < times n es) → (s ≡ Some n → 0 < times n es)
    → (times n es ≡ 1 → r ≡ Some n → s ≡ Some n → (m : K) × P m × Q m) → (m : K) × P m × Q m
keys_step n e es P Q true true r s p q one h k f g ih = (e.0, p refl, q refl)
keys_step n e es P Q true false r s p q one h k f g ih = let is : one_if e.1 n ≡ 1 = ap (λ a. one_if a n) (same_number e.1 n h) ∙ one_self n in absurd (omega (arith, one, is, g k, times-cons n e es))
keys_step n e es P Q false true r s p q one h k f g ih = let is : one_if e.1 n ≡ 1 = ap (λ a. one_if a n) (same_number e.1 n k) ∙ one_self n in absurd (omega (arith, one, is, f h, times-cons n e es))
keys_step n e es P Q false false r s p q one h k f g ih = ih (omega (arith, one, f h, times-cons n e es)) h k

-- a number that stands once has one key
key_between : {K : Type 0} (eq : K → K → Bool) (n : ℕ) (k l : K) (es : List (K × ℕ)) → times n es ≡ 1 → lookup (eq k) es ≡ Some n → lookup (eq l) es ≡ Some n → (m : K) × (eq k m ≡ true) × (eq l m ≡ true)
key_between eq n k l [] one a b = no_number None n refl a
key_between eq n k l (e ∷ es) one a b =
    keys_step n e es (λ m. eq k m ≡ true) (λ m. eq l m ≡ true) (eq k e.0) (eq l e.0) (lookup (eq k) es) (lookup (eq l) es) (λ h. h) (λ h. h) one a b (looked_up (eq k) n es) (looked_up (eq l) n es)
    (key_between eq n k l es)

one_key : {K : Type 0} {eq : K → K → Bool} → IsEquivalence eq → (n : ℕ) (k l : K) (es : List (K × ℕ)) → times n es ≡ 1 → lookup (eq k) es ≡ Some n → lookup (eq l) es ≡ Some n → eq k l ≡ true
one_key {eq = eq} laws n k l es one a b = let w = key_between eq n k l es one a b in laws.congr k w.0 l w.1 ∙ laws.symm w.0 l ∙ w.2

-- a child of a number is found under the key that stands in its place
pub key_seen : {K : Type 0} (eq : K → K → Bool) (n i : ℕ) (es : List (K × ℕ)) (o : Option (Bor K × Bor ℕ)) → position (λ e. e.1 == n) es ≡ Some i → option_map deref_pair o ≡ slice_get es i
    → IfSome o (λ p. lookup (eq p.0.now) es ≡ Some p.1.now) → IsFoundUnderKey eq es n
key_seen eq n i [] o at is found = no_number None i refl at
key_seen eq n i (e ∷ es) None at is found =
    let w = position-Some (λ x. x.1 == n) (e ∷ es) i e at in
    absurd (let both : None ≡ Some (get_or (e ∷ es) i e) = is ∙ slice_get-get_or (e ∷ es) i e w.0 in cc)
key_seen {K = K} eq n i (e ∷ es) (Some p) at is found =
    let d : K × ℕ = (p.0.now, p.1.now) in
    let w = position-Some (λ x. x.1 == n) (e ∷ es) i d at in
    let num : p.1.now ≡ n = eqb-true p.1.now n (sym (ap (λ x. x.1 == n) (get_or_from_slice_get (e ∷ es) i d d (sym is))) ∙ w.1) in
    (p.0.now, found ∙ ap (λ m. Some m) num)

pub on_some : {X : Type 0} (o : Option X) (P : Type 0) → P → OnSome o P
on_some None P p = tt
on_some (Some x) P p = p

module _ {K D : Type 0} where
  -- a node whose number is known at its parent
  pub seen_at : (eq : K → K → Bool) (t : Tree K D) (n : ℕ) (x p : Node K D) → node t n ≡ Some x → node t x.parent ≡ Some p → OnSome (position (λ e. e.1 == n) p.children) (IsFoundUnderKey eq p.children n)
      → OnSome (place_of t (parent_of t n) n) (IsFoundUnderKey eq (children_of t (parent_of t n)) n)
  seen_at eq t n x p is at seen =
      let up_is : parent_of t n ≡ x.parent = ap (λ o. option_map_or (λ z. z.parent) o 0) is in
      subst (λ q. OnSome (place_of t q n) (IsFoundUnderKey eq (children_of t q) n)) (sym up_is)
      (subst (λ o. OnSome (option_and_then (λ z. position (λ e. e.1 == n) z.children) o) (IsFoundUnderKey eq (option_map_or (λ z. z.children) o []) n)) (sym at) seen)

  pub seen_nowhere : (t : Tree K D) (n q : ℕ) (P : Type 0) → parent_of t n ≡ q → node t q ≡ None → OnSome (place_of t (parent_of t n) n) P
  seen_nowhere t n q P is none =
      subst (λ a. OnSome (place_of t a n) P) (sym is) (subst (λ o. OnSome (option_and_then (λ z. position (λ e. e.1 == n) z.children) o) P) (sym none) tt)

  parent_is : (t : Tree K D) (n p : ℕ) → up t n ≡ Some p → parent_of t n ≡ p
  parent_is t n p is = let x = node_up t n p is in ap (λ o. option_map_or (λ z. z.parent) o 0) x.1 ∙ x.2

  pub has_one_place_each : (t : Tree K D) → IsRooted t → HasOnePlaceEach t
  has_one_place_each t h n some ne =
      let hh = hangs t h in
      let q = has_up t n some in
      let at = parent_is t n q.0 q.1 in (
        ap (λ p. times_listed t p n) at ∙ hh.once q.0 n (parent_there hh n q.0 q.1 ne) ∙ hit_is (up t n) q.0 q.1,
        λ p other. unlisted_elsewhere t p n q.0 hh q.1 (λ e. other (e ∙ sym at)),
      )

  parent_found : (eq : K → K → Bool) (t : Tree K D) (p n : ℕ) (k : K) (o : Option (Node K D)) → node t p ≡ o → option_and_then (λ x. lookup (eq k) x.children) o ≡ Some n → IsSome (node t p)
  parent_found eq t p n k None is e = no_number None n refl e
  parent_found eq t p n k (Some x) is e = ap is_some is

  pub finds_children : (eq : K → K → Bool) (t : Tree K D) → IsRooted t → FindsChildren eq t
  finds_children eq t h p k n is =
      let hh = hangs t h in
      let q = has_up t p (parent_found eq t p n k (node t p) refl is) in
      let up_is : up t n ≡ Some p = old_up eq t p n q.0 k hh q.1 is in (
        is_there t n p up_is,
        λ e. no_number (up t 0) q.0 hh.none (ap (up t) (same_number 0 p (sym hh.root ∙ ap (up t) (sym e) ∙ up_is)) ∙ q.1),
        parent_is t n p up_is,
      )

  -- a child is found under a key
  pub is_found : (eq : K → K → Bool) (t : Tree K D) (n : ℕ) → IsRooted t → OnSome (place_of t (parent_of t n) n) (IsFoundUnderKey eq (children_of t (parent_of t n)) n) → IsFound eq t n
  is_found eq t n h seen some ne =
      let q = has_up t n some in
      let l = where_listed t n q.0 (hangs t h) q.1 ne in
      let children : children_of t (parent_of t n) ≡ l.parent.children = ap (children_of t) l.parent_is ∙ ap (λ o. option_map_or (λ z. z.children) o []) l.is in
      let w = subst (λ o. OnSome o (IsFoundUnderKey eq (children_of t (parent_of t n)) n)) ((λ j. place_of t (l.parent_is j) n) ∙ l.place_is) seen in
      (q.0, w.0, child_at eq t q.0 w.0 l.parent l.is ∙ sym (ap (lookup (eq w.0)) children) ∙ w.1)

  -- and under no other
  pub is_found_once : {eq : K → K → Bool} → IsEquivalence eq → (t : Tree K D) (n : ℕ) → IsRooted t → IsFoundOnce eq t n
  is_found_once {eq = eq} laws t n h p q k l a b =
      let f = finds_children eq t h p k n a in
      let g = finds_children eq t h q l n b in
      let hh = hangs t h in
      let here : p ≡ q = sym f.2 ∙ g.2 in
      let some = has_up t p (parent_found eq t p n k (node t p) refl a) in
      let x = node_up t p some.0 some.1 in
      let once : times n x.0.children ≡ 1 = sym (times_at t p n x.0 x.1) ∙ ap (λ m. times_listed t m n) (sym f.2) ∙ (has_one_place_each t h n f.0 f.1).0 in
      (here, one_key laws n k l x.0.children once (sym (child_at eq t p k x.0 x.1) ∙ a) (sym (child_at eq t p l x.0 x.1) ∙ ap (λ m. child eq t m l) here ∙ b))

  pub climbs_to_the_root : (t : Tree K D) → IsRooted t → ClimbsToTheRoot t
  climbs_to_the_root t h n some = h.reached n some

  hands_out_none_below : (t : Tree K D) (n : ℕ) → HandsOutNone t (subtree_deleted t n)
  hands_out_none_below t n = (
    refl,
    λ m e. node_left t n m ∙ none_either (not (is_at_or_below t n m)) (node (unlinked t n) m) ((child_removed t (parent_of t n) (place_of t (parent_of t n) n)).1 m e),
  )

pub keeps_numbers_below : (K D : Type 0) → KeepsNumbersBelow K D
keeps_numbers_below K D t none n = (hands_out_none_below t n, still_none_above t (subtree_deleted t n) (hands_out_none_below t n) none)
