-- The numbers of the nodes of a tree after each call.
use Rattle.std.proofs.Common.{◌≡◌, ◌+◌, ◌<◌, ℕ, List, [], ◌∷◌, Option, Some, None, Bool, true, false, cond, refl, sym, ap, subst, ◌∙◌, arith, ⊎_elim}
use Rattle.std.specs.Option.{option_map_or}
use Rattle.std.specs.Ordering.{nat_cmp, match_ordering}
use Rattle.std.specs.declared.cmp.Ordering.{Ordering}
use Rattle.std.specs.declared.cmp.Ordering.TheVariants.{Less, Equal, Greater}
use Rattle.std.specs.BTreeMap.{is_at, insert_entry}
use Rattle.std.specs.Map.{lookup, remove_entry}
use Rattle.std.proofs.lemmas.Bool.{cases_Bool, eqb-true}
use Rattle.std.specs.Cmp.{unsigned_tied}
use Rattle.indexmap.specs.IndexMap.{insert_entry as put_key}
use Rattle.dav_store.specs.Tree.{Tree, Node, NoneAbove, node, with_node, without, without_old, without_place, grown, leaf, linked, unlinked_at, unlinked, seated, child, is_child, parent_of, place_of, root_id, added, deleted, moved, moved_over}
use Rattle.dav_store.specs.TreeLaws.{HandsOutNone, HandsOutNext, BeginsAtTheRoot, AddsTheNextNumber, KeepsNumbers}
use Rattle.dav_store.proofs.TreeSteps.{miss_set_value}

-- a number that isn't there isn't there where a node went
gone_step : {X : Type 0} (q : ℕ) (e : ℕ × X) (es rest : List (ℕ × X)) (at to : Bool) → is_at (nat_cmp q) e.0 ≡ at → cond at (Some e.1) (lookup (is_at (nat_cmp q)) es) ≡ None
    → (lookup (is_at (nat_cmp q)) es ≡ None → lookup (is_at (nat_cmp q)) rest ≡ None) → lookup (is_at (nat_cmp q)) (cond to es (e ∷ rest)) ≡ None
gone_step q e es rest true to was h ih = cc
gone_step q e es rest false true was h ih = h
gone_step q e es rest false false was h ih = ap (λ c. cond c (Some e.1) (lookup (is_at (nat_cmp q)) rest)) was ∙ ih h

pub miss_remove_entry : {X : Type 0} (q n : ℕ) (es : List (ℕ × X)) → lookup (is_at (nat_cmp q)) es ≡ None → lookup (is_at (nat_cmp q)) (remove_entry (is_at (nat_cmp n)) es) ≡ None
miss_remove_entry q n [] h = h
miss_remove_entry q n (e ∷ es) h = gone_step q e es (remove_entry (is_at (nat_cmp n)) es) (is_at (nat_cmp q) e.0) (is_at (nat_cmp n) e.0) refl h (miss_remove_entry q n es)

-- nor where another came
come_step : {X : Type 0} (q n : ℕ) (x : X) (e : ℕ × X) (es rest : List (ℕ × X)) (at : Bool) (o : Ordering) → is_at (nat_cmp q) e.0 ≡ at → is_at (nat_cmp q) n ≡ false
    → cond at (Some e.1) (lookup (is_at (nat_cmp q)) es) ≡ None → (lookup (is_at (nat_cmp q)) es ≡ None → lookup (is_at (nat_cmp q)) rest ≡ None)
    → lookup (is_at (nat_cmp q)) (match_ordering o ((n, x) ∷ e ∷ es) ((e.0, x) ∷ es) (e ∷ rest)) ≡ None
come_step q n x e es rest true o was other h ih = cc
come_step q n x e es rest false Less was other h ih =
    ap (λ c. cond c (Some x) (lookup (is_at (nat_cmp q)) (e ∷ es))) other ∙ ap (λ c. cond c (Some e.1) (lookup (is_at (nat_cmp q)) es)) was ∙ h
come_step q n x e es rest false Equal was other h ih = ap (λ c. cond c (Some x) (lookup (is_at (nat_cmp q)) es)) was ∙ h
come_step q n x e es rest false Greater was other h ih = ap (λ c. cond c (Some e.1) (lookup (is_at (nat_cmp q)) rest)) was ∙ ih h

pub miss_insert_entry : {X : Type 0} (q n : ℕ) (es : List (ℕ × X)) (x : X) → is_at (nat_cmp q) n ≡ false → lookup (is_at (nat_cmp q)) es ≡ None
    → lookup (is_at (nat_cmp q)) (insert_entry nat_cmp es n x) ≡ None
miss_insert_entry q n [] x other h = ap (λ c. cond c (Some x) None) other
miss_insert_entry q n (e ∷ es) x other h =
    come_step q n x e es (insert_entry nat_cmp es n x) (is_at (nat_cmp q) e.0) (nat_cmp n e.0) refl other h (miss_insert_entry q n es x other)

other_number : (q n : ℕ) → (q ≡ n → ⊥) → is_at (nat_cmp q) n ≡ false
other_number q n other = ⊎_elim (λ e. absurd (other (eqb-true q n (sym (unsigned_tied q n) ∙ e)))) (λ e. e) (cases_Bool (is_at (nat_cmp q) n))

module _ {K D : Type 0} where
  none_in_turn : (a b c : Tree K D) → HandsOutNone a b → HandsOutNone b c → HandsOutNone a c
  none_in_turn a b c f g = (g.0 ∙ f.0, λ n e. g.1 n (f.1 n e))

  same_tree : (t : Tree K D) → HandsOutNone t t
  same_tree t = (refl, λ n e. e)

  if_there : {X : Type 0} (o : Option X) (f : X → Tree K D) (t : Tree K D) → ((x : X) → HandsOutNone t (f x)) → HandsOutNone t (option_map_or f o t)
  if_there None f t h = same_tree t
  if_there (Some x) f t h = h x

  changed : (t : Tree K D) (n : ℕ) (x : Node K D) → HandsOutNone t (with_node t n x)
  changed t n x = (refl, λ q e. miss_set_value q n t.nodes x e)

  removed : (t : Tree K D) (n : ℕ) → HandsOutNone t (without t n)
  removed t n = (refl, λ q e. miss_remove_entry q n t.nodes e)

  old_removed : (t : Tree K D) (old : Option ℕ) → HandsOutNone t (without_old old t)
  old_removed t old = if_there old (λ n. without t n) t (removed t)

  pub child_removed : (t : Tree K D) (parent : ℕ) (place : Option ℕ) → HandsOutNone t (unlinked_at t parent place)
  child_removed t parent None = same_tree t
  child_removed t parent (Some i) =
      if_there (node t parent) (λ x. with_node t parent (record x { children = without_place i x.children })) t (λ x. changed t parent (record x { children = without_place i x.children }))

  parent_set : (t : Tree K D) (n parent : ℕ) → HandsOutNone t (seated t n parent)
  parent_set t n parent = if_there (node t n) (λ x. with_node t n (record x { parent = parent })) t (λ x. changed t n (record x { parent = parent }))

  child_put : (eq : K → K → Bool) (t : Tree K D) (n : ℕ) (k : K) (m : ℕ) → HandsOutNone t (linked eq t n k m)
  child_put eq t n k m =
      if_there (node t n) (λ x. with_node t n (record x { children = put_key eq x.children k m })) t (λ x. changed t n (record x { children = put_key eq x.children k m }))

  pub hands_out_none_deleted : (t : Tree K D) (n : ℕ) → HandsOutNone t (deleted t n)
  hands_out_none_deleted t n = none_in_turn t (unlinked t n) (deleted t n) (child_removed t (parent_of t n) (place_of t (parent_of t n) n)) (removed (unlinked t n) n)

  over : (eq : K → K → Bool) (t : Tree K D) (n parent : ℕ) (k : K) → HandsOutNone t (moved_over eq t n parent k)
  over eq t n parent k =
      let a = linked eq t parent k n in
      let b = unlinked_at a (parent_of t n) (place_of t (parent_of t n) n) in
      let c = seated b n parent in
      none_in_turn t a (moved_over eq t n parent k) (child_put eq t parent k n)
      (none_in_turn a b (moved_over eq t n parent k) (child_removed a (parent_of t n) (place_of t (parent_of t n) n))
      (none_in_turn b c (moved_over eq t n parent k) (parent_set b n parent) (old_removed c (child eq t parent k))))

  stays_or_not : (t u : Tree K D) (b : Bool) → HandsOutNone t u → HandsOutNone t (cond b t u)
  stays_or_not t u true h = same_tree t
  stays_or_not t u false h = h

  pub hands_out_none_moved : (eq : K → K → Bool) (t : Tree K D) (n parent : ℕ) (k : K) → HandsOutNone t (moved eq t n parent k)
  hands_out_none_moved eq t n parent k = stays_or_not t (moved_over eq t n parent k) (is_child eq t parent k n) (over eq t n parent k)

  pub still_none_above : (t u : Tree K D) → HandsOutNone t u → NoneAbove t → NoneAbove u
  still_none_above t u h none = λ n above. h.1 n (none n (subst (λ l. l < n) h.0 above))

  next_grown : (t : Tree K D) (parent : ℕ) (value : D) → HandsOutNext t (grown t parent value)
  next_grown t parent value = (refl, λ n other e. miss_insert_entry n (t.last + 1) t.nodes (leaf parent value) (other_number n (t.last + 1) other) e)

  next_then_none : (a b c : Tree K D) → HandsOutNext a b → HandsOutNone b c → HandsOutNext a c
  next_then_none a b c f g = (g.0 ∙ f.0, λ n other e. g.1 n (f.1 n other e))

  pub next_added : (eq : K → K → Bool) (t : Tree K D) (parent : ℕ) (k : K) (value : D) → HandsOutNext t (added eq t parent k value)
  next_added eq t parent k value =
      let a = grown t parent value in
      let b = linked eq a parent k (t.last + 1) in
      next_then_none t a (added eq t parent k value) (next_grown t parent value)
      (none_in_turn a b (added eq t parent k value) (child_put eq a parent k (t.last + 1)) (old_removed b (child eq t parent k)))

  none_above_next : (t u : Tree K D) → HandsOutNext t u → NoneAbove t → NoneAbove u
  none_above_next t u h none =
      λ n above.
      let more : t.last + 1 < n = subst (λ l. l < n) h.0 above in
      h.1 n (λ e. absurd (omega (arith, e, more))) (none n (omega (arith, more)))

pub begins_at_the_root : (K D : Type 0) → BeginsAtTheRoot K D
begins_at_the_root K D value = λ n above. ap (λ c. cond c (Some (leaf {K = K} 0 value)) None) (other_number n root_id (λ e. absurd (omega (arith, e, above))))

pub adds_the_next_number : {K : Type 0} (eq : K → K → Bool) (D : Type 0) → AddsTheNextNumber eq D
adds_the_next_number eq D t none parent k value =
    (none (t.last + 1) (omega arith), next_added eq t parent k value, none_above_next t (added eq t parent k value) (next_added eq t parent k value) none)

pub keeps_numbers : {K : Type 0} (eq : K → K → Bool) (D : Type 0) → KeepsNumbers eq D
keeps_numbers eq D t none n = (
  (hands_out_none_deleted t n, still_none_above t (deleted t n) (hands_out_none_deleted t n) none),
  λ parent k. (hands_out_none_moved eq t n parent k, still_none_above t (moved eq t n parent k) (hands_out_none_moved eq t n parent k) none),
)
