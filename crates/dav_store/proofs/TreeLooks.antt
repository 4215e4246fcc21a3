-- What a tree looks like after one step: its values, its nodes' parents, and its children by their names.
use Rattle.std.proofs.Common.{◌≡◌, ℕ, ◌+◌, ◌<◌, true, cond, List, [], slice_get, Option, Some, None, refl, sym, ap, subst, ◌∙◌, ⊎_elim, inl, inr}
use Rattle.std.specs.Prelude.{◌⊎◌}
use Rattle.std.specs.Option.{option_map, option_map_or, option_and_then, IsSome, is_some}
use Rattle.std.specs.Ordering.{nat_cmp, eq_by_cmp}
use Rattle.std.specs.Cmp.{IsEquivalence, eq_by_cmp_equiv, nat_cmp_total}
use Rattle.std.specs.BTreeMap.{is_at}
use Rattle.std.specs.Map.{lookup, keys_of}
use Rattle.std.specs.List.{IsDistinct}
use Rattle.std.proofs.lemmas.Bool.{cases_Bool, cases_eq}
use Rattle.std.proofs.lemmas.Cmp.{nat_list_eq_equiv}
use Rattle.std.proofs.lemmas.Map.{lookup-set_value, lookup-remove_entry, keys-set_value}
use Rattle.indexmap.specs.IndexMap.{insert_entry as put_key}
use Rattle.dav_store.specs.Tree.{Tree, Node, node, value_of, parent_of, children_of, with_node, with_value, without, without_place, grown, leaf, linked, unlinked_at, seated, NoneAbove}
use Rattle.dav_store.specs.Placed.{is_same_name, named}
use Rattle.dav_store.proofs.Placing.{number-itself, other_number, name_is, name-itself, other_name}
use Rattle.dav_store.proofs.Entering.{lookup_put, distinct_put, distinct_out, gone_out, others_out, lookup_came, distinct_came, distinct_left}

pub same_laws : IsEquivalence (eq_by_cmp nat_cmp)
same_laws = eq_by_cmp_equiv nat_cmp_total

pub cases_name : (k l : List ℕ) → (k ≡ l) ⊎ (k ≡ l → ⊥)
cases_name k l =
    ⊎_elim (λ a. inl (name_is k l a)) (λ a. inr (λ e. let yes : is_same_name k l ≡ true = ap (is_same_name k) (sym e) ∙ name-itself k in cc)) (cases_Bool (is_same_name k l))

-- the seat under one name of one node, or another
pub cases_seat : (n m : ℕ) (k l : List ℕ) → ((n ≡ m) × (k ≡ l)) ⊎ ((n ≡ m) × (k ≡ l) → ⊥)
cases_seat n m k l =
    ⊎_elim
    (λ a. ⊎_elim (λ b. inl (a, b)) (λ b. inr (λ h. b h.1)) (cases_name k l))
    (λ a. inr (λ h. a h.0))
    (cases_eq n m)

none_distinct : IsDistinct is_same_name []
unfolding IsDistinct
none_distinct = tt

module _ {D : Type 0} where
  -- no number and no name of a node's child comes twice
  pub record IsOnce (t : Tree (List ℕ) D) : Type 0 where
    pub numbers : IsDistinct (eq_by_cmp nat_cmp) (keys_of t.nodes)
    pub names : (n : ℕ) → IsDistinct is_same_name (keys_of (children_of t n))

  abbrev pub value_in : Option (Node (List ℕ) D) → Option D
  value_in o = option_map (λ x. x.value) o

  abbrev pub parent_in : Option (Node (List ℕ) D) → ℕ
  parent_in o = option_map_or (λ x. x.parent) o 0

  abbrev pub children_in : Option (Node (List ℕ) D) → List (List ℕ × ℕ)
  children_in o = option_map_or (λ x. x.children) o []

  abbrev pub named_in : List ℕ → Option (Node (List ℕ) D) → Option ℕ
  named_in k o = option_and_then (λ x. lookup (is_same_name k) x.children) o

  module _ (t : Tree (List ℕ) D) (n : ℕ) (x : Node (List ℕ) D) where
    pub node_here : IsSome (node t n) → node (with_node t n x) n ≡ Some x
    node_here some = lookup-set_value same_laws (is_at (nat_cmp n)) (λ a b h. same_laws.congr n a b h) n x t.nodes some ∙ ap (λ b. cond b (Some x) (node t n)) (number-itself n)

    pub node_apart : (q : ℕ) → IsSome (node t n) → (q ≡ n → ⊥) → node (with_node t n x) q ≡ node t q
    node_apart q some apart =
        lookup-set_value same_laws (is_at (nat_cmp n)) (λ a b h. same_laws.congr n a b h) q x t.nodes some
        ∙ ap (λ b. cond b (Some x) (node t q)) (other_number n q (λ e. apart (sym e)))

    same_keys : keys_of (with_node t n x).nodes ≡ keys_of t.nodes
    same_keys = keys-set_value (is_at (nat_cmp n)) t.nodes x

    pub once_written : IsSome (node t n) → IsOnce t → IsDistinct is_same_name (keys_of x.children) → IsOnce (with_node t n x)
    once_written some once distinct = record {
      numbers = subst (λ (ks : List ℕ). IsDistinct (eq_by_cmp nat_cmp) ks) (sym same_keys) once.numbers;
      names = λ q. ⊎_elim
          (λ e. subst (λ (es : List (List ℕ × ℕ)). IsDistinct is_same_name (keys_of es)) (sym (ap children_in (ap (node (with_node t n x)) e ∙ node_here some))) distinct)
          (λ apart. subst (λ (es : List (List ℕ × ℕ)). IsDistinct is_same_name (keys_of es)) (sym (ap children_in (node_apart q some apart))) (once.names q))
          (cases_eq q n);
    }

    -- what stays where one node is written
    module _ (was : Node (List ℕ) D) (at : node t n ≡ Some was) where
      there : IsSome (node t n)
      there = ap is_some at

      pub still_in : {X : Type 0} (f : Option (Node (List ℕ) D) → X) → f (Some x) ≡ f (Some was) → (q : ℕ) → f (node (with_node t n x) q) ≡ f (node t q)
      still_in f same q =
          ⊎_elim
          (λ e. ap f (ap (node (with_node t n x)) e ∙ node_here there) ∙ same ∙ sym (ap f (ap (node t) e ∙ at)))
          (λ apart. ap f (node_apart q there apart))
          (cases_eq q n)

  -- ---- a child is linked
  module _ (t : Tree (List ℕ) D) (p : ℕ) (k : List ℕ) (m : ℕ) (x : Node (List ℕ) D) (at : node t p ≡ Some x) where
    abbrev pub with_link : Node (List ℕ) D
    with_link = record x { children = put_key is_same_name x.children k m }

    pub linked_is : linked is_same_name t p k m ≡ with_node t p with_link
    linked_is = ap (λ o. option_map_or (λ x. with_node t p (record x { children = put_key is_same_name x.children k m })) o t) at

    pub value_linked : (q : ℕ) → value_of (linked is_same_name t p k m) q ≡ value_of t q
    value_linked q = ap (λ u. value_of u q) linked_is ∙ still_in t p with_link x at value_in refl q

    pub parent_linked : (q : ℕ) → parent_of (linked is_same_name t p k m) q ≡ parent_of t q
    parent_linked q = ap (λ u. parent_of u q) linked_is ∙ still_in t p with_link x at parent_in refl q

    pub node_linked : node (linked is_same_name t p k m) p ≡ Some with_link
    node_linked = ap (λ u. node u p) linked_is ∙ node_here t p with_link (ap is_some at)

    pub node_unlinked : (q : ℕ) → (q ≡ p → ⊥) → node (linked is_same_name t p k m) q ≡ node t q
    node_unlinked q apart = ap (λ u. node u q) linked_is ∙ node_apart t p with_link q (ap is_some at) apart

    pub named_linked : named (linked is_same_name t p k m) p k ≡ Some m
    named_linked = ap (named_in k) node_linked ∙ lookup_put nat_list_eq_equiv k k m x.children ∙ ap (λ b. cond b (Some m) (lookup (is_same_name k) x.children)) (name-itself k)

    pub others_linked : (q : ℕ) (l : List ℕ) → ((q ≡ p) × (l ≡ k) → ⊥) → named (linked is_same_name t p k m) q l ≡ named t q l
    others_linked q l apart =
        ⊎_elim
        (λ e. ap (λ n. named (linked is_same_name t p k m) n l) e ∙ ap (named_in l) node_linked
        ∙ lookup_put nat_list_eq_equiv k l m x.children ∙ ap (λ b. cond b (Some m) (lookup (is_same_name l) x.children)) (other_name l k (λ s. apart (e, s)))
        ∙ sym (ap (λ n. named t n l) e ∙ ap (named_in l) at))
        (λ differ. ap (named_in l) (node_unlinked q differ))
        (cases_eq q p)

    pub once_linked : IsOnce t → IsOnce (linked is_same_name t p k m)
    once_linked once =
        subst IsOnce (sym linked_is)
        (once_written t p with_link (ap is_some at) once
        (distinct_put nat_list_eq_equiv k m x.children (subst (λ (es : List (List ℕ × ℕ)). IsDistinct is_same_name (keys_of es)) (ap children_in at) (once.names p))))

  -- ---- the child at a place goes
  module _ (t : Tree (List ℕ) D) (once : IsOnce t) (p i : ℕ) (x : Node (List ℕ) D) (e : List ℕ × ℕ) (at : node t p ≡ Some x) (place : slice_get x.children i ≡ Some e) where
    abbrev without_link : Node (List ℕ) D
    without_link = record x { children = without_place i x.children }

    distinct_in : IsDistinct is_same_name (keys_of x.children)
    distinct_in = subst (λ (es : List (List ℕ × ℕ)). IsDistinct is_same_name (keys_of es)) (ap children_in at) (once.names p)

    out_is : unlinked_at t p (Some i) ≡ with_node t p without_link
    out_is = ap (λ o. option_map_or (λ x. with_node t p (record x { children = without_place i x.children })) o t) at

    pub value_out : (q : ℕ) → value_of (unlinked_at t p (Some i)) q ≡ value_of t q
    value_out q = ap (λ u. value_of u q) out_is ∙ still_in t p without_link x at value_in refl q

    pub parent_out : (q : ℕ) → parent_of (unlinked_at t p (Some i)) q ≡ parent_of t q
    parent_out q = ap (λ u. parent_of u q) out_is ∙ still_in t p without_link x at parent_in refl q

    node_out : node (unlinked_at t p (Some i)) p ≡ Some without_link
    node_out = ap (λ u. node u p) out_is ∙ node_here t p without_link (ap is_some at)

    pub named_out : named (unlinked_at t p (Some i)) p e.0 ≡ None
    named_out = ap (named_in e.0) node_out ∙ gone_out nat_list_eq_equiv x.children i e place distinct_in

    pub others_left : (q : ℕ) (l : List ℕ) → ((q ≡ p) × (l ≡ e.0) → ⊥) → named (unlinked_at t p (Some i)) q l ≡ named t q l
    others_left q l apart =
        ⊎_elim
        (λ s. ap (λ n. named (unlinked_at t p (Some i)) n l) s ∙ ap (named_in l) node_out
        ∙ others_out nat_list_eq_equiv x.children i e place distinct_in l (other_name l e.0 (λ same. apart (s, same)))
        ∙ sym (ap (λ n. named t n l) s ∙ ap (named_in l) at))
        (λ differ. ap (named_in l) (ap (λ u. node u q) out_is ∙ node_apart t p without_link q (ap is_some at) differ))
        (cases_eq q p)

    pub once_out : IsOnce (unlinked_at t p (Some i))
    once_out = subst IsOnce (sym out_is) (once_written t p without_link (ap is_some at) once (distinct_out nat_list_eq_equiv x.children i e place distinct_in))

  -- ---- a node gets a parent
  module _ (t : Tree (List ℕ) D) (n p : ℕ) (x : Node (List ℕ) D) (at : node t n ≡ Some x) where
    abbrev under : Node (List ℕ) D
    under = record x { parent = p }

    seated_is : seated t n p ≡ with_node t n under
    seated_is = ap (λ o. option_map_or (λ x. with_node t n (record x { parent = p })) o t) at

    pub value_seated : (q : ℕ) → value_of (seated t n p) q ≡ value_of t q
    value_seated q = ap (λ u. value_of u q) seated_is ∙ still_in t n under x at value_in refl q

    pub named_seated : (q : ℕ) (l : List ℕ) → named (seated t n p) q l ≡ named t q l
    named_seated q l = ap (λ u. named u q l) seated_is ∙ still_in t n under x at (named_in l) refl q

    pub parent_seated : parent_of (seated t n p) n ≡ p
    parent_seated = ap (λ u. parent_of u n) seated_is ∙ ap parent_in (node_here t n under (ap is_some at))

    pub parent_unseated : (q : ℕ) → (q ≡ n → ⊥) → parent_of (seated t n p) q ≡ parent_of t q
    parent_unseated q apart = ap (λ u. parent_of u q) seated_is ∙ ap parent_in (node_apart t n under q (ap is_some at) apart)

    pub once_seated : IsOnce t → IsOnce (seated t n p)
    once_seated once =
        subst IsOnce (sym seated_is)
        (once_written t n under (ap is_some at) once
        (subst (λ (es : List (List ℕ × ℕ)). IsDistinct is_same_name (keys_of es)) (ap children_in at) (once.names n)))

  -- ---- a node gets a value
  module _ (t : Tree (List ℕ) D) (n : ℕ) (v : D) (x : Node (List ℕ) D) (at : node t n ≡ Some x) where
    abbrev valued : Node (List ℕ) D
    valued = record x { value = v }

    valued_is : with_value t n v ≡ with_node t n valued
    valued_is = ap (λ o. option_map_or (λ x. with_node t n (record x { value = v })) o t) at

    pub named_valued : (q : ℕ) (l : List ℕ) → named (with_value t n v) q l ≡ named t q l
    named_valued q l = ap (λ u. named u q l) valued_is ∙ still_in t n valued x at (named_in l) refl q

    pub parent_valued : (q : ℕ) → parent_of (with_value t n v) q ≡ parent_of t q
    parent_valued q = ap (λ u. parent_of u q) valued_is ∙ still_in t n valued x at parent_in refl q

    pub value_valued : value_of (with_value t n v) n ≡ Some v
    value_valued = ap (λ u. value_of u n) valued_is ∙ ap value_in (node_here t n valued (ap is_some at))

    pub others_valued : (q : ℕ) → (q ≡ n → ⊥) → value_of (with_value t n v) q ≡ value_of t q
    others_valued q apart = ap (λ u. value_of u q) valued_is ∙ ap value_in (node_apart t n valued q (ap is_some at) apart)

    pub once_valued : IsOnce t → IsOnce (with_value t n v)
    once_valued once =
        subst IsOnce (sym valued_is)
        (once_written t n valued (ap is_some at) once
        (subst (λ (es : List (List ℕ × ℕ)). IsDistinct is_same_name (keys_of es)) (ap children_in at) (once.names n)))

    pub last_valued : (with_value t n v).last ≡ t.last
    last_valued = ap (λ (u : Tree (List ℕ) D). u.last) valued_is

    pub none_valued : NoneAbove t → NoneAbove (with_value t n v)
    none_valued none = λ q above.
        ⊎_elim
        (λ e. let low : t.last < n = subst (λ (a : ℕ). t.last < a) e (subst (λ (l : ℕ). l < q) last_valued above) in
        let clash : None ≡ Some x = sym (none n low) ∙ at in cc)
        (λ apart. ap (λ u. node u q) valued_is ∙ node_apart t n valued q (ap is_some at) apart ∙ none q (subst (λ (l : ℕ). l < q) last_valued above))
        (cases_eq q n)

  -- ---- a node goes
  module _ (t : Tree (List ℕ) D) (n : ℕ) (once : IsOnce t) where
    pub node_gone : node (without t n) n ≡ None
    node_gone = lookup-remove_entry same_laws (is_at (nat_cmp n)) (λ a b h. same_laws.congr n a b h) n t.nodes once.numbers ∙ ap (λ b. cond b None (node t n)) (number-itself n)

    pub node_left : (q : ℕ) → (q ≡ n → ⊥) → node (without t n) q ≡ node t q
    node_left q apart =
        lookup-remove_entry same_laws (is_at (nat_cmp n)) (λ a b h. same_laws.congr n a b h) q t.nodes once.numbers
        ∙ ap (λ b. cond b None (node t q)) (other_number n q (λ e. apart (sym e)))

    pub once_left : IsOnce (without t n)
    once_left = record {
      numbers = distinct_left n t.nodes once.numbers;
      names = λ q. ⊎_elim
          (λ e. subst (λ (es : List (List ℕ × ℕ)). IsDistinct is_same_name (keys_of es)) (sym (ap children_in (ap (node (without t n)) e ∙ node_gone))) none_distinct)
          (λ apart. subst (λ (es : List (List ℕ × ℕ)). IsDistinct is_same_name (keys_of es)) (sym (ap children_in (node_left q apart))) (once.names q))
          (cases_eq q n);
    }

  -- ---- a node comes
  module _ (t : Tree (List ℕ) D) (p : ℕ) (v : D) (once : IsOnce t) (none : node t (t.last + 1) ≡ None) where
    pub node_new : node (grown t p v) (t.last + 1) ≡ Some (leaf p v)
    node_new = lookup_came (t.last + 1) (t.last + 1) (leaf p v) t.nodes ∙ ap (λ b. cond b (Some (leaf p v)) (node t (t.last + 1))) (number-itself (t.last + 1))

    pub node_old : (q : ℕ) → (q ≡ t.last + 1 → ⊥) → node (grown t p v) q ≡ node t q
    node_old q apart = lookup_came q (t.last + 1) (leaf p v) t.nodes ∙ ap (λ b. cond b (Some (leaf p v)) (node t q)) (other_number q (t.last + 1) apart)

    pub once_grown : IsOnce (grown t p v)
    once_grown = record {
      numbers = distinct_came (t.last + 1) (leaf p v) t.nodes none once.numbers;
      names = λ q. ⊎_elim
          (λ e. subst (λ (es : List (List ℕ × ℕ)). IsDistinct is_same_name (keys_of es)) (sym (ap children_in (ap (node (grown t p v)) e ∙ node_new))) none_distinct)
          (λ apart. subst (λ (es : List (List ℕ × ℕ)). IsDistinct is_same_name (keys_of es)) (sym (ap children_in (node_old q apart))) (once.names q))
          (cases_eq q (t.last + 1));
    }
