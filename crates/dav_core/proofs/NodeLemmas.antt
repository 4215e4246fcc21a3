-- The children and attributes of an element, one after another.
use Rattle.std.proofs.Common.{◌≡◌, ℕ, max, min, suc, zero, ◌+◌, ◌<◌, true, false, List, [], ◌∷◌, ◌++◌, length, map, take, Option, Some, None, String, Global, string_bytes, refl, ap, ◌∙◌, sym, subst, arith, slice_index_or, slice_set}
use Rattle.std.proofs.lemmas.List.{map-append, append-nil}
use Rattle.std.proofs.lemmas.List.Elements.{filter_map-append}
use Rattle.std.proofs.lemmas.Grind.{take_at_read}
use Rattle.std.specs.Cmp.Derive.Mapped.{pointwise-map}
use Rattle.std.specs.Cmp.Lexicographic.{pointwise, same_text}
use Rattle.std.specs.List.{filter_map, find, list_any, remove}
use Rattle.std.specs.Option.{unwrap_or}
use Rattle.dav_core.specs.declared.element.XmlNode.{XmlNode}
use Rattle.dav_core.specs.declared.element.XmlNode.TheVariants.{Element}
use Rattle.dav_core.specs.declared.element.Element.TheInside.{Inside}
use Rattle.dav_core.specs.Element.{ElementTree, element, text, trees, children_of, with_children, is_named, text_bytes, joined_texts, depth_of, depth_among, set_attribute}
use Rattle.dav_core.specs.ElementEq.{attribute_eq}
use Rattle.dav_core.specs.Lists.{without_first}
use Rattle.dav_core.specs.ElementView.{tree_of, node_tree, is_node_named, attribute_bytes, has_name}
use Rattle.std.proofs.lemmas.Bool.{or_parts}
use Rattle.dav_core.proofs.ElementLemmas.{tree_list_trees, trees_tree_list, find_at, find_none, joined_texts_more, depth_among_more}

-- a list with one more item, under a map
pub map_turn : {X Y : Type 0} (f : X → Y) (xs : List X) (i : ℕ) (d : X) → i < length xs → map f (take (i + 1) xs) ≡ map f (take i xs) ++ f (slice_index_or xs i d) ∷ []
map_turn f xs i d lt = ap (map f) (take_at_read xs i d lt).1 ∙ map-append f (take i xs) (slice_index_or xs i d ∷ [])

-- the depth with one more child, as far as it is counted
pub depth_turn : (nodes : List XmlNode) (i : ℕ) (x : XmlNode) (most depth : ℕ) → i < length nodes → x ≡ slice_index_or nodes i x
    → most ≡ min 18446744073709551615 (depth_among (trees (map node_tree (take i nodes)))) → depth ≡ min 18446744073709551615 (depth_of (node_tree x))
    → max most depth ≡ min 18446744073709551615 (depth_among (trees (map node_tree (take (i + 1) nodes))))
depth_turn nodes i x most depth lt is so_far this =
    let turn : map node_tree (take (i + 1) nodes) ≡ map node_tree (take i nodes) ++ node_tree x ∷ [] = map_turn node_tree nodes i x lt ∙ ap (λ y. map node_tree (take i nodes) ++ node_tree y ∷ []) (sym is) in
    rw (turn, depth_among_more (map node_tree (take i nodes)) (node_tree x)) (omega (arith, so_far, this))

-- the texts with one more child
abbrev pub and_text : Option (List ℕ) → Option (List ℕ) → Option (List ℕ)
and_text joined None = joined
and_text joined (Some bytes) = Some (unwrap_or joined [] ++ bytes)

texts_with : (ts : List ElementTree) (o : Option (List ℕ)) (t : ElementTree) → text_bytes t ≡ o
    → joined_texts (filter_map text_bytes (ts ++ t ∷ [])) ≡ and_text (joined_texts (filter_map text_bytes ts)) o
texts_with ts None t e = ap joined_texts (filter_map-append text_bytes ts (t ∷ [])) ∙ rw e (ap joined_texts (append-nil (filter_map text_bytes ts)))
texts_with ts (Some b) t e = ap joined_texts (filter_map-append text_bytes ts (t ∷ [])) ∙ rw e (joined_texts_more (filter_map text_bytes ts) b)

pub texts_turn : (nodes : List XmlNode) (i : ℕ) (x : XmlNode) (o : Option (List ℕ)) → i < length nodes → x ≡ slice_index_or nodes i x → o ≡ text_bytes (node_tree x)
    → joined_texts (filter_map text_bytes (map node_tree (take (i + 1) nodes))) ≡ and_text (joined_texts (filter_map text_bytes (map node_tree (take i nodes)))) o
texts_turn nodes i x o lt is e =
    ap (λ ts. joined_texts (filter_map text_bytes ts)) (map_turn node_tree nodes i x lt)
    ∙ texts_with (map node_tree (take i nodes)) o (node_tree (slice_index_or nodes i x)) (ap (λ y. text_bytes (node_tree y)) (sym is) ∙ sym e)

-- an attribute that is there, and one that isn't
pub attribute_set : (name : List ℕ) (items : List (String Global × String Global)) (i : ℕ) (a : String Global × String Global) (v : String Global)
    → i < length items → list_any (has_name name) (take i items) ≡ false → a ≡ slice_index_or items i a → has_name name a ≡ true
    → map attribute_bytes (slice_set items i (a.0, v)) ≡ set_attribute name (string_bytes v) (map attribute_bytes items)
attribute_set name [] i a v lt none is hit = absurd (omega arith)
attribute_set name (x ∷ xs) zero a v lt none is hit =
    rw (subst (λ b. has_name name b ≡ true) is hit) (ap (λ n. (n, string_bytes v) ∷ map attribute_bytes xs) (same_text _ _ (sym hit)))
attribute_set name (x ∷ xs) (suc i) a v lt none is hit =
    let here = or_parts (has_name name x) (list_any (has_name name) (take i xs)) none in
    rw here.0 (ap (λ ys. attribute_bytes x ∷ ys) (attribute_set name xs i a v (omega (arith, lt)) here.1 is hit))

pub attribute_added : (name : List ℕ) (items : List (String Global × String Global)) (v : List ℕ) → list_any (has_name name) items ≡ false
    → map attribute_bytes items ++ (name, v) ∷ [] ≡ set_attribute name v (map attribute_bytes items)
attribute_added name [] v none = refl
attribute_added name (x ∷ xs) v none =
    let here = or_parts (has_name name x) (list_any (has_name name) xs) none in
    rw here.0 (ap (λ ys. attribute_bytes x ∷ ys) (attribute_added name xs v here.1))

children_kept : (t : ElementTree) → with_children t (children_of t) ≡ t
children_kept (element n p s a c) = ap (element n p s a) (trees_tree_list c)
children_kept (text b) = refl

-- what is taken out of an element's children, and what is left
module _ (a : Inside) (t : ElementTree) (e : tree_of a ≡ t) (name : List ℕ) where
  seen : children_of t ≡ map node_tree a.children.items
  seen = sym (ap children_of e) ∙ tree_list_trees (map node_tree a.children.items)

  pub none_taken : list_any (is_node_named name) a.children.items ≡ false
      → (find (is_named name) (children_of t) ≡ None) × (t ≡ with_children t (without_first (is_named name) (children_of t)))
  none_taken none =
      let left = find_none node_tree (is_named name) a.children.items none in (
        ap (find (is_named name)) seen ∙ left.0,
        sym (ap (λ ts. with_children t (without_first (is_named name) ts)) seen ∙ ap (with_children t) (left.1 ∙ sym seen) ∙ children_kept t),
      )

  pub one_taken : (i : ℕ) (n : XmlNode) → i < length a.children.items → list_any (is_node_named name) (take i a.children.items) ≡ false
      → is_node_named name (slice_index_or a.children.items i n) ≡ true → n ≡ slice_index_or a.children.items i n
      → (Some (node_tree n) ≡ find (is_named name) (children_of t))
      × (with_children (tree_of a) (map node_tree (remove a.children.items i)) ≡ with_children t (without_first (is_named name) (children_of t)))
  one_taken i n lt none hit is =
      let found = find_at node_tree (is_named name) a.children.items i n lt none hit in (
        ap (λ m. Some (node_tree m)) is ∙ sym found.0 ∙ sym (ap (find (is_named name)) seen),
        ap (λ u. with_children u (map node_tree (remove a.children.items i))) e ∙ ap (with_children t) (sym found.1 ∙ sym (ap (without_first (is_named name)) seen)),
      )

  pub element_taken : (i : ℕ) (n : XmlNode) (child : ElementTree) → n ≡ Element child → i < length a.children.items → list_any (is_node_named name) (take i a.children.items) ≡ false
      → is_node_named name (slice_index_or a.children.items i n) ≡ true → n ≡ slice_index_or a.children.items i n → Some child ≡ find (is_named name) (children_of t)
  element_taken i n child this lt none hit is = ap (λ m. Some (node_tree m)) (sym this) ∙ (one_taken i n lt none hit is).0

-- attributes compared one by one, and as their bytes
pub attributes_seen : (xs ys : List (String Global × String Global))
    → pointwise attribute_eq (map attribute_bytes xs) (map attribute_bytes ys) ≡ pointwise (λ a b. attribute_eq (attribute_bytes a) (attribute_bytes b)) xs ys
attributes_seen xs ys = pointwise-map attribute_bytes attribute_eq xs ys
