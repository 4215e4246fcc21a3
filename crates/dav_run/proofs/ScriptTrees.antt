-- Element trees of scripts: how deep what is read of a value lies in it, and its children as a list.
use Rattle.std.proofs.Common.{◌≡◌, ◌∙◌, ◌<◌, ◌≤◌, ℕ, zero, suc, List, [], ◌∷◌, length, get_or, map, codes, Option, Some, None, ap, Ordering, Less, Equal, Greater, sym, subst, arith, Bor}
use Rattle.std.proofs.lemmas.List.{length-map}
use Rattle.std.specs.Ordering.{nat_cmp, match_ordering}
use Rattle.std.specs.Cmp.Lexicographic.{slice_cmp}
use Rattle.serde_json.specs.Data.{Data, null, boolean, number, string, array, object, Items, no_items, item, Members, no_members, member, depth, items_depth, members_depth}
use Rattle.serde_json.specs.Find.{get, get_member, as_array}
use Rattle.serde_json.specs.View.{view, items_view}
use Rattle.serde_json.specs.declared.value.Value.{Value}
use Rattle.dav_core.specs.Element.{ElementTree, element, text, ElementTrees, no_trees, tree_then, tree_list, trees, children_of}
use Rattle.dav_core.specs.ElementView.{node_tree}
use Rattle.dav_core.specs.Method.{texts_of}
use Rattle.dav_core.specs.declared.element.XmlNode.{XmlNode}
use Rattle.dav_run.specs.Script.{AreItems, IsText, IsNode, AreNodes, IsElement, child_items}
use Rattle.dav_run.proofs.Items.{texts_same}

picked : (o : Ordering) (a b : Option Data) (x : Data) (n : ℕ) → (a ≡ Some x → depth x ≤ n) → (b ≡ Some x → depth x ≤ n)
    → match_ordering o a b a ≡ Some x → depth x ≤ n
picked Less a b x n left here is = left is
picked Equal a b x n left here is = here is
picked Greater a b x n left here is = left is

here_at_most : (e x : Data) (ms : Members) → ◌≡◌ {A = Option Data} (Some e) (Some x) → depth x ≤ members_depth (member [] e ms)
here_at_most e x ms is = let same : e ≡ x = cc in subst (λ (y : Data). depth y ≤ members_depth (member [] e ms)) same (omega arith)

member_at_most : (k : List ℕ) (ms : Members) (x : Data) → get_member k ms ≡ Some x → depth x ≤ members_depth ms
member_at_most k no_members x is = let no : ⊥ = cc in absurd no
member_at_most k (member l e ms) x is =
    picked (slice_cmp nat_cmp k l) (get_member k ms) (Some e) x (members_depth (member l e ms))
    (λ found. let more = member_at_most k ms x found in omega arith) (here_at_most e x ms) is

-- a member is less deep than its object
pub member_below : (k : List ℕ) (d x : Data) → get k d ≡ Some x → depth x < depth d
member_below k null x is = let no : ⊥ = cc in absurd no
member_below k (boolean b) x is = let no : ⊥ = cc in absurd no
member_below k (number n) x is = let no : ⊥ = cc in absurd no
member_below k (string s) x is = let no : ⊥ = cc in absurd no
member_below k (array ds) x is = let no : ⊥ = cc in absurd no
member_below k (object ms) x is = let at_most = member_at_most k ms x is in omega arith

-- the items of a list are less deep than the list
pub items_below : (d : Data) (ds : Items) → as_array d ≡ Some ds → items_depth ds < depth d
items_below null ds is = let no : ⊥ = cc in absurd no
items_below (boolean b) ds is = let no : ⊥ = cc in absurd no
items_below (number n) ds is = let no : ⊥ = cc in absurd no
items_below (string s) ds is = let no : ⊥ = cc in absurd no
items_below (array es) ds is = let same : es ≡ ds = cc in subst (λ (fs : Items). items_depth fs < depth (array es)) same (omega arith)
items_below (object ms) ds is = let no : ⊥ = cc in absurd no

place_at_most : (vs : List Value) (i : ℕ) (v : Value) → i < length vs → depth (view (get_or vs i v)) ≤ items_depth (items_view vs)
place_at_most [] i v below = absurd (omega (arith, below))
place_at_most (w ∷ vs) zero v below = omega arith
place_at_most (w ∷ vs) (suc i) v below = let more = place_at_most vs i v (omega (arith, below)) in omega arith

-- an item is at most as deep as the items
pub item_at_most : (vs : List Value) (i : ℕ) (v : Value) → i < length vs → v ≡ get_or vs i v → depth (view v) ≤ items_depth (items_view vs)
item_at_most vs i v below at = subst (λ (w : Value). depth (view w) ≤ items_depth (items_view vs)) (sym at) (place_at_most vs i v below)

-- children that were read one by one are children
pub nodes_of_items : (ds : Items) (ts : List ElementTree) → AreItems IsNode ds ts → AreNodes (Some ds) (trees ts)
nodes_of_items no_items [] are = tt
nodes_of_items no_items (t ∷ ts) are = absurd are
nodes_of_items (item d ds) [] are = absurd are
nodes_of_items (item d ds) (t ∷ ts) are = (are.0, nodes_of_items ds ts are.1)

pub items_of_nodes : (ds : Items) (ts : ElementTrees) → AreNodes (Some ds) ts → AreItems IsNode ds (tree_list ts)
items_of_nodes no_items no_trees are = tt
items_of_nodes no_items (tree_then t ts) are = absurd are
items_of_nodes (item d ds) no_trees are = absurd are
items_of_nodes (item d ds) (tree_then t ts) are = (are.0, items_of_nodes ds ts are.1)

-- the children of an element are the items of the list that stands for them
nodes_in : (o : Option Data) (x : Data) (ds : Items) (ts : ElementTrees) → Some x ≡ o → as_array x ≡ Some ds → AreNodes (child_items o) ts → AreNodes (Some ds) ts
nodes_in o x ds ts found list are =
    subst (λ (p : Option Items). AreNodes p ts) list (subst (λ (p : Option Data). AreNodes (child_items p) ts) (sym found) are)

pub children_in : (d x : Data) (ds : Items) (t : ElementTree) → Some x ≡ get (codes "children") d → as_array x ≡ Some ds → IsElement d t
    → AreItems IsNode ds (children_of t)
children_in d x ds (element name prefix namespace attributes children) found list is =
    items_of_nodes ds children (nodes_in (get (codes "children") d) x ds children found list is.0.5)
children_in d x ds (text bytes) found list is = let no : ⊥ = cc in absurd no

-- children that were read
pub no_children : (d : Data) (nodes : List XmlNode) → None ≡ get (codes "children") d → nodes ≡ []
    → AreNodes (child_items (get (codes "children") d)) (trees (map node_tree nodes))
no_children d nodes absent none =
    subst (λ (o : Option Data). AreNodes (child_items o) (trees (map node_tree nodes))) absent
    (subst (λ (ns : List XmlNode). AreNodes (child_items None) (trees (map node_tree ns))) (sym none) tt)

pub some_children : (d x : Data) (ds : Items) (nodes : List XmlNode) → Some x ≡ get (codes "children") d → as_array x ≡ Some ds
    → AreItems IsNode ds (map node_tree nodes) → AreNodes (child_items (get (codes "children") d)) (trees (map node_tree nodes))
some_children d x ds nodes found list are =
    subst (λ (o : Option Data). AreNodes (child_items o) (trees (map node_tree nodes))) found
    (subst (λ (p : Option Items). AreNodes p (trees (map node_tree nodes))) (sym list) (nodes_of_items ds (map node_tree nodes) are))

-- ---- attributes

-- where a list is two texts, two were read
pub two_read : (ds : Items) (texts : List (Bor (List ℕ))) (a b : List ℕ) → AreItems IsText ds (texts_of texts) → AreItems IsText ds (a ∷ b ∷ []) → length texts ≡ 2
two_read ds texts a b read are = sym (length-map texts (λ t. t.now)) ∙ ap length (texts_same ds (texts_of texts) (a ∷ b ∷ []) read are)

-- two texts that were read are the two
pub both_read : (texts : List (Bor (List ℕ))) (a b : Bor (List ℕ)) → length texts ≡ 2 → a ≡ get_or texts 0 a → b ≡ get_or texts 1 b → texts_of texts ≡ a.now ∷ b.now ∷ []
both_read [] a b two first second = absurd (omega (arith, two))
both_read (t ∷ []) a b two first second = absurd (omega (arith, two))
both_read (t ∷ u ∷ []) a b two first second = cc
both_read (t ∷ u ∷ v ∷ ts) a b two first second = absurd (omega (arith, two))
