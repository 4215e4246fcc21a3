-- The spelling of a tree, by its parts.
use Rattle.std.proofs.Common.{◌≡◌, ℕ, ◌+◌, ◌<◌, ◌≤◌, length, map, drop, get_or, arith, Bool, true, false, ◌==◌, List, [], ◌∷◌, ◌++◌, Option, None, refl, sym, ap, ◌∙◌, append_assoc, cond, if◌then◌else◌}
use Rattle.std.proofs.lemmas.Bool.{eq-eqb, eqb-true}
use Rattle.std.proofs.lemmas.List.{append-nil, drop_more, nil_from_length, length-drop}
use Rattle.dav_core.specs.declared.element.XmlNode.{XmlNode}
use Rattle.dav_core.specs.ElementView.{node_tree}
use Rattle.dav_xml.specs.Token.{Markup, opens, empty, closes, content}
use Rattle.dav_core.specs.Element.{ElementTree, ElementTrees, element, text, no_trees, tree_then, trees}
use Rattle.dav_xml.specs.Spelling.{escaped, spelling, spellings}
use Rattle.dav_xml.specs.Flat.{flat, flats}
use Rattle.dav_xml.specs.Bytes.{is_space}
use Rattle.dav_xml.specs.Scopes.{Scope}
use Rattle.dav_xml.specs.Written.{declared_too, is_in_scope, name_with, or_empty, wanted, written, written_after}
use Rattle.std.specs.List.{list_all}

pub spellings_append : (ts us : List Markup) → spellings (ts ++ us) ≡ spellings ts ++ spellings us
unfolding spellings
spellings_append [] us = refl
spellings_append (t ∷ ts) us = ap (λ (bs : List ℕ). spelling t ++ bs) (spellings_append ts us) ∙ sym (append_assoc (spelling t) (spellings ts) (spellings us))

pub one_spelled : (t : Markup) → spellings (t ∷ []) ≡ spelling t
unfolding spellings
one_spelled t = append-nil (spelling t)

pub element_spelled : (name : List ℕ) (prefix namespace : Option (List ℕ)) (attributes : List (List ℕ × List ℕ)) (t : ElementTree) (ts : ElementTrees)
    → spellings (flat (element name prefix namespace attributes (tree_then t ts))) ≡ spelling (opens name attributes) ++ (spellings (flats (tree_then t ts)) ++ spelling (closes name))
unfolding spellings
element_spelled name prefix namespace attributes t ts =
    let children : ElementTrees = tree_then t ts in
    ap (λ (bs : List ℕ). spelling (opens name attributes) ++ bs) (spellings_append (flats children) (closes name ∷ []) ∙ ap (λ (bs : List ℕ). spellings (flats children) ++ bs) (one_spelled (closes name)))

pub children_spelled : (t : ElementTree) (ts : ElementTrees) → spellings (flats (tree_then t ts)) ≡ spellings (flat t) ++ spellings (flats ts)
children_spelled t ts = spellings_append (flat t) (flats ts)

pub text_spelled : (bytes : List ℕ) → spellings (flat (text bytes)) ≡ escaped false bytes
text_spelled bytes = one_spelled (content (list_all is_space (escaped false bytes)) bytes)

-- what was pushed before, and a child that is pushed now
pub child_pushed : (out before now : List ℕ) (t : ElementTree) (ts : ElementTrees) (all : List ℕ) → now ≡ before ++ spellings (flat t) → before ++ spellings (flats (tree_then t ts)) ≡ all → now ++ spellings (flats ts) ≡ all
child_pushed out before now t ts all e so_far =
    ap (λ (bs : List ℕ). bs ++ spellings (flats ts)) e ∙ append_assoc before (spellings (flat t)) (spellings (flats ts)) ∙ ap (λ (bs : List ℕ). before ++ bs) (sym (children_spelled t ts)) ∙ so_far

pub ended : (before all : List ℕ) → before ++ spellings (flats no_trees) ≡ all → before ≡ all
unfolding spellings
ended before all so_far = sym (append-nil before) ∙ so_far

-- an element with children, and one without
pub element_pushed : (a b c d name name1 name2 : List ℕ) (prefix namespace : Option (List ℕ)) (attributes attributes1 : List (List ℕ × List ℕ)) (t : ElementTree) (ts : ElementTrees)
    → name1 ≡ name → name2 ≡ name → attributes1 ≡ attributes
    → b ≡ a ++ spelling (opens name1 attributes1) → c ≡ b ++ spellings (flats (tree_then t ts)) → d ≡ c ++ spelling (closes name2) → d ≡ a ++ spellings (flat (element name prefix namespace attributes (tree_then t ts)))
element_pushed a b c d name name1 name2 prefix namespace attributes attributes1 t ts e1 e2 e3 eb ec ed =
    let children : ElementTrees = tree_then t ts in
    let opening : spelling (opens name1 attributes1) ≡ spelling (opens name attributes) = ap (λ (n : List ℕ). spelling (opens n attributes1)) e1 ∙ ap (λ (xs : List (List ℕ × List ℕ)). spelling (opens name xs)) e3 in
    let closing : spelling (closes name2) ≡ spelling (closes name) = ap (λ (n : List ℕ). spelling (closes n)) e2 in
    let s1 = spelling (opens name attributes) in
    let s2 = spellings (flats children) in
    let s3 = spelling (closes name) in
    ed ∙ ap (λ (x : List ℕ). c ++ x) closing ∙ ap (λ (x : List ℕ). x ++ s3) (ec ∙ ap (λ (x : List ℕ). x ++ s2) (eb ∙ ap (λ (x : List ℕ). a ++ x) opening))
    ∙ append_assoc (a ++ s1) s2 s3 ∙ append_assoc a s1 (s2 ++ s3) ∙ ap (λ (x : List ℕ). a ++ x) (sym (element_spelled name prefix namespace attributes t ts))

-- trees as they are written, one for one
abbrev pub each : Scope → ElementTrees → List ElementTree
each scope no_trees = []
each scope (tree_then t ts) = written scope t ∷ each scope ts

pub written_each : (scope : Scope) (made : List ElementTree) (ts : ElementTrees) → written_after scope made ts ≡ made ++ each scope ts
written_each scope made no_trees = sym (append-nil made)
written_each scope made (tree_then t ts) = written_each scope (made ++ written scope t ∷ []) ts ∙ append_assoc made (written scope t ∷ []) (each scope ts)

-- the children of an element, as they are written in a scope
abbrev pub children_in : Scope → List XmlNode → ElementTrees
children_in scope items = trees (each scope (trees (map node_tree items)))

pub children_are : (scope : Scope) (items : List XmlNode) → children_in scope items ≡ trees (written_after scope [] (trees (map node_tree items)))
children_are scope items = ap trees (sym (written_each scope [] (trees (map node_tree items))))

pub child_turn : (scope : Scope) (before now all : List ℕ) (items : List XmlNode) (i : ℕ) (x : XmlNode) → i < length items → x ≡ get_or items i x → now ≡ before ++ spellings (flat (written scope (node_tree x)))
    → before ++ spellings (flats (children_in scope (drop i items))) ≡ all → now ++ spellings (flats (children_in scope (drop (i + 1) items))) ≡ all
child_turn scope before now all items i x lt is e so_far =
    let split : drop i items ≡ x ∷ drop (i + 1) items = drop_more items i x lt ∙ ap (λ (y : XmlNode). y ∷ drop (i + 1) items) (sym is) in
    child_pushed [] before now (written scope (node_tree x)) (children_in scope (drop (i + 1) items)) all e (ap (λ (ys : List XmlNode). before ++ spellings (flats (children_in scope ys))) (sym split) ∙ so_far)

pub all_pushed : (scope : Scope) (before all : List ℕ) (items : List XmlNode) (i : ℕ) → length items ≤ i → before ++ spellings (flats (children_in scope (drop i items))) ≡ all → before ≡ all
all_pushed scope before all items i le so_far =
    let nil : drop i items ≡ [] = nil_from_length (drop i items) (omega (arith, length-drop i items)) in
    ended before all (ap (λ (ys : List XmlNode). before ++ spellings (flats (children_in scope ys))) (sym nil) ∙ so_far)

-- the tags of an element that has children, or of one that has none
abbrev pub begins : Bool → List ℕ → List (List ℕ × List ℕ) → List ℕ
begins is_empty name attributes = spelling (if is_empty then empty name attributes else opens name attributes)

abbrev pub closing : Bool → List ℕ → List ℕ
closing is_empty name = if is_empty then [] else spelling (closes name)

none_spelled : spellings [] ≡ []
unfolding spellings
none_spelled = refl

by_tags : (scope : Scope) (a b c d name : List ℕ) (attributes : List (List ℕ × List ℕ)) (items : List XmlNode) (is_empty : Bool) → is_empty ≡ (length items == 0)
    → b ≡ a ++ begins is_empty name attributes → c ≡ b ++ spellings (flats (children_in scope items)) → d ≡ c ++ closing is_empty name
    → d ≡ a ++ spellings (flat (element name None None attributes (children_in scope items)))
by_tags scope a b c d name attributes [] true e eb ec ed =
    ed ∙ append-nil c ∙ ec ∙ ap (λ (bs : List ℕ). b ++ bs) none_spelled ∙ append-nil b ∙ eb ∙ ap (λ (bs : List ℕ). a ++ bs) (sym (one_spelled (empty name attributes)))
by_tags scope a b c d name attributes [] false e eb ec ed =
    let both : false ≡ true = e ∙ eq-eqb 0 0 refl in absurd cc
by_tags scope a b c d name attributes (x ∷ xs) true e eb ec ed =
    let zero = eqb-true (length (x ∷ xs)) 0 (sym e) in absurd (omega (arith, zero))
by_tags scope a b c d name attributes (x ∷ xs) false e eb ec ed =
    element_pushed a b c d name name name None None attributes attributes (written scope (node_tree x)) (children_in scope xs) refl refl refl eb ec ed

-- an element, by its tags and its children
pub by_parts : (scope : Scope) (a b c d name : List ℕ) (attributes : List (List ℕ × List ℕ)) (items : List XmlNode) (is_empty : Bool) → is_empty ≡ (length items == 0)
    → b ≡ a ++ begins is_empty name attributes → c ≡ b ++ spellings (flats (trees (written_after scope [] (trees (map node_tree items))))) → d ≡ c ++ closing is_empty name
    → d ≡ a ++ spellings (flat (element name None None attributes (trees (written_after scope [] (trees (map node_tree items))))))
by_parts scope a b c d name attributes items is_empty e eb ec ed =
    by_tags scope a b c d name attributes items is_empty e eb (ec ∙ ap (λ (ts : ElementTrees). b ++ spellings (flats ts)) (sym (children_are scope items))) ed
    ∙ ap (λ (ts : ElementTrees). a ++ spellings (flat (element name None None attributes ts))) (children_are scope items)

-- an element without attributes whose prefix has its namespace already is written as it is
pub written_as_it_is : (scope : Scope) (name : List ℕ) (prefix namespace : Option (List ℕ)) (attributes : List (List ℕ × List ℕ)) (children : ElementTrees) → attributes ≡ []
    → is_in_scope scope (or_empty prefix) (wanted scope (or_empty prefix) namespace) ≡ true
    → element (name_with (or_empty prefix) name) None None attributes (trees (written_after scope [] children)) ≡ written scope (element name prefix namespace attributes children)
written_as_it_is scope name prefix namespace (a ∷ more) children e is = cc
written_as_it_is scope name prefix namespace [] children e is =
    ap (λ b. element (name_with (or_empty prefix) name) None None (cond b ([], scope) (declared_too scope (or_empty prefix) (wanted scope (or_empty prefix) namespace) [])).0
    (trees (written_after (cond b ([], scope) (declared_too scope (or_empty prefix) (wanted scope (or_empty prefix) namespace) [])).1 [] children))) (sym is)
