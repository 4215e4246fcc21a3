-- A document of a root with children, by its parts.
use Rattle.std.proofs.Common.{◌≡◌, ℕ, List, [], ◌∷◌, ◌++◌, Option, None, map, refl, sym, ap, ◌∙◌, append_assoc}
use Rattle.std.specs.List.{concat}
use Rattle.dav_core.specs.Element.{ElementTree, children_of, element, text, trees}
use Rattle.dav_core.specs.ElementView.{node_tree}
use Rattle.dav_core.specs.declared.element.XmlNode.{XmlNode}
use Rattle.dav_core.proofs.ElementLemmas.{tree_list_trees}
use Rattle.dav_xml.specs.Token.{opens}
use Rattle.dav_xml.specs.Spelling.{spelling, spellings}
use Rattle.dav_xml.specs.Flat.{flat, flats, tree_spelling}
use Rattle.dav_xml.specs.Scopes.{Scope}
use Rattle.dav_xml.specs.Written.{declaration, written, written_after}
use Rattle.dav_xml.specs.ByChild.{DocumentIsOfChildren, child_of, closing_of, content_of, root_place, written_name}
use Rattle.dav_xml.proofs.Spellings.{children_spelled, each, element_spelled, written_each}

none_spelled : spellings [] ≡ []
unfolding spellings
none_spelled = refl

-- children one by one
each_spelled : (scope : Scope) (ts : List ElementTree) → spellings (flats (trees (each scope (trees ts)))) ≡ concat (map (λ t. tree_spelling (written scope t)) ts)
each_spelled scope [] = none_spelled
each_spelled scope (t ∷ ts) =
    children_spelled (written scope t) (trees (each scope (trees ts))) ∙ ap (λ (bs : List ℕ). tree_spelling (written scope t) ++ bs) (each_spelled scope ts)

-- the children of a root that were pushed
pub content_pushed : (old new name : List ℕ) (prefix namespace : Option (List ℕ)) (attributes : List (List ℕ × List ℕ)) (items : List XmlNode) (scope : Scope) (root : ElementTree)
    → element name prefix namespace attributes (trees (map node_tree items)) ≡ root → scope ≡ (root_place root).1
    → new ≡ old ++ spellings (flats (trees (written_after scope [] (trees (map node_tree items))))) → new ≡ old ++ content_of root
content_pushed old new name prefix namespace attributes items scope root is place pushed =
    let ts : List ElementTree = map node_tree items in
    let children : children_of root ≡ ts = ap children_of (sym is) ∙ tree_list_trees ts in
    pushed
    ∙ ap (λ (us : List ElementTree). old ++ spellings (flats (trees us))) (written_each scope [] (trees ts))
    ∙ ap (λ (bs : List ℕ). old ++ bs) (each_spelled scope ts)
    ∙ ap (λ (s : Scope). old ++ concat (map (λ t. tree_spelling (written s t)) ts)) place
    ∙ ap (λ (us : List ElementTree). old ++ concat (map (child_of root) us)) (sym children)

pub document_is_of_children : DocumentIsOfChildren
document_is_of_children (text bytes) t ts e = cc
document_is_of_children (element name prefix namespace attributes children) t ts e =
    let root : ElementTree = element name prefix namespace attributes children in
    let scope : Scope = (root_place root).1 in
    let before : List ℕ = spelling (opens (written_name root) (root_place root).0) in
    ap (λ (us : List ElementTree). declaration ++ spellings (flat (element (written_name root) None None (root_place root).0 (trees us)))) (written_each scope [] (trees (t ∷ ts)))
    ∙ ap (λ (bs : List ℕ). declaration ++ bs) (element_spelled (written_name root) None None (root_place root).0 (written scope t) (trees (each scope (trees ts))))
    ∙ ap (λ (bs : List ℕ). declaration ++ (before ++ (bs ++ closing_of root))) (each_spelled scope (t ∷ ts))
    ∙ sym (append_assoc declaration before (concat (map (child_of root) (t ∷ ts)) ++ closing_of root))
