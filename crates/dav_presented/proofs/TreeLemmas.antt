-- How trees are built, one child after another, and with other children.
use Rattle.std.proofs.Common.{◌≡◌, ℕ, List, [], ◌∷◌, ◌++◌, map, codes, Option, Some, None, refl, ap, sym, subst, ◌∙◌, append_assoc}
use Rattle.std.proofs.lemmas.List.{append-nil, map-append}
use Rattle.std.proofs.lemmas.List.Elements.{filter_map-append}
use Rattle.std.specs.List.{cons_option, filter_map}
use Rattle.dav_core.specs.Element.{ElementTree, ElementTrees, element, text, no_trees, tree_then, tree_list, trees, name_of, children_of, with_child, with_children}
use Rattle.dav_presented.specs.Missing.{dav_element}

pub list_of_trees : (ts : List ElementTree) → tree_list (trees ts) ≡ ts
list_of_trees [] = refl
list_of_trees (t ∷ ts) = ap (λ us. t ∷ us) (list_of_trees ts)

-- a child more in an element, whatever its name is
pub child_more : (e : ElementTree) (ts : List ElementTree) (t : ElementTree) {old new : ElementTree} → old ≡ with_children e ts → new ≡ with_child old t → new ≡ with_children e (ts ++ t ∷ [])
child_more (element name prefix namespace attributes children) ts t so_far added =
    added ∙ ap (λ o. with_child o t) so_far ∙ ap (λ us. element name prefix namespace attributes (trees (us ++ t ∷ []))) (list_of_trees ts)
child_more (text bytes) ts t so_far added = added ∙ ap (λ o. with_child o t) so_far

-- an element with one more child after those that it had and some more
pub child_after : (e : ElementTree) (ts : List ElementTree) (t : ElementTree) (us : List ElementTree) {old new : ElementTree} → old ≡ with_children e (children_of e ++ ts)
    → new ≡ with_child old t → us ≡ ts ++ t ∷ [] → new ≡ with_children e (children_of e ++ us)
child_after e ts t us so_far added is =
    child_more e (children_of e ++ ts) t so_far added ∙ ap (with_children e) (append_assoc (children_of e) ts (t ∷ []) ∙ ap (λ vs. children_of e ++ vs) (sym is))

-- an element without more children
pub same_children : (e : ElementTree) → e ≡ with_children e (children_of e ++ [])
same_children (element name prefix namespace attributes children) =
    ap (element name prefix namespace attributes) (sym (again children) ∙ ap trees (sym (append-nil (tree_list children))))
  where
    again : (ts : ElementTrees) → trees (tree_list ts) ≡ ts
    again no_trees = refl
    again (tree_then t ts) = ap (tree_then t) (again ts)
same_children (text bytes) = refl

-- an element whose children are changed each by itself
pub rebuilt : (f : ElementTree → ElementTree) (name : List ℕ) (prefix namespace : Option (List ℕ)) (attributes : List (List ℕ × List ℕ)) (olds news : List ElementTree) (told : ElementTree)
    → element name prefix namespace attributes (trees olds) ≡ told → news ≡ map f olds → element name prefix namespace attributes (trees news) ≡ with_children told (map f (children_of told))
rebuilt f name prefix namespace attributes olds news told e h =
    subst (λ t. element name prefix namespace attributes (trees news) ≡ with_children t (map f (children_of t))) e
    (ap (λ ts. element name prefix namespace attributes (trees ts)) (h ∙ ap (map f) (sym (list_of_trees olds))))

-- an element with other children, whatever these are by the ones that it had
pub rebuilt_by : (g : List ElementTree → List ElementTree) (name : List ℕ) (prefix namespace : Option (List ℕ)) (attributes : List (List ℕ × List ℕ)) (olds news : List ElementTree) (told : ElementTree)
    → element name prefix namespace attributes (trees olds) ≡ told → news ≡ g olds → element name prefix namespace attributes (trees news) ≡ with_children told (g (children_of told))
rebuilt_by g name prefix namespace attributes olds news told e h =
    subst (λ t. element name prefix namespace attributes (trees news) ≡ with_children t (g (children_of t))) e
    (ap (λ ts. element name prefix namespace attributes (trees ts)) (h ∙ ap g (sym (list_of_trees olds))))

-- an element whose name and children are kept
pub renamed : (name : List ℕ) (prefix namespace : Option (List ℕ)) (attributes : List (List ℕ × List ℕ)) (olds : List ElementTree) (told : ElementTree) (own : List ℕ) (others : List (List ℕ × List ℕ))
    → element name prefix namespace attributes (trees olds) ≡ told → own ≡ codes "D" → others ≡ []
    → element name (Some own) None others (trees olds) ≡ dav_element (name_of told) (children_of told)
renamed name prefix namespace attributes olds told own others e d none =
    ap (λ p. element name (Some p) None others (trees olds)) d ∙ ap (λ others. element name (Some (codes "D")) None others (trees olds)) none
    ∙ subst (λ t. dav_element name olds ≡ dav_element (name_of t) (children_of t)) e (ap (dav_element name) (sym (list_of_trees olds)))

-- what is told of one child more, if anything is
pub told_more : {X : Type 0} (view : X → ElementTree) (f : ElementTree → Option ElementTree) (yielded : List X) (child : X) (told : Option ElementTree) (before after : List ElementTree)
    → before ≡ filter_map f (map view yielded) → told ≡ f (view child) → after ≡ before ++ cons_option told [] → after ≡ filter_map f (map view (yielded ++ child ∷ []))
told_more view f yielded child told before after so_far is added =
    added ∙ ap (λ bs. bs ++ cons_option told []) so_far ∙ ap (λ t. filter_map f (map view yielded) ++ cons_option t []) is
    ∙ sym (filter_map-append f (map view yielded) (view child ∷ [])) ∙ ap (filter_map f) (sym (map-append view yielded (child ∷ [])))
