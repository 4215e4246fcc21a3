-- A text after the last child.
use Rattle.std.proofs.Common.{◌≡◌, ℕ, List, [], ◌∷◌, ◌++◌, map, String, Global, string_bytes, refl, ap, ◌∙◌, sym, append_assoc}
use Rattle.std.proofs.lemmas.List.{map-append}
use Rattle.dav_core.specs.declared.element.XmlNode.{XmlNode}
use Rattle.dav_core.specs.declared.element.XmlNode.TheVariants.{Element, Text}
use Rattle.dav_core.specs.declared.element.Element.TheInside.{Inside}
use Rattle.dav_core.specs.Element.{ElementTree, text}
use Rattle.dav_core.specs.ElementView.{tree_of, node_tree}
use Rattle.dav_xml.specs.Nesting.{with_text, text_after, text_behind}

text_after_more : (b : List ℕ) (t : ElementTree) (ts : List ElementTree) (u : ElementTree) → text_after b t (ts ++ u ∷ []) ≡ t ∷ (ts ++ text_behind b u)
text_after_more b t [] u = refl
text_after_more b t (x ∷ xs) u = ap (λ (ys : List ElementTree). t ∷ ys) (text_after_more b x xs u)

pub with_text_more : (b : List ℕ) (ts : List ElementTree) (u : ElementTree) → with_text b (ts ++ u ∷ []) ≡ ts ++ text_behind b u
with_text_more b [] u = refl
with_text_more b (t ∷ ts) u = text_after_more b t ts u

-- behind a text
pub text_joined : (nodes popped new : List XmlNode) (n : XmlNode) (before after value : String Global) → nodes ≡ popped ++ n ∷ [] → n ≡ Text before
    → string_bytes after ≡ string_bytes before ++ string_bytes value → new ≡ popped ++ Text after ∷ [] → map node_tree new ≡ with_text (string_bytes value) (map node_tree nodes)
text_joined nodes popped new n before after value e is bytes made =
    let old : map node_tree nodes ≡ map node_tree popped ++ text (string_bytes before) ∷ [] = ap (map node_tree) e ∙ map-append node_tree popped (n ∷ []) ∙ ap (λ (m : XmlNode). map node_tree popped ++ node_tree m ∷ []) is in
    let now : map node_tree new ≡ map node_tree popped ++ text (string_bytes after) ∷ [] = ap (map node_tree) made ∙ map-append node_tree popped (Text after ∷ []) in
    now ∙ ap (λ (t : List ℕ). map node_tree popped ++ text t ∷ []) bytes ∙ sym (with_text_more (string_bytes value) (map node_tree popped) (text (string_bytes before))) ∙ ap (with_text (string_bytes value)) (sym old)

-- behind an element
pub text_follows : (nodes popped mid new : List XmlNode) (n : XmlNode) (e : ElementTree) (inside : Inside) (value : String Global) → nodes ≡ popped ++ n ∷ [] → n ≡ Element e → e ≡ tree_of inside
    → mid ≡ popped ++ Element e ∷ [] → new ≡ mid ++ Text value ∷ [] → map node_tree new ≡ with_text (string_bytes value) (map node_tree nodes)
text_follows nodes popped mid new n e inside value is-nodes is is-tree is-mid made =
    let old : map node_tree nodes ≡ map node_tree popped ++ tree_of inside ∷ [] = ap (map node_tree) is-nodes ∙ map-append node_tree popped (n ∷ []) ∙ ap (λ (m : XmlNode). map node_tree popped ++ node_tree m ∷ []) is ∙ ap (λ (t : ElementTree). map node_tree popped ++ t ∷ []) is-tree in
    let now : map node_tree new ≡ (map node_tree popped ++ tree_of inside ∷ []) ++ text (string_bytes value) ∷ [] = ap (map node_tree) made ∙ map-append node_tree mid (Text value ∷ []) ∙ ap (λ (ts : List ElementTree). ts ++ text (string_bytes value) ∷ []) (ap (map node_tree) is-mid ∙ map-append node_tree popped (Element e ∷ []) ∙ ap (λ (t : ElementTree). map node_tree popped ++ t ∷ []) is-tree) in
    now ∙ append_assoc (map node_tree popped) (tree_of inside ∷ []) (text (string_bytes value) ∷ []) ∙ sym (with_text_more (string_bytes value) (map node_tree popped) (tree_of inside)) ∙ ap (with_text (string_bytes value)) (sym old)
