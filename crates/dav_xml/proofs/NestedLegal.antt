-- Trees of legal pieces are legal.
use Rattle.std.proofs.Common.{◌≡◌, ℕ, Bool, cond, ◌&&◌, ◌==◌, leb, List, [], ◌∷◌, ◌++◌, length, bytes_eq, Option, Some, None, is_some, Result, Ok, Err, sym, ap, subst}
use Rattle.std.specs.List.{AllByRecursion}
use Rattle.dav_core.specs.Element.{ElementTree, ElementTrees, element, text, no_trees, tree_then, tree_list, trees, name_of, with_child}
use Rattle.dav_xml.specs.declared.error.Fault.{Fault}
use Rattle.dav_xml.specs.declared.error.Fault.TheVariants.{Malformed, TooDeep}
use Rattle.dav_xml.specs.Token.{Markup, opens, empty, closes, content, nothing}
use Rattle.dav_xml.specs.Nesting.{Open, raw, opened, ended, closed, with_text, text_after, text_added, text_in, step, steps, root_of, nested}
use Rattle.dav_xml.specs.Legal.{IsLegal, HasLegalTexts, HaveLegalTexts}
use Rattle.dav_xml.proofs.Escapes.{by_test}
use Rattle.dav_xml.proofs.ElementLemmas.{trees_tree_list}
use Rattle.dav_xml.proofs.LegalTrees.{legal_append}
use Rattle.dav_xml.proofs.Declared.{ok_or_else}
use Rattle.dav_xml.proofs.CleanTokens.{bound, IsLegalToken}

child_added : (cs : ElementTrees) (e : ElementTree) → HaveLegalTexts cs → HasLegalTexts e → HaveLegalTexts (trees (tree_list cs ++ e ∷ []))
child_added no_trees e h k = (k, tt)
child_added (tree_then t ts) e h k = (h.0, child_added ts e h.1 k)

text_kept : (b : List ℕ) (t : ElementTree) (ts : List ElementTree) → IsLegal b → HasLegalTexts t → HaveLegalTexts (trees ts) → HaveLegalTexts (trees (text_after b t ts))
text_kept b (element m p s a c) [] l h k = (h, (l, tt))
text_kept b (text bytes) [] l h k = (legal_append bytes b h l, tt)
text_kept b t (u ∷ us) l h k = (h, text_kept b u us l k.0 k.1)

text_put : (b : List ℕ) (ts : List ElementTree) → IsLegal b → HaveLegalTexts (trees ts) → HaveLegalTexts (trees (with_text b ts))
text_put b [] l h = (l, tt)
text_put b (t ∷ ts) l h = text_kept b t ts l h.0 h.1

abbrev IsLegalRoot : Option ElementTree → Type 0
IsLegalRoot None = Unit {0}
IsLegalRoot (Some t) = HasLegalTexts t

abbrev IsLegalOpen : Open → Type 0
IsLegalOpen s = AllByRecursion HasLegalTexts s.0 × IsLegalRoot s.1

abbrev HaveValues : List (List ℕ × List ℕ) → Type 0
HaveValues attributes = AllByRecursion (λ a. IsLegal a.1) attributes

opens_legal : (name : List ℕ) (attributes : List (List ℕ × List ℕ)) (es : List ElementTree) (root : Option ElementTree) (next : Open) → HaveValues attributes → IsLegalOpen (es, root) → opened (raw name attributes) (es, root) ≡ Ok next → IsLegalOpen next
opens_legal name attributes es root next l h e =
    by_test (length es == 0 && is_some root) (λ t. cond {A = Result Open Fault} t (Err Malformed) (cond (leb 64 (length es)) (Err TooDeep) (Ok (raw name attributes ∷ es, root))) ≡ Ok next → IsLegalOpen next) (λ f k. absurd cc)
    (λ f k. by_test (leb 64 (length es)) (λ t. cond {A = Result Open Fault} t (Err TooDeep) (Ok (raw name attributes ∷ es, root)) ≡ Ok next → IsLegalOpen next) (λ g i. absurd cc)
    (λ g i. subst IsLegalOpen (ap (ok_or_else next) i) (((tt, (l, tt)), h.0), h.1)) k) e

child_put : (e f : ElementTree) → HasLegalTexts e → HasLegalTexts f → HasLegalTexts (with_child f e)
child_put e (text bytes) h k = k
child_put e (element m p s a c) h k = (k.0, (k.1.0, child_added c e k.1.1 h))

ended_legal : (e : ElementTree) (es : List ElementTree) (root : Option ElementTree) → HasLegalTexts e → AllByRecursion HasLegalTexts es → IsLegalRoot root → IsLegalOpen (ended e (es, root))
ended_legal e [] root h k r = (tt, h)
ended_legal e (f ∷ fs) root h k r = ((child_put e f h k.0, k.1), r)

closed_legal : (name : List ℕ) (s next : Open) → IsLegalOpen s → closed name s ≡ Ok next → IsLegalOpen next
closed_legal name ([], root) next h e = absurd cc
closed_legal name (t ∷ es, root) next h e = by_test (bytes_eq (name_of t) name) (λ b. cond {A = Result Open Fault} b (Ok (ended t (es, root))) (Err Malformed) ≡ Ok next → IsLegalOpen next)
    (λ f k. subst IsLegalOpen (ap (ok_or_else next) k) (ended_legal t es root h.0.0 h.0.1 h.1)) (λ f k. absurd cc) e

text_held : (b : ℕ) (bs : List ℕ) (e : ElementTree) → IsLegal (b ∷ bs) → HasLegalTexts e → HasLegalTexts (text_added (b ∷ bs) e)
text_held b bs (text bytes) l h = h
text_held b bs (element m p s a c) l h = (h.0, (h.1.0, text_put (b ∷ bs) (tree_list c) l (subst HaveLegalTexts (sym (trees_tree_list c)) h.1.1)))

text_legal : (is_blank : Bool) (bytes : List ℕ) (s next : Open) → IsLegal bytes → IsLegalOpen s → text_in is_blank bytes s ≡ Ok next → IsLegalOpen next
text_legal is_blank bytes ([], root) next l h e = by_test is_blank (λ t. cond {A = Result Open Fault} t (Ok ([], root)) (Err Malformed) ≡ Ok next → IsLegalOpen next) (λ f k. subst IsLegalOpen (ap (ok_or_else next) k) h) (λ f k. absurd cc) e
text_legal is_blank [] (t ∷ es, root) next l h e = subst IsLegalOpen (ap (ok_or_else next) e) h
text_legal is_blank (b ∷ bs) (t ∷ es, root) next l h e = subst IsLegalOpen (ap (ok_or_else next) e) ((text_held b bs t l h.0.0, h.0.1), h.1)

step_legal : (s next : Open) (t : Markup) → IsLegalToken t → IsLegalOpen s → step s t ≡ Ok next → IsLegalOpen next
step_legal (es, root) next (opens name attributes) l h e = opens_legal name attributes es root next l h e
step_legal (es, root) next (empty name attributes) l h e =
    let one = bound (opened (raw name attributes) (es, root)) (closed name) next e in
    closed_legal name one.value next (opens_legal name attributes es root one.value l h one.first) one.next
step_legal s next (closes name) l h e = closed_legal name s next h e
step_legal s next (content is_blank bytes) l h e = text_legal is_blank bytes s next l h e
step_legal s next nothing l h e = subst IsLegalOpen (ap (ok_or_else next) e) h

steps_legal : (ts : List Markup) (s next : Open) → AllByRecursion IsLegalToken ts → IsLegalOpen s → steps s ts ≡ Ok next → IsLegalOpen next
unfolding steps
steps_legal [] s next l h e = subst IsLegalOpen (ap (ok_or_else next) e) h
steps_legal (t ∷ ts) s next l h e =
    let one = bound (step s t) (λ u. steps u ts) next e in
    steps_legal ts one.value next l.1 (step_legal s one.value t l.0 h one.first) one.next

root_legal : (s : Open) (t : ElementTree) → IsLegalOpen s → root_of s ≡ Ok t → HasLegalTexts t
root_legal ([], None) t h e = absurd cc
root_legal ([], Some root) t h e = subst HasLegalTexts (ap (ok_or_else t) e) h.1
root_legal (u ∷ us, root) t h e = absurd cc

pub nested_legal : (ts : List Markup) (t : ElementTree) → AllByRecursion IsLegalToken ts → nested ts ≡ Ok t → HasLegalTexts t
unfolding nested
nested_legal ts t l e =
    let one = bound (steps ([], None) ts) root_of t e in
    root_legal one.value t (steps_legal ts ([], None) one.value l (tt, tt) one.first) one.next
