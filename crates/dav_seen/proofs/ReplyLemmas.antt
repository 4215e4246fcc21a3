-- How listings are put together.
use Rattle.std.proofs.Common.{◌≡◌, ◌++◌, ℕ, Bool, List, [], ◌∷◌, map, IfOk, Option, Result, Ok, Err, refl, sym, ap, subst, ◌∙◌, append_assoc}
use Rattle.std.specs.Bool.{Decides}
use Rattle.dav_core.specs.Element.{ElementTree, element, children_of, tree_list, trees, with_children}
use Rattle.dav_engine.specs.declared.reply.ReplyBody.{ReplyBody}
use Rattle.dav_engine.specs.declared.reply.ReplyBody.TheVariants.{Tree}
use Rattle.dav_seen.specs.Ways.{told_in}

list_of_trees : (ts : List ElementTree) → tree_list (trees ts) ≡ ts
list_of_trees [] = refl
list_of_trees (t ∷ ts) = ap (λ us. t ∷ us) (list_of_trees ts)

-- an element with more children after its own
pub grown : (name : List ℕ) (prefix namespace : Option (List ℕ)) (attributes : List (List ℕ × List ℕ)) (olds news more : List ElementTree) (e : ElementTree)
    → element name prefix namespace attributes (trees olds) ≡ e → news ≡ olds ++ more → element name prefix namespace attributes (trees news) ≡ with_children e (children_of e ++ more)
grown name prefix namespace attributes olds news more e is joined =
    subst (λ t. element name prefix namespace attributes (trees news) ≡ with_children t (children_of t ++ more)) is
    (ap (λ ts. element name prefix namespace attributes (trees ts)) (joined ∙ ap (λ ts. ts ++ more) (sym (list_of_trees olds))))

-- the children of a tree are what is told in it
pub told_children : (name : List ℕ) (prefix namespace : Option (List ℕ)) (attributes : List (List ℕ × List ℕ)) (olds : List ElementTree) (e : ElementTree) (body : ReplyBody)
    → element name prefix namespace attributes (trees olds) ≡ e → body ≡ Tree e → olds ≡ told_in body
told_children name prefix namespace attributes olds e body is tree =
    subst (λ b. olds ≡ told_in b) (sym tree) (subst (λ t. olds ≡ children_of t) is (sym (list_of_trees olds)))

-- three parts, one after another
pub three_parts : {none one two three : List ℕ} (a b c : List ℕ) → none ≡ [] → one ≡ none ++ a → two ≡ one ++ b → three ≡ two ++ c → three ≡ a ++ (b ++ c)
three_parts a b c empty first second third =
    third ∙ ap (λ x. x ++ c) (second ∙ ap (λ x. x ++ b) (first ∙ ap (λ x. x ++ a) empty)) ∙ append_assoc a b c

-- a test of a second fact tests both, where the first is known
pub decides_both : {E : Type 0} (A B : Type 0) (r : Result Bool E) → A → IfOk r (λ b. Decides b B) → IfOk r (λ b. Decides b (A × B))
decides_both A B (Ok b) a is = (λ yes. (a, is.0 yes), λ both. is.1 both.1)
decides_both A B (Err e) a is = is

-- what is said of each reply with one property, is said of an answer
pub ok_each : {A E : Type 0} (P Q : A → Type 0) (r : Result A E) → ((a : A) → P a → Q a) → IfOk r P → IfOk r Q
ok_each P Q (Ok a) each is = each a is
ok_each P Q (Err e) each is = is
