-- An element tree as JSON, written a token at a time.
use Rattle.std.proofs.Common.{◌≡◌, ◌<◌, ◌≤◌, ◌+◌, ℕ, List, [], ◌∷◌, ◌++◌, map, take, get_or, length, Ok, Err, Result, OnOk, refl, sym, ap, subst, ◌∙◌, append_assoc, append-nil}
use Rattle.std.proofs.lemmas.Grind.{flat_map-append}
use Rattle.std.proofs.lemmas.List.{take_all, take_more, map-append}
use Rattle.std.specs.List.{flat_map}
use Rattle.json.specs.Print.{print}
use Rattle.json.specs.Token.{Token, begin_array, end_array}
use Rattle.json.specs.Tree.{items_tokens}
use Rattle.json.specs.Written.{Written, Writes}
use Rattle.serde_json.specs.Data.{Data}
use Rattle.serde_json.specs.View.{items_of}
use Rattle.serde_json.specs.Written.{compact_text, items_outline}
use Rattle.serde_json.proofs.Texts.{print-outline}
use Rattle.dav_core.specs.Element.{ElementTree, trees}
use Rattle.dav_run.specs.TreeData.{Adds, attribute_data, children_data, tokens_of, tree_data}

-- the tokens of the items of a list, and its end
attributes_tokens : (attributes : List (List ℕ × List ℕ)) → items_tokens (items_outline (items_of (map attribute_data attributes))) ≡ flat_map (λ a. tokens_of (attribute_data a)) attributes ++ end_array ∷ []
attributes_tokens [] = refl
attributes_tokens (a ∷ more) =
    ap (λ (ts : List Token). tokens_of (attribute_data a) ++ ts) (attributes_tokens more)
    ∙ sym (append_assoc (tokens_of (attribute_data a)) (flat_map (λ b. tokens_of (attribute_data b)) more) (end_array ∷ []))

children_tokens : (ts : List ElementTree) → items_tokens (items_outline (children_data (trees ts))) ≡ flat_map (λ t. tokens_of (tree_data t)) ts ++ end_array ∷ []
children_tokens [] = refl
children_tokens (t ∷ more) =
    ap (λ (ts : List Token). tokens_of (tree_data t) ++ ts) (children_tokens more)
    ∙ sym (append_assoc (tokens_of (tree_data t)) (flat_map (λ u. tokens_of (tree_data u)) more) (end_array ∷ []))

-- ---- what was written

-- nothing yet
pub adds_nothing : (a : Written) → Adds a a []
adds_nothing a = record { before = refl; added = sym (append-nil a.tokens) }

-- one token
pub adds_one : {E : Type 0} {a b : Written} {t : Token} {x : Unit {0}} → Writes {E = E} (Ok x) a b t → Adds a b (t ∷ [])
adds_one wrote = record { before = wrote.room.0; added = wrote.ok }

-- what follows from the last one
pub ends : {E : Type 0} {P : Type 0} (r : Result (Unit {0}) E) {a b : Written} {t : Token} → Writes r a b t → (Adds a b (t ∷ []) → P) → OnOk r P
ends (Ok x) wrote f = f (adds_one wrote)
ends (Err e) wrote f = tt

-- some tokens, and then others
pub adds_both : {a b c : Written} {x y : List Token} → Adds a b x → Adds b c y → Adds a c (x ++ y)
adds_both {a} {b} {c} {x} {y} first then = record {
  before = then.before ∙ first.before;
  added = then.added ∙ ap (λ (ts : List Token). ts ++ y) first.added ∙ append_assoc a.tokens x y;
}

-- those of one more item
pub adds_more : {X Y : Type 0} (f : Y → List Token) (seen : X → Y) (xs : List X) (i : ℕ) (x : X) (a b c : Written) → i < length xs → x ≡ get_or xs i x
    → Adds a b (flat_map f (map seen (take i xs))) → Adds b c (f (seen x)) → Adds a c (flat_map f (map seen (take (i + 1) xs)))
adds_more {X} f seen xs i x a b c below at before more =
    let grown : flat_map f (map seen (take (i + 1) xs)) ≡ flat_map f (map seen (take i xs)) ++ f (seen x) =
    ap (λ (l : List X). flat_map f (map seen l)) (take_more xs i x below ∙ ap (λ w. take i xs ++ w ∷ []) (sym at))
    ∙ ap (flat_map f) (map-append seen (take i xs) (x ∷ []))
    ∙ flat_map-append f (map seen (take i xs)) (seen x ∷ [])
    ∙ ap (λ (w : List Token). flat_map f (map seen (take i xs)) ++ w) (append-nil (f (seen x))) in
    let both = adds_both before more in
    record { before = both.before; added = both.added ∙ ap (λ (ts : List Token). a.tokens ++ ts) (sym grown) }

-- those of all items
pub adds_all : {X Y : Type 0} (f : Y → List Token) (seen : X → Y) (xs : List X) (i : ℕ) {a b : Written} → length xs ≤ i → Adds a b (flat_map f (map seen (take i xs))) → Adds a b (flat_map f (map seen xs))
adds_all {X} f seen xs i {a} {b} past adds = subst (λ (l : List X). Adds a b (flat_map f (map seen l))) (take_all i xs past) adds

-- a whole list
adds_list : {a b c d : Written} (items all : List Token) → all ≡ items ++ end_array ∷ [] → Adds a b (begin_array ∷ []) → Adds b c items → Adds c d (end_array ∷ []) → Adds a d (begin_array ∷ all)
adds_list {a} {d = d} items all is first then last = subst (λ (ts : List Token). Adds a d (begin_array ∷ ts)) (sym is) (adds_both first (adds_both then last))

pub adds_attributes : {a b c d : Written} (attributes : List (List ℕ × List ℕ)) → Adds a b (begin_array ∷ []) → Adds b c (flat_map (λ a. tokens_of (attribute_data a)) attributes) → Adds c d (end_array ∷ [])
    → Adds a d (begin_array ∷ items_tokens (items_outline (items_of (map attribute_data attributes))))
adds_attributes attributes = adds_list (flat_map (λ a. tokens_of (attribute_data a)) attributes) _ (attributes_tokens attributes)

pub adds_children : {a b c d : Written} (children : List ElementTree) → Adds a b (begin_array ∷ []) → Adds b c (flat_map (λ t. tokens_of (tree_data t)) children) → Adds c d (end_array ∷ [])
    → Adds a d (begin_array ∷ items_tokens (items_outline (children_data (trees children))))
adds_children children = adds_list (flat_map (λ t. tokens_of (tree_data t)) children) _ (children_tokens children)

-- what the writer holds, where it wrote one value
pub printed : {a b : Written} (d : Data) (front : List ℕ) (bytes : List ℕ) → a.before ≡ front → a.tokens ≡ [] → Adds a b (tokens_of d) → bytes ≡ b.before ++ print b.tokens → bytes ≡ front ++ compact_text d
printed {a} {b} d front bytes before none adds is =
    let tokens : b.tokens ≡ tokens_of d = adds.added ∙ ap (λ (ts : List Token). ts ++ tokens_of d) none in
    is ∙ ap (λ (s : List ℕ). s ++ print b.tokens) (adds.before ∙ before)
    ∙ ap (λ (s : List ℕ). front ++ s) (ap print tokens ∙ print-outline d)
