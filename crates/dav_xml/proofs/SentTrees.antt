-- A tree that may be sent means a tree.
use Rattle.std.proofs.Common.{◌≡◌, ℕ, zero, suc, max, ◌≤◌, Bool, true, false, cond, ◌||◌, ◌⊎◌, inl, inr, List, [], ◌∷◌, ◌++◌, ◌==◌, length, bytes_eq, Option, Some, None, refl, sym, ap, subst, ◌∙◌, arith}
use Rattle.std.specs.List.{AllByRecursion}
use Rattle.dav_core.specs.Element.{ElementTree, ElementTrees, element, text, no_trees, tree_then, xmlns_name, depth_of, depth_among}
use Rattle.dav_xml.specs.Legal.{IsLegal, IsLegalAttribute}
use Rattle.dav_xml.specs.Scopes.{Scope, uri_after, uri_of, declared_by}
use Rattle.dav_xml.specs.Namespaces.{has_attribute, are_distinct}
use Rattle.dav_xml.specs.Written.{declared_prefix, with_prefix, scope_below, or_empty, known, uri_or, wanted, is_in_scope, has_uri, placed, place_of, declared_too}
use Rattle.dav_xml.specs.Expanded.{IsPlain, IsDeclarable, IsExpandedName, AreKept, AreExpanded, IsDeclaration, none_kept, ElementMeans, Means, AllMean}
use Rattle.dav_xml.specs.Sendable.{IsKnownPrefix, IsSendableAs, as_read, own_declared, known_prefix, IsSendable, AreSendable, SendableIsRead, ExpandedIsSendable, ReadIsSendable}
use Rattle.dav_xml.proofs.Escapes.{by_test}
use Rattle.dav_xml.proofs.Nested.{same_bytes}
use Rattle.dav_xml.proofs.LegalTrees.{legal_nil}
use Rattle.dav_xml.proofs.Declared.{nonempty, bytes_same, uri_here, uri_there, prefix_declares}
use Rattle.dav_xml.proofs.KeptAgain.{IsGood, plainly, declares_one, goes_on}
use Rattle.dav_xml.proofs.PlacedAgain.{found_there, all_more}
use Rattle.dav_xml.proofs.PlainNames.{declaring_name}
use Rattle.dav_xml.proofs.ReadAgain.{read_is_expanded}
use Rattle.dav_xml.proofs.RoundTrip.{itself, prefix_plain, some_bytes, document_again}

-- ---- scopes

-- a prefix that may be declared with its namespace, of legal characters
abbrev IsUsable : List ℕ × List ℕ → Type 0
IsUsable d = IsDeclarable d × IsLegal d.1

abbrev AreUsable : Scope → Type 0
AreUsable scope = AllByRecursion IsUsable scope

found_usable : (scope : Scope) (found : Option (List ℕ)) (prefix uri : List ℕ) → AreUsable scope → ((u : List ℕ) → found ≡ Some u → IsUsable (prefix, u))
    → uri_after found prefix scope ≡ Some uri → IsUsable (prefix, uri)
found_usable [] found prefix uri h before e = before uri e
found_usable (d ∷ ds) found prefix uri h before e =
    found_usable ds (cond (bytes_eq d.0 prefix) (Some d.1) found) prefix uri h.1 (by_test (bytes_eq d.0 prefix) (λ t. (u : List ℕ) → cond t (Some d.1) found ≡ Some u → IsUsable (prefix, u))
    (λ is u eu. let same : d ≡ (prefix, u) = pair_is d prefix u (bytes_same d.0 prefix is) eu in subst IsUsable same h.0) (λ other u eu. before u eu)) e
  where
    pair_is : (d : List ℕ × List ℕ) (prefix u : List ℕ) → d.0 ≡ prefix → Some d.1 ≡ Some u → d ≡ (prefix, u)
    pair_is (x, y) prefix u e f =
        let same : y ≡ u = cc in
        ap (λ (t : List ℕ). (t, y)) e ∙ ap (λ (t : List ℕ). (prefix, t)) same

-- an attribute that declares nothing, or a prefix that may be declared
data DeclaresUsable (a : List ℕ × List ℕ) : Type 0 where
  nothing : declared_prefix a.0 ≡ None → DeclaresUsable a
  something : (q : List ℕ) → declared_prefix a.0 ≡ Some q → IsUsable (q, a.1) → DeclaresUsable a

with_usable : (scope : Scope) (a : List ℕ × List ℕ) → AreUsable scope → DeclaresUsable a → AreUsable (with_prefix scope a.1 (declared_prefix a.0))
with_usable scope a h (nothing e) = subst (λ (o : Option (List ℕ)). AreUsable (with_prefix scope a.1 o)) (sym e) h
with_usable scope a h (something q e one) = subst (λ (o : Option (List ℕ)). AreUsable (with_prefix scope a.1 o)) (sym e) (all_usable scope (q, a.1) h one)
  where
    all_usable : (scope : Scope) (d : List ℕ × List ℕ) → AreUsable scope → IsUsable d → AreUsable (scope ++ d ∷ [])
    all_usable scope d h one = all_more IsUsable scope d h one

opened_usable : (attributes : List (List ℕ × List ℕ)) (scope : Scope) → AreUsable scope → AllByRecursion DeclaresUsable attributes → AreUsable (scope_below scope attributes)
opened_usable [] scope h all = h
opened_usable (a ∷ others) scope h all = opened_usable others (with_prefix scope a.1 (declared_prefix a.0)) (with_usable scope a h all.0) all.1

-- attributes that are kept declare such prefixes
good_usable : (s : Scope) (own : Option (List ℕ)) (a : List ℕ × List ℕ) → IsGood s own a → IsLegalAttribute a → DeclaresUsable a
good_usable s own a (plainly e n) legal = nothing n
good_usable s own a (declares_one q uri is other here declares) legal =
    let value : uri ≡ a.1 = sym (ap (λ (b : List ℕ × List ℕ). b.1) is) in
    let declarable : IsDeclarable (q, uri) = record { declared = declares } in
    something q (ap (λ (b : List ℕ × List ℕ). declared_prefix b.0) is ∙ prefix_declares q) (subst (λ (u : List ℕ). IsDeclarable (q, u)) value declarable, legal.value)

all_good_usable : (s : Scope) (own : Option (List ℕ)) (bs : List (List ℕ × List ℕ)) → AllByRecursion (IsGood s own) bs → AllByRecursion IsLegalAttribute bs → AllByRecursion DeclaresUsable bs
all_good_usable s own [] h legal = tt
all_good_usable s own (a ∷ bs) h legal = (good_usable s own a h.0 legal.0, all_good_usable s own bs h.1 legal.1)

kept_usable : (prefix namespace : Option (List ℕ)) (bs : List (List ℕ × List ℕ)) → AreKept prefix namespace bs → AllByRecursion DeclaresUsable bs
kept_usable prefix namespace bs k =
    let goes = goes_on k.scope prefix bs k.names k.declarable k.given [] [] k.kept in
    all_good_usable k.scope prefix bs (subst (AllByRecursion (IsGood k.scope prefix)) (sym goes.split) goes.good) k.legal

-- and so do declarations
declaration_usable : (a : List ℕ × List ℕ) → IsDeclaration a → DeclaresUsable a
declaration_usable a d =
    let declarable : IsDeclarable (d.prefix, a.1) = record { declared = ap (λ (name : List ℕ). declared_by (name, a.1)) (sym d.named) ∙ d.declared } in
    something d.prefix (ap declared_prefix d.named ∙ prefix_declares d.prefix) (declarable, d.legal.value)

declarations_usable : (ds : List (List ℕ × List ℕ)) → AllByRecursion IsDeclaration ds → AllByRecursion DeclaresUsable ds
declarations_usable [] h = tt
declarations_usable (a ∷ ds) h = (declaration_usable a h.0, declarations_usable ds h.1)

-- ---- a prefix that is declared

abbrev HasUri : List ℕ → Scope → Type 0
HasUri own scope = (uri : List ℕ) × (uri_of own scope ≡ Some uri)

more_has : (own q uri : List ℕ) (scope : Scope) → HasUri own scope → HasUri own (scope ++ (q, uri) ∷ [])
more_has own q uri scope h =
    by_test (bytes_eq q own) (λ t. bytes_eq q own ≡ t → HasUri own (scope ++ (q, uri) ∷ []))
    (λ e is. (uri, subst (λ (x : List ℕ). uri_of x (scope ++ (q, uri) ∷ []) ≡ Some uri) (bytes_same q own e) (uri_here q uri scope)))
    (λ e is. (h.0, uri_there own q uri scope e ∙ h.1)) refl

declared_there : (own : List ℕ) (ds : List (List ℕ × List ℕ)) (scope : Scope) → AllByRecursion IsDeclaration ds → (has_attribute (xmlns_name own) ds ≡ true) ⊎ HasUri own scope → HasUri own (scope_below scope ds)
declared_there own [] scope h (inl e) = absurd cc
declared_there own [] scope h (inr has) = has
declared_there own (a ∷ ds) scope h either =
    let q = h.0.prefix in
    let declares : declared_prefix a.0 ≡ Some q = ap declared_prefix h.0.named ∙ prefix_declares q in
    subst (λ (o : Option (List ℕ)). HasUri own (scope_below (with_prefix scope a.1 o) ds)) (sym declares) (declared_there own ds (scope ++ (q, a.1) ∷ []) h.1 (onward q h.0.named either))
  where
    onward : (q : List ℕ) → a.0 ≡ xmlns_name q → (has_attribute (xmlns_name own) (a ∷ ds) ≡ true) ⊎ HasUri own scope → (has_attribute (xmlns_name own) ds ≡ true) ⊎ HasUri own (scope ++ (q, a.1) ∷ [])
    onward q named (inr has) = inr (more_has own q a.1 scope has)
    onward q named (inl e) =
        by_test (bytes_eq a.0 (xmlns_name own)) (λ t. (t || has_attribute (xmlns_name own) ds) ≡ true → (has_attribute (xmlns_name own) ds ≡ true) ⊎ HasUri own (scope ++ (q, a.1) ∷ []))
        (λ is k.
        let both : Some q ≡ Some own = sym (prefix_declares q) ∙ ap declared_prefix (sym named ∙ bytes_same a.0 (xmlns_name own) is) ∙ prefix_declares own in
        let same : q ≡ own = cc in
        inr (a.1, subst (λ (x : List ℕ). uri_of x (scope ++ (q, a.1) ∷ []) ≡ Some a.1) same (uri_here q a.1 scope)))
        (λ other k. inl k) e

not_there : (own : List ℕ) (ds : List (List ℕ × List ℕ)) (scope : Scope) → AllByRecursion IsDeclaration ds → uri_of own (scope_below scope ds) ≡ None → has_attribute (xmlns_name own) ds ≡ false
not_there own ds scope h none =
    by_test (has_attribute (xmlns_name own) ds) (λ t. has_attribute (xmlns_name own) ds ≡ t → t ≡ false)
    (λ e is. let has = declared_there own ds scope h (inl is) in let both : None ≡ Some has.0 = sym none ∙ has.1 in absurd cc) (λ e is. refl) refl

-- ---- an element

usable_of : (prefix found : Option (List ℕ)) → IsExpandedName prefix found → IsUsable (or_empty prefix, or_empty found)
usable_of None None h = (record { declared = refl }, legal_nil)
usable_of None (Some []) h = absurd h
usable_of None (Some (b ∷ uri)) h = h
usable_of (Some p) None h = absurd h
usable_of (Some p) (Some uri) h = h.1

place_usable : (inner : Scope) (o w : List ℕ) (attributes : List (List ℕ × List ℕ)) → AreUsable inner → IsUsable (o, w) → AreUsable (placed inner o w attributes).1
place_usable inner o w attributes h one =
    by_test (is_in_scope inner o w) (λ t. AreUsable (cond {A = List (List ℕ × List ℕ) × Scope} t (attributes, inner) (declared_too inner o w attributes)).1) (λ e. h) (λ e. all_more IsUsable inner (o, w) h one)

record SentElement (scope : Scope) (name : List ℕ) (prefix namespace : Option (List ℕ)) (attributes : List (List ℕ × List ℕ)) : Type 0 where
  found : Option (List ℕ)
  meant : List (List ℕ × List ℕ)
  means : ElementMeans scope name prefix namespace attributes found meant
  inner : AreUsable (place_of scope (or_empty prefix) namespace attributes).1

sent : (scope : Scope) (name : List ℕ) (prefix namespace : Option (List ℕ)) (attributes : List (List ℕ × List ℕ)) (found : Option (List ℕ)) (meant : List (List ℕ × List ℕ))
    → AreUsable scope → AllByRecursion DeclaresUsable attributes → ElementMeans scope name prefix namespace attributes found meant → SentElement scope name prefix namespace attributes
sent scope name prefix namespace attributes found meant h all m =
    let one : IsUsable (or_empty prefix, wanted (scope_below scope attributes) (or_empty prefix) namespace) = subst (λ (w : List ℕ). IsUsable (or_empty prefix, w)) (sym m.wants) (usable_of prefix found m.expanded) in
    record {
      found = found;
      meant = meant;
      means = m;
      inner = place_usable (scope_below scope attributes) (or_empty prefix) (wanted (scope_below scope attributes) (or_empty prefix) namespace) attributes (opened_usable attributes scope h all) one;
    }

declared_own : (prefix : Option (List ℕ)) (uri : List ℕ) → IsExpandedName prefix (Some uri) → IsDeclaration (xmlns_name (or_empty prefix), uri)
declared_own prefix uri hn =
    let usable = usable_of prefix (Some uri) hn in
    record {
      prefix = or_empty prefix;
      named = refl;
      declared = usable.0.declared;
      legal = record { name = declaring_name prefix (prefix_plain prefix (Some uri) hn); value = usable.1 };
    }

sent_declared : (scope : Scope) (name : List ℕ) (prefix : Option (List ℕ)) (uri : List ℕ) → AreUsable scope → IsPlain name → IsExpandedName prefix (Some uri)
    → SentElement scope name prefix (Some uri) ((xmlns_name (or_empty prefix), uri) ∷ [])
sent_declared scope name prefix uri h plain hn =
    let o = or_empty prefix in
    let one = declared_own prefix uri hn in
    let there : is_in_scope (scope_below scope ((xmlns_name o, uri) ∷ [])) o uri ≡ true = ap (λ (p : Option (List ℕ)). is_in_scope (with_prefix scope uri p) o uri) (prefix_declares o) ∙ found_there o uri scope in
    sent scope name prefix (Some uri) ((xmlns_name o, uri) ∷ []) (Some uri) [] h (declaration_usable (xmlns_name o, uri) one, tt)
    (record { plain = plain; expanded = hn; wants = refl; read_as = none_kept (record { all = (one, tt); distinct = refl; own = inr there }) refl })

not_long : (b : ℕ) (p : List ℕ) → (length (b ∷ p) == 0) ≡ false
not_long b p = by_test (length (b ∷ p) == 0) (λ t. length (b ∷ p) == 0 ≡ t → t ≡ false) (λ e is. absurd (some_bytes b p is)) (λ e is. refl) refl

wanted_known : (own : List ℕ) (inner : Scope) (o : Option (List ℕ)) → IsPlain own → uri_of own inner ≡ o → wanted inner own None ≡ uri_or own o
wanted_known [] inner o plain is = absurd (nonempty [] [] plain refl)
wanted_known (b ∷ p) inner o plain is = ap (λ (t : Bool). cond t [] (uri_or (b ∷ p) (uri_of (b ∷ p) inner))) (not_long b p) ∙ ap (uri_or (b ∷ p)) is

sent_known : (scope : Scope) (name own : List ℕ) (attributes : List (List ℕ × List ℕ)) → AreUsable scope → IsPlain name → IsKnownPrefix own → AllByRecursion IsDeclaration attributes → are_distinct attributes ≡ true
    → (o : Option (List ℕ)) → uri_of own (scope_below scope attributes) ≡ o → SentElement scope name (Some own) None attributes
sent_known scope name own attributes h plain k all distinct None is =
    sent scope name (Some own) None attributes (Some (known own)) [] h (declarations_usable attributes all) (record {
      plain = plain;
      expanded = (k.plain, (k.declarable, k.legal));
      wants = wanted_known own (scope_below scope attributes) None k.plain is;
      read_as = none_kept (record { all = all; distinct = distinct; own = inl (not_there own attributes scope all is) }) refl;
    })
sent_known scope name own attributes h plain k all distinct (Some uri) is =
    let usable = found_usable (scope_below scope attributes) None own uri (opened_usable attributes scope h (declarations_usable attributes all)) (λ u e. absurd cc) is in
    sent scope name (Some own) None attributes (Some uri) [] h (declarations_usable attributes all) (record {
      plain = plain;
      expanded = (k.plain, usable);
      wants = wanted_known own (scope_below scope attributes) (Some uri) k.plain is;
      read_as = none_kept (record { all = all; distinct = distinct; own = inr (ap (λ (f : Option (List ℕ)). has_uri f uri) is ∙ same_bytes uri) }) refl;
    })

sent_element : (scope : Scope) (name : List ℕ) (prefix namespace : Option (List ℕ)) (attributes : List (List ℕ × List ℕ)) → AreUsable scope → IsPlain name → IsSendableAs prefix namespace attributes
    → SentElement scope name prefix namespace attributes
sent_element scope name prefix namespace attributes h plain (as_read hn k) = sent scope name prefix namespace attributes namespace attributes h (kept_usable prefix namespace attributes k) (itself scope name prefix namespace attributes plain hn k)
sent_element scope name prefix namespace attributes h plain (own_declared uri hn is are) =
    subst (λ (ns : Option (List ℕ)). SentElement scope name prefix ns attributes) (sym is) (subst (λ (xs : List (List ℕ × List ℕ)). SentElement scope name prefix (Some uri) xs) (sym are) (sent_declared scope name prefix uri h plain hn))
sent_element scope name prefix namespace attributes h plain (known_prefix own k is none all distinct) =
    subst (λ (ns : Option (List ℕ)). SentElement scope name prefix ns attributes) (sym none) (subst (λ (p : Option (List ℕ)). SentElement scope name p None attributes) (sym is)
    (sent_known scope name own attributes h plain k all distinct (uri_of own (scope_below scope attributes)) refl))

-- ---- trees

record MeansSome (n : ℕ) (scope : Scope) (t : ElementTree) : Type 0 where
  meant : ElementTree
  means : Means n scope t meant

record AllMeanSome (n : ℕ) (texted : Bool) (scope : Scope) (ts : ElementTrees) : Type 0 where
  meant : ElementTrees
  mean : AllMean n texted scope ts meant

element_means : (n : ℕ) (scope : Scope) (name : List ℕ) (prefix namespace : Option (List ℕ)) (attributes : List (List ℕ × List ℕ)) (children : ElementTrees) (s : SentElement scope name prefix namespace attributes)
    → AllMeanSome n false (place_of scope (or_empty prefix) namespace attributes).1 children → MeansSome (suc n) scope (element name prefix namespace attributes children)
element_means n scope name prefix namespace attributes children s inner = record {
  meant = element name prefix s.found s.meant inner.meant;
  means = (refl, (refl, (s.means, inner.mean)));
}

element_then : (n : ℕ) (texted : Bool) (scope : Scope) (name : List ℕ) (prefix namespace : Option (List ℕ)) (attributes : List (List ℕ × List ℕ)) (children ts : ElementTrees)
    → MeansSome n scope (element name prefix namespace attributes children) → AllMeanSome n false scope ts → AllMeanSome n texted scope (tree_then (element name prefix namespace attributes children) ts)
element_then n texted scope name prefix namespace attributes children ts one more = record { meant = tree_then one.meant more.meant; mean = (one.means, more.mean) }

text_then : (n : ℕ) (scope : Scope) (b : ℕ) (bs : List ℕ) (ts : ElementTrees) → IsLegal (b ∷ bs) → AllMeanSome n true scope ts → AllMeanSome n false scope (tree_then (text (b ∷ bs)) ts)
text_then n scope b bs ts legal more = record { meant = tree_then (text (b ∷ bs)) more.meant; mean = (legal, (refl, more.mean)) }

none_below : (c m : ℕ) → max (suc c) m ≤ zero → ⊥
none_below c m le = omega (arith, le)

below_first : (c m n : ℕ) → max (suc c) m ≤ suc n → c ≤ n
below_first c m n le = omega (arith, le)

below_rest : (c m n : ℕ) → max c m ≤ n → m ≤ n
below_rest c m n le = omega (arith, le)

all_mean : (n : ℕ) (ts : ElementTrees) (texted : Bool) (scope : Scope) → AreUsable scope → AreSendable texted ts → depth_among ts ≤ n → AllMeanSome n texted scope ts
all_mean n no_trees texted scope u h le = record { meant = no_trees; mean = tt }
all_mean zero (tree_then (element m p s a c) ts) texted scope u h le = absurd (none_below (depth_among c) (depth_among ts) le)
all_mean (suc n) (tree_then (element m p s a c) ts) texted scope u h le =
    let one = sent_element scope m p s a u h.0.0 h.0.1.0 in
    element_then (suc n) texted scope m p s a c ts
    (element_means n scope m p s a c one (all_mean n c false (place_of scope (or_empty p) s a).1 one.inner h.0.1.1 (below_first (depth_among c) (depth_among ts) n le)))
    (all_mean (suc n) ts false scope u h.1 (below_rest (suc (depth_among c)) (depth_among ts) (suc n) le))
all_mean n (tree_then (text bytes) ts) true scope u h le = absurd h
all_mean n (tree_then (text []) ts) false scope u h le = absurd h
all_mean n (tree_then (text (b ∷ bs)) ts) false scope u h le = text_then n scope b bs ts h.0 (all_mean n ts true scope u h.1 (below_rest zero (depth_among ts) n le))

tree_means : (n : ℕ) (scope : Scope) (t : ElementTree) → AreUsable scope → IsSendable t → depth_of t ≤ n → MeansSome n scope t
tree_means n scope (text bytes) u h le = absurd h
tree_means zero scope (element m p s a c) u h le = absurd (omega (arith, le))
tree_means (suc n) scope (element m p s a c) u h le =
    let one = sent_element scope m p s a u h.0 h.1.0 in
    element_means n scope m p s a c one (all_mean n c false (place_of scope (or_empty p) s a).1 one.inner h.1.1 (omega (arith, le)))

pub sendable_is_read : SendableIsRead
sendable_is_read t h le few short =
    let some = tree_means 64 [] t tt h le in
    record { meant = some.meant; means = some.means; read = document_again t some.meant some.means few short }

-- ---- what is read

all_sendable : (n : ℕ) (ts : ElementTrees) (texted : Bool) → AreExpanded n texted ts → AreSendable texted ts
all_sendable n no_trees texted h = tt
all_sendable zero (tree_then (element m p s a c) ts) texted h = absurd h.0
all_sendable (suc n) (tree_then (element m p s a c) ts) texted h = ((h.0.0, (as_read h.0.1.0 h.0.1.1.0, all_sendable n c false h.0.1.1.1)), all_sendable (suc n) ts false h.1)
all_sendable n (tree_then (text bytes) ts) true h = absurd h
all_sendable n (tree_then (text []) ts) false h = absurd h
all_sendable n (tree_then (text (b ∷ bs)) ts) false h = (h.0, all_sendable n ts true h.1)

pub expanded_is_sendable : ExpandedIsSendable
expanded_is_sendable zero (element m p s a c) h = absurd h
expanded_is_sendable zero (text bytes) h = absurd h
expanded_is_sendable (suc n) (text bytes) h = absurd h
expanded_is_sendable (suc n) (element m p s a c) h = (h.0, (as_read h.1.0 h.1.1.0, all_sendable n c false h.1.1.1))

pub read_is_sendable : ReadIsSendable
read_is_sendable bytes t e = expanded_is_sendable 64 t (read_is_expanded bytes t e)
