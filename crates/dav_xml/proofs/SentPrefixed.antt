-- An element that may be sent may be sent under another prefix.
use Rattle.std.proofs.Common.{◌≡◌, ℕ, Bool, true, false, cond, not, ◌||◌, List, [], ◌∷◌, ◌++◌, codes, bytes_eq, Option, Some, None, Result, Ok, Err, refl, sym, ap, subst, ◌∙◌}
use Rattle.std.proofs.lemmas.Bool.{and_parts, and_from, or_parts}
use Rattle.std.specs.List.{AllByRecursion}
use Rattle.dav_core.specs.Element.{ElementTree, element, text, prefix_of, namespace_of, xmlns_name}
use Rattle.dav_xml.specs.declared.error.Fault.{Fault}
use Rattle.dav_xml.specs.declared.error.Fault.TheVariants.{Malformed}
use Rattle.dav_xml.specs.Read.{◌>>=◌}
use Rattle.dav_xml.specs.References.{utf8}
use Rattle.dav_xml.specs.Legal.{IsLegal, IsLegalName, IsLegalAttribute, IsLegalIfAny}
use Rattle.dav_xml.specs.Scopes.{Scope, xml_uri, uri_of, may_declare, declared_by}
use Rattle.dav_xml.specs.Namespaces.{declared_uri, namespace_of as uri_named, has_attribute, are_distinct, has_prefix, Kept, within, kept_after}
use Rattle.dav_xml.specs.Written.{or_empty, known}
use Rattle.dav_xml.specs.Expanded.{IsPlain, IsDeclarable, IsExpandedName, AreKept, IsDeclaration}
use Rattle.dav_xml.specs.Sendable.{IsKnownPrefix, IsSendableAs, as_read, own_declared, known_prefix, IsSendable}
use Rattle.dav_xml.specs.Prefixed.{is_under, not_under, own_declaration, namespace_under, scope_under, kept_under, attributes_or_none, renamed, PrefixedIsSendable}
use Rattle.dav_xml.proofs.Escapes.{by_test}
use Rattle.dav_xml.proofs.Legal.{legal_utf8}
use Rattle.dav_xml.proofs.LegalTrees.{legal_word}
use Rattle.dav_xml.proofs.Declared.{bytes_same, declared_if, nonempty, uri_here}
use Rattle.dav_xml.proofs.KeptAgain.{goes_on, all_fresh}
use Rattle.dav_xml.proofs.PlainNames.{of_plain, declaring_name}
use Rattle.dav_xml.proofs.RoundTrip.{prefix_plain}
use Rattle.dav_xml.proofs.ReadTrees.{within_declarable, both_legal}
use Rattle.dav_xml.proofs.CleanTokens.{HasValue, bound}
use Rattle.dav_xml.proofs.ReadLegal.{HaveValues, within_legal, kept_legal}

-- ---- attributes that don't have the prefix

all_under : (P : List ℕ × List ℕ → Type 0) (prefix : List ℕ) (bs : List (List ℕ × List ℕ)) → AllByRecursion P bs → AllByRecursion P (not_under prefix bs)
all_under P prefix [] h = tt
all_under P prefix (a ∷ others) h =
    by_test (is_under prefix a.0) (λ t. AllByRecursion P (cond t (not_under prefix others) (a ∷ not_under prefix others))) (λ e. all_under P prefix others h.1) (λ e. (h.0, all_under P prefix others h.1))

none_under : (name prefix : List ℕ) (bs : List (List ℕ × List ℕ)) → has_attribute name bs ≡ false → has_attribute name (not_under prefix bs) ≡ false
none_under name prefix [] h = refl
none_under name prefix (a ∷ others) h =
    let parts = or_parts (bytes_eq a.0 name) (has_attribute name others) h in
    let more = none_under name prefix others parts.1 in
    by_test (is_under prefix a.0) (λ t. has_attribute name (cond t (not_under prefix others) (a ∷ not_under prefix others)) ≡ false) (λ e. more) (λ e. ap (λ (t : Bool). t || has_attribute name (not_under prefix others)) parts.0 ∙ more)

distinct_under : (prefix : List ℕ) (bs : List (List ℕ × List ℕ)) → are_distinct bs ≡ true → are_distinct (not_under prefix bs) ≡ true
distinct_under prefix [] h = refl
distinct_under prefix (a ∷ others) h =
    let parts = and_parts (not (has_attribute a.0 others)) (are_distinct others) h in
    let more = distinct_under prefix others parts.1 in
    let apart : not (has_attribute a.0 (not_under prefix others)) ≡ true = ap (λ (t : Bool). not t) (none_under a.0 prefix others (turned (has_attribute a.0 others) parts.0)) in
    by_test (is_under prefix a.0) (λ t. are_distinct (cond t (not_under prefix others) (a ∷ not_under prefix others)) ≡ true) (λ e. more)
    (λ e. and_from (not (has_attribute a.0 (not_under prefix others))) (are_distinct (not_under prefix others)) apart more)
  where
    turned : (t : Bool) → not t ≡ true → t ≡ false
    turned true e = absurd cc
    turned false e = refl

all_joined : (P : List ℕ × List ℕ → Type 0) (xs ys : List (List ℕ × List ℕ)) → AllByRecursion P xs → AllByRecursion P ys → AllByRecursion P (xs ++ ys)
all_joined P [] ys h k = k
all_joined P (x ∷ xs) ys h k = (h.0, all_joined P xs ys h.1 k)

-- ---- the element before

-- what an element that may be sent has
record Before (prefix namespace : Option (List ℕ)) (attributes : List (List ℕ × List ℕ)) : Type 0 where
  pub distinct : are_distinct attributes ≡ true
  pub legal : AllByRecursion IsLegalAttribute attributes
  pub own : AllByRecursion IsDeclarable (own_declaration prefix namespace)
  pub space : IsLegalIfAny namespace

own_declarable : (prefix namespace : Option (List ℕ)) → IsExpandedName prefix namespace → AllByRecursion IsDeclarable (own_declaration prefix namespace)
own_declarable None namespace h = tt
own_declarable (Some p) None h = tt
own_declarable (Some p) (Some uri) h = (h.1.0, tt)

space_legal : (prefix namespace : Option (List ℕ)) → IsExpandedName prefix namespace → IsLegalIfAny namespace
space_legal None None h = tt
space_legal None (Some []) h = absurd h
space_legal None (Some (b ∷ uri)) h = h.1
space_legal (Some p) None h = tt
space_legal (Some p) (Some uri) h = h.1.1

all_declarations : (bs : List (List ℕ × List ℕ)) → AllByRecursion IsDeclaration bs → AllByRecursion IsLegalAttribute bs
all_declarations [] h = tt
all_declarations (a ∷ others) h = (h.0.legal, all_declarations others h.1)

declared_before : (prefix : Option (List ℕ)) (uri : List ℕ) → IsExpandedName prefix (Some uri) → Before prefix (Some uri) ((xmlns_name (or_empty prefix), uri) ∷ [])
declared_before prefix uri h =
    let legal : IsLegalIfAny (Some uri) = space_legal prefix (Some uri) h in
    record {
      distinct = refl;
      legal = (record { name = declaring_name prefix (prefix_plain prefix (Some uri) h); value = legal }, tt);
      own = own_declarable prefix (Some uri) h;
      space = legal;
    }

before : (prefix namespace : Option (List ℕ)) (attributes : List (List ℕ × List ℕ)) → IsSendableAs prefix namespace attributes → Before prefix namespace attributes
before prefix namespace attributes (as_read h k) = record { distinct = k.distinct; legal = k.legal; own = own_declarable prefix namespace h; space = space_legal prefix namespace h }
before prefix namespace attributes (own_declared uri h is are) =
    subst (λ (n : Option (List ℕ)). Before prefix n attributes) (sym is) (subst (λ (bs : List (List ℕ × List ℕ)). Before prefix (Some uri) bs) (sym are) (declared_before prefix uri h))
before prefix namespace attributes (known_prefix own k is none all distinct) =
    subst (λ (n : Option (List ℕ)). Before prefix n attributes) (sym none)
    (subst (λ (p : Option (List ℕ)). Before p None attributes) (sym is) (record { distinct = distinct; legal = all_declarations attributes all; own = tt; space = tt }))

own_values : (prefix namespace : Option (List ℕ)) → IsLegalIfAny namespace → HaveValues (own_declaration prefix namespace)
own_values None namespace h = tt
own_values (Some p) None h = tt
own_values (Some p) (Some uri) h = (h, tt)

values : (bs : List (List ℕ × List ℕ)) → AllByRecursion IsLegalAttribute bs → HaveValues bs
values [] h = tt
values (a ∷ others) h = (h.0.value, values others h.1)

-- ---- the new prefix

plain_utf8 : (p : List ℕ) → IsPlain p → utf8 p ≡ Ok p
plain_utf8 p plain = ap (λ (t : Bool). cond {A = Result (List ℕ) Fault} t (Ok p) (Err Malformed)) (legal_utf8 p (of_plain p plain).legal.legal)

declarable_by : (p uri : List ℕ) → IsPlain p → may_declare p uri ≡ true → IsDeclarable (p, uri)
declarable_by [] uri plain may = absurd (nonempty [] [] plain refl)
declarable_by (b ∷ p) uri plain may = record {
  declared = ap (λ (r : Result (List ℕ) Fault). r >>= λ q. declared_if (may_declare q uri) q uri) (plain_utf8 (b ∷ p) plain) ∙ ap (λ (t : Bool). declared_if t (b ∷ p) uri) may;
}

-- a prefix that may be declared with a namespace, of legal characters
record IsFit (prefix uri : List ℕ) : Type 0 where
  pub declarable : IsDeclarable (prefix, uri)
  pub legal : IsLegal uri

fits : (prefix : List ℕ) (namespace : Option (List ℕ)) → IsKnownPrefix prefix → IsLegalIfAny namespace → IsFit prefix (namespace_under prefix namespace)
fits prefix None k h = record { declarable = k.declarable; legal = k.legal }
fits prefix (Some uri) k h =
    by_test (may_declare prefix uri) (λ t. IsFit prefix (cond t uri (known prefix))) (λ e. record { declarable = declarable_by prefix uri k.plain e; legal = h }) (λ e. record { declarable = k.declarable; legal = k.legal })

abbrev Declared : Type 0
Declared = Result (Option (List ℕ × List ℕ)) Fault

abbrev refused : Declared
refused = Err Malformed

apart : (d : List ℕ × List ℕ) → refused ≡ Ok (Some d) → ⊥
apart d e = absurd cc

-- no namespace but its own may be declared for `xml`
pub not_xml : (prefix : List ℕ) → IsKnownPrefix prefix → bytes_eq prefix (codes "xml") ≡ false
not_xml prefix k = by_test (bytes_eq prefix (codes "xml")) (λ t. bytes_eq prefix (codes "xml") ≡ t → bytes_eq prefix (codes "xml") ≡ false)
    (λ is e. absurd (never (subst (λ (p : List ℕ). IsDeclarable (p, known p)) (bytes_same prefix (codes "xml") is) k.declarable))) (λ other e. e) refl
  where
    never : IsDeclarable (codes "xml", known (codes "xml")) → ⊥
    never d =
        let text : utf8 (codes "xml") ≡ Ok (codes "xml") = ap (λ (t : Bool). cond {A = Result (List ℕ) Fault} t (Ok (codes "xml")) (Err Malformed)) (legal_utf8 (codes "xml") (legal_word (codes "xml") refl)) in
        let none : declared_by (xmlns_name (codes "xml"), known (codes "xml")) ≡ refused = ap (λ (r : Result (List ℕ) Fault). r >>= λ q. declared_if (may_declare q (known (codes "xml"))) q (known (codes "xml"))) text in
        absurd (apart (codes "xml", known (codes "xml")) (sym none ∙ d.declared))

named_in : (scope : Scope) (prefix uri : List ℕ) → bytes_eq prefix (codes "xml") ≡ false → uri_of prefix scope ≡ Some uri → uri_named scope (Some prefix) ≡ Ok (Some uri)
named_in scope prefix uri other here =
    ap (λ (t : Bool). cond {A = Result (List ℕ) Fault} t (Ok xml_uri) (declared_uri (uri_of prefix scope)) >>= λ u. Ok (Some u)) other
    ∙ ap (λ (o : Option (List ℕ)). declared_uri o >>= λ u. Ok (Some u)) here

-- ---- the attributes that are kept

module _ (prefix uri : List ℕ) (own namespace : Option (List ℕ)) (attributes : List (List ℕ × List ℕ)) (k : IsKnownPrefix prefix) (fit : IsFit prefix uri) (b : Before own namespace attributes) where
  none_kept : AreKept (Some prefix) (Some uri) []
  none_kept = record {
    scope = (prefix, uri) ∷ [];
    given = [];
    names = [];
    declarable = (fit.declarable, tt);
    own = named_in ((prefix, uri) ∷ []) prefix uri (not_xml prefix k) (uri_here prefix uri []);
    kept = refl;
    distinct = refl;
    legal = tt;
  }

  some_kept : (inner : Scope) (kept : Kept) → within [] attributes ≡ Ok inner → kept_after (scope_under prefix uri own namespace inner) (Some prefix) ([], []) (not_under prefix attributes) ≡ Ok kept
      → AreKept (Some prefix) (Some uri) kept.0
  some_kept inner kept first next =
      let scope = scope_under prefix uri own namespace inner in
      let front = inner ++ own_declaration own namespace in
      let declarable : AllByRecursion IsDeclarable scope = all_joined IsDeclarable front ((prefix, uri) ∷ []) (all_joined IsDeclarable inner (own_declaration own namespace) (within_declarable attributes [] inner tt first) b.own) (fit.declarable, tt) in
      let given : HaveValues attributes = values attributes b.legal in
      let legal : HaveValues scope = all_joined HasValue front ((prefix, uri) ∷ []) (all_joined HasValue inner (own_declaration own namespace) (within_legal attributes [] inner tt given first) (own_values own namespace b.space)) (fit.legal, tt) in
      let on = goes_on scope (Some prefix) kept.0 kept.1 declarable (not_under prefix attributes) [] [] next in
      record {
        scope = scope;
        given = not_under prefix attributes;
        names = kept.1;
        declarable = declarable;
        own = named_in scope prefix uri (not_xml prefix k) (uri_here prefix uri front);
        kept = next;
        distinct = on.distinct refl (all_fresh (not_under prefix attributes)) (distinct_under prefix attributes b.distinct);
        legal = both_legal kept.0 (subst (AllByRecursion (λ a. IsLegalName a.0)) (sym on.split) on.named) (kept_legal (not_under prefix attributes) scope (Some prefix) ([], []) kept legal tt (all_under HasValue prefix attributes given) next);
      }

  by_kept : (r : Result Kept Fault) → kept_under prefix uri own namespace attributes ≡ r → AreKept (Some prefix) (Some uri) (attributes_or_none r)
  by_kept (Err f) e = none_kept
  by_kept (Ok kept) e =
      let one = bound (within [] attributes) (λ inner. kept_after (scope_under prefix uri own namespace inner) (Some prefix) ([], []) (not_under prefix attributes)) kept e in
      some_kept one.value kept one.first one.next

  all_kept : AreKept (Some prefix) (Some uri) (attributes_or_none (kept_under prefix uri own namespace attributes))
  all_kept = by_kept (kept_under prefix uri own namespace attributes) refl

pub renamed_sendable : (prefix : List ℕ) (e : ElementTree) → IsKnownPrefix prefix → IsSendable e → IsSendable (renamed prefix (namespace_under prefix (namespace_of e)) e)
renamed_sendable prefix (text bytes) k h = absurd h
renamed_sendable prefix (element m p s a c) k h =
    let b = before p s a h.1.0 in
    let fit = fits prefix s k b.space in
    (h.0, (as_read (k.plain, (fit.declarable, fit.legal)) (all_kept prefix (namespace_under prefix s) p s a k fit b), h.1.1))

pub prefixed_is_sendable : PrefixedIsSendable
prefixed_is_sendable prefix e k h =
    by_test (has_prefix (prefix_of e) prefix) (λ t. IsSendable (cond t e (renamed prefix (namespace_under prefix (namespace_of e)) e))) (λ is. h) (λ other. renamed_sendable prefix e k h)
