-- Prefixes and their declarations.
use Rattle.std.proofs.Common.{◌≡◌, ℕ, Bool, true, false, cond, ◌==◌, List, [], ◌∷◌, ◌++◌, codes, bytes_eq, Option, Some, None, Result, Ok, Err, refl, sym, ap, subst, ◌∙◌}
use Rattle.std.proofs.lemmas.Bool.{eqb-true, and_parts, false_from_ne_true}
use Rattle.std.specs.List.{AllByRecursion}
use Rattle.std.proofs.lemmas.Str.{chars-nil}
use Rattle.dav_core.specs.Element.{xmlns_name}
use Rattle.dav_xml.specs.declared.error.Fault.{Fault}
use Rattle.dav_xml.specs.declared.error.Fault.TheVariants.{Malformed}
use Rattle.dav_xml.specs.Read.{◌>>=◌}
use Rattle.dav_xml.specs.Bytes.{after_text, split_byte}
use Rattle.dav_xml.specs.Markup.{first_or}
use Rattle.dav_xml.specs.References.{utf8}
use Rattle.dav_xml.specs.Names.{are_plain, is_plain, plain_name}
use Rattle.dav_xml.specs.Scopes.{Scope, xml_uri, uri_after, uri_of, is_bound, may_declare, default_declared, prefix_declared, declared_by}
use Rattle.dav_xml.specs.Namespaces.{name_parts, qualified, declared_uri, uri_in, declaring}
use Rattle.dav_xml.specs.Written.{declared_prefix}
use Rattle.dav_xml.specs.Expanded.{IsDeclarable}
use Rattle.dav_xml.proofs.Nested.{same_bytes}
use Rattle.dav_xml.proofs.Escapes.{by_test}

pub bytes_same : (xs ys : List ℕ) → bytes_eq xs ys ≡ true → xs ≡ ys
bytes_same [] [] e = refl
bytes_same [] (y ∷ ys) e = absurd cc
bytes_same (x ∷ xs) [] e = absurd cc
bytes_same (x ∷ xs) (y ∷ ys) e =
    let parts = and_parts (x == y) (bytes_eq xs ys) e in
    ap (λ (c : ℕ). c ∷ xs) (eqb-true x y parts.0) ∙ ap (λ (zs : List ℕ). y ∷ zs) (bytes_same xs ys parts.1)

pub bytes_differ : (xs ys : List ℕ) → (xs ≡ ys → ⊥) → bytes_eq xs ys ≡ false
bytes_differ xs ys n = false_from_ne_true (bytes_eq xs ys) (λ e. n (bytes_same xs ys e))

pub bytes_other : (xs ys : List ℕ) → bytes_eq xs ys ≡ false → xs ≡ ys → ⊥
bytes_other xs ys e is =
    let both : false ≡ true = sym e ∙ ap (bytes_eq xs) (sym is) ∙ same_bytes xs in
    absurd cc

pub bytes_turned : (xs ys : List ℕ) → bytes_eq xs ys ≡ false → bytes_eq ys xs ≡ false
bytes_turned xs ys e = bytes_differ ys xs (λ is. bytes_other xs ys e (sym is))

abbrev pub ok_or_else : {A : Type 0} → A → Result A Fault → A
ok_or_else other (Ok x) = x
ok_or_else other (Err f) = other

-- ---- scopes

uri_after_more : (found : Option (List ℕ)) (prefix : List ℕ) (scope : Scope) (d : List ℕ × List ℕ) → uri_after found prefix (scope ++ d ∷ []) ≡ cond (bytes_eq d.0 prefix) (Some d.1) (uri_after found prefix scope)
uri_after_more found prefix [] d = refl
uri_after_more found prefix (e ∷ es) d = uri_after_more (cond (bytes_eq e.0 prefix) (Some e.1) found) prefix es d

pub uri_here : (prefix uri : List ℕ) (scope : Scope) → uri_of prefix (scope ++ (prefix, uri) ∷ []) ≡ Some uri
uri_here prefix uri scope = uri_after_more None prefix scope (prefix, uri) ∙ ap (λ (t : Bool). cond t (Some uri) (uri_of prefix scope)) (same_bytes prefix)

pub uri_there : (prefix other uri : List ℕ) (scope : Scope) → bytes_eq other prefix ≡ false → uri_of prefix (scope ++ (other, uri) ∷ []) ≡ uri_of prefix scope
uri_there prefix other uri scope e = uri_after_more None prefix scope (other, uri) ∙ ap (λ (t : Bool). cond t (Some uri) (uri_of prefix scope)) e

-- what is found was declared
pub found_declarable : (scope : Scope) (found : Option (List ℕ)) (prefix uri : List ℕ) → AllByRecursion IsDeclarable scope → ((u : List ℕ) → found ≡ Some u → IsDeclarable (prefix, u))
    → uri_after found prefix scope ≡ Some uri → IsDeclarable (prefix, uri)
found_declarable [] found prefix uri h before e = before uri e
found_declarable (d ∷ ds) found prefix uri h before e =
    found_declarable ds (cond (bytes_eq d.0 prefix) (Some d.1) found) prefix uri h.1 (by_test (bytes_eq d.0 prefix) (λ t. (u : List ℕ) → cond t (Some d.1) found ≡ Some u → IsDeclarable (prefix, u))
    (λ is u eu. let same : d ≡ (prefix, u) = pair_is d prefix u (bytes_same d.0 prefix is) eu in subst IsDeclarable same h.0) (λ other u eu. before u eu)) e
  where
    pair_is : (d : List ℕ × List ℕ) (prefix u : List ℕ) → d.0 ≡ prefix → Some d.1 ≡ Some u → d ≡ (prefix, u)
    pair_is (x, y) prefix u e f =
        let same : y ≡ u = cc in
        ap (λ (t : List ℕ). (t, y)) e ∙ ap (λ (t : List ℕ). (prefix, t)) same

-- ---- names of declarations

pub plain_some : (b : ℕ) (prefix : List ℕ) → declaring (b ∷ prefix) ≡ xmlns_name (b ∷ prefix)
plain_some b prefix = refl

pub prefix_declares : (prefix : List ℕ) → declared_prefix (xmlns_name prefix) ≡ Some prefix
prefix_declares [] = refl
prefix_declares (b ∷ prefix) = refl

abbrev declared_as : List ℕ → List ℕ → Result (Option (List ℕ × List ℕ)) Fault
declared_as p uri = cond (may_declare p uri) (Ok (Some (p, uri))) (Err Malformed)

abbrev pub declared_if : Bool → List ℕ → List ℕ → Result (Option (List ℕ × List ℕ)) Fault
declared_if t p uri = cond t (Ok (Some (p, uri))) (Err Malformed)

-- an attribute that declares nothing
pub declares_nothing : (a : List ℕ × List ℕ) → declared_by a ≡ Ok None → declared_prefix a.0 ≡ None
declares_nothing a h =
    by_test (bytes_eq a.0 (codes "xmlns")) (λ t. cond t (default_declared a.1) (first_or (after_text (codes "xmlns:") a.0) (λ prefix. prefix_declared prefix a.1) (Ok None)) ≡ Ok None → cond t (Some []) (after_text (codes "xmlns:") a.0) ≡ None)
    (λ e k. absurd (default_none (is_bound a.1) a.1 k)) (λ e k. behind (after_text (codes "xmlns:") a.0) a.1 k) h
  where
    default_none : (t : Bool) (uri : List ℕ) → cond {A = Result (Option (List ℕ × List ℕ)) Fault} t (Err Malformed) (Ok (Some ([], uri))) ≡ Ok None → ⊥
    default_none true uri k = absurd cc
    default_none false uri k = absurd cc

    never : (r : Result (List ℕ) Fault) (uri : List ℕ) → (r >>= λ p. declared_as p uri) ≡ Ok None → ⊥
    never (Err f) uri k = absurd cc
    never (Ok p) uri k = by_test (may_declare p uri) (λ t. declared_if t p uri ≡ Ok None → ⊥) (λ e j. absurd cc) (λ e j. absurd cc) k

    behind : (o : Option (List ℕ)) (uri : List ℕ) → first_or o (λ prefix. prefix_declared prefix uri) (Ok None) ≡ Ok None → o ≡ None
    behind None uri k = refl
    behind (Some p) uri k = absurd (never (utf8 p) uri k)

-- ---- names

plain_by : (read : Result (List ℕ) Fault) (name : List ℕ) → (read >>= λ found. cond (is_plain found) (Ok found) (Err Malformed)) ≡ Ok name → is_plain name ≡ true
plain_by (Err f) name h = absurd cc
plain_by (Ok found) name h = by_test (is_plain found) (λ t. is_plain found ≡ t → cond {A = Result (List ℕ) Fault} t (Ok found) (Err Malformed) ≡ Ok name → is_plain name ≡ true)
    (λ e is k. let same : found ≡ name = cc in ap is_plain (sym same) ∙ e) (λ e is k. absurd cc) refl h

pub name_is_plain : (bytes name : List ℕ) → plain_name bytes ≡ Ok name → is_plain name ≡ true
name_is_plain bytes name h = plain_by (utf8 bytes) name h

pub nonempty : (bytes name : List ℕ) → plain_name bytes ≡ Ok name → name ≡ [] → ⊥
nonempty bytes name h e =
    let both : true ≡ false = sym (name_is_plain bytes name h) ∙ ap is_plain e ∙ ap are_plain chars-nil in
    absurd cc

abbrev pub name_ok : Option (List ℕ) → List ℕ → Result (Option (List ℕ) × List ℕ) Fault
name_ok prefix local = Ok (prefix, local)

prefix_by : (name : List ℕ) (parts : Option (List ℕ × List ℕ)) (q local : List ℕ) → name_parts name parts ≡ Ok (Some q, local) → q ≡ [] → ⊥
prefix_by name None q local h e = none (plain_name name) h
  where
    none : (r : Result (List ℕ) Fault) → (r >>= λ found. name_ok None found) ≡ Ok (Some q, local) → ⊥
    none (Err f) k = absurd cc
    none (Ok found) k = let both : None ≡ Some q = ap (λ (r : Result (Option (List ℕ) × List ℕ) Fault). (ok_or_else (None, found) r).0) k in absurd cc
prefix_by name (Some p) q local h e = some (plain_name p.0) refl h
  where
    later : (prefix : List ℕ) (r : Result (List ℕ) Fault) → (r >>= λ found. name_ok (Some prefix) found) ≡ Ok (Some q, local) → prefix ≡ q
    later prefix (Err f) k = absurd cc
    later prefix (Ok found) k = let both : Some prefix ≡ Some q = ap (λ (r : Result (Option (List ℕ) × List ℕ) Fault). (ok_or_else (None, found) r).0) k in cc

    some : (r : Result (List ℕ) Fault) → plain_name p.0 ≡ r → (r >>= λ prefix. plain_name p.1 >>= λ found. name_ok (Some prefix) found) ≡ Ok (Some q, local) → ⊥
    some (Err f) is k = absurd cc
    some (Ok prefix) is k = nonempty p.0 prefix is (later prefix (plain_name p.1) k ∙ e)

pub prefix_nonempty : (name q local : List ℕ) → qualified name ≡ Ok (Some q, local) → q ≡ [] → ⊥
unfolding qualified
prefix_nonempty name q local h e = prefix_by name (split_byte 58 name) q local h e

pub declaring_is : (q : List ℕ) → (q ≡ [] → ⊥) → declaring q ≡ xmlns_name q
declaring_is [] n = absurd (n refl)
declaring_is (b ∷ q) n = refl

-- a prefix other than `xml` is found in the scope
pub found_of : (scope : Scope) (q uri : List ℕ) → bytes_eq q (codes "xml") ≡ false → uri_in scope q ≡ Ok uri → uri_of q scope ≡ Some uri
found_of scope q uri e h = by (uri_of q scope) (sym (ap (λ (t : Bool). cond t (Ok xml_uri) (declared_uri (uri_of q scope))) e) ∙ h)
  where
    by : (o : Option (List ℕ)) → declared_uri o ≡ Ok uri → o ≡ Some uri
    by None k = absurd cc
    by (Some u) k = cc

pub uri_in_by : (s1 s2 : Scope) (q : List ℕ) → uri_of q s2 ≡ uri_of q s1 → uri_in s2 q ≡ uri_in s1 q
uri_in_by s1 s2 q e = ap (λ (o : Option (List ℕ)). cond (bytes_eq q (codes "xml")) (Ok xml_uri) (declared_uri o)) e

pub uri_in_from : (s1 s2 : Scope) (q uri : List ℕ) → uri_of q s2 ≡ Some uri → uri_in s1 q ≡ Ok uri → uri_in s2 q ≡ Ok uri
uri_in_from s1 s2 q uri here h =
    ap (λ (o : Option (List ℕ)). cond (bytes_eq q (codes "xml")) (Ok xml_uri) (declared_uri o)) here ∙ by_test (bytes_eq q (codes "xml"))
    (λ t. cond {A = Result (List ℕ) Fault} t (Ok xml_uri) (declared_uri (uri_of q s1)) ≡ Ok uri → cond {A = Result (List ℕ) Fault} t (Ok xml_uri) (Ok uri) ≡ Ok uri) (λ e k. k) (λ e k. refl) h
