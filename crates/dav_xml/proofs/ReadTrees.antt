-- Trees that are read have expanded names.
use Rattle.std.proofs.Common.{◌≡◌, ℕ, zero, suc, Bool, true, false, cond, not, ◌&&◌, ◌==◌, ltb, List, [], ◌∷◌, ◌++◌, length, codes, bytes_eq, Option, Some, None, Result, Ok, Err, refl, sym, ap, subst, ◌∙◌, append_assoc}
use Rattle.std.proofs.lemmas.List.{append-nil}
use Rattle.std.proofs.lemmas.Bool.{eqb-true, and_right}
use Rattle.std.proofs.lemmas.Str.{chars-nil}
use Rattle.std.specs.List.{AllByRecursion}
use Rattle.std.specs.Str.Lossy.{utf8_valid_len}
use Rattle.dav_core.specs.Element.{ElementTree, ElementTrees, element, text, trees, no_trees, tree_then, xmlns_name}
use Rattle.dav_xml.specs.declared.error.Fault.{Fault}
use Rattle.dav_xml.specs.declared.error.Fault.TheVariants.{Malformed, TooLarge}
use Rattle.dav_xml.specs.Read.{◌>>=◌}
use Rattle.dav_xml.specs.Bytes.{after_text}
use Rattle.dav_xml.specs.Markup.{first_or}
use Rattle.dav_xml.specs.References.{utf8}
use Rattle.dav_xml.specs.Names.{is_plain, are_plain}
use Rattle.dav_xml.specs.Legal.{IsLegal, IsLegalName, IsLegalAttribute, HasLegalTexts, HaveLegalTexts, IsLegalIfAny}
use Rattle.dav_xml.specs.Flat.{IsRaw, AreRaw}
use Rattle.dav_xml.specs.Scopes.{Scope, xml_uri, uri_of, is_bound, may_declare, default_declared, prefix_declared, declared_by}
use Rattle.dav_xml.specs.Namespaces.{qualified, default_of, declared_uri, uri_in, namespace_of, are_distinct, with_declared, within, few, inside, Kept, kept_after, expanded, expanded_tree, expanded_after}
use Rattle.dav_xml.specs.Expanded.{IsPlain, IsDeclarable, IsExpandedName, AreKept, IsExpanded, AreExpanded}
use Rattle.dav_xml.proofs.Escapes.{by_test}
use Rattle.dav_xml.proofs.Nested.{same_bytes}
use Rattle.dav_xml.proofs.LegalTrees.{legal_word}
use Rattle.dav_xml.proofs.Legal.{legal_utf8}
use Rattle.dav_xml.proofs.Declared.{ok_or_else, declared_if, bytes_same, found_of, found_declarable}
use Rattle.dav_xml.proofs.KeptAgain.{goes_on, all_fresh}
use Rattle.dav_xml.proofs.QualifiedNames.{of_qualified}

-- ---- declarations

pub after_joined : (ws bs rest : List ℕ) → after_text ws bs ≡ Some rest → bs ≡ ws ++ rest
after_joined [] bs rest e = cc
after_joined (w ∷ ws) [] rest e = absurd cc
after_joined (w ∷ ws) (b ∷ bs) rest e = by_test (b == w) (λ t. (b == w) ≡ t → cond t (after_text ws bs) None ≡ Some rest → (b ∷ bs) ≡ w ∷ (ws ++ rest))
    (λ is k j. ap (λ (x : ℕ). x ∷ bs) (eqb-true b w is) ∙ ap (λ (xs : List ℕ). w ∷ xs) (after_joined ws bs rest j)) (λ other k j. absurd cc) refl e

abbrev Declared : Type 0
Declared = Result (Option (List ℕ × List ℕ)) Fault

abbrev pair_or : List ℕ × List ℕ → Declared → List ℕ × List ℕ
pair_or other (Ok (Some p)) = p
pair_or other (Ok None) = other
pair_or other (Err f) = other

abbrev some_declared : List ℕ × List ℕ → Declared
some_declared d = Ok (Some d)

same_pair : (d e : List ℕ × List ℕ) → some_declared d ≡ some_declared e → d ≡ e
same_pair d e h = ap (pair_or d) h

abbrev pub declaration_of : List ℕ × List ℕ → List ℕ × List ℕ
declaration_of d = (xmlns_name d.0, d.1)

not_nothing : (uri : List ℕ) → may_declare [] uri ≡ false
not_nothing uri =
    let none : is_plain [] ≡ false = ap are_plain chars-nil in
    ap (λ (t : Bool). (not (bytes_eq [] (codes "xmlns")) && not (is_bound uri)) && (not (length uri == 0) && t)) none
    ∙ ap (λ (t : Bool). (not (bytes_eq [] (codes "xmlns")) && not (is_bound uri)) && t) (and_right (not (length uri == 0)) false refl)
    ∙ and_right (not (bytes_eq [] (codes "xmlns")) && not (is_bound uri)) false refl

pub utf8_same : (bytes p : List ℕ) → utf8 bytes ≡ Ok p → bytes ≡ p
utf8_same bytes p h = by_test (utf8_valid_len bytes == length bytes) (λ t. cond {A = Result (List ℕ) Fault} t (Ok bytes) (Err Malformed) ≡ Ok p → bytes ≡ p) (λ e k. ap (ok_or_else []) k) (λ e k. absurd cc) h

-- a prefix that is declared
prefix_is : (rest uri : List ℕ) (d : List ℕ × List ℕ) (r : Result (List ℕ) Fault) → utf8 rest ≡ r → (r >>= λ p. declared_if (may_declare p uri) p uri) ≡ some_declared d → (rest, uri) ≡ d
prefix_is rest uri d (Err f) is h = absurd cc
prefix_is rest uri d (Ok p) is h = by_test (may_declare p uri) (λ t. declared_if t p uri ≡ some_declared d → (rest, uri) ≡ d)
    (λ e k. ap (λ (x : List ℕ). (x, uri)) (utf8_same rest p is) ∙ same_pair (p, uri) d k) (λ e k. absurd cc) h

prefix_some : (uri : List ℕ) (d : List ℕ × List ℕ) (r : Result (List ℕ) Fault) → utf8 [] ≡ r → (r >>= λ p. declared_if (may_declare p uri) p uri) ≡ some_declared d → ⊥
prefix_some uri d (Err f) is h = absurd cc
prefix_some uri d (Ok p) is h =
    let never : declared_if (may_declare p uri) p uri ≡ Err Malformed = ap (λ (t : Bool). declared_if t p uri) (ap (λ (x : List ℕ). may_declare x uri) (sym (utf8_same [] p is)) ∙ not_nothing uri) in
    let both : Err Malformed ≡ some_declared d = sym never ∙ h in
    absurd cc

behind_prefix : (a d : List ℕ × List ℕ) (rest : List ℕ) → a.0 ≡ codes "xmlns:" ++ rest → prefix_declared rest a.1 ≡ some_declared d → a ≡ declaration_of d
behind_prefix a d [] e h = absurd (prefix_some a.1 d (utf8 []) refl h)
behind_prefix a d (b ∷ rest) e h = ap (λ (n : List ℕ). (n, a.1)) e ∙ ap declaration_of (prefix_is (b ∷ rest) a.1 d (utf8 (b ∷ rest)) refl h)

by_prefix : (a d : List ℕ × List ℕ) (o : Option (List ℕ)) → after_text (codes "xmlns:") a.0 ≡ o → first_or o (λ prefix. prefix_declared prefix a.1) (Ok None) ≡ some_declared d → a ≡ declaration_of d
by_prefix a d None is h = absurd cc
by_prefix a d (Some rest) is h = behind_prefix a d rest (after_joined (codes "xmlns:") a.0 rest is) h

by_default : (a d : List ℕ × List ℕ) → a.0 ≡ codes "xmlns" → default_declared a.1 ≡ some_declared d → a ≡ declaration_of d
by_default a d e h = ap (λ (n : List ℕ). (n, a.1)) e ∙ by_test (is_bound a.1) (λ t. cond {A = Declared} t (Err Malformed) (Ok (Some ([], a.1))) ≡ some_declared d → (codes "xmlns", a.1) ≡ declaration_of d)
    (λ f k. absurd cc) (λ f k. ap declaration_of (same_pair ([], a.1) d k)) h

pub declaration_is : (a d : List ℕ × List ℕ) → declared_by a ≡ some_declared d → a ≡ declaration_of d
declaration_is a d h =
    by_test (bytes_eq a.0 (codes "xmlns")) (λ t. bytes_eq a.0 (codes "xmlns") ≡ t → cond {A = Declared} t (default_declared a.1) (first_or (after_text (codes "xmlns:") a.0) (λ prefix. prefix_declared prefix a.1) (Ok None)) ≡ some_declared d → a ≡ declaration_of d)
    (λ e k j. by_default a d (bytes_same a.0 (codes "xmlns") e) j) (λ e k j. by_prefix a d (after_text (codes "xmlns:") a.0) refl j) refl h

declarable : (a d : List ℕ × List ℕ) → declared_by a ≡ some_declared d → IsDeclarable d
declarable a d h = record { declared = ap declared_by (sym (declaration_is a d h)) ∙ h }

all_and : (scope : Scope) (d : List ℕ × List ℕ) → AllByRecursion IsDeclarable scope → IsDeclarable d → AllByRecursion IsDeclarable (scope ++ d ∷ [])
all_and [] d h one = (one, tt)
all_and (e ∷ scope) d h one = (h.0, all_and scope d h.1 one)

within_step_of : (scope : Scope) (a : List ℕ × List ℕ) (r : Declared) → declared_by a ≡ r → AllByRecursion IsDeclarable scope → (inner : Scope) (others : List (List ℕ × List ℕ))
    → ((r >>= λ d. Ok (with_declared scope d)) >>= λ s. within s others) ≡ Ok inner → ((next : Scope) → AllByRecursion IsDeclarable next → within next others ≡ Ok inner → AllByRecursion IsDeclarable inner) → AllByRecursion IsDeclarable inner
within_step_of scope a (Err f) is h inner others e rec = absurd cc
within_step_of scope a (Ok None) is h inner others e rec = rec scope h e
within_step_of scope a (Ok (Some d)) is h inner others e rec = rec (scope ++ d ∷ []) (all_and scope d h (declarable a d is)) e

pub within_declarable : (attributes : List (List ℕ × List ℕ)) (scope inner : Scope) → AllByRecursion IsDeclarable scope → within scope attributes ≡ Ok inner → AllByRecursion IsDeclarable inner
within_declarable [] scope inner h e = subst (AllByRecursion IsDeclarable) (ap (ok_or_else scope) e) h
within_declarable (a ∷ others) scope inner h e = within_step_of scope a (declared_by a) refl h inner others e (λ next k j. within_declarable others next inner k j)

-- ---- an element

pub record OfInside (scope : Scope) (attributes : List (List ℕ × List ℕ)) (inner : Scope) : Type 0 where
  pub declared : within scope attributes ≡ Ok inner
  pub distinct : are_distinct attributes ≡ true

abbrev scope_ok : Scope → Result Scope Fault
scope_ok s = Ok s

few_same : (r : Result Scope Fault) (inner : Scope) → (r >>= few) ≡ Ok inner → r ≡ Ok inner
few_same (Err f) inner h = absurd cc
few_same (Ok s) inner h = by_test (ltb 256 (length s)) (λ t. cond {A = Result Scope Fault} t (Err TooLarge) (Ok s) ≡ scope_ok inner → scope_ok s ≡ scope_ok inner) (λ e k. absurd cc) (λ e k. k) h

pub of_inside : (scope : Scope) (attributes : List (List ℕ × List ℕ)) (inner : Scope) → inside scope attributes ≡ Ok inner → OfInside scope attributes inner
of_inside scope attributes inner h =
    by_test (ltb 256 (length attributes)) (λ t. cond {A = Result Scope Fault} t (Err TooLarge) (cond (are_distinct attributes) (within scope attributes >>= few) (Err Malformed)) ≡ Ok inner → OfInside scope attributes inner)
    (λ e k. absurd cc) (λ e k. by_test (are_distinct attributes) (λ t. are_distinct attributes ≡ t → cond {A = Result Scope Fault} t (within scope attributes >>= few) (Err Malformed) ≡ Ok inner → OfInside scope attributes inner)
    (λ f j i. record { declared = few_same (within scope attributes) inner i; distinct = f }) (λ f j i. absurd cc) refl k) h

-- the namespace of a name that is read
read_named : (scope : Scope) (prefix namespace : Option (List ℕ)) → AllByRecursion IsDeclarable scope → ((p : List ℕ) → prefix ≡ Some p → IsPlain p) → namespace_of scope prefix ≡ Ok namespace → IsLegalIfAny namespace → IsExpandedName prefix namespace
read_named scope None namespace h hp e l = default_read (uri_of [] scope) refl namespace (ap (ok_or_else None) e) l
  where
    default_read : (o : Option (List ℕ)) → uri_of [] scope ≡ o → (ns : Option (List ℕ)) → default_of o ≡ ns → IsLegalIfAny ns → IsExpandedName None ns
    default_read None is None k l = tt
    default_read None is (Some u) k l = absurd cc
    default_read (Some []) is None k l = tt
    default_read (Some []) is (Some u) k l = absurd cc
    default_read (Some (b ∷ u)) is None k l = absurd cc
    default_read (Some (b ∷ u)) is (Some []) k l = let both : (b ∷ u) ≡ [] = cc in absurd cc
    default_read (Some (b ∷ u)) is (Some (c ∷ v)) k l = (found_declarable scope None [] (c ∷ v) h (λ x ex. absurd cc) (is ∙ k), l)
read_named scope (Some p) namespace h hp e l = prefix_read (uri_in scope p) refl namespace e l
  where
    xml_declarable : (uri : List ℕ) → uri ≡ xml_uri → IsDeclarable (codes "xml", uri)
    xml_declarable uri is =
        let text : utf8 (codes "xml") ≡ Ok (codes "xml") = ap (λ (t : Bool). cond {A = Result (List ℕ) Fault} t (Ok (codes "xml")) (Err Malformed)) (legal_utf8 (codes "xml") (legal_word (codes "xml") refl)) in
        subst (λ (u : List ℕ). IsDeclarable (codes "xml", u)) (sym is) (record { declared = ap (λ (r : Result (List ℕ) Fault). r >>= λ q. declared_if (may_declare q xml_uri) q xml_uri) text ∙ ap (λ (t : Bool). declared_if t (codes "xml") xml_uri) (same_bytes xml_uri) })

    prefix_read : (r : Result (List ℕ) Fault) → uri_in scope p ≡ r → (ns : Option (List ℕ)) → (r >>= λ u. Ok (Some u)) ≡ Ok ns → IsLegalIfAny ns → IsExpandedName (Some p) ns
    prefix_read (Err f) is ns k l = absurd cc
    prefix_read (Ok u) is ns k l =
        let same : Some u ≡ ns = ap (ok_or_else None) k in
        let fits : IsDeclarable (p, u) = by_test (bytes_eq p (codes "xml")) (λ t. bytes_eq p (codes "xml") ≡ t → IsDeclarable (p, u))
        (λ x j. subst (λ (q : List ℕ). IsDeclarable (q, u)) (sym (bytes_same p (codes "xml") x)) (xml_declarable u (ap (ok_or_else u) (sym is ∙ ap (λ (t : Bool). cond {A = Result (List ℕ) Fault} t (Ok xml_uri) (declared_uri (uri_of p scope))) x))))
        (λ x j. found_declarable scope None p u h (λ y ey. absurd cc) (found_of scope p u x is)) refl in
        let legal : IsLegalIfAny (Some u) = subst IsLegalIfAny (sym same) l in
        subst (IsExpandedName (Some p)) same (hp p refl, (fits, legal))

pub both_legal : (bs : List (List ℕ × List ℕ)) → AllByRecursion (λ a. IsLegalName a.0) bs → AllByRecursion (λ a. IsLegal a.1) bs → AllByRecursion IsLegalAttribute bs
both_legal [] h k = tt
both_legal (b ∷ bs) h k = (record { name = h.0; value = k.0 }, both_legal bs h.1 k.1)

-- what an element is read as
pub record OfElement (scope : Scope) (attributes : List (List ℕ × List ℕ)) (children : List ElementTree) (t : ElementTree) : Type 0 where
  pub name : List ℕ
  pub prefix : Option (List ℕ)
  pub namespace : Option (List ℕ)
  pub bs : List (List ℕ × List ℕ)
  pub is : element name prefix namespace bs (trees children) ≡ t
  pub plain : IsPlain name
  pub named : IsLegalIfAny namespace → IsExpandedName prefix namespace
  pub kept : AllByRecursion (λ a. IsLegal a.1) bs → AreKept prefix namespace bs

abbrev Names : Type 0
Names = Option (List ℕ) × List ℕ

on_kept : (scope : Scope) (attributes : List (List ℕ × List ℕ)) (children : List ElementTree) (t : ElementTree) (raw_name : List ℕ) (parts : Names) (namespace : Option (List ℕ)) → AllByRecursion IsDeclarable scope → are_distinct attributes ≡ true
    → qualified raw_name ≡ Ok parts → namespace_of scope parts.0 ≡ Ok namespace → (r : Result Kept Fault) → kept_after scope parts.0 ([], []) attributes ≡ r
    → (r >>= λ kept. Ok (element parts.1 parts.0 namespace kept.0 (trees children))) ≡ Ok t → OfElement scope attributes children t
on_kept scope attributes children t raw_name parts namespace h distinct q n (Err f) k e = absurd cc
on_kept scope attributes children t raw_name parts namespace h distinct q n (Ok kept) k e =
    let known = of_qualified raw_name parts q in
    let on = goes_on scope parts.0 kept.0 kept.1 h attributes [] [] k in
    record {
      name = parts.1;
      prefix = parts.0;
      namespace = namespace;
      bs = kept.0;
      is = ap (ok_or_else t) e;
      plain = known.local_plain;
      named = read_named scope parts.0 namespace h known.prefix_plain n;
      kept = λ values. record {
        scope = scope;
        given = attributes;
        names = kept.1;
        declarable = h;
        own = n;
        kept = k;
        distinct = on.distinct refl (all_fresh attributes) distinct;
        legal = both_legal kept.0 (subst (AllByRecursion (λ a. IsLegalName a.0)) (sym on.split) on.named) values;
      };
    }

on_namespace : (scope : Scope) (attributes : List (List ℕ × List ℕ)) (children : List ElementTree) (t : ElementTree) (raw_name : List ℕ) (parts : Names) → AllByRecursion IsDeclarable scope → are_distinct attributes ≡ true
    → qualified raw_name ≡ Ok parts → (r : Result (Option (List ℕ)) Fault) → namespace_of scope parts.0 ≡ r
    → (r >>= λ ns. kept_after scope parts.0 ([], []) attributes >>= λ kept. Ok (element parts.1 parts.0 ns kept.0 (trees children))) ≡ Ok t → OfElement scope attributes children t
on_namespace scope attributes children t raw_name parts h distinct q (Err f) n e = absurd cc
on_namespace scope attributes children t raw_name parts h distinct q (Ok namespace) n e = on_kept scope attributes children t raw_name parts namespace h distinct q n (kept_after scope parts.0 ([], []) attributes) refl e

on_name : (scope : Scope) (attributes : List (List ℕ × List ℕ)) (children : List ElementTree) (t : ElementTree) (raw_name : List ℕ) → AllByRecursion IsDeclarable scope → are_distinct attributes ≡ true
    → (r : Result Names Fault) → qualified raw_name ≡ r
    → (r >>= λ parts. namespace_of scope parts.0 >>= λ ns. kept_after scope parts.0 ([], []) attributes >>= λ kept. Ok (element parts.1 parts.0 ns kept.0 (trees children))) ≡ Ok t → OfElement scope attributes children t
on_name scope attributes children t raw_name h distinct (Err f) q e = absurd cc
on_name scope attributes children t raw_name h distinct (Ok parts) q e = on_namespace scope attributes children t raw_name parts h distinct q (namespace_of scope parts.0) refl e

of_element : (scope : Scope) (raw_name : List ℕ) (attributes : List (List ℕ × List ℕ)) (children : List ElementTree) (t : ElementTree) → AllByRecursion IsDeclarable scope → are_distinct attributes ≡ true
    → expanded scope raw_name attributes children ≡ Ok t → OfElement scope attributes children t
unfolding expanded
of_element scope raw_name attributes children t h distinct e = on_name scope attributes children t raw_name h distinct (qualified raw_name) refl e

-- ---- trees

pub record OfChildren (n : ℕ) (texted : Bool) (made out : List ElementTree) : Type 0 where
  pub new : List ElementTree
  pub split : out ≡ made ++ new
  pub expands : HaveLegalTexts (trees new) → AreExpanded n texted (trees new)

abbrev Children : ℕ → ElementTrees → Type 0
Children n children = (s : Scope) (out : List ElementTree) → AllByRecursion IsDeclarable s → expanded_after s [] children ≡ Ok out → OfChildren n false [] out

on_children : (n : ℕ) (raw_name : List ℕ) (attributes : List (List ℕ × List ℕ)) (children : ElementTrees) (inner : Scope) (t : ElementTree) → AllByRecursion IsDeclarable inner → are_distinct attributes ≡ true
    → (r : Result (List ElementTree) Fault) → expanded_after inner [] children ≡ r → Children n children → (r >>= λ others. expanded inner raw_name attributes others) ≡ Ok t → HasLegalTexts t → IsExpanded (suc n) t
on_children n raw_name attributes children inner t h d (Err f) is rec e l = absurd cc
on_children n raw_name attributes children inner t h d (Ok others) is rec e l =
    let one = of_element inner raw_name attributes others t h d e in
    let more = rec inner others h is in
    let legal = subst HasLegalTexts (sym one.is) l in
    subst (IsExpanded (suc n)) one.is (
      one.plain,
      (
        one.named legal.0,
        (
          one.kept legal.1.0,
          subst (λ (ts : List ElementTree). AreExpanded n false (trees ts)) (sym more.split) (more.expands (subst (λ (ts : List ElementTree). HaveLegalTexts (trees ts)) more.split legal.1.1)),
        ),
      ),
    )

on_inside : (n : ℕ) (raw_name : List ℕ) (attributes : List (List ℕ × List ℕ)) (children : ElementTrees) (scope : Scope) (t : ElementTree) → AllByRecursion IsDeclarable scope
    → (r : Result Scope Fault) → inside scope attributes ≡ r → Children n children → (r >>= λ inner. expanded_after inner [] children >>= λ others. expanded inner raw_name attributes others) ≡ Ok t → HasLegalTexts t → IsExpanded (suc n) t
on_inside n raw_name attributes children scope t h (Err f) is rec e l = absurd cc
on_inside n raw_name attributes children scope t h (Ok inner) is rec e l =
    let known = of_inside scope attributes inner is in
    on_children n raw_name attributes children inner t (within_declarable attributes scope inner h known.declared) known.distinct (expanded_after inner [] children) refl rec e l

child_first : (n : ℕ) (texted : Bool) (t : ElementTree) (ts : ElementTrees) → IsExpanded n t → AreExpanded n false ts → AreExpanded n texted (tree_then t ts)
child_first n texted (element m p s a c) ts h k = (h, k)
child_first zero texted (text bytes) ts h k = absurd h
child_first (suc n) texted (text bytes) ts h k = absurd h

on_child : (n : ℕ) (texted : Bool) (scope : Scope) (made out : List ElementTree) (us : ElementTrees) (r : Result ElementTree Fault) → ((t : ElementTree) → r ≡ Ok t → HasLegalTexts t → IsExpanded n t)
    → ((next : List ElementTree) → expanded_after scope next us ≡ Ok out → OfChildren n false next out) → (r >>= λ u. expanded_after scope (made ++ u ∷ []) us) ≡ Ok out → OfChildren n texted made out
on_child n texted scope made out us (Err f) one rec e = absurd cc
on_child n texted scope made out us (Ok t) one rec e =
    let more = rec (made ++ t ∷ []) e in
    record {
      new = t ∷ more.new;
      split = more.split ∙ append_assoc made (t ∷ []) more.new;
      expands = λ l. child_first n texted t (trees more.new) (one t refl l.0) (more.expands l.1);
    }

read_children : (n : ℕ) (rs : ElementTrees) (texted : Bool) (scope : Scope) (made out : List ElementTree) → AllByRecursion IsDeclarable scope → AreRaw n texted rs → expanded_after scope made rs ≡ Ok out → OfChildren n texted made out
read_children n no_trees texted scope made out h raw e = record { new = []; split = sym (ap (ok_or_else made) e) ∙ sym (append-nil made); expands = λ l. tt }
read_children zero (tree_then (element m p s a c) us) texted scope made out h raw e = absurd raw.0
read_children (suc n) (tree_then (element m None None a c) us) texted scope made out h raw e =
    on_child (suc n) texted scope made out us (expanded_tree scope (element m None None a c))
    (λ t is l. on_inside n m a c scope t h (inside scope a) refl (λ s others k j. read_children n c false s [] others k raw.0 j) is l)
    (λ next j. read_children (suc n) us false scope next out h raw.1 j) e
read_children (suc n) (tree_then (element m None (Some q) a c) us) texted scope made out h raw e = absurd raw.0
read_children (suc n) (tree_then (element m (Some p) q a c) us) texted scope made out h raw e = absurd raw.0
read_children n (tree_then (text bytes) us) true scope made out h raw e = absurd raw
read_children n (tree_then (text []) us) false scope made out h raw e = absurd raw
read_children n (tree_then (text (b ∷ bs)) us) false scope made out h raw e =
    let t = text (b ∷ bs) in
    let more = read_children n us true scope (made ++ t ∷ []) out h raw e in
    record { new = t ∷ more.new; split = more.split ∙ append_assoc made (t ∷ []) more.new; expands = λ l. (l.0, more.expands l.1) }

pub read_tree : (n : ℕ) (raw : ElementTree) (scope : Scope) (t : ElementTree) → AllByRecursion IsDeclarable scope → IsRaw n raw → expanded_tree scope raw ≡ Ok t → HasLegalTexts t → IsExpanded n t
read_tree zero (element m p s a c) scope t h raw e l = absurd raw
read_tree zero (text bytes) scope t h raw e l = absurd raw
read_tree (suc n) (text bytes) scope t h raw e l = absurd raw
read_tree (suc n) (element m None (Some q) a c) scope t h raw e l = absurd raw
read_tree (suc n) (element m (Some p) q a c) scope t h raw e l = absurd raw
read_tree (suc n) (element m None None a c) scope t h raw e l = on_inside n m a c scope t h (inside scope a) refl (λ s others k j. read_children n c false s [] others k raw j) e l
