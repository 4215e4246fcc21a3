-- What is written of a tree with expanded names is read again.
use Rattle.std.proofs.Common.{◌≡◌, ℕ, zero, suc, ◌≤◌, Bool, true, false, cond, not, ◌&&◌, ◌==◌, List, [], ◌∷◌, ◌++◌, length, codes, bytes_eq, Option, Some, None, Result, Ok, Err, refl, sym, ap, subst, ◌∙◌, append_assoc, arith}
use Rattle.std.proofs.lemmas.List.{append-nil}
use Rattle.std.proofs.lemmas.Bool.{le-ltb, eqb-true, and_right}
use Rattle.dav_core.specs.Element.{ElementTree, ElementTrees, element, text, trees, tree_list, no_trees, tree_then}
use Rattle.dav_xml.specs.declared.error.Fault.{Fault}
use Rattle.dav_xml.specs.declared.error.Fault.TheVariants.{Malformed, TooLarge}
use Rattle.dav_xml.specs.Read.{◌>>=◌}
use Rattle.dav_xml.specs.References.{utf8}
use Rattle.dav_xml.specs.Names.{is_plain}
use Rattle.dav_xml.specs.Scopes.{Scope, xml_uri, uri_of, is_bound, may_declare}
use Rattle.dav_xml.specs.Legal.{IsLegal, HasLegal, HaveLegal}
use Rattle.dav_xml.specs.Flat.{IsRaw, AreRaw}
use Rattle.dav_xml.specs.Namespaces.{qualified, default_of, declared_uri, uri_in, namespace_of, are_distinct, within, few, inside, Expanded, Kept, kept_after, expanded, expanded_tree, expanded_after, document}
use Rattle.dav_xml.specs.Written.{scope_below, or_empty, wanted, name_with, has_uri, placed, place_of, written, written_after, document_of}
use Rattle.dav_xml.specs.Expanded.{IsPlain, IsDeclarable, IsExpandedName, AreKept, IsExpanded, AreExpanded, IsFew, AreFew, ReadAs, all_kept, none_kept, ElementMeans, Means, AllMean}
use Rattle.dav_xml.proofs.Escapes.{by_test}
use Rattle.dav_xml.proofs.ElementLemmas.{trees_tree_list}
use Rattle.dav_xml.proofs.LegalTrees.{legal_nil}
use Rattle.dav_xml.proofs.Documents.{raw_again}
use Rattle.dav_xml.proofs.Declared.{ok_or_else, declared_if, nonempty, bytes_same, uri_here, uri_in_from}
use Rattle.dav_xml.proofs.PlacedAgain.{IsAgain, IsOwn, placed_again}
use Rattle.dav_xml.proofs.DroppedAgain.{dropped_again}
use Rattle.dav_xml.proofs.PlainNames.{qualified_again, written_name, declaring_name}

-- ---- an element's own prefix

no_prefix : (p : List ℕ) → None ≡ Some p → IsPlain p
no_prefix p e = absurd cc

none_named : (o : Option (List ℕ)) → has_uri o [] ≡ true → default_of o ≡ None
none_named None e = refl
none_named (Some []) e = refl
none_named (Some (b ∷ bs)) e = absurd cc

own_none : (s : Scope) → IsOwn s None None []
own_none s = record {
  declares = refl;
  legal = record { name = declaring_name None no_prefix; value = legal_nil };
  named = λ other e. ap (λ (o : Option (List ℕ)). Ok o) (none_named (uri_of [] other) e);
  own_too = λ other e p is. absurd cc;
}

pub some_bytes : (b : ℕ) (bs : List ℕ) → (length (b ∷ bs) == 0) ≡ true → ⊥
some_bytes b bs e = let zero_long : length (b ∷ bs) ≡ 0 = eqb-true (length (b ∷ bs)) 0 e in absurd (omega arith)

default_named : (o : Option (List ℕ)) (b : ℕ) (uri : List ℕ) → has_uri o (b ∷ uri) ≡ true → default_of o ≡ Some (b ∷ uri)
default_named None b uri e = absurd (some_bytes b uri e)
default_named (Some found) b uri e = ap (λ (u : List ℕ). default_of (Some u)) (bytes_same found (b ∷ uri) e)

own_default : (s : Scope) (b : ℕ) (uri : List ℕ) → IsDeclarable ([], b ∷ uri) × IsLegal (b ∷ uri) → IsOwn s None (Some (b ∷ uri)) (b ∷ uri)
own_default s b uri h = record {
  declares = h.0.declared;
  legal = record { name = declaring_name None no_prefix; value = h.1 };
  named = λ other e. ap (λ (o : Option (List ℕ)). Ok o) (default_named (uri_of [] other) b uri e);
  own_too = λ other e p is. absurd cc;
}

never_empty : (p : List ℕ) → may_declare p [] ≡ false
never_empty p = by_test (bytes_eq p (codes "xml")) (λ t. cond t (bytes_eq [] xml_uri) ((not (bytes_eq p (codes "xmlns")) && not (is_bound [])) && (not (length {A = ℕ} [] == 0) && is_plain p)) ≡ false)
    (λ e. refl) (λ e. and_right (not (bytes_eq p (codes "xmlns")) && not (is_bound [])) false refl)

not_declarable : (r : Result (List ℕ) Fault) (d : List ℕ × List ℕ) → (r >>= λ p. declared_if (may_declare p []) p []) ≡ Ok (Some d) → ⊥
not_declarable (Err f) d h = absurd cc
not_declarable (Ok p) d h = let both : Err Malformed ≡ Ok (Some d) = sym (ap (λ (t : Bool). declared_if t p []) (never_empty p)) ∙ h in absurd cc

has_namespace : (b : ℕ) (p uri : List ℕ) → IsDeclarable (b ∷ p, uri) → (o : Option (List ℕ)) → has_uri o uri ≡ true → o ≡ Some uri
has_namespace b p [] h o e = absurd (not_declarable (utf8 (b ∷ p)) (b ∷ p, []) h.declared)
has_namespace b p (c ∷ uri) h None e = absurd (some_bytes c uri e)
has_namespace b p (c ∷ uri) h (Some found) e = ap (λ (u : List ℕ). Some u) (bytes_same found (c ∷ uri) e)

abbrev named_as : List ℕ → Result (Option (List ℕ)) Fault
named_as uri = Ok (Some uri)

uri_named : (r : Result (List ℕ) Fault) (uri : List ℕ) → (r >>= λ u. named_as u) ≡ Ok (Some uri) → r ≡ Ok uri
uri_named (Err f) uri h = absurd cc
uri_named (Ok u) uri h = let same : Some u ≡ Some uri = ap (λ (r : Result (Option (List ℕ)) Fault). ok_or_else None r) h in let inner : u ≡ uri = cc in ap (λ (x : List ℕ). Ok x) inner

own_prefixed : (s : Scope) (p uri : List ℕ) → IsPlain p → IsDeclarable (p, uri) → IsLegal uri → namespace_of s (Some p) ≡ Ok (Some uri) → IsOwn s (Some p) (Some uri) uri
own_prefixed s [] uri hp h l own = absurd (nonempty [] [] hp refl)
own_prefixed s (b ∷ p) uri hp h l own =
    let before : uri_in s (b ∷ p) ≡ Ok uri = uri_named (uri_in s (b ∷ p)) uri own in
    record {
      declares = h.declared;
      legal = record { name = declaring_name (Some (b ∷ p)) (λ q is. let same : b ∷ p ≡ q = cc in subst IsPlain same hp); value = l };
      named = λ other e. ap (λ (r : Result (List ℕ) Fault). r >>= λ u. named_as u) (uri_in_from s other (b ∷ p) uri (has_namespace b p uri h (uri_of (b ∷ p) other) e) before);
      own_too = λ other e q is.
          let same : b ∷ p ≡ q = cc in
          subst (λ (x : List ℕ). uri_in other x ≡ uri_in s x) same (uri_in_from s other (b ∷ p) uri (has_namespace b p uri h (uri_of (b ∷ p) other) e) before ∙ sym before);
    }

declared_test : (r : Result (List ℕ) Fault) (p uri : List ℕ) → (r >>= λ q. declared_if (may_declare q uri) q uri) ≡ Ok (Some (p, uri)) → may_declare p uri ≡ true
declared_test (Err f) p uri h = absurd cc
declared_test (Ok q) p uri h = by_test (may_declare q uri) (λ t. may_declare q uri ≡ t → declared_if t q uri ≡ Ok (Some (p, uri)) → may_declare p uri ≡ true)
    (λ e k j. let same : Some (q, uri) ≡ Some (p, uri) = ap (λ (r : Result (Option (List ℕ × List ℕ)) Fault). ok_or_else None r) j in ap (λ (x : List ℕ). may_declare x uri) (sym (ap (first_of q) same)) ∙ e) (λ e k j. absurd cc) refl h
  where
    first_of : List ℕ → Option (List ℕ × List ℕ) → List ℕ
    first_of other None = other
    first_of other (Some d) = d.0

-- a prefix that is declared has its namespace there
named_there : (b : ℕ) (p uri : List ℕ) → IsDeclarable (b ∷ p, uri) → namespace_of ((b ∷ p, uri) ∷ []) (Some (b ∷ p)) ≡ Ok (Some uri)
named_there b p uri h =
    let test = declared_test (utf8 (b ∷ p)) (b ∷ p) uri h.declared in
    ap (λ (r : Result (List ℕ) Fault). r >>= λ u. named_as u) (by_test (bytes_eq (b ∷ p) (codes "xml"))
    (λ t. cond t (bytes_eq uri xml_uri) ((not (bytes_eq (b ∷ p) (codes "xmlns")) && not (is_bound uri)) && (not (length uri == 0) && is_plain (b ∷ p))) ≡ true
    → cond {A = Result (List ℕ) Fault} t (Ok xml_uri) (declared_uri (uri_of (b ∷ p) ((b ∷ p, uri) ∷ []))) ≡ Ok uri)
    (λ e k. ap (λ (u : List ℕ). Ok u) (sym (bytes_same uri xml_uri k))) (λ e k. ap declared_uri (uri_here (b ∷ p) uri [])) test)

abbrev scope_of : Option (List ℕ) → Option (List ℕ) → Scope
scope_of (Some p) (Some uri) = (p, uri) ∷ []
scope_of _ _ = []

own_of : (prefix namespace : Option (List ℕ)) → IsExpandedName prefix namespace → IsOwn (scope_of prefix namespace) prefix namespace (or_empty namespace)
own_of None None h = own_none []
own_of None (Some []) h = absurd h
own_of None (Some (b ∷ uri)) h = own_default [] b uri h
own_of (Some p) None h = absurd h
own_of (Some []) (Some uri) h = absurd (nonempty [] [] h.0 refl)
own_of (Some (b ∷ p)) (Some uri) h = own_prefixed ((b ∷ p, uri) ∷ []) (b ∷ p) uri h.0 h.1.0 h.1.1 (named_there b p uri h.1.0)

kept_again : (scope : Scope) (prefix namespace : Option (List ℕ)) (bs : List (List ℕ × List ℕ)) (k : AreKept prefix namespace bs) → IsExpandedName prefix namespace
    → IsAgain scope prefix namespace bs k.names (placed (scope_below scope bs) (or_empty prefix) (or_empty namespace) bs)
kept_again scope None None bs k h = placed_again scope None None bs k [] (own_none k.scope)
kept_again scope None (Some []) bs k h = absurd h
kept_again scope None (Some (b ∷ uri)) bs k h = placed_again scope None (Some (b ∷ uri)) bs k (b ∷ uri) (own_default k.scope b uri h)
kept_again scope (Some p) None bs k h = absurd h
kept_again scope (Some p) (Some uri) bs k h = placed_again scope (Some p) (Some uri) bs k uri (own_prefixed k.scope p uri h.0 h.1.0 h.1.1 k.own)

pub record PlaceAgain (scope : Scope) (prefix found : Option (List ℕ)) (meant : List (List ℕ × List ℕ)) (place : List (List ℕ × List ℕ) × Scope) : Type 0 where
  pub names : List Expanded
  pub again : IsAgain scope prefix found meant names place

place_again : (scope : Scope) (prefix found : Option (List ℕ)) (attributes meant : List (List ℕ × List ℕ)) → ReadAs scope prefix found attributes meant → IsExpandedName prefix found
    → PlaceAgain scope prefix found meant (placed (scope_below scope attributes) (or_empty prefix) (or_empty found) attributes)
place_again scope prefix found attributes meant (all_kept k e) h = record {
  names = k.names;
  again = subst (λ (xs : List (List ℕ × List ℕ)). IsAgain scope prefix found xs k.names (placed (scope_below scope attributes) (or_empty prefix) (or_empty found) attributes)) (sym e) (kept_again scope prefix found attributes k h);
}
place_again scope prefix found attributes meant (none_kept d e) h = record {
  names = [];
  again = subst (λ (xs : List (List ℕ × List ℕ)). IsAgain scope prefix found xs [] (placed (scope_below scope attributes) (or_empty prefix) (or_empty found) attributes)) (sym e)
      (dropped_again scope prefix found attributes d (scope_of prefix found) (own_of prefix found h));
}

pub prefix_plain : (prefix namespace : Option (List ℕ)) → IsExpandedName prefix namespace → (p : List ℕ) → prefix ≡ Some p → IsPlain p
prefix_plain None namespace h p e = absurd cc
prefix_plain (Some q) None h p e = absurd h
prefix_plain (Some q) (Some uri) h p e = let same : q ≡ p = cc in subst IsPlain same h.0

-- ---- elements and their children

abbrev all_written : Scope → ElementTrees → ElementTrees
all_written scope no_trees = no_trees
all_written scope (tree_then t ts) = tree_then (written scope t) (all_written scope ts)

written_all : (scope : Scope) (made : List ElementTree) (ts : ElementTrees) → written_after scope made ts ≡ made ++ tree_list (all_written scope ts)
written_all scope made no_trees = sym (append-nil made)
written_all scope made (tree_then t ts) = written_all scope (made ++ written scope t ∷ []) ts ∙ append_assoc made (written scope t ∷ []) (tree_list (all_written scope ts))

pub record IsElementAgain (n : ℕ) (scope : Scope) (raw t : ElementTree) : Type 0 where
  pub expands : IsFew scope raw → expanded_tree scope raw ≡ Ok t
  pub is_raw : IsRaw n raw
  pub legal : HasLegal raw

pub record AreAgain (n : ℕ) (texted : Bool) (scope : Scope) (us vs : ElementTrees) : Type 0 where
  pub expands : (made : List ElementTree) → AreFew scope (all_written scope us) → expanded_after scope made (all_written scope us) ≡ Ok (made ++ tree_list vs)
  pub are_raw : AreRaw n texted (all_written scope us)
  pub legal : HaveLegal (all_written scope us)

inside_again : (scope : Scope) (attributes : List (List ℕ × List ℕ)) (inner : Scope) → within scope attributes ≡ Ok inner → are_distinct attributes ≡ true → length attributes ≤ 256 → length inner ≤ 256
    → inside scope attributes ≡ Ok inner
inside_again scope attributes inner e d le ge =
    ap (λ (t : Bool). cond t (Err TooLarge) (cond (are_distinct attributes) (within scope attributes >>= few) (Err Malformed))) (le-ltb 256 (length attributes) le)
    ∙ ap (λ (t : Bool). cond t (within scope attributes >>= few) (Err Malformed)) d ∙ ap (λ (r : Result Scope Fault). r >>= few) e
    ∙ ap (λ (t : Bool). cond t (Err TooLarge) (Ok inner)) (le-ltb 256 (length inner) ge)

expanded_again : (scope : Scope) (raw_name name : List ℕ) (prefix namespace : Option (List ℕ)) (attributes bs : List (List ℕ × List ℕ)) (names : List Expanded) (children : ElementTrees)
    → qualified raw_name ≡ Ok (prefix, name) → namespace_of scope prefix ≡ Ok namespace → kept_after scope prefix ([], []) attributes ≡ Ok (bs, names)
    → expanded scope raw_name attributes (tree_list children) ≡ Ok (element name prefix namespace bs children)
unfolding expanded
expanded_again scope raw_name name prefix namespace attributes bs names children q n k =
    ap (λ (r : Result (Option (List ℕ) × List ℕ) Fault). r >>= λ parts. namespace_of scope parts.0 >>= λ ns. kept_after scope parts.0 ([], []) attributes >>= λ kept. Ok (element parts.1 parts.0 ns kept.0 (trees (tree_list children)))) q
    ∙ ap (λ (r : Result (Option (List ℕ)) Fault). r >>= λ ns. kept_after scope prefix ([], []) attributes >>= λ kept. Ok (element name prefix ns kept.0 (trees (tree_list children)))) n
    ∙ ap (λ (r : Result Kept Fault). r >>= λ kept. Ok (element name prefix namespace kept.0 (trees (tree_list children)))) k
    ∙ ap (λ (ts : ElementTrees). Ok (element name prefix namespace bs ts)) (trees_tree_list children)

reads : (scope : Scope) (raw_name name : List ℕ) (prefix namespace : Option (List ℕ)) (bs : List (List ℕ × List ℕ)) (names : List Expanded) (place : List (List ℕ × List ℕ) × Scope) (raws children : ElementTrees)
    → qualified raw_name ≡ Ok (prefix, name) → IsAgain scope prefix namespace bs names place → (AreFew place.1 raws → expanded_after place.1 [] raws ≡ Ok (tree_list children))
    → IsFew scope (element raw_name None None place.0 raws) → expanded_tree scope (element raw_name None None place.0 raws) ≡ Ok (element name prefix namespace bs children)
reads scope raw_name name prefix namespace bs names place raws children q h inner le =
    let fewer : length place.1 ≤ 256 = subst (λ (s : Scope). length s ≤ 256) h.opens le.1.0 in
    let below : AreFew place.1 raws = subst (λ (s : Scope). AreFew s raws) h.opens le.1.1 in
    ap (λ (r : Result Scope Fault). r >>= λ s. expanded_after s [] raws >>= λ others. expanded s raw_name place.0 others) (inside_again scope place.0 place.1 h.declared h.distinct le.0 fewer)
    ∙ ap (λ (r : Result (List ElementTree) Fault). r >>= λ others. expanded place.1 raw_name place.0 others) (inner below)
    ∙ expanded_again place.1 raw_name name prefix namespace place.0 bs names children q h.named h.kept

element_again : (n : ℕ) (scope : Scope) (name : List ℕ) (prefix namespace found : Option (List ℕ)) (attributes meant : List (List ℕ × List ℕ)) (children others : ElementTrees)
    → ElementMeans scope name prefix namespace attributes found meant → AreAgain n false (place_of scope (or_empty prefix) namespace attributes).1 children others
    → IsElementAgain (suc n) scope (written scope (element name prefix namespace attributes children)) (element name prefix found meant others)
element_again n scope name prefix namespace found attributes meant children others m inner =
    let place = place_of scope (or_empty prefix) namespace attributes in
    let raw_name = name_with (or_empty prefix) name in
    let is : placed (scope_below scope attributes) (or_empty prefix) (or_empty found) attributes ≡ place = ap (λ (uri : List ℕ). placed (scope_below scope attributes) (or_empty prefix) uri attributes) (sym m.wants) in
    let there : PlaceAgain scope prefix found meant place = subst (PlaceAgain scope prefix found meant) is (place_again scope prefix found attributes meant m.read_as m.expanded) in
    let hp = prefix_plain prefix found m.expanded in
    let same : trees (written_after place.1 [] children) ≡ all_written place.1 children = ap trees (written_all place.1 [] children) ∙ trees_tree_list (all_written place.1 children) in
    subst (λ (ts : ElementTrees). IsElementAgain (suc n) scope (element raw_name None None place.0 ts) (element name prefix found meant others)) (sym same) (record {
      expands = reads scope raw_name name prefix found meant there.names place (all_written place.1 children) others (qualified_again prefix name m.plain hp) there.again (inner.expands []);
      is_raw = inner.are_raw;
      legal = (written_name prefix name m.plain hp, (there.again.legal, inner.legal));
    })

element_is : (n : ℕ) (scope : Scope) (raw : ElementTree) (name name1 : List ℕ) (prefix prefix1 found : Option (List ℕ)) (meant : List (List ℕ × List ℕ)) (others : ElementTrees) → name1 ≡ name → prefix1 ≡ prefix
    → IsElementAgain n scope raw (element name prefix found meant others) → IsElementAgain n scope raw (element name1 prefix1 found meant others)
element_is n scope raw name name1 prefix prefix1 found meant others e f h =
    let same : element name prefix found meant others ≡ element name1 prefix1 found meant others = ap (λ (x : List ℕ). element x prefix found meant others) (sym e) ∙ ap (λ (x : Option (List ℕ)). element name1 x found meant others) (sym f) in
    subst (IsElementAgain n scope raw) same h

children_again : (n : ℕ) (us vs : ElementTrees) (texted : Bool) (scope : Scope) → AllMean n texted scope us vs → AreAgain n texted scope us vs
children_again n no_trees no_trees texted scope h = record { expands = λ made le. ap (λ (ts : List ElementTree). Ok ts) (sym (append-nil made)); are_raw = tt; legal = tt }
children_again n no_trees (tree_then v vs) texted scope h = absurd h
children_again n (tree_then u us) no_trees texted scope h = absurd h
children_again zero (tree_then (element m p s a c) us) (tree_then v vs) texted scope h = absurd h.0
children_again (suc n) (tree_then (element m p s a c) us) (tree_then (text bytes) vs) texted scope h = absurd h.0
children_again (suc n) (tree_then (element m p s a c) us) (tree_then (element m1 p1 f b d) vs) texted scope h =
    let t = element m1 p1 f b d in
    let one = element_is (suc n) scope (written scope (element m p s a c)) m m1 p p1 f b d h.0.0 h.0.1.0
    (element_again n scope m p s f a b c d h.0.1.1.0 (children_again n c d false (place_of scope (or_empty p) s a).1 h.0.1.1.1)) in
    let more = children_again (suc n) us vs false scope h.1 in
    record {
      expands = λ made le. ap (λ (r : Result ElementTree Fault). r >>= λ u. expanded_after scope (made ++ u ∷ []) (all_written scope us)) (one.expands le.0)
          ∙ more.expands (made ++ t ∷ []) le.1 ∙ ap (λ (ts : List ElementTree). Ok ts) (append_assoc made (t ∷ []) (tree_list vs));
      are_raw = (one.is_raw, more.are_raw);
      legal = (one.legal, more.legal);
    }
children_again n (tree_then (text bytes) us) (tree_then v vs) true scope h = absurd h
children_again n (tree_then (text []) us) (tree_then v vs) false scope h = absurd h
children_again n (tree_then (text (b ∷ bs)) us) (tree_then v vs) false scope h =
    let t = text (b ∷ bs) in
    let more = children_again n us vs true scope h.1.1 in
    record {
      expands = λ made le. more.expands (made ++ t ∷ []) le.1 ∙ ap (λ (ts : List ElementTree). Ok ts) (append_assoc made (t ∷ []) (tree_list vs) ∙ ap (λ (w : ElementTree). made ++ w ∷ tree_list vs) (sym h.1.0));
      are_raw = more.are_raw;
      legal = (h.0, more.legal);
    }

tree_again : (n : ℕ) (scope : Scope) (t u : ElementTree) → Means n scope t u → IsElementAgain n scope (written scope t) u
tree_again zero scope (element m p s a c) u h = absurd h
tree_again zero scope (text bytes) u h = absurd h
tree_again (suc n) scope (text bytes) u h = absurd h
tree_again (suc n) scope (element m p s a c) (text bytes) h = absurd h
tree_again (suc n) scope (element m p s a c) (element m1 p1 f b d) h =
    element_is (suc n) scope (written scope (element m p s a c)) m m1 p p1 f b d h.0 h.1.0
    (element_again n scope m p s f a b c d h.1.1.0 (children_again n c d false (place_of scope (or_empty p) s a).1 h.1.1.1))

pub document_again : (t u : ElementTree) → Means 64 [] t u → IsFew [] (written [] t) → length (document_of t) ≤ 0x10_0000 → document (document_of t) ≡ Ok u
unfolding document
document_again t u h le short =
    let again = tree_again 64 [] t u h in
    ap (λ (r : Result ElementTree Fault). r >>= expanded_tree []) (raw_again (written [] t) again.is_raw again.legal short) ∙ again.expands le

-- ---- a tree with expanded names means itself

wants_itself : (scope : Scope) (prefix namespace : Option (List ℕ)) → IsExpandedName prefix namespace → wanted scope (or_empty prefix) namespace ≡ or_empty namespace
wants_itself scope None None h = refl
wants_itself scope None (Some uri) h = refl
wants_itself scope (Some p) None h = absurd h
wants_itself scope (Some p) (Some uri) h = refl

pub itself : (scope : Scope) (name : List ℕ) (prefix namespace : Option (List ℕ)) (bs : List (List ℕ × List ℕ)) → IsPlain name → IsExpandedName prefix namespace → AreKept prefix namespace bs
    → ElementMeans scope name prefix namespace bs namespace bs
itself scope name prefix namespace bs h hn k = record { plain = h; expanded = hn; wants = wants_itself (scope_below scope bs) prefix namespace hn; read_as = all_kept k refl }

all_themselves : (n : ℕ) (us : ElementTrees) (texted : Bool) (scope : Scope) → AreExpanded n texted us → AllMean n texted scope us us
all_themselves n no_trees texted scope h = tt
all_themselves zero (tree_then (element m p s a c) us) texted scope h = absurd h.0
all_themselves (suc n) (tree_then (element m p s a c) us) texted scope h =
    ((refl, (refl, (itself scope m p s a h.0.0 h.0.1.0 h.0.1.1.0, all_themselves n c false (place_of scope (or_empty p) s a).1 h.0.1.1.1))), all_themselves (suc n) us false scope h.1)
all_themselves n (tree_then (text bytes) us) true scope h = absurd h
all_themselves n (tree_then (text []) us) false scope h = absurd h
all_themselves n (tree_then (text (b ∷ bs)) us) false scope h = (h.0, (refl, all_themselves n us true scope h.1))

pub means_itself : (n : ℕ) (scope : Scope) (t : ElementTree) → IsExpanded n t → Means n scope t t
means_itself zero scope (element m p s a c) h = absurd h
means_itself zero scope (text bytes) h = absurd h
means_itself (suc n) scope (text bytes) h = absurd h
means_itself (suc n) scope (element m p s a c) h = (refl, (refl, (itself scope m p s a h.0 h.1.0 h.1.1.0, all_themselves n c false (place_of scope (or_empty p) s a).1 h.1.1.1)))
