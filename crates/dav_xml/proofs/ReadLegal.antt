-- What is read is of legal characters.
use Rattle.std.proofs.Common.{◌≡◌, ◌↔◌, ℕ, ◌≤◌, Bool, true, false, cond, not, ltb, ◌&&◌, ◌==◌, List, [], ◌∷◌, ◌++◌, length, codes, bytes_eq, Option, Some, None, is_some, IsTrue, Result, Ok, Err, refl, sym, ap, subst, ◌∙◌, arith}
use Rattle.std.proofs.lemmas.Bool.{and_parts, and_from, and_right}
use Rattle.std.specs.List.{list_all, AllByRecursion}
use Rattle.std.specs.Str.Lossy.{utf8_valid_len}
use Rattle.dav_core.specs.Element.{ElementTree, ElementTrees, element, text, no_trees, tree_then, trees}
use Rattle.dav_xml.specs.declared.error.Fault.{Fault}
use Rattle.dav_xml.specs.declared.error.Fault.TheVariants.{Malformed, TooLarge}
use Rattle.dav_xml.specs.Read.{◌>>=◌, needed}
use Rattle.dav_xml.specs.Bytes.{is_space, after_text, split_text}
use Rattle.dav_xml.specs.Markup.{first_or, tokens_of}
use Rattle.dav_xml.specs.Nesting.{nested}
use Rattle.dav_xml.specs.Front.{is_printed, are_chars, lines, after_mark, tells, declaration_at, declared_behind, after_declaration, raw_document}
use Rattle.dav_xml.specs.Legal.{IsLegal, IsLegalIfAny, HasLegalTexts, HaveLegalTexts}
use Rattle.dav_xml.specs.Scopes.{Scope, xml_uri, uri_after, uri_of, declared_by}
use Rattle.dav_xml.specs.Namespaces.{qualified, default_of, declared_uri, uri_in, namespace_of, with_declared, within_step, within, inside, declaring, is_known, again, has_expanded, Kept, kept_prefixed, kept_as, kept_unless, kept_step, kept_after, expanded, expanded_tree, expanded_after, document}
use Rattle.dav_xml.proofs.Escapes.{by_test}
use Rattle.dav_xml.proofs.Legal.{legal_chars}
use Rattle.dav_xml.proofs.LegalTrees.{legal_word}
use Rattle.dav_xml.proofs.Declared.{ok_or_else, found_of}
use Rattle.dav_xml.proofs.ReadTrees.{declaration_is, of_inside, after_joined}
use Rattle.dav_xml.proofs.Clean.{mark, HasNoMark, IsClean, mark_parts, mark_join, after_clean, split_text_clean, clean_legal}
use Rattle.dav_xml.proofs.CleanReferences.{is_inner, first_or_zero, tail_of, mark_found, last_inner}
use Rattle.dav_xml.proofs.CleanTokens.{bound, needed_some, HasValue, tokens_legal}
use Rattle.dav_xml.proofs.NestedLegal.{nested_legal}

-- ---- namespaces

abbrev pub HaveValues : List (List ℕ × List ℕ) → Type 0
HaveValues attributes = AllByRecursion HasValue attributes

one_more : (ds : List (List ℕ × List ℕ)) (d : List ℕ × List ℕ) → HaveValues ds → HasValue d → HaveValues (ds ++ d ∷ [])
one_more [] d h one = (one, tt)
one_more (e ∷ ds) d h one = (h.0, one_more ds d h.1 one)

declared_legal : (scope : Scope) (a : List ℕ × List ℕ) (o : Option (List ℕ × List ℕ)) → declared_by a ≡ Ok o → HaveValues scope → HasValue a → HaveValues (with_declared scope o)
declared_legal scope a None e h one = h
declared_legal scope a (Some d) e h one = one_more scope d h (subst IsLegal (ap (λ (b : List ℕ × List ℕ). b.1) (declaration_is a d e)) one)

pub within_legal : (attributes : List (List ℕ × List ℕ)) (scope inner : Scope) → HaveValues scope → HaveValues attributes → within scope attributes ≡ Ok inner → HaveValues inner
within_legal [] scope inner h k e = subst HaveValues (ap (ok_or_else inner) e) h
within_legal (a ∷ others) scope inner h k e =
    let one = bound (within_step scope a) (λ s. within s others) inner e in
    let two = bound (declared_by a) (λ d. scope_with d) one.value one.first in
    within_legal others one.value inner (subst HaveValues (ap (ok_or_else one.value) two.next) (declared_legal scope a two.value two.first h k.0)) k.1 one.next
  where
    scope_with : Option (List ℕ × List ℕ) → Result Scope Fault
    scope_with d = Ok (with_declared scope d)

found_legal : (scope : Scope) (found : Option (List ℕ)) (prefix uri : List ℕ) → HaveValues scope → ((u : List ℕ) → found ≡ Some u → IsLegal u) → uri_after found prefix scope ≡ Some uri → IsLegal uri
found_legal [] found prefix uri h before e = before uri e
found_legal (d ∷ ds) found prefix uri h before e =
    found_legal ds (cond (bytes_eq d.0 prefix) (Some d.1) found) prefix uri h.1 (by_test (bytes_eq d.0 prefix) (λ t. (u : List ℕ) → cond t (Some d.1) found ≡ Some u → IsLegal u)
    (λ is u eu. let same : d.1 ≡ u = cc in subst IsLegal same h.0) (λ other u eu. before u eu)) e

uri_legal : (scope : Scope) (prefix uri : List ℕ) → HaveValues scope → uri_in scope prefix ≡ Ok uri → IsLegal uri
uri_legal scope prefix uri h e = by_test (bytes_eq prefix (codes "xml")) (λ t. bytes_eq prefix (codes "xml") ≡ t → cond {A = Result (List ℕ) Fault} t (Ok xml_uri) (declared_uri (uri_of prefix scope)) ≡ Ok uri → IsLegal uri)
    (λ is k j. subst IsLegal (ap (ok_or_else []) j) (legal_word xml_uri refl)) (λ other k j. found_legal scope None prefix uri h (λ u eu. absurd cc) (found_of scope prefix uri other e)) refl e

default_legal : (o : Option (List ℕ)) → ((u : List ℕ) → o ≡ Some u → IsLegal u) → IsLegalIfAny (default_of o)
default_legal None h = tt
default_legal (Some []) h = tt
default_legal (Some (b ∷ u)) h = h (b ∷ u) refl

namespace_legal : (scope : Scope) (prefix namespace : Option (List ℕ)) → HaveValues scope → namespace_of scope prefix ≡ Ok namespace → IsLegalIfAny namespace
namespace_legal scope None namespace h e = subst IsLegalIfAny (ap (ok_or_else None) e) (default_legal (uri_of [] scope) (λ u eu. found_legal scope None [] u h (λ v ev. absurd cc) eu))
namespace_legal scope (Some prefix) namespace h e =
    let one = bound (uri_in scope prefix) some_ok namespace e in
    subst IsLegalIfAny (ap (ok_or_else None) one.next) (uri_legal scope prefix one.value h one.first)
  where
    some_ok : List ℕ → Result (Option (List ℕ)) Fault
    some_ok uri = Ok (Some uri)

-- ---- attributes

again_legal : (own : Option (List ℕ)) (kept : List (List ℕ × List ℕ)) (prefix uri : List ℕ) → HaveValues kept → IsLegal uri → HaveValues (again own kept prefix uri)
again_legal own kept prefix uri h l = by_test (is_known own kept prefix) (λ t. HaveValues (cond t kept (kept ++ (declaring prefix, uri) ∷ []))) (λ e. h) (λ e. one_more kept (declaring prefix, uri) h l)

prefixed_legal : (own : Option (List ℕ)) (kept out : Kept) (a : List ℕ × List ℕ) (prefix uri local : List ℕ) → HaveValues kept.0 → HasValue a → IsLegal uri → kept_prefixed own kept a prefix uri local ≡ Ok out → HaveValues out.0
prefixed_legal own kept out a prefix uri local h one l e =
    by_test (has_expanded (uri, local) kept.1) (λ t. cond {A = Result Kept Fault} t (Err Malformed) (Ok (again own (kept.0 ++ a ∷ []) prefix uri, kept.1 ++ (uri, local) ∷ [])) ≡ Ok out → HaveValues out.0) (λ f k. absurd cc)
    (λ f k. subst (λ (x : Kept). HaveValues x.0) (ap (ok_or_else out) k) (again_legal own (kept.0 ++ a ∷ []) prefix uri (one_more kept.0 a h one) l)) e

as_legal : (scope : Scope) (own : Option (List ℕ)) (kept out : Kept) (a : List ℕ × List ℕ) (parts : Option (List ℕ) × List ℕ) → HaveValues scope → HaveValues kept.0 → HasValue a → kept_as scope own kept a parts ≡ Ok out → HaveValues out.0
as_legal scope own kept out a (None, local) hs h one e = subst (λ (x : Kept). HaveValues x.0) (ap (ok_or_else out) e) (one_more kept.0 a h one)
as_legal scope own kept out a (Some prefix, local) hs h one e =
    let found = bound (uri_in scope prefix) (λ u. kept_prefixed own kept a prefix u local) out e in
    prefixed_legal own kept out a prefix found.value local h one (uri_legal scope prefix found.value hs found.first) found.next

unless_legal : (scope : Scope) (own : Option (List ℕ)) (kept out : Kept) (a : List ℕ × List ℕ) (o : Option (List ℕ × List ℕ)) → HaveValues scope → HaveValues kept.0 → HasValue a → kept_unless scope own kept a o ≡ Ok out → HaveValues out.0
unless_legal scope own kept out a (Some d) hs h one e = subst (λ (x : Kept). HaveValues x.0) (ap (ok_or_else out) e) h
unless_legal scope own kept out a None hs h one e =
    let parts = bound (qualified a.0) (kept_as scope own kept a) out e in
    as_legal scope own kept out a parts.value hs h one parts.next

pub kept_legal : (given : List (List ℕ × List ℕ)) (scope : Scope) (own : Option (List ℕ)) (kept out : Kept) → HaveValues scope → HaveValues kept.0 → HaveValues given → kept_after scope own kept given ≡ Ok out → HaveValues out.0
kept_legal [] scope own kept out hs h k e = subst (λ (x : Kept). HaveValues x.0) (ap (ok_or_else out) e) h
kept_legal (a ∷ others) scope own kept out hs h k e =
    let one = bound (kept_step scope own kept a) (λ more. kept_after scope own more others) out e in
    let two = bound (declared_by a) (kept_unless scope own kept a) one.value one.first in
    kept_legal others scope own one.value out hs (unless_legal scope own kept one.value a two.value hs h k.0 two.next) k.1 one.next

-- ---- trees

all_trees : (ts : List ElementTree) → AllByRecursion HasLegalTexts ts → HaveLegalTexts (trees ts)
all_trees [] h = tt
all_trees (t ∷ ts) h = (h.0, all_trees ts h.1)

expanded_legal : (scope : Scope) (raw_name : List ℕ) (attributes : List (List ℕ × List ℕ)) (children : List ElementTree) (t : ElementTree) → HaveValues scope → HaveValues attributes → AllByRecursion HasLegalTexts children
    → expanded scope raw_name attributes children ≡ Ok t → HasLegalTexts t
unfolding expanded
expanded_legal scope raw_name attributes children t hs h k e =
    let b1 = bound (qualified raw_name) _ t e in
    let b2 = bound (namespace_of scope b1.value.0) _ t b1.next in
    let b3 = bound (kept_after scope b1.value.0 ([], []) attributes) _ t b2.next in
    subst HasLegalTexts (ap (ok_or_else t) b3.next) (namespace_legal scope b1.value.0 b2.value hs b2.first, (kept_legal attributes scope b1.value.0 ([], []) b3.value hs tt h b3.first, all_trees children k))

tree_more : (ts : List ElementTree) (t : ElementTree) → AllByRecursion HasLegalTexts ts → HasLegalTexts t → AllByRecursion HasLegalTexts (ts ++ t ∷ [])
tree_more [] t h one = (one, tt)
tree_more (u ∷ ts) t h one = (h.0, tree_more ts t h.1 one)

element_legal : (scope : Scope) (m : List ℕ) (a : List (List ℕ × List ℕ)) (c : ElementTrees) (t : ElementTree) → HaveValues scope → HaveValues a
    → ((inner : Scope) (out : List ElementTree) → HaveValues inner → expanded_after inner [] c ≡ Ok out → AllByRecursion HasLegalTexts out)
    → (inside scope a >>= λ inner. expanded_after inner [] c >>= λ others. expanded inner m a others) ≡ Ok t → HasLegalTexts t
element_legal scope m a c t hs h rec e =
    let b1 = bound (inside scope a) (λ inner. expanded_after inner [] c >>= λ others. expanded inner m a others) t e in
    let b2 = bound (expanded_after b1.value [] c) (λ others. expanded b1.value m a others) t b1.next in
    let hi = within_legal a scope b1.value hs h (of_inside scope a b1.value b1.first).declared in
    expanded_legal b1.value m a b2.value t hi h (rec b1.value b2.value hi b2.first) b2.next

children_legal : (rs : ElementTrees) (scope : Scope) (made out : List ElementTree) → HaveValues scope → AllByRecursion HasLegalTexts made → HaveLegalTexts rs → expanded_after scope made rs ≡ Ok out → AllByRecursion HasLegalTexts out
children_legal no_trees scope made out hs h k e = subst (AllByRecursion HasLegalTexts) (ap (ok_or_else out) e) h
children_legal (tree_then (text bytes) us) scope made out hs h k e = children_legal us scope (made ++ text bytes ∷ []) out hs (tree_more made (text bytes) h k.0) k.1 e
children_legal (tree_then (element m p s a c) us) scope made out hs h k e =
    let one = bound (expanded_tree scope (element m p s a c)) (λ u. expanded_after scope (made ++ u ∷ []) us) out e in
    let legal = element_legal scope m a c one.value hs k.0.1.0 (λ inner others hi j. children_legal c inner [] others hi tt k.0.1.1 j) one.first in
    children_legal us scope (made ++ one.value ∷ []) out hs (tree_more made one.value h legal) k.1 one.next

tree_legal : (raw : ElementTree) (scope : Scope) (t : ElementTree) → HaveValues scope → HasLegalTexts raw → expanded_tree scope raw ≡ Ok t → HasLegalTexts t
tree_legal (text bytes) scope t hs h e = subst HasLegalTexts (ap (ok_or_else t) e) h
tree_legal (element m p s a c) scope t hs h e = element_legal scope m a c t hs h.1.0 (λ inner others hi j. children_legal c inner [] others hi tt h.1.1 j) e

-- ---- the front

none_by : (o : Option (List ℕ × List ℕ)) → not (is_some o) ≡ true → o ≡ None
none_by None e = refl
none_by (Some p) e = absurd cc

chars_clean : (bytes : List ℕ) → are_chars bytes ≡ true → IsClean bytes
unfolding are_chars
chars_clean bytes e =
    let utf8_printed = (utf8_valid_len bytes == length bytes) && list_all is_printed bytes in
    let no1 = not (is_some (split_text (mark 190) bytes)) in
    let no2 = not (is_some (split_text (mark 191) bytes)) in
    let parts = and_parts utf8_printed (no1 && no2) e in
    let front = and_parts (utf8_valid_len bytes == length bytes) (list_all is_printed bytes) parts.0 in
    let marks = and_parts no1 no2 parts.1 in
    record { printed = front.1; no_fffe = none_by (split_text (mark 190) bytes) marks.0; no_ffff = none_by (split_text (mark 191) bytes) marks.1 }

chars_legal : (bytes : List ℕ) → are_chars bytes ≡ true → IsLegal bytes
unfolding are_chars
chars_legal bytes e =
    let utf8_printed = (utf8_valid_len bytes == length bytes) && list_all is_printed bytes in
    let unmarked = not (is_some (split_text (mark 190) bytes)) && not (is_some (split_text (mark 191) bytes)) in
    let front = (and_parts utf8_printed unmarked e).0 in
    clean_legal bytes (and_parts (utf8_valid_len bytes == length bytes) (list_all is_printed bytes) front).0 (chars_clean bytes e)

-- the test of a text's characters, whose result is given
pub chars_are_legal : (b : Bool) (bytes : List ℕ) → b ≡ are_chars bytes → IsTrue b ↔ IsLegal bytes
chars_are_legal b bytes e = ((λ is. chars_legal bytes (sym e ∙ is)), (λ legal. e ∙ legal_chars bytes legal))

lines_printed : (returned : Bool) (bs : List ℕ) → list_all is_printed bs ≡ true → list_all is_printed (lines returned bs) ≡ true
unfolding lines
lines_printed returned [] e = refl
lines_printed returned (b ∷ bs) e =
    let parts = and_parts (is_printed b) (list_all is_printed bs) e in
    by_test (b == 13) (λ t. list_all is_printed (cond t (10 ∷ lines true bs) (cond (b == 10 && returned) (lines false bs) (b ∷ lines false bs))) ≡ true)
    (λ f. lines_printed true bs parts.1) (λ f. by_test (b == 10 && returned) (λ t. list_all is_printed (cond t (lines false bs) (b ∷ lines false bs)) ≡ true)
    (λ g. lines_printed false bs parts.1) (λ g. and_from (is_printed b) (list_all is_printed (lines false bs)) parts.0 (lines_printed false bs parts.1)))

record LineStarts (bs : List ℕ) (x : ℕ) (more : List ℕ) : Type 0 where
  pub rest : List ℕ
  pub is : bs ≡ x ∷ rest
  pub later : lines false rest ≡ more

line_starts : (bs : List ℕ) (x : ℕ) (more : List ℕ) → is_inner x ≡ true → lines false bs ≡ x ∷ more → LineStarts bs x more
unfolding lines
line_starts [] x more i e = absurd cc
line_starts (b ∷ bs) x more i e =
    by_test (b == 13) (λ t. cond t (10 ∷ lines true bs) (cond (b == 10 && false) (lines false bs) (b ∷ lines false bs)) ≡ x ∷ more → LineStarts (b ∷ bs) x more)
    (λ f k. let both : false ≡ true = ap (λ (xs : List ℕ). is_inner (first_or_zero xs)) k ∙ i in absurd cc)
    (λ f k. let plain : b ∷ lines false bs ≡ x ∷ more = sym (ap (λ (t : Bool). cond t (lines false bs) (b ∷ lines false bs)) (and_right (b == 10) false refl)) ∙ k in
    record { rest = bs; is = ap (λ (y : ℕ). y ∷ bs) (ap first_or_zero plain); later = ap tail_of plain }) e

module _ (last b : ℕ) (bs : List ℕ) (le : 190 ≤ last) (ge : last ≤ 191) (none : HasNoMark last (b ∷ bs)) where
  contradicts : (rest : List ℕ) → b ∷ lines false bs ≡ 239 ∷ 191 ∷ last ∷ rest → ⊥
  contradicts rest e =
      let one = line_starts bs 191 (last ∷ rest) refl (ap tail_of e) in
      let two = line_starts one.rest last rest (last_inner last le ge) one.later in
      let spelled : b ∷ bs ≡ mark last ++ two.rest = ap (λ (x : ℕ). x ∷ bs) (ap first_or_zero e) ∙ ap (λ (ys : List ℕ). 239 ∷ ys) (one.is ∙ ap (λ (ys : List ℕ). 191 ∷ ys) two.is) in
      let both : Some two.rest ≡ None = sym (ap (after_text (mark last)) spelled ∙ mark_found last two.rest) ∙ (mark_parts last b bs none).0 in
      absurd cc

  none_here : (o : Option (List ℕ)) → after_text (mark last) (b ∷ lines false bs) ≡ o → o ≡ None
  none_here None is = refl
  none_here (Some rest) is = absurd (contradicts rest (after_joined (mark last) (b ∷ lines false bs) rest is))

  no_mark_here : after_text (mark last) (b ∷ lines false bs) ≡ None
  no_mark_here = none_here (after_text (mark last) (b ∷ lines false bs)) refl

lines_marks : (returned : Bool) (last : ℕ) (bs : List ℕ) → 190 ≤ last → last ≤ 191 → HasNoMark last bs → HasNoMark last (lines returned bs)
unfolding lines
lines_marks returned last [] le ge h = h
lines_marks returned last (b ∷ bs) le ge h =
    let later = (mark_parts last b bs h).1 in
    by_test (b == 13) (λ t. HasNoMark last (cond t (10 ∷ lines true bs) (cond (b == 10 && returned) (lines false bs) (b ∷ lines false bs))))
    (λ f. mark_join last 10 (lines true bs) refl (lines_marks true last bs le ge later)) (λ f. by_test (b == 10 && returned) (λ t. HasNoMark last (cond t (lines false bs) (b ∷ lines false bs)))
    (λ g. lines_marks false last bs le ge later) (λ g. mark_join last b (lines false bs) (no_mark_here last b bs le ge h) (lines_marks false last bs le ge later)))

lines_clean : (bs : List ℕ) → IsClean bs → IsClean (lines false bs)
lines_clean bs h = record { printed = lines_printed false bs h.printed; no_fffe = lines_marks false 190 bs (omega arith) (omega arith) h.no_fffe; no_ffff = lines_marks false 191 bs (omega arith) (omega arith) h.no_ffff }

mark_clean : (bs : List ℕ) (o : Option (List ℕ)) → after_text (239 ∷ 187 ∷ 191 ∷ []) bs ≡ o → IsClean bs → IsClean (first_or o (λ rest. rest) bs)
mark_clean bs None is h = h
mark_clean bs (Some rest) is h = after_clean (239 ∷ 187 ∷ 191 ∷ []) bs rest is h

declaration_clean : (bs rest : List ℕ) → IsClean bs → declaration_at bs ≡ Ok rest → IsClean rest
declaration_clean bs rest h e =
    let b1 = bound (needed (split_text (codes "?>") bs)) (λ p. cond {A = Result (List ℕ) Fault} (tells p.0) (Ok p.1) (Err Malformed)) rest e in
    let parts = split_text_clean (codes "?>") bs b1.value (needed_some (split_text (codes "?>") bs) b1.value b1.first) h in
    by_test (tells b1.value.0) (λ t. cond {A = Result (List ℕ) Fault} t (Ok b1.value.1) (Err Malformed) ≡ Ok rest → IsClean rest) (λ k j. subst IsClean (ap (ok_or_else []) j) parts.1) (λ k j. absurd cc) b1.next

behind_clean : (whole bs rest : List ℕ) → IsClean whole → IsClean bs → declared_behind whole bs ≡ Ok rest → IsClean rest
behind_clean whole [] rest h k e = subst IsClean (ap (ok_or_else []) e) h
behind_clean whole (b ∷ bs) rest h k e = by_test (is_space b) (λ t. cond {A = Result (List ℕ) Fault} t (declaration_at (b ∷ bs)) (Ok whole) ≡ Ok rest → IsClean rest) (λ f j. declaration_clean (b ∷ bs) rest k j) (λ f j. subst IsClean (ap (ok_or_else []) j) h) e

first_clean : (bs rest : List ℕ) (o : Option (List ℕ)) → after_text (codes "<?xml") bs ≡ o → IsClean bs → first_or o (declared_behind bs) (Ok bs) ≡ Ok rest → IsClean rest
first_clean bs rest None is h e = subst IsClean (ap (ok_or_else []) e) h
first_clean bs rest (Some after) is h e = behind_clean bs after rest h (after_clean (codes "<?xml") bs after is h) e

after_declaration_clean : (bs rest : List ℕ) → IsClean bs → after_declaration bs ≡ Ok rest → IsClean rest
unfolding after_declaration
after_declaration_clean bs rest h e = first_clean bs rest (after_text (codes "<?xml") bs) refl h e

abbrev front_of : List ℕ → Result (List ℕ) Fault
front_of bytes = cond (ltb 0x10_0000 (length bytes)) (Err TooLarge) (cond (are_chars bytes) (after_declaration (after_mark (lines false bytes))) (Err Malformed))

front_clean : (bytes rest : List ℕ) → front_of bytes ≡ Ok rest → IsClean rest
front_clean bytes rest e =
    by_test (ltb 0x10_0000 (length bytes)) (λ t. cond {A = Result (List ℕ) Fault} t (Err TooLarge) (cond (are_chars bytes) (after_declaration (after_mark (lines false bytes))) (Err Malformed)) ≡ Ok rest → IsClean rest) (λ f k. absurd cc)
    (λ f k. by_test (are_chars bytes) (λ t. are_chars bytes ≡ t → cond {A = Result (List ℕ) Fault} t (after_declaration (after_mark (lines false bytes))) (Err Malformed) ≡ Ok rest → IsClean rest)
    (λ g j i. after_declaration_clean (after_mark (lines false bytes)) rest (mark_clean (lines false bytes) (after_text (239 ∷ 187 ∷ 191 ∷ []) (lines false bytes)) refl (lines_clean bytes (chars_clean bytes g))) i) (λ g j i. absurd cc) refl k) e

raw_legal : (bytes : List ℕ) (t : ElementTree) → raw_document bytes ≡ Ok t → HasLegalTexts t
unfolding raw_document
raw_legal bytes t e =
    let b1 = bound (front_of bytes) (λ rest. tokens_of rest >>= nested) t e in
    let b2 = bound (tokens_of b1.value) nested t b1.next in
    nested_legal b2.value t (tokens_legal b1.value b2.value (front_clean bytes b1.value b1.first) b2.first) b2.next

pub read_legal : (bytes : List ℕ) (t : ElementTree) → document bytes ≡ Ok t → HasLegalTexts t
unfolding document
read_legal bytes t e =
    let b1 = bound (raw_document bytes) (expanded_tree []) t e in
    tree_legal b1.value [] t tt (raw_legal bytes b1.value b1.first) b1.next
