-- Elements of the namespace `DAV:` as they are sent.
use Rattle.std.proofs.Common.{◌≡◌, ℕ, suc, Bool, true, false, cond, not, ◌&&◌, ◌==◌, List, [], ◌∷◌, ◌++◌, length, codes, bytes_eq, chars, inl, inr, Option, Some, None, Result, Ok, Err, refl, sym, ap, subst, ◌∙◌}
use Rattle.std.proofs.lemmas.Str.{chars-encodes}
use Rattle.std.specs.Str.{encode_utf8_all}
use lib.Utf8.{encode}
use Rattle.dav_core.specs.Element.{ElementTrees, element, xmlns_name}
use Rattle.dav_xml.specs.declared.error.Fault.{Fault}
use Rattle.dav_xml.specs.declared.error.Fault.TheVariants.{Malformed}
use Rattle.dav_xml.specs.Read.{◌>>=◌}
use Rattle.dav_xml.specs.References.{utf8}
use Rattle.dav_xml.specs.Names.{are_plain, is_plain}
use Rattle.dav_xml.specs.Scopes.{Scope, uri_of, is_bound, may_declare, declared_by}
use Rattle.dav_xml.specs.Written.{has_uri, uri_or, placed, place_of}
use Rattle.dav_xml.specs.Expanded.{IsPlain, IsExpandedName, IsDeclaration, none_kept, ElementMeans, Means, AllMean}
use Rattle.dav_xml.proofs.Legal.{legal_utf8}
use Rattle.dav_xml.proofs.LegalTrees.{legal_word}
use Rattle.dav_xml.proofs.Declared.{declared_if}
use Rattle.dav_xml.proofs.PlainNames.{declaring_name}

abbrev letter : List ℕ
letter = codes "D"

abbrev space : List ℕ
space = codes "DAV:"

letter_spelled : encode_utf8_all letter ≡ letter
unfolding encode
letter_spelled = refl

letter_chars : is_plain letter ≡ true
letter_chars = ap are_plain (ap chars (sym letter_spelled) ∙ chars-encodes letter refl)

letter_utf8 : utf8 letter ≡ Ok letter
letter_utf8 = ap (λ (t : Bool). cond {A = Result (List ℕ) Fault} t (Ok letter) (Err Malformed)) (legal_utf8 letter (legal_word letter refl))

letter_plain : IsPlain letter
letter_plain = ap (λ (r : Result (List ℕ) Fault). r >>= λ found. cond {A = Result (List ℕ) Fault} (is_plain found) (Ok found) (Err Malformed)) letter_utf8 ∙ ap (λ (t : Bool). cond {A = Result (List ℕ) Fault} t (Ok letter) (Err Malformed)) letter_chars

letter_may : may_declare letter space ≡ true
letter_may = ap (λ (t : Bool). (not (bytes_eq letter (codes "xmlns")) && not (is_bound space)) && (not (length space == 0) && t)) letter_chars

letter_declares : declared_by (codes "xmlns:D", space) ≡ Ok (Some (letter, space))
letter_declares = ap (λ (r : Result (List ℕ) Fault). r >>= λ q. declared_if (may_declare q space) q space) letter_utf8 ∙ ap (λ (t : Bool). declared_if t letter space) letter_may

named : IsExpandedName (Some letter) (Some space)
named = (letter_plain, (record { declared = letter_declares }, legal_word space refl))

abbrev place_by : Scope → Option (List ℕ) → List (List ℕ × List ℕ) × Scope
place_by scope o = placed scope letter (uri_or letter o) []

there : (scope : Scope) → uri_of letter scope ≡ Some space → place_of scope letter None [] ≡ ([], scope)
there scope h = ap (place_by scope) h ∙ ap (λ (o : Option (List ℕ)). cond {A = List (List ℕ × List ℕ) × Scope} (has_uri o space) ([], scope) (place_other scope)) h
  where
    place_other : Scope → List (List ℕ × List ℕ) × Scope
    place_other scope = ((xmlns_name letter, space) ∷ [], scope ++ (letter, space) ∷ [])

pub element_means : (n : ℕ) (scope : Scope) (name : List ℕ) (children meant : ElementTrees) → IsPlain name → uri_of letter scope ≡ Some space → AllMean n false scope children meant
    → Means (suc n) scope (element name (Some letter) None [] children) (element name (Some letter) (Some space) [] meant)
element_means n scope name children meant h declared inner =
    let means : ElementMeans scope name (Some letter) None [] (Some space) [] = record {
      plain = h;
      expanded = named;
      wants = ap (uri_or letter) declared;
      read_as = none_kept (record { all = tt; distinct = refl; own = inl refl }) refl;
    } in
    (refl, (refl, (means, subst (λ (s : Scope). AllMean n false s children meant) (sym (ap (λ (p : List (List ℕ × List ℕ) × Scope). p.1) (there scope declared))) inner)))

abbrev declaring_it : List (List ℕ × List ℕ)
declaring_it = (codes "xmlns:D", space) ∷ []

pub root_means : (n : ℕ) (name : List ℕ) (children meant : ElementTrees) → IsPlain name → AllMean n false ((letter, space) ∷ []) children meant
    → Means (suc n) [] (element name (Some letter) None declaring_it children) (element name (Some letter) (Some space) [] meant)
root_means n name children meant h inner =
    let one : IsDeclaration (codes "xmlns:D", space) = record { prefix = letter; named = refl; declared = letter_declares; legal = record { name = declaring_name (Some letter) (λ p e. let same : letter ≡ p = cc in subst IsPlain same letter_plain); value = legal_word space refl } } in
    let means : ElementMeans [] name (Some letter) None declaring_it (Some space) [] = record {
      plain = h;
      expanded = named;
      wants = refl;
      read_as = none_kept (record { all = (one, tt); distinct = refl; own = inr refl }) refl;
    } in
    (refl, (refl, (means, inner)))
