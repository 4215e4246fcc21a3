-- Declarations alone are read as no attributes.
use Rattle.std.proofs.Common.{◌≡◌, ℕ, Bool, true, false, cond, inl, inr, ◌⊎◌, List, [], ◌∷◌, ◌++◌, bytes_eq, Option, Some, Result, Ok, refl, sym, ap, subst, ◌∙◌, append_assoc}
use Rattle.std.proofs.lemmas.List.{append-nil}
use Rattle.std.proofs.lemmas.Bool.{or_parts}
use Rattle.std.specs.List.{AllByRecursion}
use Rattle.dav_core.specs.Element.{xmlns_name}
use Rattle.dav_xml.specs.declared.error.Fault.{Fault}
use Rattle.dav_xml.specs.Read.{◌>>=◌}
use Rattle.dav_xml.specs.Legal.{IsLegalAttribute}
use Rattle.dav_xml.specs.Scopes.{Scope}
use Rattle.dav_xml.specs.Namespaces.{has_attribute, with_declared, within, kept_after}
use Rattle.dav_xml.specs.Written.{declared_prefix, declares, with_prefix, scope_below, or_empty, others_after, is_in_scope, placed}
use Rattle.dav_xml.specs.Expanded.{IsDeclaration, AreDeclarations}
use Rattle.dav_xml.proofs.Escapes.{by_test}
use Rattle.dav_xml.proofs.Nested.{same_bytes}
use Rattle.dav_xml.proofs.Declared.{bytes_differ, prefix_declares}
use Rattle.dav_xml.proofs.KeptAgain.{distinct_more, declared_step}
use Rattle.dav_xml.proofs.PlacedAgain.{found_there, IsAgain, IsOwn, opened_more, all_more}

prefix_of : (a : List ℕ × List ℕ) (d : IsDeclaration a) → declared_prefix a.0 ≡ Some d.prefix
prefix_of a d = ap declared_prefix d.named ∙ prefix_declares d.prefix

within_all : (ds tail : List (List ℕ × List ℕ)) (scope : Scope) → AllByRecursion IsDeclaration ds → within scope (ds ++ tail) ≡ within (scope_below scope ds) tail
within_all [] tail scope h = refl
within_all (a ∷ ds) tail scope h =
    ap (λ (r : Result (Option (List ℕ × List ℕ)) Fault). (r >>= λ d. Ok (with_declared scope d)) >>= λ inner. within inner (ds ++ tail)) h.0.declared
    ∙ within_all ds tail (scope ++ (h.0.prefix, a.1) ∷ []) h.1
    ∙ ap (λ (o : Option (List ℕ)). within (scope_below (with_prefix scope a.1 o) ds) tail) (sym (prefix_of a h.0))

none_kept_of : (scope : Scope) (own : Option (List ℕ)) (ds tail : List (List ℕ × List ℕ)) → AllByRecursion IsDeclaration ds → kept_after scope own ([], []) (ds ++ tail) ≡ kept_after scope own ([], []) tail
none_kept_of scope own [] tail h = refl
none_kept_of scope own (a ∷ ds) tail h = declared_step scope own ([], []) a (h.0.prefix, a.1) (ds ++ tail) h.0.declared ∙ none_kept_of scope own ds tail h.1

all_legal : (ds : List (List ℕ × List ℕ)) → AllByRecursion IsDeclaration ds → AllByRecursion IsLegalAttribute ds
all_legal [] h = tt
all_legal (a ∷ ds) h = (h.0.legal, all_legal ds h.1)

others_stay : (o : List ℕ) (ds made : List (List ℕ × List ℕ)) → AllByRecursion IsDeclaration ds → has_attribute (xmlns_name o) ds ≡ false → others_after o made ds ≡ made ++ ds
others_stay o [] made h e = sym (append-nil made)
others_stay o (a ∷ ds) made h e =
    let parts = or_parts (bytes_eq a.0 (xmlns_name o)) (has_attribute (xmlns_name o) ds) e in
    let other : bytes_eq h.0.prefix o ≡ false = bytes_differ h.0.prefix o (λ is. apart a.0 (xmlns_name o) parts.0 (h.0.named ∙ ap xmlns_name is)) in
    ap (λ (t : Bool). others_after o (cond t made (made ++ a ∷ [])) ds) (ap (declares o) (prefix_of a h.0) ∙ other) ∙ others_stay o ds (made ++ a ∷ []) h.1 parts.1 ∙ append_assoc made (a ∷ []) ds
  where
    apart : (xs ys : List ℕ) → bytes_eq xs ys ≡ false → xs ≡ ys → ⊥
    apart xs ys e is = let both : false ≡ true = sym e ∙ ap (bytes_eq xs) (sym is) ∙ same_bytes xs in absurd cc

module _ (scope : Scope) (prefix found : Option (List ℕ)) (ds : List (List ℕ × List ℕ)) (h : AreDeclarations scope prefix found ds) (s : Scope) (own : IsOwn s prefix found (or_empty found)) where
  abbrev o : List ℕ
  o = or_empty prefix

  abbrev uri : List ℕ
  uri = or_empty found

  abbrev inner : Scope
  inner = scope_below scope ds

  as_they_are : is_in_scope inner o uri ≡ true → IsAgain scope prefix found [] [] (ds, inner)
  as_they_are e = record {
    declared = ap (within scope) (sym (append-nil ds)) ∙ within_all ds [] scope h.all;
    opens = refl;
    distinct = h.distinct;
    named = own.named inner e;
    kept = ap (kept_after inner prefix ([], [])) (sym (append-nil ds)) ∙ none_kept_of inner prefix ds [] h.all;
    legal = all_legal ds h.all;
  }

  with_own : has_attribute (xmlns_name o) ds ≡ false → IsAgain scope prefix found [] [] (ds ++ (xmlns_name o, uri) ∷ [], inner ++ (o, uri) ∷ [])
  with_own e =
      let d : List ℕ × List ℕ = (xmlns_name o, uri) in
      let s2 : Scope = inner ++ (o, uri) ∷ [] in
      record {
        declared = within_all ds (d ∷ []) scope h.all ∙ ap (λ (r : Result (Option (List ℕ × List ℕ)) Fault). (r >>= λ e. Ok (with_declared inner e)) >>= λ x. within x []) own.declares;
        opens = opened_more ds scope o uri;
        distinct = distinct_more ds d h.distinct e;
        named = own.named s2 (found_there o uri inner);
        kept = none_kept_of s2 prefix ds (d ∷ []) h.all ∙ declared_step s2 prefix ([], []) d (o, uri) [] own.declares;
        legal = all_more IsLegalAttribute ds d (all_legal ds h.all) own.legal;
      }

  own_apart : is_in_scope inner o uri ≡ false → (has_attribute (xmlns_name o) ds ≡ false) ⊎ (is_in_scope inner o uri ≡ true) → has_attribute (xmlns_name o) ds ≡ false
  own_apart e (inl k) = k
  own_apart e (inr k) = let both : false ≡ true = sym e ∙ k in absurd cc

  pub dropped_again : IsAgain scope prefix found [] [] (placed inner o uri ds)
  dropped_again =
      by_test (is_in_scope inner o uri) (λ t. is_in_scope inner o uri ≡ t → IsAgain scope prefix found [] [] (cond t (ds, inner) (others_after o [] ds ++ (xmlns_name o, uri) ∷ [], inner ++ (o, uri) ∷ [])))
      (λ e k. as_they_are e)
      (λ e k. let none = own_apart e h.own in subst (λ (xs : List (List ℕ × List ℕ)). IsAgain scope prefix found [] [] (xs ++ (xmlns_name o, uri) ∷ [], inner ++ (o, uri) ∷ [])) (sym (others_stay o ds [] h.all none)) (with_own none)) refl
