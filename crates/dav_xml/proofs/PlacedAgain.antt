-- An element that is written has the namespace and the attributes that are read again.
use Rattle.std.proofs.Common.{◌≡◌, ℕ, Bool, true, false, cond, ◌||◌, ◌⊎◌, inl, inr, List, [], ◌∷◌, ◌++◌, bytes_eq, Option, Some, None, Result, Ok, refl, sym, ap, subst, ◌∙◌, append_assoc}
use Rattle.std.proofs.lemmas.List.{append-nil}
use Rattle.std.specs.List.{AllByRecursion}
use Rattle.dav_core.specs.Element.{xmlns_name}
use Rattle.dav_xml.specs.declared.error.Fault.{Fault}
use Rattle.dav_xml.specs.Read.{◌>>=◌}
use Rattle.dav_xml.specs.Legal.{IsLegalAttribute}
use Rattle.dav_xml.specs.Scopes.{Scope, uri_of, declared_by}
use Rattle.dav_xml.specs.Namespaces.{uri_in, namespace_of, declaring, has_attribute, are_distinct, with_declared, within, Expanded, kept_after}
use Rattle.dav_xml.specs.Written.{declared_prefix, declares, with_prefix, scope_below, or_empty, others_after, has_uri, is_in_scope, placed}
use Rattle.dav_xml.specs.Expanded.{AreKept}
use Rattle.dav_xml.proofs.Escapes.{by_test}
use Rattle.dav_xml.proofs.Nested.{same_bytes}
use Rattle.dav_xml.proofs.Declared.{bytes_same, bytes_differ, bytes_other, uri_here, uri_there, prefix_declares, uri_in_by}
use Rattle.dav_xml.proofs.KeptAgain.{IsGood, plainly, declares_one, Settles, distinct_more, declared_step, GoesOn, goes_on}

declaring_declares : (q : List ℕ) → declared_prefix (declaring q) ≡ Some q
declaring_declares q = refl

some_same : (p q : List ℕ) → Some p ≡ Some q → p ≡ q
some_same p q e = cc

-- ---- scopes

pub within_more : (s : Scope) (own : Option (List ℕ)) (bs tail : List (List ℕ × List ℕ)) (scope : Scope) → AllByRecursion (IsGood s own) bs → within scope (bs ++ tail) ≡ within (scope_below scope bs) tail
within_more s own [] tail scope h = refl
within_more s own (a ∷ bs) tail scope h = one (λ next. within_more s own bs tail next h.1) h.0
  where
    one : ((next : Scope) → within next (bs ++ tail) ≡ within (scope_below next bs) tail) → IsGood s own a → within scope ((a ∷ bs) ++ tail) ≡ within (scope_below scope (a ∷ bs)) tail
    one more (plainly e n) =
        ap (λ (r : Result (Option (List ℕ × List ℕ)) Fault). (r >>= λ d. Ok (with_declared scope d)) >>= λ inner. within inner (bs ++ tail)) e ∙ more scope
        ∙ ap (λ (o : Option (List ℕ)). within (scope_below (with_prefix scope a.1 o) bs) tail) (sym n)
    one more (declares_one q uri is other here declares) =
        ap (λ (r : Result (Option (List ℕ × List ℕ)) Fault). (r >>= λ d. Ok (with_declared scope d)) >>= λ inner. within inner (bs ++ tail)) (ap declared_by is ∙ declares) ∙ more (scope ++ (q, uri) ∷ [])
        ∙ ap (λ (o : Option (List ℕ)). within (scope_below (with_prefix scope uri o) bs) tail) (sym (prefix_declares q))
        ∙ ap (λ (b : List ℕ × List ℕ). within (scope_below (with_prefix scope b.1 (declared_prefix b.0)) bs) tail) (sym is)

pub opened_more : (bs : List (List ℕ × List ℕ)) (scope : Scope) (o uri : List ℕ) → scope_below scope (bs ++ (xmlns_name o, uri) ∷ []) ≡ scope_below scope bs ++ (o, uri) ∷ []
opened_more [] scope o uri = ap (λ (p : Option (List ℕ)). with_prefix scope uri p) (prefix_declares o)
opened_more (a ∷ bs) scope o uri = opened_more bs (with_prefix scope a.1 (declared_prefix a.0)) o uri

-- where a prefix is declared by the attributes, or was so before, it has the namespace that it had
pub settled : (s : Scope) (own : Option (List ℕ)) (bs : List (List ℕ × List ℕ)) (q : List ℕ) (scope : Scope) → AllByRecursion (IsGood s own) bs
    → (has_attribute (declaring q) bs ≡ true) ⊎ (uri_of q scope ≡ uri_of q s) → uri_of q (scope_below scope bs) ≡ uri_of q s
settled s own [] q scope h (inl e) = absurd cc
settled s own [] q scope h (inr e) = e
settled s own (a ∷ bs) q scope h either = one (λ next before. settled s own bs q next h.1 before) h.0
  where
    one : ((next : Scope) → (has_attribute (declaring q) bs ≡ true) ⊎ (uri_of q next ≡ uri_of q s) → uri_of q (scope_below next bs) ≡ uri_of q s) → IsGood s own a → uri_of q (scope_below scope (a ∷ bs)) ≡ uri_of q s
    one more (plainly e n) =
        ap (λ (o : Option (List ℕ)). uri_of q (scope_below (with_prefix scope a.1 o) bs)) n ∙ more scope (passed either)
      where
        passed : (has_attribute (declaring q) (a ∷ bs) ≡ true) ⊎ (uri_of q scope ≡ uri_of q s) → (has_attribute (declaring q) bs ≡ true) ⊎ (uri_of q scope ≡ uri_of q s)
        passed (inr k) = inr k
        passed (inl k) = inl (by_test (bytes_eq a.0 (declaring q)) (λ t. (t || has_attribute (declaring q) bs) ≡ true → has_attribute (declaring q) bs ≡ true)
            (λ is j. let both : None ≡ Some q = sym n ∙ ap declared_prefix (bytes_same a.0 (declaring q) is) in absurd cc) (λ other j. j) k)
    one more (declares_one r uri is other here declares) =
        ap (λ (b : List ℕ × List ℕ). uri_of q (scope_below (with_prefix scope b.1 (declared_prefix b.0)) bs)) is
        ∙ ap (λ (o : Option (List ℕ)). uri_of q (scope_below (with_prefix scope uri o) bs)) (prefix_declares r)
        ∙ more (scope ++ (r, uri) ∷ []) (by_test (bytes_eq r q) (λ t. bytes_eq r q ≡ t → (has_attribute (declaring q) bs ≡ true) ⊎ (uri_of q (scope ++ (r, uri) ∷ []) ≡ uri_of q s))
        (λ e k. inr (subst (λ (x : List ℕ). uri_of x (scope ++ (r, uri) ∷ []) ≡ uri_of x s) (bytes_same r q e) (uri_here r uri scope ∙ sym here)))
        (λ e k. passed e either) refl)
      where
        passed : bytes_eq r q ≡ false → (has_attribute (declaring q) (a ∷ bs) ≡ true) ⊎ (uri_of q scope ≡ uri_of q s) → (has_attribute (declaring q) bs ≡ true) ⊎ (uri_of q (scope ++ (r, uri) ∷ []) ≡ uri_of q s)
        passed e (inr k) = inr (uri_there q r uri scope e ∙ k)
        passed e (inl k) = inl (by_test (bytes_eq a.0 (declaring q)) (λ t. (t || has_attribute (declaring q) bs) ≡ true → has_attribute (declaring q) bs ≡ true)
            (λ same j. let both : Some r ≡ Some q = sym (prefix_declares r) ∙ ap (λ (b : List ℕ × List ℕ). declared_prefix b.0) (sym is) ∙ ap declared_prefix (bytes_same a.0 (declaring q) same) in absurd (bytes_other r q e (some_same r q both)))
            (λ no j. j) k)

pub found_there : (prefix uri : List ℕ) (scope : Scope) → has_uri (uri_of prefix (scope ++ (prefix, uri) ∷ [])) uri ≡ true
found_there prefix uri scope = ap (λ (u : Option (List ℕ)). has_uri u uri) (uri_here prefix uri scope) ∙ same_bytes uri

-- ---- attributes

pub not_declared : (s : Scope) (own : Option (List ℕ)) (bs : List (List ℕ × List ℕ)) (name : List ℕ) → AllByRecursion (IsGood s own) bs → declared_prefix name ≡ Some (or_empty own) → has_attribute name bs ≡ false
not_declared s own [] name h e = refl
not_declared s own (a ∷ bs) name h e = ap (λ (t : Bool). t || has_attribute name bs) (bytes_differ a.0 name (one h.0)) ∙ not_declared s own bs name h.1 e
  where
    one : IsGood s own a → a.0 ≡ name → ⊥
    one (plainly k n) is = let both : None ≡ Some (or_empty own) = sym n ∙ ap declared_prefix is ∙ e in absurd cc
    one (declares_one q uri same other here declares) is =
        let both : Some q ≡ Some (or_empty own) = sym (prefix_declares q) ∙ ap (λ (b : List ℕ × List ℕ). declared_prefix b.0) (sym same) ∙ ap declared_prefix is ∙ e in
        bytes_other q (or_empty own) other (some_same q (or_empty own) both)

others_all : (s : Scope) (own : Option (List ℕ)) (bs made : List (List ℕ × List ℕ)) → AllByRecursion (IsGood s own) bs → others_after (or_empty own) made bs ≡ made ++ bs
others_all s own [] made h = sym (append-nil made)
others_all s own (a ∷ bs) made h =
    ap (λ (t : Bool). others_after (or_empty own) (cond t made (made ++ a ∷ [])) bs) (one h.0) ∙ others_all s own bs (made ++ a ∷ []) h.1 ∙ append_assoc made (a ∷ []) bs
  where
    one : IsGood s own a → declares (or_empty own) (declared_prefix a.0) ≡ false
    one (plainly e n) = ap (declares (or_empty own)) n
    one (declares_one q uri is other here declared) =
        ap (λ (b : List ℕ × List ℕ). declares (or_empty own) (declared_prefix b.0)) is ∙ ap (declares (or_empty own)) (prefix_declares q) ∙ other

pub all_more : (P : List ℕ × List ℕ → Type 0) (bs : List (List ℕ × List ℕ)) (d : List ℕ × List ℕ) → AllByRecursion P bs → P d → AllByRecursion P (bs ++ d ∷ [])
all_more P [] d h one = (one, tt)
all_more P (b ∷ bs) d h one = (h.0, all_more P bs d h.1 one)

-- ---- an element

pub record IsAgain (scope : Scope) (prefix namespace : Option (List ℕ)) (bs : List (List ℕ × List ℕ)) (names : List Expanded) (place : List (List ℕ × List ℕ) × Scope) : Type 0 where
  pub declared : within scope place.0 ≡ Ok place.1
  pub opens : scope_below scope place.0 ≡ place.1
  pub distinct : are_distinct place.0 ≡ true
  pub named : namespace_of place.1 prefix ≡ Ok namespace
  pub kept : kept_after place.1 prefix ([], []) place.0 ≡ Ok (bs, names)
  pub legal : AllByRecursion IsLegalAttribute place.0

-- what an element's own prefix needs
pub record IsOwn (s : Scope) (prefix namespace : Option (List ℕ)) (uri : List ℕ) : Type 0 where
  pub declares : declared_by (xmlns_name (or_empty prefix), uri) ≡ Ok (Some (or_empty prefix, uri))
  pub legal : IsLegalAttribute (xmlns_name (or_empty prefix), uri)
  pub named : (other : Scope) → has_uri (uri_of (or_empty prefix) other) uri ≡ true → namespace_of other prefix ≡ Ok namespace
  pub own_too : (other : Scope) → has_uri (uri_of (or_empty prefix) other) uri ≡ true → (p : List ℕ) → prefix ≡ Some p → uri_in other p ≡ uri_in s p

module _ (scope : Scope) (prefix namespace : Option (List ℕ)) (bs : List (List ℕ × List ℕ)) (k : AreKept prefix namespace bs) (uri : List ℕ) (own : IsOwn k.scope prefix namespace uri) where
  abbrev inner : Scope
  inner = scope_below scope bs

  abbrev goes : GoesOn k.scope prefix k.given [] [] bs k.names
  goes = goes_on k.scope prefix bs k.names k.declarable k.given [] [] k.kept

  good : AllByRecursion (IsGood k.scope prefix) bs
  good = subst (AllByRecursion (IsGood k.scope prefix)) (sym goes.split) goes.good

  again : (s2 : Scope) (tail : List (List ℕ × List ℕ)) → Settles k.scope s2 prefix bs → kept_after s2 prefix ([], []) (bs ++ tail) ≡ kept_after s2 prefix (bs, k.names) tail
  again s2 tail st = ap (λ (xs : List (List ℕ × List ℕ)). kept_after s2 prefix ([], []) (xs ++ tail)) goes.split ∙ goes.onward s2 st tail

  as_it_is : is_in_scope inner (or_empty prefix) uri ≡ true → IsAgain scope prefix namespace bs k.names (bs, inner)
  as_it_is e =
      let st : Settles k.scope inner prefix bs = record { own_too = own.own_too inner e; others = λ q h. uri_in_by k.scope inner q (settled k.scope prefix bs q scope good (inl h)) } in
      record {
        declared = ap (within scope) (sym (append-nil bs)) ∙ within_more k.scope prefix bs [] scope good;
        opens = refl;
        distinct = k.distinct;
        named = own.named inner e;
        kept = ap (kept_after inner prefix ([], [])) (sym (append-nil bs)) ∙ again inner [] st;
        legal = k.legal;
      }

  with_own : IsAgain scope prefix namespace bs k.names (bs ++ (xmlns_name (or_empty prefix), uri) ∷ [], inner ++ (or_empty prefix, uri) ∷ [])
  with_own =
      let o = or_empty prefix in
      let d : List ℕ × List ℕ = (xmlns_name o, uri) in
      let s2 : Scope = inner ++ (o, uri) ∷ [] in
      let found : has_uri (uri_of o s2) uri ≡ true = ap (λ (u : Option (List ℕ)). has_uri u uri) (uri_here o uri inner) ∙ same_bytes uri in
      let st : Settles k.scope s2 prefix bs = record {
        own_too = own.own_too s2 found;
        others = λ q h. uri_in_by k.scope s2 q (by_test (bytes_eq o q) (λ t. bytes_eq o q ≡ t → uri_of q s2 ≡ uri_of q k.scope)
            (λ e j. let both : true ≡ false = sym h ∙ not_declared k.scope prefix bs (declaring q) good (ap (λ (x : List ℕ). Some x) (sym (bytes_same o q e))) in absurd cc)
            (λ e j. uri_there q o uri inner e ∙ settled k.scope prefix bs q scope good (inl h)) refl);
      } in
      record {
        declared = within_more k.scope prefix bs (d ∷ []) scope good ∙ ap (λ (r : Result (Option (List ℕ × List ℕ)) Fault). (r >>= λ e. Ok (with_declared inner e)) >>= λ s. within s []) own.declares;
        opens = opened_more bs scope o uri;
        distinct = distinct_more bs d k.distinct (not_declared k.scope prefix bs (xmlns_name o) good (prefix_declares o));
        named = own.named s2 found;
        kept = again s2 (d ∷ []) st ∙ declared_step s2 prefix (bs, k.names) d (o, uri) [] own.declares;
        legal = all_more IsLegalAttribute bs d k.legal own.legal;
      }

  pub placed_again : IsAgain scope prefix namespace bs k.names (placed inner (or_empty prefix) uri bs)
  placed_again =
      by_test (is_in_scope inner (or_empty prefix) uri)
      (λ t. IsAgain scope prefix namespace bs k.names (cond t (bs, inner) (others_after (or_empty prefix) [] bs ++ (xmlns_name (or_empty prefix), uri) ∷ [], inner ++ (or_empty prefix, uri) ∷ [])))
      as_it_is (λ e. subst (λ (xs : List (List ℕ × List ℕ)). IsAgain scope prefix namespace bs k.names (xs ++ (xmlns_name (or_empty prefix), uri) ∷ [], inner ++ (or_empty prefix, uri) ∷ [])) (sym (others_all k.scope prefix bs [] good)) with_own)
