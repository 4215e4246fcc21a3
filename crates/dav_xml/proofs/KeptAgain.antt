-- The attributes that are kept are kept again, where what they declare is declared.
use Rattle.std.proofs.Common.{◌≡◌, ℕ, Bool, true, false, not, cond, ◌||◌, List, [], ◌∷◌, ◌++◌, codes, bytes_eq, Option, Some, None, Result, Ok, Err, refl, sym, ap, subst, ◌∙◌, append_assoc}
use Rattle.std.proofs.lemmas.List.{append-nil}
use Rattle.std.proofs.lemmas.Bool.{or_parts, and_parts, and_from}
use Rattle.std.specs.List.{AllByRecursion}
use Rattle.dav_core.specs.Element.{xmlns_name}
use Rattle.dav_xml.specs.declared.error.Fault.{Fault}
use Rattle.dav_xml.specs.declared.error.Fault.TheVariants.{Malformed}
use Rattle.dav_xml.specs.Read.{◌>>=◌}
use Rattle.dav_xml.specs.Scopes.{Scope, xml_uri, uri_of, declared_by}
use Rattle.dav_xml.specs.Namespaces.{qualified, declared_uri, uri_in, declaring, has_attribute, are_distinct, has_prefix, is_known, again, Expanded, has_expanded, Kept, kept_prefixed, kept_as, kept_unless, kept_after}
use Rattle.dav_xml.specs.Written.{declared_prefix, or_empty}
use Rattle.dav_xml.specs.Expanded.{IsDeclarable}
use Rattle.dav_xml.proofs.Escapes.{by_test}
use Rattle.dav_xml.proofs.Nested.{same_bytes}
use Rattle.dav_xml.specs.Legal.{IsLegalName}
use Rattle.dav_xml.proofs.PlainNames.{declaring_name}
use Rattle.dav_xml.proofs.QualifiedNames.{of_qualified}
use Rattle.dav_xml.proofs.Declared.{ok_or_else, bytes_same, bytes_differ, bytes_turned, found_declarable, declares_nothing, prefix_nonempty, declaring_is, found_of}

-- An attribute that declares nothing, or that declares a prefix other than the element's own as the scope has it.
pub data IsGood (s : Scope) (own : Option (List ℕ)) (a : List ℕ × List ℕ) : Type 0 where
  plainly : declared_by a ≡ Ok None → declared_prefix a.0 ≡ None → IsGood s own a
  declares_one : (q uri : List ℕ) → a ≡ (xmlns_name q, uri) → bytes_eq q (or_empty own) ≡ false → uri_of q s ≡ Some uri → declared_by (xmlns_name q, uri) ≡ Ok (Some (q, uri)) → IsGood s own a

-- the other scope has the same namespaces for the element's prefix, and for those that the attributes declare
pub record Settles (s1 s2 : Scope) (own : Option (List ℕ)) (attributes : List (List ℕ × List ℕ)) : Type 0 where
  pub own_too : (p : List ℕ) → own ≡ Some p → uri_in s2 p ≡ uri_in s1 p
  pub others : (q : List ℕ) → has_attribute (declaring q) attributes ≡ true → uri_in s2 q ≡ uri_in s1 q

pub has_attribute_append : (name : List ℕ) (xs ys : List (List ℕ × List ℕ)) → has_attribute name (xs ++ ys) ≡ (has_attribute name xs || has_attribute name ys)
has_attribute_append name [] ys = refl
has_attribute_append name (x ∷ xs) ys = by_test (bytes_eq x.0 name) (λ t. (t || has_attribute name (xs ++ ys)) ≡ ((t || has_attribute name xs) || has_attribute name ys)) (λ e. refl) (λ e. has_attribute_append name xs ys)

-- ---- no name stands twice

pub distinct_more : (bs : List (List ℕ × List ℕ)) (d : List ℕ × List ℕ) → are_distinct bs ≡ true → has_attribute d.0 bs ≡ false → are_distinct (bs ++ d ∷ []) ≡ true
distinct_more [] d h e = refl
distinct_more (a ∷ bs) d h e =
    let parts = and_parts (not (has_attribute a.0 bs)) (are_distinct bs) h in
    let apart = or_parts (bytes_eq a.0 d.0) (has_attribute d.0 bs) e in
    let none : has_attribute a.0 (bs ++ d ∷ []) ≡ has_attribute a.0 bs =
    has_attribute_append a.0 bs (d ∷ []) ∙ ap (λ (t : Bool). has_attribute a.0 bs || (t || false)) (bytes_turned a.0 d.0 apart.0) ∙ or_false (has_attribute a.0 bs) in
    and_from (not (has_attribute a.0 (bs ++ d ∷ []))) (are_distinct (bs ++ d ∷ [])) (ap (λ (t : Bool). not t) none ∙ parts.0) (distinct_more bs d parts.1 apart.1)
  where
    or_false : (t : Bool) → (t || false) ≡ t
    or_false true = refl
    or_false false = refl

-- attributes whose names none of those before has
abbrev pub AreFresh : List (List ℕ × List ℕ) → List (List ℕ × List ℕ) → Type 0
AreFresh done given = AllByRecursion (λ a. declared_by a ≡ Ok None → has_attribute a.0 done ≡ false) given

pub all_fresh : (given : List (List ℕ × List ℕ)) → AreFresh [] given
all_fresh [] = tt
all_fresh (a ∷ others) = (λ e. refl, all_fresh others)

not_in : (name : List ℕ) (done : List (List ℕ × List ℕ)) (a : List ℕ × List ℕ) → has_attribute name done ≡ false → bytes_eq a.0 name ≡ false → has_attribute name (done ++ a ∷ []) ≡ false
not_in name done a h e = has_attribute_append name done (a ∷ []) ∙ ap (λ (t : Bool). t || (bytes_eq a.0 name || false)) h ∙ ap (λ (t : Bool). t || false) e

fresh_more : (done others : List (List ℕ × List ℕ)) (a : List ℕ × List ℕ) → AreFresh done others → has_attribute a.0 others ≡ false → AreFresh (done ++ a ∷ []) others
fresh_more done [] a h e = tt
fresh_more done (b ∷ others) a h e =
    let parts = or_parts (bytes_eq b.0 a.0) (has_attribute a.0 others) e in
    (λ is. not_in b.0 done a (h.0 is) (bytes_turned b.0 a.0 parts.0), fresh_more done others a h.1 parts.1)

declaring_apart : (q : List ℕ) (b : List ℕ × List ℕ) → declared_by b ≡ Ok None → bytes_eq (declaring q) b.0 ≡ false
declaring_apart q b e = bytes_differ (declaring q) b.0 (λ is. apart (sym (declares_nothing b e) ∙ ap declared_prefix (sym is)))
  where
    apart : None ≡ Some q → ⊥
    apart k = absurd cc

fresh_declared : (done others : List (List ℕ × List ℕ)) (q uri : List ℕ) → AreFresh done others → AreFresh (done ++ (declaring q, uri) ∷ []) others
fresh_declared done [] q uri h = tt
fresh_declared done (b ∷ others) q uri h = (λ is. not_in b.0 done (declaring q, uri) (h.0 is) (declaring_apart q b is), fresh_declared done others q uri h.1)

not_has : (t : Bool) → not t ≡ true → t ≡ false
not_has true e = absurd cc
not_has false e = refl

own_settled : (s1 s2 : Scope) (own : Option (List ℕ)) (q : List ℕ) → ((p : List ℕ) → own ≡ Some p → uri_in s2 p ≡ uri_in s1 p) → has_prefix own q ≡ true → uri_in s2 q ≡ uri_in s1 q
own_settled s1 s2 None q h e = absurd cc
own_settled s1 s2 (Some p) q h e = subst (λ (x : List ℕ). uri_in s2 x ≡ uri_in s1 x) (bytes_same p q e) (h p refl)

abbrev uri_by : Bool → List ℕ → Scope → Result (List ℕ) Fault
uri_by t q s = cond t (Ok xml_uri) (declared_uri (uri_of q s))

known_settled : (s1 s2 : Scope) (own : Option (List ℕ)) (bs : List (List ℕ × List ℕ)) (q : List ℕ) → Settles s1 s2 own bs → is_known own bs q ≡ true → uri_in s2 q ≡ uri_in s1 q
known_settled s1 s2 own bs q h =
    by_test (bytes_eq q (codes "xml")) (λ t. ((t || has_prefix own q) || has_attribute (declaring q) bs) ≡ true → uri_in s2 q ≡ uri_in s1 q)
    (λ is e. ap (λ (t : Bool). uri_by t q s2) is ∙ sym (ap (λ (t : Bool). uri_by t q s1) is)) (λ other.
    by_test (has_prefix own q) (λ t. (t || has_attribute (declaring q) bs) ≡ true → uri_in s2 q ≡ uri_in s1 q) (λ is e. own_settled s1 s2 own q h.own_too is) (λ no e. h.others q e))

pub known_more : (own : Option (List ℕ)) (xs ys : List (List ℕ × List ℕ)) (q : List ℕ) → is_known own xs q ≡ true → is_known own (xs ++ ys) q ≡ true
known_more own xs ys q h =
    ap (λ (t : Bool). (bytes_eq q (codes "xml") || has_prefix own q) || t) (has_attribute_append (declaring q) xs ys) ∙ by_test (bytes_eq q (codes "xml") || has_prefix own q)
    (λ t. (t || has_attribute (declaring q) xs) ≡ true → (t || (has_attribute (declaring q) xs || has_attribute (declaring q) ys)) ≡ true) (λ e k. refl)
    (λ e k. ap (λ (t : Bool). t || has_attribute (declaring q) ys) k) h

pub declared_known : (own : Option (List ℕ)) (xs : List (List ℕ × List ℕ)) (q uri : List ℕ) → is_known own (xs ++ (declaring q, uri) ∷ []) q ≡ true
declared_known own xs q uri =
    ap (λ (t : Bool). (bytes_eq q (codes "xml") || has_prefix own q) || t) (has_attribute_append (declaring q) xs ((declaring q, uri) ∷ []) ∙ ap (λ (t : Bool). has_attribute (declaring q) xs || (t || false)) (same_bytes (declaring q)) ∙ or_true (has_attribute (declaring q) xs))
    ∙ or_true (bytes_eq q (codes "xml") || has_prefix own q)
  where
    or_true : (t : Bool) → (t || true) ≡ true
    or_true true = refl
    or_true false = refl

-- ---- one step

abbrev pub go : Scope → Option (List ℕ) → List (List ℕ × List ℕ) → Kept → Result Kept Fault
go s own rest more = kept_after s own more rest

pub plain_step : (s : Scope) (own : Option (List ℕ)) (kept : Kept) (a : List ℕ × List ℕ) (local : List ℕ) (rest : List (List ℕ × List ℕ)) → declared_by a ≡ Ok None → qualified a.0 ≡ Ok (None, local)
    → kept_after s own kept (a ∷ rest) ≡ kept_after s own (kept.0 ++ a ∷ [], kept.1) rest
plain_step s own kept a local rest e is =
    ap (λ (r : Result (Option (List ℕ × List ℕ)) Fault). (r >>= kept_unless s own kept a) >>= go s own rest) e
    ∙ ap (λ (r : Result (Option (List ℕ) × List ℕ) Fault). (r >>= kept_as s own kept a) >>= go s own rest) is

pub prefixed_step : (s : Scope) (own : Option (List ℕ)) (kept : Kept) (a : List ℕ × List ℕ) (q local uri : List ℕ) (rest : List (List ℕ × List ℕ)) → declared_by a ≡ Ok None → qualified a.0 ≡ Ok (Some q, local)
    → uri_in s q ≡ Ok uri → has_expanded (uri, local) kept.1 ≡ false → kept_after s own kept (a ∷ rest) ≡ kept_after s own (again own (kept.0 ++ a ∷ []) q uri, kept.1 ++ (uri, local) ∷ []) rest
prefixed_step s own kept a q local uri rest e is found new =
    ap (λ (r : Result (Option (List ℕ × List ℕ)) Fault). (r >>= kept_unless s own kept a) >>= go s own rest) e
    ∙ ap (λ (r : Result (Option (List ℕ) × List ℕ) Fault). (r >>= kept_as s own kept a) >>= go s own rest) is
    ∙ ap (λ (r : Result (List ℕ) Fault). (r >>= λ u. kept_prefixed own kept a q u local) >>= go s own rest) found
    ∙ ap (λ (t : Bool). cond t (Err Malformed) (Ok (again own (kept.0 ++ a ∷ []) q uri, kept.1 ++ (uri, local) ∷ [])) >>= go s own rest) new

pub declared_step : (s : Scope) (own : Option (List ℕ)) (kept : Kept) (a d : List ℕ × List ℕ) (rest : List (List ℕ × List ℕ)) → declared_by a ≡ Ok (Some d) → kept_after s own kept (a ∷ rest) ≡ kept_after s own kept rest
declared_step s own kept a d rest e = ap (λ (r : Result (Option (List ℕ × List ℕ)) Fault). (r >>= kept_unless s own kept a) >>= go s own rest) e

-- ---- all steps

-- how those that are kept go on behind those that were kept before
pub record GoesOn (s1 : Scope) (own : Option (List ℕ)) (given done : List (List ℕ × List ℕ)) (names : List Expanded) (bs : List (List ℕ × List ℕ)) (all : List Expanded) : Type 0 where
  pub new : List (List ℕ × List ℕ)
  pub split : bs ≡ done ++ new
  pub good : AllByRecursion (IsGood s1 own) new
  pub named : AllByRecursion (λ a. IsLegalName a.0) new
  pub distinct : are_distinct done ≡ true → AreFresh done given → are_distinct given ≡ true → are_distinct bs ≡ true
  pub onward : (s2 : Scope) → Settles s1 s2 own bs → (tail : List (List ℕ × List ℕ)) → kept_after s2 own (done, names) (new ++ tail) ≡ kept_after s2 own (bs, all) tail

not_own : (own : Option (List ℕ)) (q : List ℕ) → (q ≡ [] → ⊥) → has_prefix own q ≡ false → bytes_eq q (or_empty own) ≡ false
not_own None [] n e = absurd (n refl)
not_own None (b ∷ q) n e = refl
not_own (Some p) q n e = bytes_turned p q e

abbrev kept_ok : Kept → Result Kept Fault
kept_ok k = Ok k

abbrev Result2 : Type 0
Result2 = Result (Option (List ℕ) × List ℕ) Fault

module _ (s1 : Scope) (own : Option (List ℕ)) (bs : List (List ℕ × List ℕ)) (all : List Expanded) (legal : AllByRecursion IsDeclarable s1) where
  abbrev Onward : List (List ℕ × List ℕ) → Type 0
  Onward others = (done : List (List ℕ × List ℕ)) (names : List Expanded) → kept_after s1 own (done, names) others ≡ Ok (bs, all) → GoesOn s1 own others done names bs all

  none_left : (done : List (List ℕ × List ℕ)) (names : List Expanded) → kept_ok (done, names) ≡ Ok (bs, all) → GoesOn s1 own [] done names bs all
  none_left done names h =
      let same : done ≡ bs = ap (λ (r : Result Kept Fault). (ok_or_else (bs, all) r).0) h in
      let too : names ≡ all = ap (λ (r : Result Kept Fault). (ok_or_else (bs, all) r).1) h in
      record { new = []; split = sym same ∙ sym (append-nil done); good = tt; named = tt; distinct = λ d f g. ap are_distinct (sym same) ∙ d; onward = λ s2 st tail. ap (λ (xs : List (List ℕ × List ℕ)). kept_after s2 own (xs, names) tail) same ∙ ap (λ (xs : List Expanded). kept_after s2 own (bs, xs) tail) too }

  on_known : (a : List ℕ × List ℕ) (q local uri : List ℕ) (others done : List (List ℕ × List ℕ)) (names : List Expanded) → declared_by a ≡ Ok None → qualified a.0 ≡ Ok (Some q, local) → uri_in s1 q ≡ Ok uri
      → has_expanded (uri, local) names ≡ false → Onward others → (t : Bool) → is_known own (done ++ a ∷ []) q ≡ t
      → kept_after s1 own (cond t (done ++ a ∷ []) ((done ++ a ∷ []) ++ (declaring q, uri) ∷ []), names ++ (uri, local) ∷ []) others ≡ Ok (bs, all) → GoesOn s1 own (a ∷ others) done names bs all
  on_known a q local uri others done names e is found new rec true known h =
      let k = rec (done ++ a ∷ []) (names ++ (uri, local) ∷ []) h in
      record {
        new = a ∷ k.new;
        split = k.split ∙ append_assoc done (a ∷ []) k.new;
        good = (plainly e (declares_nothing a e), k.good);
        named = ((of_qualified a.0 _ is).legal, k.named);
        distinct = λ dd f g.
            let parts = and_parts (not (has_attribute a.0 others)) (are_distinct others) g in
            k.distinct (distinct_more done a dd (f.0 e)) (fresh_more done others a f.1 (not_has (has_attribute a.0 others) parts.0)) parts.1;
        onward = λ s2 st tail.
            let settled : is_known own bs q ≡ true = ap (λ (xs : List (List ℕ × List ℕ)). is_known own xs q) k.split ∙ known_more own (done ++ a ∷ []) k.new q known in
            prefixed_step s2 own (done, names) a q local uri (k.new ++ tail) e is (known_settled s1 s2 own bs q st settled ∙ found) new
            ∙ ap (λ (t : Bool). kept_after s2 own (cond t (done ++ a ∷ []) ((done ++ a ∷ []) ++ (declaring q, uri) ∷ []), names ++ (uri, local) ∷ []) (k.new ++ tail)) known
            ∙ k.onward s2 st tail;
      }
  on_known a q local uri others done names e is found new rec false unknown h =
      let d : List ℕ × List ℕ = (declaring q, uri) in
      let k = rec ((done ++ a ∷ []) ++ d ∷ []) (names ++ (uri, local) ∷ []) h in
      let some : q ≡ [] → ⊥ = prefix_nonempty a.0 q local is in
      let parts = or_parts (bytes_eq q (codes "xml") || has_prefix own q) (has_attribute (declaring q) (done ++ a ∷ [])) unknown in
      let first = or_parts (bytes_eq q (codes "xml")) (has_prefix own q) parts.0 in
      let here : uri_of q s1 ≡ Some uri = found_of s1 q uri first.0 found in
      let declarable = found_declarable s1 None q uri legal (λ u eu. absurd cc) here in
      let named : d ≡ (xmlns_name q, uri) = ap (λ (x : List ℕ). (x, uri)) (declaring_is q some) in
      let own_name : IsLegalName (xmlns_name q) = declaring_name (Some q) (of_qualified a.0 (Some q, local) is).prefix_plain in
      let named_legal : IsLegalName (declaring q) = subst IsLegalName (sym (declaring_is q some)) own_name in
      let declares : declared_by d ≡ Ok (Some (q, uri)) = ap declared_by named ∙ declarable.declared in
      record {
        new = a ∷ d ∷ k.new;
        split = k.split ∙ append_assoc (done ++ a ∷ []) (d ∷ []) k.new ∙ append_assoc done (a ∷ []) (d ∷ k.new);
        good = (plainly e (declares_nothing a e), (declares_one q uri named (not_own own q some first.1) here declarable.declared, k.good));
        named = ((of_qualified a.0 _ is).legal, (named_legal, k.named));
        distinct = λ dd f g.
            let apart = and_parts (not (has_attribute a.0 others)) (are_distinct others) g in
            k.distinct (distinct_more (done ++ a ∷ []) d (distinct_more done a dd (f.0 e)) parts.1)
            (fresh_declared (done ++ a ∷ []) others q uri (fresh_more done others a f.1 (not_has (has_attribute a.0 others) apart.0))) apart.1;
        onward = λ s2 st tail.
            let settled : is_known own bs q ≡ true = ap (λ (xs : List (List ℕ × List ℕ)). is_known own xs q) k.split ∙ known_more own ((done ++ a ∷ []) ++ d ∷ []) k.new q (declared_known own (done ++ a ∷ []) q uri) in
            prefixed_step s2 own (done, names) a q local uri (d ∷ (k.new ++ tail)) e is (known_settled s1 s2 own bs q st settled ∙ found) new
            ∙ ap (λ (t : Bool). kept_after s2 own (cond t (done ++ a ∷ []) ((done ++ a ∷ []) ++ d ∷ []), names ++ (uri, local) ∷ []) (d ∷ (k.new ++ tail))) unknown
            ∙ declared_step s2 own ((done ++ a ∷ []) ++ d ∷ [], names ++ (uri, local) ∷ []) d (q, uri) (k.new ++ tail) declares
            ∙ k.onward s2 st tail;
      }

  on_new : (a : List ℕ × List ℕ) (q local uri : List ℕ) (others done : List (List ℕ × List ℕ)) (names : List Expanded) → declared_by a ≡ Ok None → qualified a.0 ≡ Ok (Some q, local) → uri_in s1 q ≡ Ok uri
      → Onward others → (t : Bool) → has_expanded (uri, local) names ≡ t
      → (cond t (Err Malformed) (Ok (again own (done ++ a ∷ []) q uri, names ++ (uri, local) ∷ [])) >>= go s1 own others) ≡ Ok (bs, all) → GoesOn s1 own (a ∷ others) done names bs all
  on_new a q local uri others done names e is found rec true twice h = absurd cc
  on_new a q local uri others done names e is found rec false new h = on_known a q local uri others done names e is found new rec (is_known own (done ++ a ∷ []) q) refl h

  on_uri : (a : List ℕ × List ℕ) (q local : List ℕ) (others done : List (List ℕ × List ℕ)) (names : List Expanded) → declared_by a ≡ Ok None → qualified a.0 ≡ Ok (Some q, local)
      → Onward others → (r : Result (List ℕ) Fault) → uri_in s1 q ≡ r
      → ((r >>= λ u. kept_prefixed own (done, names) a q u local) >>= go s1 own others) ≡ Ok (bs, all) → GoesOn s1 own (a ∷ others) done names bs all
  on_uri a q local others done names e is rec (Err f) found h = absurd cc
  on_uri a q local others done names e is rec (Ok uri) found h = on_new a q local uri others done names e is found rec (has_expanded (uri, local) names) refl h

  on_name : (a : List ℕ × List ℕ) (others done : List (List ℕ × List ℕ)) (names : List Expanded) → declared_by a ≡ Ok None
      → Onward others → (r : Result2) → qualified a.0 ≡ r
      → ((r >>= kept_as s1 own (done, names) a) >>= go s1 own others) ≡ Ok (bs, all) → GoesOn s1 own (a ∷ others) done names bs all
  on_name a others done names e rec (Err f) is h = absurd cc
  on_name a others done names e rec (Ok (Some q, local)) is h = on_uri a q local others done names e is rec (uri_in s1 q) refl h
  on_name a others done names e rec (Ok (None, local)) is h =
      let k = rec (done ++ a ∷ []) names h in
      record {
        new = a ∷ k.new;
        split = k.split ∙ append_assoc done (a ∷ []) k.new;
        good = (plainly e (declares_nothing a e), k.good);
        named = ((of_qualified a.0 _ is).legal, k.named);
        distinct = λ dd f g.
            let parts = and_parts (not (has_attribute a.0 others)) (are_distinct others) g in
            k.distinct (distinct_more done a dd (f.0 e)) (fresh_more done others a f.1 (not_has (has_attribute a.0 others) parts.0)) parts.1;
        onward = λ s2 st tail. plain_step s2 own (done, names) a local (k.new ++ tail) e is ∙ k.onward s2 st tail;
      }

  on_declared : (a : List ℕ × List ℕ) (others done : List (List ℕ × List ℕ)) (names : List Expanded) → Onward others → (r : Result (Option (List ℕ × List ℕ)) Fault) → declared_by a ≡ r
      → ((r >>= kept_unless s1 own (done, names) a) >>= go s1 own others) ≡ Ok (bs, all) → GoesOn s1 own (a ∷ others) done names bs all
  on_declared a others done names rec (Err f) e h = absurd cc
  on_declared a others done names rec (Ok (Some d)) e h =
      let k = rec done names h in
      record { new = k.new; split = k.split; good = k.good; named = k.named; distinct = λ dd f g. k.distinct dd f.1 (and_parts (not (has_attribute a.0 others)) (are_distinct others) g).1; onward = k.onward }
  on_declared a others done names rec (Ok None) e h = on_name a others done names e rec (qualified a.0) refl h

  pub goes_on : (given done : List (List ℕ × List ℕ)) (names : List Expanded) → kept_after s1 own (done, names) given ≡ Ok (bs, all) → GoesOn s1 own given done names bs all
  goes_on [] done names h = none_left done names h
  goes_on (a ∷ others) done names h = on_declared a others done names (goes_on others) (declared_by a) refl h
