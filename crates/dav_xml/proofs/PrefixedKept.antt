-- No attribute is lost under another prefix but those under it.
use Rattle.std.proofs.Common.{◌≡◌, ℕ, zero, suc, Bool, true, false, cond, ◌||◌, ◌&&◌, inl, List, [], ◌∷◌, ◌++◌, codes, bytes_eq, Option, Some, None, is_some, Result, Ok, Err, refl, sym, ap, subst, ◌∙◌, append_assoc}
use Rattle.std.proofs.lemmas.Bool.{or_parts, eq-eqb}
use Rattle.std.proofs.lemmas.List.{append-nil}
use Rattle.std.specs.List.{AllByRecursion}
use Rattle.dav_core.specs.Element.{element, text, xmlns_name, attributes_of}
use Rattle.dav_xml.specs.declared.error.Fault.{Fault}
use Rattle.dav_xml.specs.declared.error.Fault.TheVariants.{Malformed}
use Rattle.dav_xml.specs.Read.{◌>>=◌}
use Rattle.dav_xml.specs.Bytes.{after_text}
use Rattle.dav_xml.specs.Scopes.{Scope, xml_uri, uri_of, declared_by}
use Rattle.dav_xml.specs.Namespaces.{qualified, declared_uri, uri_in, namespace_of as uri_named, declaring, has_attribute, has_prefix, is_known, again, Expanded, has_expanded, Kept, kept_prefixed, kept_as, kept_unless, within, kept_after}
use Rattle.dav_xml.specs.Written.{declared_prefix, scope_below}
use Rattle.dav_xml.specs.Expanded.{IsDeclarable, AreKept}
use Rattle.dav_xml.specs.Sendable.{IsKnownPrefix}
use Rattle.dav_xml.specs.Prefixed.{begins_with_colon, is_under, not_under, own_declaration, namespace_under, scope_under, kept_under, attributes_or_none, renamed, undeclaring, OthersAreKept}
use Rattle.dav_xml.proofs.Escapes.{by_test}
use Rattle.dav_xml.proofs.Declared.{ok_or_else, bytes_same, bytes_differ, bytes_turned, uri_here, uri_there, prefix_declares, declares_nothing, found_of}
use Rattle.dav_xml.proofs.QualifiedNames.{of_qualified}
use Rattle.dav_xml.proofs.ReadTrees.{declaration_is}
use Rattle.dav_xml.proofs.KeptAgain.{go, goes_on, GoesOn, Settles, IsGood, known_more, declared_known, plain_step, prefixed_step, declared_step}
use Rattle.dav_xml.proofs.PlacedAgain.{settled, within_more}

-- ---- names under a prefix

after_front : (p rest : List ℕ) → after_text p (p ++ rest) ≡ Some rest
after_front [] rest = refl
after_front (b ∷ p) rest = rw (eq-eqb b b refl) (after_front p rest)

under_own : (p local : List ℕ) → is_under p (p ++ 58 ∷ local) ≡ true
under_own p local = ap begins_with_colon (after_front p (58 ∷ local))

-- the prefix of a name that isn't under another
other_prefix : (name q local new : List ℕ) → qualified name ≡ Ok (Some q, local) → is_under new name ≡ false → bytes_eq q new ≡ false
other_prefix name q local new is other = bytes_differ q new (λ same.
    let under : is_under new name ≡ true = ap (is_under new) ((of_qualified name (Some q, local) is).spelled q refl) ∙ ap (λ (p : List ℕ). is_under new (p ++ 58 ∷ local)) same ∙ under_own new local in
    never (sym under ∙ other))
  where
    never : true ≡ false → ⊥
    never e = absurd cc

-- ---- attributes that declare nothing

undeclaring_more : (xs ys : List (List ℕ × List ℕ)) → undeclaring (xs ++ ys) ≡ undeclaring xs ++ undeclaring ys
undeclaring_more [] ys = refl
undeclaring_more (x ∷ xs) ys =
    by_test (is_some (declared_prefix x.0)) (λ t. cond t (undeclaring (xs ++ ys)) (x ∷ undeclaring (xs ++ ys)) ≡ cond t (undeclaring xs) (x ∷ undeclaring xs) ++ undeclaring ys)
    (λ e. undeclaring_more xs ys) (λ e. ap (λ (zs : List (List ℕ × List ℕ)). x ∷ zs) (undeclaring_more xs ys))

plain_first : (a : List ℕ × List ℕ) (others : List (List ℕ × List ℕ)) → declared_prefix a.0 ≡ None → undeclaring (a ∷ others) ≡ a ∷ undeclaring others
plain_first a others e = ap (λ (o : Option (List ℕ)). cond (is_some o) (undeclaring others) (a ∷ undeclaring others)) e

declared_first : (a d : List ℕ × List ℕ) (others : List (List ℕ × List ℕ)) → a ≡ (xmlns_name d.0, d.1) → undeclaring (a ∷ others) ≡ undeclaring others
declared_first a d others e =
    ap (λ (b : List ℕ × List ℕ). cond (is_some (declared_prefix b.0)) (undeclaring others) (a ∷ undeclaring others)) e
    ∙ ap (λ (o : Option (List ℕ)). cond (is_some o) (undeclaring others) (a ∷ undeclaring others)) (prefix_declares d.0)

plain_last : (done : List (List ℕ × List ℕ)) (a : List ℕ × List ℕ) → declared_prefix a.0 ≡ None → undeclaring (done ++ a ∷ []) ≡ undeclaring done ++ a ∷ []
plain_last done a e = undeclaring_more done (a ∷ []) ∙ ap (λ (xs : List (List ℕ × List ℕ)). undeclaring done ++ xs) (plain_first a [] e)

again_last : (own : Option (List ℕ)) (done : List (List ℕ × List ℕ)) (a : List ℕ × List ℕ) (q uri : List ℕ) → declared_prefix a.0 ≡ None → undeclaring (again own (done ++ a ∷ []) q uri) ≡ undeclaring done ++ a ∷ []
again_last own done a q uri e = by_test (is_known own (done ++ a ∷ []) q) (λ t. undeclaring (cond t (done ++ a ∷ []) ((done ++ a ∷ []) ++ (declaring q, uri) ∷ [])) ≡ undeclaring done ++ a ∷ [])
    (λ k. plain_last done a e) (λ k. undeclaring_more (done ++ a ∷ []) ((declaring q, uri) ∷ []) ∙ append-nil (undeclaring (done ++ a ∷ [])) ∙ plain_last done a e)

-- ---- expanded names

has_expanded_more : (e : Expanded) (xs ys : List Expanded) → has_expanded e (xs ++ ys) ≡ (has_expanded e xs || has_expanded e ys)
has_expanded_more e [] ys = refl
has_expanded_more e (f ∷ fs) ys =
    by_test (bytes_eq f.0 e.0 && bytes_eq f.1 e.1) (λ t. (t || has_expanded e (fs ++ ys)) ≡ ((t || has_expanded e fs) || has_expanded e ys)) (λ k. refl) (λ k. has_expanded_more e fs ys)

-- what isn't among the first isn't among the others
abbrev IsMissing : List Expanded → List Expanded → Type 0
IsMissing names1 names2 = (e : Expanded) → has_expanded e names1 ≡ false → has_expanded e names2 ≡ false

missing_front : (names1 names2 : List Expanded) (f : Expanded) → IsMissing names1 names2 → IsMissing (names1 ++ f ∷ []) names2
missing_front names1 names2 f h e k = h e (or_parts (has_expanded e names1) (has_expanded e (f ∷ [])) (sym (has_expanded_more e names1 (f ∷ [])) ∙ k)).0

missing_both : (names1 names2 : List Expanded) (f : Expanded) → IsMissing names1 names2 → IsMissing (names1 ++ f ∷ []) (names2 ++ f ∷ [])
missing_both names1 names2 f h e k =
    let parts = or_parts (has_expanded e names1) (has_expanded e (f ∷ [])) (sym (has_expanded_more e names1 (f ∷ [])) ∙ k) in
    has_expanded_more e names2 (f ∷ []) ∙ ap (λ (t : Bool). t || has_expanded e (f ∷ [])) (h e parts.0) ∙ parts.1

-- ---- both runs over the attributes

record Runs (s2 : Scope) (new : List ℕ) (rest done : List (List ℕ × List ℕ)) (names : List Expanded) : Type 0 where
  pub out : Kept
  pub runs : kept_after s2 (Some new) (done, names) (not_under new rest) ≡ Ok out
  pub same : undeclaring out.0 ≡ undeclaring done ++ not_under new (undeclaring rest)

module _ (s1 s2 : Scope) (own : Option (List ℕ)) (new : List ℕ) (bs : List (List ℕ × List ℕ)) (all : List Expanded) (legal : AllByRecursion IsDeclarable s1)
    (seen : (q uri : List ℕ) → bytes_eq q new ≡ false → is_known own bs q ≡ true → uri_in s1 q ≡ Ok uri → uri_in s2 q ≡ Ok uri) where
  abbrev Onward : List (List ℕ × List ℕ) → Type 0
  Onward others = (done1 done2 : List (List ℕ × List ℕ)) (names1 names2 : List Expanded) → kept_after s1 own (done1, names1) others ≡ Ok (bs, all) → IsMissing names1 names2 → Runs s2 new others done2 names2

  -- the new run passes over the attribute, or it goes one step
  passed : (a : List ℕ × List ℕ) (others done : List (List ℕ × List ℕ)) (names : List Expanded) → is_under new a.0 ≡ true → declared_prefix a.0 ≡ None → Runs s2 new others done names → Runs s2 new (a ∷ others) done names
  passed a others done names under e k = record {
    out = k.out;
    runs = ap (λ (t : Bool). kept_after s2 (Some new) (done, names) (cond t (not_under new others) (a ∷ not_under new others))) under ∙ k.runs;
    same = k.same ∙ ap (λ (xs : List (List ℕ × List ℕ)). undeclaring done ++ xs) (sym (ap (not_under new) (plain_first a others e)
        ∙ ap (λ (t : Bool). cond t (not_under new (undeclaring others)) (a ∷ not_under new (undeclaring others))) under));
  }

  stepped : (a : List ℕ × List ℕ) (others done next : List (List ℕ × List ℕ)) (names names_next : List Expanded) → is_under new a.0 ≡ false → declared_prefix a.0 ≡ None
      → undeclaring next ≡ undeclaring done ++ a ∷ [] → ((rest : List (List ℕ × List ℕ)) → kept_after s2 (Some new) (done, names) (a ∷ rest) ≡ kept_after s2 (Some new) (next, names_next) rest)
      → Runs s2 new others next names_next → Runs s2 new (a ∷ others) done names
  stepped a others done next names names_next apart e more step k = record {
    out = k.out;
    runs = ap (λ (t : Bool). kept_after s2 (Some new) (done, names) (cond t (not_under new others) (a ∷ not_under new others))) apart ∙ step (not_under new others) ∙ k.runs;
    same = k.same ∙ ap (λ (xs : List (List ℕ × List ℕ)). xs ++ not_under new (undeclaring others)) more ∙ append_assoc (undeclaring done) (a ∷ []) (not_under new (undeclaring others))
        ∙ ap (λ (xs : List (List ℕ × List ℕ)). undeclaring done ++ xs) (sym (ap (not_under new) (plain_first a others e)
        ∙ ap (λ (t : Bool). cond t (not_under new (undeclaring others)) (a ∷ not_under new (undeclaring others))) apart));
  }

  -- the prefix of an attribute that was kept is known then
  known_then : (a : List ℕ × List ℕ) (q uri : List ℕ) (others done : List (List ℕ × List ℕ)) (names : List Expanded)
      → kept_after s1 own (again own (done ++ a ∷ []) q uri, names) others ≡ Ok (bs, all) → is_known own bs q ≡ true
  known_then a q uri others done names h =
      let k = goes_on s1 own bs all legal others (again own (done ++ a ∷ []) q uri) names h in
      ap (λ (xs : List (List ℕ × List ℕ)). is_known own xs q) k.split
      ∙ known_more own (again own (done ++ a ∷ []) q uri) k.new q (by_test (is_known own (done ++ a ∷ []) q) (λ t. is_known own (done ++ a ∷ []) q ≡ t → is_known own (cond t (done ++ a ∷ []) ((done ++ a ∷ []) ++ (declaring q, uri) ∷ [])) q ≡ true)
      (λ x e. e) (λ x e. declared_known own (done ++ a ∷ []) q uri) refl)

  on_new : (a : List ℕ × List ℕ) (q local uri : List ℕ) (others done1 done2 : List (List ℕ × List ℕ)) (names1 names2 : List Expanded) → declared_by a ≡ Ok None → qualified a.0 ≡ Ok (Some q, local) → uri_in s1 q ≡ Ok uri
      → Onward others → IsMissing names1 names2 → (t : Bool) → has_expanded (uri, local) names1 ≡ t
      → (cond t (Err Malformed) (Ok (again own (done1 ++ a ∷ []) q uri, names1 ++ (uri, local) ∷ [])) >>= go s1 own others) ≡ Ok (bs, all) → Runs s2 new (a ∷ others) done2 names2
  on_new a q local uri others done1 done2 names1 names2 e is found rec missing true twice h = absurd cc
  on_new a q local uri others done1 done2 names1 names2 e is found rec missing false once h =
      let plain = declares_nothing a e in
      let next = again own (done1 ++ a ∷ []) q uri in
      by_test (is_under new a.0) (λ t. is_under new a.0 ≡ t → Runs s2 new (a ∷ others) done2 names2)
      (λ x under. passed a others done2 names2 under plain (rec next done2 (names1 ++ (uri, local) ∷ []) names2 h (missing_front names1 names2 (uri, local) missing)))
      (λ x apart.
      let there = seen q uri (other_prefix a.0 q local new is apart) (known_then a q uri others done1 (names1 ++ (uri, local) ∷ []) h) found in
      stepped a others done2 (again (Some new) (done2 ++ a ∷ []) q uri) names2 (names2 ++ (uri, local) ∷ []) apart plain (again_last (Some new) done2 a q uri plain)
      (λ rest. prefixed_step s2 (Some new) (done2, names2) a q local uri rest e is there (missing (uri, local) once))
      (rec next (again (Some new) (done2 ++ a ∷ []) q uri) (names1 ++ (uri, local) ∷ []) (names2 ++ (uri, local) ∷ []) h (missing_both names1 names2 (uri, local) missing))) refl

  on_uri : (a : List ℕ × List ℕ) (q local : List ℕ) (others done1 done2 : List (List ℕ × List ℕ)) (names1 names2 : List Expanded) → declared_by a ≡ Ok None → qualified a.0 ≡ Ok (Some q, local)
      → Onward others → IsMissing names1 names2 → (r : Result (List ℕ) Fault) → uri_in s1 q ≡ r
      → ((r >>= λ u. kept_prefixed own (done1, names1) a q u local) >>= go s1 own others) ≡ Ok (bs, all) → Runs s2 new (a ∷ others) done2 names2
  on_uri a q local others done1 done2 names1 names2 e is rec missing (Err f) found h = absurd cc
  on_uri a q local others done1 done2 names1 names2 e is rec missing (Ok uri) found h = on_new a q local uri others done1 done2 names1 names2 e is found rec missing (has_expanded (uri, local) names1) refl h

  abbrev Parts : Type 0
  Parts = Result (Option (List ℕ) × List ℕ) Fault

  on_name : (a : List ℕ × List ℕ) (others done1 done2 : List (List ℕ × List ℕ)) (names1 names2 : List Expanded) → declared_by a ≡ Ok None
      → Onward others → IsMissing names1 names2 → (r : Parts) → qualified a.0 ≡ r
      → ((r >>= kept_as s1 own (done1, names1) a) >>= go s1 own others) ≡ Ok (bs, all) → Runs s2 new (a ∷ others) done2 names2
  on_name a others done1 done2 names1 names2 e rec missing (Err f) is h = absurd cc
  on_name a others done1 done2 names1 names2 e rec missing (Ok (Some q, local)) is h = on_uri a q local others done1 done2 names1 names2 e is rec missing (uri_in s1 q) refl h
  on_name a others done1 done2 names1 names2 e rec missing (Ok (None, local)) is h =
      let plain = declares_nothing a e in
      by_test (is_under new a.0) (λ t. is_under new a.0 ≡ t → Runs s2 new (a ∷ others) done2 names2)
      (λ x under. passed a others done2 names2 under plain (rec (done1 ++ a ∷ []) done2 names1 names2 h missing))
      (λ x apart. stepped a others done2 (done2 ++ a ∷ []) names2 names2 apart plain (plain_last done2 a plain) (λ rest. plain_step s2 (Some new) (done2, names2) a local rest e is)
      (rec (done1 ++ a ∷ []) (done2 ++ a ∷ []) names1 names2 h missing)) refl

  on_declared : (a : List ℕ × List ℕ) (others done1 done2 : List (List ℕ × List ℕ)) (names1 names2 : List Expanded) → Onward others → IsMissing names1 names2 → (r : Result (Option (List ℕ × List ℕ)) Fault) → declared_by a ≡ r
      → ((r >>= kept_unless s1 own (done1, names1) a) >>= go s1 own others) ≡ Ok (bs, all) → Runs s2 new (a ∷ others) done2 names2
  on_declared a others done1 done2 names1 names2 rec missing (Err f) e h = absurd cc
  on_declared a others done1 done2 names1 names2 rec missing (Ok None) e h = on_name a others done1 done2 names1 names2 e rec missing (qualified a.0) refl h
  on_declared a others done1 done2 names1 names2 rec missing (Ok (Some d)) e h =
      let k = rec done1 done2 names1 names2 h missing in
      record {
        out = k.out;
        runs = by_test (is_under new a.0) (λ t. kept_after s2 (Some new) (done2, names2) (cond t (not_under new others) (a ∷ not_under new others)) ≡ Ok k.out)
            (λ x. k.runs) (λ x. declared_step s2 (Some new) (done2, names2) a d (not_under new others) e ∙ k.runs);
        same = k.same ∙ ap (λ (xs : List (List ℕ × List ℕ)). undeclaring done2 ++ not_under new xs) (sym (declared_first a d others (declaration_is a d e)));
      }

  runs_on : (rest : List (List ℕ × List ℕ)) → Onward rest
  runs_on [] done1 done2 names1 names2 h missing = record { out = (done2, names2); runs = refl; same = sym (append-nil (undeclaring done2)) }
  runs_on (a ∷ others) done1 done2 names1 names2 h missing = on_declared a others done1 done2 names1 names2 (runs_on others) missing (declared_by a) refl h

-- ---- the scope of the new run

never_true : false ≡ true → ⊥
never_true e = absurd cc

uri_named_of : (s : Scope) (p u : List ℕ) → uri_named s (Some p) ≡ Ok (Some u) → uri_in s p ≡ Ok u
uri_named_of s p u e = by (uri_in s p) e
  where
    by : (r : Result (List ℕ) Fault) → (r >>= λ x. Ok (Some x)) ≡ Ok (Some u) → r ≡ Ok u
    by (Err f) k = absurd cc
    by (Ok x) k = cc

no_uri : (s : Scope) (p : List ℕ) → uri_named s (Some p) ≡ Ok None → ⊥
no_uri s p e = by (uri_in s p) e
  where
    by : (r : Result (List ℕ) Fault) → (r >>= λ x. Ok (Some x)) ≡ Ok None → ⊥
    by (Err f) k = absurd cc
    by (Ok x) k = absurd cc

-- what is known of a prefix other than `xml`
known_by : (own : Option (List ℕ)) (bs : List (List ℕ × List ℕ)) (q : List ℕ) → bytes_eq q (codes "xml") ≡ false → is_known own bs q ≡ true → (has_prefix own q || has_attribute (declaring q) bs) ≡ true
known_by own bs q other e = sym (ap (λ (t : Bool). (t || has_prefix own q) || has_attribute (declaring q) bs) other) ∙ e

front_seen : (s1 : Scope) (own namespace : Option (List ℕ)) (bs : List (List ℕ × List ℕ)) (inner : Scope) (q uri : List ℕ) → uri_named s1 own ≡ Ok namespace → uri_in s1 q ≡ Ok uri
    → (has_prefix own q || has_attribute (declaring q) bs) ≡ true → (has_attribute (declaring q) bs ≡ true → uri_of q inner ≡ Some uri) → uri_of q (inner ++ own_declaration own namespace) ≡ Some uri
front_seen s1 None namespace bs inner q uri named found known there = ap (uri_of q) (append-nil inner) ∙ there known
front_seen s1 (Some p) None bs inner q uri named found known there = absurd (no_uri s1 p named)
front_seen s1 (Some p) (Some u) bs inner q uri named found known there =
    by_test (bytes_eq p q) (λ t. bytes_eq p q ≡ t → (t || has_attribute (declaring q) bs) ≡ true → uri_of q (inner ++ (p, u) ∷ []) ≡ Some uri)
    (λ x is k.
    let same : u ≡ uri = ap (ok_or_else u) (sym (ap (uri_in s1) (sym (bytes_same p q is)) ∙ uri_named_of s1 p u named) ∙ found) in
    ap (λ (y : List ℕ). uri_of y (inner ++ (p, u) ∷ [])) (sym (bytes_same p q is)) ∙ uri_here p u inner ∙ ap (λ (y : List ℕ). Some y) same)
    (λ x other k. uri_there q p u inner other ∙ there k) refl known

module _ (new : List ℕ) (own namespace : Option (List ℕ)) (bs : List (List ℕ × List ℕ)) (uri : List ℕ) (known : IsKnownPrefix new) (other : has_prefix own new ≡ false) (k : AreKept own namespace bs) where
  abbrev goes : GoesOn k.scope own k.given [] [] bs k.names
  goes = goes_on k.scope own bs k.names k.declarable k.given [] [] k.kept

  good : AllByRecursion (IsGood k.scope own) bs
  good = subst (AllByRecursion (IsGood k.scope own)) (sym goes.split) goes.good

  abbrev inner : Scope
  inner = scope_below [] bs

  inner_is : within [] bs ≡ Ok inner
  inner_is = ap (within []) (sym (append-nil bs)) ∙ within_more k.scope own bs [] [] good

  settles : Settles k.scope k.scope own bs
  settles = record { own_too = λ p e. refl; others = λ q e. refl }

  -- they are kept in the scope that they were read in
  kept_there : kept_after k.scope own ([], []) bs ≡ Ok (bs, k.names)
  kept_there = ap (kept_after k.scope own ([], [])) (goes.split ∙ sym (append-nil goes.new)) ∙ goes.onward k.scope settles []

  seen : (q u : List ℕ) → bytes_eq q new ≡ false → is_known own bs q ≡ true → uri_in k.scope q ≡ Ok u → uri_in (scope_under new uri own namespace inner) q ≡ Ok u
  seen q u apart is found =
      by_test (bytes_eq q (codes "xml")) (λ t. bytes_eq q (codes "xml") ≡ t → uri_in (scope_under new uri own namespace inner) q ≡ Ok u)
      (λ x e. ap (λ (t : Bool). cond {A = Result (List ℕ) Fault} t (Ok xml_uri) (declared_uri (uri_of q (scope_under new uri own namespace inner)))) e
      ∙ sym (ap (λ (t : Bool). cond {A = Result (List ℕ) Fault} t (Ok xml_uri) (declared_uri (uri_of q k.scope))) e) ∙ found)
      (λ x e.
      let here : uri_of q k.scope ≡ Some u = found_of k.scope q u e found in
      let front : uri_of q (inner ++ own_declaration own namespace) ≡ Some u =
      front_seen k.scope own namespace bs inner q u k.own found (known_by own bs q e is) (λ declared. settled k.scope own bs q [] good (inl declared) ∙ here) in
      ap (λ (t : Bool). cond {A = Result (List ℕ) Fault} t (Ok xml_uri) (declared_uri (uri_of q (scope_under new uri own namespace inner)))) e
      ∙ ap declared_uri (uri_there q new uri (inner ++ own_declaration own namespace) (bytes_turned q new apart) ∙ front)) refl

  missing : IsMissing [] []
  missing e h = refl

  abbrev both : Runs (scope_under new uri own namespace inner) new bs [] []
  both = runs_on k.scope (scope_under new uri own namespace inner) own new bs k.names k.declarable seen bs [] [] [] [] kept_there missing

  kept_is : kept_under new uri own namespace bs ≡ Ok both.out
  kept_is = ap (λ (r : Result Scope Fault). r >>= λ scope. kept_after (scope_under new uri own namespace scope) (Some new) ([], []) (not_under new bs)) inner_is ∙ both.runs

  others_kept : undeclaring (attributes_or_none (kept_under new uri own namespace bs)) ≡ not_under new (undeclaring bs)
  others_kept = ap (λ (r : Result Kept Fault). undeclaring (attributes_or_none r)) kept_is ∙ both.same

pub others_are_kept : OthersAreKept
others_are_kept prefix n (text bytes) known h other = refl
others_are_kept prefix zero (element m p s a c) known h other = absurd h
others_are_kept prefix (suc n) (element m p s a c) known h other =
    ap (λ (t : Bool). undeclaring (attributes_of (cond t (element m p s a c) (renamed prefix (namespace_under prefix s) (element m p s a c))))) other
    ∙ others_kept prefix p s a (namespace_under prefix s) known other h.1.1.0
