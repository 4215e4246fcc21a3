-- Names in sets, and what a response lacks of names that are asked for, each once.
use Rattle.std.proofs.Common.{◌≡◌, ◌&&◌, ◌||◌, not, cond, Bool, true, false, List, [], ◌∷◌, ◌++◌, Some, refl, sym, ap, ◌∙◌, true≢false}
use Rattle.std.proofs.lemmas.List.Folds.{list_any-append}
use Rattle.std.proofs.lemmas.Slice.Eq.{bytes_eq-Decides}
use Rattle.std.proofs.lemmas.Map.Text.{is_eq-slice_cmp}
use Rattle.std.specs.declared.cmp.Ordering.{Ordering}
use Rattle.std.specs.declared.cmp.Ordering.TheVariants.{Less, Equal, Greater}
use Rattle.std.specs.Prelude.{bytes_eq, codes, ℕ}
use Rattle.std.specs.List.{list_any}
use Rattle.std.specs.Ordering.{is_eq, eq_by_cmp, ordering_then}
use Rattle.std.specs.Cmp.{eq_by_cmp_equiv}
use Rattle.std.specs.BTreeMap.{is_at}
use Rattle.std.specs.BTreeSet.{BTreeSet, contains}
use Rattle.dav_core.specs.Element.{ElementTree, name_of, child_elements}
use Rattle.dav_presented.specs.Names.{FullName, full_name, full_name_cmp, full_name_total, is_same, is_dav, space_of}
use Rattle.dav_presented.specs.NameSets.{has}
use Rattle.dav_presented.specs.Missing.{bare, is_told, missing_after, named_after, named_once, untold, with_missing, completed, completed_tree}
use Rattle.dav_presented.specs.Responses.{each_response}

-- ---- names

then_eq : (o r : Ordering) → is_eq (ordering_then o r) ≡ (is_eq o && is_eq r)
then_eq Less r = refl
then_eq Equal r = refl
then_eq Greater r = refl

-- two elements have one name where their names are equal
same_is : (e f : ElementTree) → eq_by_cmp full_name_cmp (full_name e) (full_name f) ≡ is_same e f
same_is e f = then_eq _ _ ∙ (λ t. is_eq-slice_cmp (space_of e) (space_of f) t && is_eq-slice_cmp (name_of e) (name_of f) t)

cond_or : (a b : Bool) → cond a true b ≡ (a || b)
cond_or true b = refl
cond_or false b = refl

-- one more name in a set
pub added : (x e : ElementTree) (old new : BTreeSet FullName)
    → contains full_name_cmp new (full_name e) ≡ cond (is_at (full_name_cmp (full_name x)) (full_name e)) true (contains full_name_cmp old (full_name e))
    → has e new ≡ (is_same e x || has e old)
added x e old new h =
    h ∙ cond_or (is_at (full_name_cmp (full_name x)) (full_name e)) (has e old) ∙ ap (λ b. b || has e old) ((eq_by_cmp_equiv full_name_total).symm (full_name x) (full_name e) ∙ same_is e x)

-- ---- tests that are joined

pub or_moves : (a b c : Bool) → ((a || b) || c) ≡ (b || (a || c))
or_moves true true c = refl
or_moves true false c = refl
or_moves false true c = refl
or_moves false false c = refl

-- ---- names that are named once

or_turn : (a b : Bool) → (a || b) ≡ (b || (a || false))
or_turn true true = refl
or_turn true false = refl
or_turn false true = refl
or_turn false false = refl

-- one more that is new
pub new_name : (seen after : BTreeSet FullName) (once : List ElementTree) (p : ElementTree) → ((e : ElementTree) → has e seen ≡ list_any (λ f. is_same e f) once)
    → ((e : ElementTree) → has e after ≡ (is_same e p || has e seen)) → (e : ElementTree) → has e after ≡ list_any (λ f. is_same e f) (once ++ bare p ∷ [])
new_name seen after once p h k e = k e ∙ ap (λ b. is_same e p || b) (h e) ∙ or_turn (is_same e p) (list_any (λ f. is_same e f) once) ∙ sym (list_any-append (λ f. is_same e f) once (bare p ∷ []))

-- ---- what a response lacks

and_first : (a b : Bool) → (a && b) ≡ true → a ≡ true
and_first true b h = refl
and_first false b h = h

and_second : (a b : Bool) → (a && b) ≡ true → b ≡ true
and_second true b h = h
and_second false b h = cc

equal_spaces : (e f : ElementTree) → is_same e f ≡ true → space_of e ≡ space_of f
equal_spaces e f h = (bytes_eq-Decides (space_of e) (space_of f)).0 (and_first _ _ h)

equal_names : (e f : ElementTree) → is_same e f ≡ true → name_of e ≡ name_of f
equal_names e f h = (bytes_eq-Decides (name_of e) (name_of f)).0 (and_second (bytes_eq (space_of e) (space_of f)) _ h)

-- a name is told wherever an equal one is
told_by : List ℕ → List ℕ → ElementTree → Bool
told_by space name response =
    list_any
    (λ c. is_dav (codes "propstat") c && list_any (λ d. is_dav (codes "prop") d && list_any (λ f. bytes_eq space (space_of f) && bytes_eq name (name_of f)) (child_elements d)) (child_elements c))
    (child_elements response)

told_alike : (response e f : ElementTree) → is_same e f ≡ true → is_told e response ≡ is_told f response
unfolding told_by
told_alike response e f h = λ t. told_by (equal_spaces e f h t) (equal_names e f h t) response

-- a name that isn't told is among those that aren't told where it is among all
among_step : (a u : Bool) (x : ElementTree) (xs : List ElementTree) (p : ElementTree → Bool) → p x ≡ a → (a ≡ true → u ≡ true) → list_any p (cond u (x ∷ xs) xs) ≡ (a || list_any p xs)
among_step true true x xs p h k = ap (λ b. b || list_any p xs) h
among_step true false x xs p h k = absurd (true≢false (sym (k refl)))
among_step false true x xs p h k = ap (λ b. b || list_any p xs) h
among_step false false x xs p h k = refl

among_untold : (response e : ElementTree) (found : List ElementTree) → is_told e response ≡ false → list_any (λ f. is_same e f) (untold response found) ≡ list_any (λ f. is_same e f) found
among_untold response e [] h = refl
among_untold response e (x ∷ xs) h =
    among_step (is_same e x) (not (is_told x response)) x (untold response xs) (λ f. is_same e f) refl (λ s. ap not (sym (told_alike response e x s) ∙ h))
    ∙ ap (λ b. is_same e x || b) (among_untold response e xs h)

cond_front : (b : Bool) (y : ElementTree) (xs ys : List ElementTree) → cond b (y ∷ (xs ++ ys)) (xs ++ ys) ≡ cond b (y ∷ xs) xs ++ ys
cond_front true y xs ys = refl
cond_front false y xs ys = refl

untold_append : (response : ElementTree) (xs : List ElementTree) (x : ElementTree) → untold response (xs ++ x ∷ []) ≡ untold response xs ++ cond (not (is_told x response)) (x ∷ []) []
untold_append response [] x = refl
untold_append response (y ∷ xs) x =
    ap (λ (r : List ElementTree). cond (not (is_told y response)) (y ∷ r) r) (untold_append response xs x) ∙ cond_front (not (is_told y response)) y (untold response xs) (cond (not (is_told x response)) (x ∷ []) [])

no_more : (xs : List ElementTree) → xs ≡ xs ++ []
no_more [] = refl
no_more (x ∷ xs) = ap (λ (r : List ElementTree). x ∷ r) (no_more xs)

one_alike : (t a b : Bool) (e : ElementTree) (found : List ElementTree) (response : ElementTree) → is_told e response ≡ t → (t ≡ false → b ≡ a)
    → cond (t || b) (untold response found) (untold response found ++ bare e ∷ []) ≡ untold response (cond a found (found ++ bare e ∷ []))
one_alike true true b e found response is k = refl
one_alike true false b e found response is k =
    no_more (untold response found) ∙ ap (λ u. untold response found ++ cond (not u) (bare e ∷ []) []) (sym is) ∙ sym (untold_append response found (bare e))
one_alike false true b e found response is k = ap (λ c. cond c (untold response found) (untold response found ++ bare e ∷ [])) (k refl)
one_alike false false b e found response is k =
    ap (λ c. cond c (untold response found) (untold response found ++ bare e ∷ [])) (k refl)
    ∙ ap (λ u. untold response found ++ cond (not u) (bare e ∷ []) []) (sym is) ∙ sym (untold_append response found (bare e))

lacks_after : (response : ElementTree) (found es : List ElementTree) → untold response (named_after found es) ≡ missing_after response (untold response found) es
lacks_after response found [] = refl
lacks_after response found (e ∷ es) =
    lacks_after response (cond (list_any (λ f. is_same e f) found) found (found ++ bare e ∷ [])) es
    ∙ ap (λ (r : List ElementTree). missing_after response r es)
    (sym (one_alike (is_told e response) (list_any (λ f. is_same e f) found) (list_any (λ f. is_same e f) (untold response found)) e found response refl (among_untold response e found)))

-- what a response lacks of names is what it doesn't tell of them, each once
pub lacks : (asked : List ElementTree) (response : ElementTree) → with_missing response (untold response (named_once asked)) ≡ completed asked response
lacks asked response = ap (with_missing response) (lacks_after response [] asked)

-- and so of a multistatus
pub each_lacks : (prop told : ElementTree) → each_response (λ response. with_missing response (untold response (named_once (child_elements prop)))) told ≡ completed_tree (Some prop) told
each_lacks prop told = λ t. each_response (λ response. lacks (child_elements prop) response t) told
