-- Missing names: each asked one is told or missing, and those that are missing are asked for, untold and named once.
use Rattle.std.proofs.Common.{◌≡◌, ◌&&◌, ◌||◌, not, cond, Bool, true, false, List, [], ◌∷◌, ◌++◌, map, Option, Some, None, refl, sym, subst, ◌∙◌, append_assoc}
use Rattle.std.proofs.lemmas.List.Folds.{list_any-append, list_all-append}
use Rattle.std.proofs.lemmas.Slice.Eq.{bytes_eq-Decides}
use Rattle.std.specs.Prelude.{codes}
use Rattle.std.specs.List.{list_any, list_all}
use Rattle.dav_core.specs.Element.{ElementTree, name_of, child_elements, children_of}
use Rattle.dav_presented.specs.Names.{is_same, is_dav, space_of}
use Rattle.dav_presented.specs.Missing.{bare, is_told, one_more, missing_after, completed, completed_child, completed_tree, prop_among, answered}
use Rattle.dav_presented.specs.Told.{are_once, Answers, AnswersIfResponse, EachAnswers, TellsAll}

-- ---- tests

or_right : (a b : Bool) → b ≡ true → (a || b) ≡ true
or_right true b h = refl
or_right false b h = h

or_left : (a b : Bool) → a ≡ true → (a || b) ≡ true
or_left true b h = refl
or_left false b h = cc

and_both : (a b : Bool) → a ≡ true → b ≡ true → (a && b) ≡ true
and_both true b h k = k
and_both false b h k = cc

or_grows : (a u v : Bool) → (u ≡ true → v ≡ true) → (a || u) ≡ true → (a || v) ≡ true
or_grows true u v f h = refl
or_grows false u v f h = f h

and_first : (a b : Bool) → (a && b) ≡ true → a ≡ true
and_first true b h = refl
and_first false b h = h

and_second : (a b : Bool) → (a && b) ≡ true → b ≡ true
and_second true b h = h
and_second false b h = cc

or_false_left : (a b : Bool) → (a || b) ≡ false → a ≡ false
or_false_left true b h = cc
or_false_left false b h = refl

or_false_right : (a b : Bool) → (a || b) ≡ false → b ≡ false
or_false_right true b h = cc
or_false_right false b h = h

or_none : (a b : Bool) → a ≡ false → b ≡ false → (a || b) ≡ false
or_none true b h k = cc
or_none false b h k = k

not_true : (a : Bool) → not a ≡ true → a ≡ false
not_true true h = cc
not_true false h = refl

not_false : (a : Bool) → a ≡ false → not a ≡ true
not_false true h = cc
not_false false h = refl

-- ---- names

same_self : (e : ElementTree) → is_same e e ≡ true
same_self e = and_both _ _ ((bytes_eq-Decides (space_of e) (space_of e)).1 refl) ((bytes_eq-Decides (name_of e) (name_of e)).1 refl)

-- ---- one more name

-- what was found stays found
kept_one : (p : ElementTree → Bool) (t : Bool) (found : List ElementTree) (x : ElementTree) → list_any p found ≡ true → list_any p (cond t found (found ++ x ∷ [])) ≡ true
kept_one p true found x h = h
kept_one p false found x h = list_any-append p found (x ∷ []) ∙ or_left _ _ h

kept : (p : ElementTree → Bool) (response : ElementTree) (found es : List ElementTree) → list_any p found ≡ true → list_any p (missing_after response found es) ≡ true
kept p response found [] h = h
kept p response found (e ∷ es) h =
    kept p response (one_more response found e) es (kept_one p (is_told e response || list_any (λ f. is_same e f) found) found (bare e) h)

-- this name is told, or found now
here_one : (a b : Bool) (found : List ElementTree) (e : ElementTree) → list_any (λ f. is_same e f) found ≡ b
    → (a || list_any (λ f. is_same e f) (cond (a || b) found (found ++ bare e ∷ []))) ≡ true
here_one true b found e h = refl
here_one false true found e h = h
here_one false false found e h = list_any-append (λ f. is_same e f) found (bare e ∷ []) ∙ or_right _ _ (or_left _ _ (same_self e))

pub covers : (response : ElementTree) (found es : List ElementTree) → list_all (λ e. is_told e response || list_any (λ f. is_same e f) (missing_after response found es)) es ≡ true
covers response found [] = refl
covers response found (e ∷ es) =
    and_both _ _
    (or_grows (is_told e response) _ _ (kept (λ f. is_same e f) response (one_more response found e) es) (here_one (is_told e response) (list_any (λ f. is_same e f) found) found e refl))
    (covers response (one_more response found e) es)

-- what holds of what was found, and of each name that is added, holds of all
added_one : (p : ElementTree → Bool) (a b : Bool) (found : List ElementTree) (x : ElementTree) → list_all p found ≡ true → (a ≡ false → p x ≡ true) → list_all p (cond (a || b) found (found ++ x ∷ [])) ≡ true
added_one p true b found x h f = h
added_one p false true found x h f = h
added_one p false false found x h f = list_all-append p found (x ∷ []) ∙ and_both _ _ h (and_both _ _ (f refl) refl)

pub untold : (response : ElementTree) (found es : List ElementTree) → list_all (λ m. not (is_told m response)) found ≡ true
    → list_all (λ m. not (is_told m response)) (missing_after response found es) ≡ true
untold response found [] h = h
untold response found (e ∷ es) h =
    untold response (one_more response found e) es
    (added_one (λ m. not (is_told m response)) (is_told e response) (list_any (λ f. is_same e f) found) found (bare e) h (λ none. not_false (is_told (bare e) response) none))

pub are_asked : (asked : List ElementTree) (response : ElementTree) (found es : List ElementTree)
    → list_all (λ m. list_any (λ e. is_same m e) asked) es ≡ true → list_all (λ m. list_any (λ e. is_same m e) asked) found ≡ true
    → list_all (λ m. list_any (λ e. is_same m e) asked) (missing_after response found es) ≡ true
are_asked asked response found [] k h = h
are_asked asked response found (e ∷ es) k h =
    let first : list_any (λ f. is_same e f) asked ≡ true = and_first _ _ k in
    are_asked asked response (one_more response found e) es (and_second (list_any (λ f. is_same e f) asked) _ k)
    (added_one (λ m. list_any (λ f. is_same m f) asked) (is_told e response) (list_any (λ f. is_same e f) found) found (bare e) h (λ none. first))

-- each is among those before it and itself
among_after : (front xs : List ElementTree) → list_all (λ m. list_any (λ e. is_same m e) (front ++ xs)) xs ≡ true
among_after front [] = refl
among_after front (x ∷ xs) =
    and_both _ _
    (list_any-append (λ e. is_same x e) front (x ∷ xs) ∙ or_right _ _ (or_left _ _ (same_self x)))
    (subst (λ ys. list_all (λ m. list_any (λ e. is_same m e) ys) xs ≡ true) (append_assoc front (x ∷ []) xs) (among_after (front ++ x ∷ []) xs))

-- a name that none has is added
once_more : (ms : List ElementTree) (x : ElementTree) → are_once ms ≡ true → list_any (λ f. is_same x f) ms ≡ false → are_once (ms ++ x ∷ []) ≡ true
once_more [] x h none = refl
once_more (m ∷ ms) x h none =
    and_both _ _
    (not_false _ (list_any-append (λ f. is_same f m) ms (x ∷ []) ∙ or_none _ _ (not_true _ (and_first _ _ h)) (or_none _ _ (or_false_left _ _ none) refl)))
    (once_more ms x (and_second (not (list_any (λ f. is_same f m) ms)) _ h) (or_false_right (is_same x m) _ none))

once_one : (a b : Bool) (found : List ElementTree) (e : ElementTree) → are_once found ≡ true → list_any (λ f. is_same e f) found ≡ b → are_once (cond (a || b) found (found ++ bare e ∷ [])) ≡ true
once_one true b found e h k = h
once_one false true found e h k = h
once_one false false found e h k = once_more found (bare e) h k

pub are_named_once : (response : ElementTree) (found es : List ElementTree) → are_once found ≡ true → are_once (missing_after response found es) ≡ true
are_named_once response found [] h = h
are_named_once response found (e ∷ es) h =
    are_named_once response (one_more response found e) es (once_one (is_told e response) (list_any (λ f. is_same e f) found) found e h refl)

-- ---- responses and their multistatus

pub answers : (asked : List ElementTree) (response : ElementTree) → Answers asked response (completed asked response)
answers asked response = record {
  missing = missing_after response [] asked;
  made = refl;
  covered = covers response [] asked;
  named = are_asked asked response [] asked (among_after [] asked) refl;
  untold = untold response [] asked refl;
  once = are_named_once response [] asked refl;
}

answers_if : (asked : List ElementTree) (child : ElementTree) (b : Bool) → is_dav (codes "response") child ≡ b
    → AnswersIfResponse asked child (cond b (completed asked child) child)
answers_if asked child true e = (λ h. answers asked child, λ h. cc)
answers_if asked child false e = (λ h. cc, λ h. refl)

each_answers : (asked children : List ElementTree) → EachAnswers asked children (map (completed_child asked) children)
each_answers asked [] = refl
each_answers asked (child ∷ children) = (answers_if asked child (is_dav (codes "response") child) refl, each_answers asked children)

pub tells_all : (prop : Option ElementTree) (told : ElementTree) → TellsAll prop told (completed_tree prop told)
tells_all None told = refl
tells_all (Some prop) told = (map (completed_child (child_elements prop)) (children_of told), refl, each_answers (child_elements prop) (children_of told))

pub tells_all_of : (propfind told : ElementTree) {sent : ElementTree} → sent ≡ answered propfind told → TellsAll (prop_among (child_elements propfind)) told sent
tells_all_of propfind told e = subst (λ t. TellsAll (prop_among (child_elements propfind)) told t) (sym e) (tells_all (prop_among (child_elements propfind)) told)
