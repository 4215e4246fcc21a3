-- What is told of properties: what is changed and what stays.
use Rattle.std.proofs.Common.{◌≡◌, ◌⊎◌, inl, inr, true≢false, ◌&&◌, ◌||◌, not, ℕ, Bool, true, false, cond, List, [], ◌∷◌, map, codes, bytes_eq, Option, Some, None, refl, ap, sym, subst, ◌∙◌}
use Rattle.std.specs.List.{cons_option, filter, filter_map}
use Rattle.std.specs.Option.{option_and_then}
use Rattle.std.proofs.lemmas.Bool.{and_parts}
use Rattle.std.proofs.lemmas.Slice.Eq.{bytes_eq-Decides}
use Rattle.httpdate.specs.Date.{parse_secs}
use Rattle.dav_core.specs.Element.{ElementTree, element, text, text_of, name_of, children_of, is_element, with_children}
use Rattle.dav_engine.specs.Date.{date_text_of}
use Rattle.dav_presented.specs.Names.{is_dav, is_in, space_of}
use Rattle.dav_presented.specs.Missing.{dav_element}
use Rattle.dav_presented.specs.Usual.{has_usual_name, usual}
use Rattle.dav_presented.specs.Times.{Times, is_own, is_time, is_unchanged, timed, times_told, windows_time}
use Rattle.dav_presented.specs.Typed.{EachIs, KeepsAllBut, TellsType, TellsProp, TellsProperty, TellsByAddress, TellsTypes, child_told, each_below, found_property, is_unknown, outcome_child, prop_told, typed, typed_by, typed_child, typed_property, told_property, type_in}
use Rattle.dav_presented.specs.declared.times.Telling.TheVariants.{Found, Outcome}

each_is : (R : ElementTree → ElementTree → Type 0) (f : ElementTree → ElementTree) → ((e : ElementTree) → R e (f e)) → (es : List ElementTree) → EachIs R es (map f es)
each_is R f h [] = refl
each_is R f h (e ∷ es) = (h e, each_is R f h es)

keeps_if : (name : List ℕ) (R : ElementTree → ElementTree → Type 0) (f : ElementTree → ElementTree) → ((e : ElementTree) → R e (f e)) → (e : ElementTree) (b : Bool) → is_dav name e ≡ b
    → KeepsAllBut name R e (cond b (with_children e (map f (children_of e))) e)
keeps_if name R f h e true is = (λ yes. (map f (children_of e), refl, each_is R f h (children_of e)), λ no. cc)
keeps_if name R f h e false is = (λ yes. cc, λ no. refl)

keeps_all_but : (name : List ℕ) (R : ElementTree → ElementTree → Type 0) (f : ElementTree → ElementTree) → ((e : ElementTree) → R e (f e)) → (e : ElementTree) → KeepsAllBut name R e (each_below name f e)
keeps_all_but name R f h e = keeps_if name R f h e (is_dav name e) refl

tells_if : (kind : List ℕ) (e : ElementTree) (b : Bool) → (is_dav (codes "getcontenttype") e && is_unknown (text_of e)) ≡ b
    → TellsType (Some kind) e (cond b (with_children e (text kind ∷ [])) e)
tells_if kind e true is = (λ yes. refl, λ no. cc)
tells_if kind e false is = (λ yes. cc, λ no. refl)

tells_type : (kind : Option (List ℕ)) (e : ElementTree) → TellsType kind e (typed_property kind e)
tells_type None e = refl
tells_type (Some kind) e = tells_if kind e (is_dav (codes "getcontenttype") e && is_unknown (text_of e)) refl

-- ---- usual names

-- an element of one name hasn't another one
other_name : (name other : List ℕ) (e : ElementTree) → bytes_eq name other ≡ false → is_dav name e ≡ true → is_dav other e ≡ false
other_name name other e differ is =
    let same : name_of e ≡ name = (bytes_eq-Decides (name_of e) name).0 (and_parts (bytes_eq (name_of e) name) (bytes_eq (space_of e) (codes "DAV:")) is).0 in
    ap (λ n. bytes_eq n other && bytes_eq (space_of e) (codes "DAV:")) same ∙ ap (λ b. b && bytes_eq (space_of e) (codes "DAV:")) differ

no_type : (e : ElementTree) (a b : Bool) → is_dav (codes "resourcetype") e ≡ a → is_dav (codes "current-user-principal") e ≡ b → (a || b) ≡ true → is_dav (codes "getcontenttype") e ≡ false
no_type e true b is or h = other_name (codes "resourcetype") (codes "getcontenttype") e refl is
no_type e false true is or h = other_name (codes "current-user-principal") (codes "getcontenttype") e refl or
no_type e false false is or h = absurd cc

-- a property with a usual name has no type
usual_stays : (kind : Option (List ℕ)) (e : ElementTree) → has_usual_name e ≡ true → typed_property kind e ≡ e
usual_stays None e h = refl
usual_stays (Some kind) e h =
    ap (λ b. cond (b && is_unknown (text_of e)) (with_children e (text kind ∷ [])) e) (no_type e (is_dav (codes "resourcetype") e) (is_dav (codes "current-user-principal") e) refl refl h)

-- other children change no name
name_kept : (e : ElementTree) (ts : List ElementTree) → has_usual_name (with_children e ts) ≡ has_usual_name e
name_kept (element name prefix namespace attributes children) ts = refl
name_kept (text bytes) ts = refl

kept_if : (e : ElementTree) (ts : List ElementTree) (b : Bool) → has_usual_name (cond b (with_children e ts) e) ≡ has_usual_name e
kept_if e ts true = name_kept e ts
kept_if e ts false = refl

type_changes_no_name : (kind : Option (List ℕ)) (e : ElementTree) → has_usual_name (typed_property kind e) ≡ has_usual_name e
type_changes_no_name None e = refl
type_changes_no_name (Some kind) e = kept_if e (text kind ∷ []) (is_dav (codes "getcontenttype") e && is_unknown (text_of e))

usual_when : (e : ElementTree) → has_usual_name e ≡ true → usual e ≡ dav_element (name_of e) (children_of e)
usual_when e h = ap (λ b. cond b (dav_element (name_of e) (children_of e)) e) h

usual_unless : (e : ElementTree) → has_usual_name e ≡ false → usual e ≡ e
usual_unless e h = ap (λ b. cond b (dav_element (name_of e) (children_of e)) e) h

-- ---- times

-- a name that a property has, and no other name
named_else : (e : ElementTree) (name other : List ℕ) → name_of e ≡ name → bytes_eq name other ≡ false → is_dav other e ≡ false
named_else e name other same differ = ap (λ n. bytes_eq n other && bytes_eq (space_of e) (codes "DAV:")) same ∙ ap (λ b. b && bytes_eq (space_of e) (codes "DAV:")) differ

name_of_time : (e : ElementTree) (a b : Bool) → is_dav (codes "getlastmodified") e ≡ a → (bytes_eq (name_of e) windows_time && is_in (codes "urn:schemas-microsoft-com:") e) ≡ b → (a || b) ≡ true
    → (name_of e ≡ codes "getlastmodified") ⊎ (name_of e ≡ windows_time)
name_of_time e true b is or h = inl ((bytes_eq-Decides (name_of e) (codes "getlastmodified")).0 (and_parts (bytes_eq (name_of e) (codes "getlastmodified")) (bytes_eq (space_of e) (codes "DAV:")) is).0)
name_of_time e false true is or h = inr ((bytes_eq-Decides (name_of e) windows_time).0 (and_parts (bytes_eq (name_of e) windows_time) (is_in (codes "urn:schemas-microsoft-com:") e) or).0)
name_of_time e false false is or h = absurd cc

pub time_named : (e : ElementTree) → is_time e ≡ true → (name_of e ≡ codes "getlastmodified") ⊎ (name_of e ≡ windows_time)
time_named e h = name_of_time e (is_dav (codes "getlastmodified") e) (bytes_eq (name_of e) windows_time && is_in (codes "urn:schemas-microsoft-com:") e) refl refl h

-- a time has neither a type nor a usual name
time_is : (e : ElementTree) → is_time e ≡ true → (other : List ℕ) → bytes_eq (codes "getlastmodified") other ≡ false → bytes_eq windows_time other ≡ false → is_dav other e ≡ false
time_is e h other first second = by_name (time_named e h)
  where
    by_name : (name_of e ≡ codes "getlastmodified") ⊎ (name_of e ≡ windows_time) → is_dav other e ≡ false
    by_name (inl is) = named_else e (codes "getlastmodified") other is first
    by_name (inr is) = named_else e windows_time other is second

time_without_type : (e : ElementTree) → is_time e ≡ true → is_dav (codes "getcontenttype") e ≡ false
time_without_type e h = time_is e h (codes "getcontenttype") refl refl

time_without_usual : (e : ElementTree) → is_time e ≡ true → has_usual_name e ≡ false
time_without_usual e h = ap (λ b. b || is_dav (codes "current-user-principal") e) (time_is e h (codes "resourcetype") refl refl) ∙ time_is e h (codes "current-user-principal") refl refl

-- other children leave a time what it is
time_kept : (e : ElementTree) (ts : List ElementTree) → is_time (with_children e ts) ≡ is_time e
time_kept (element name prefix namespace attributes children) ts = refl
time_kept (text bytes) ts = refl

timed_if : (e : ElementTree) (ts : List ElementTree) (b : Bool) → is_time (cond b (with_children e ts) e) ≡ is_time e
timed_if e ts true = time_kept e ts
timed_if e ts false = refl

still_time : (times : Option Times) (e : ElementTree) → is_time (timed times e) ≡ is_time e
still_time None e = refl
still_time (Some times) e = timed_if e (text (date_text_of times.0) ∷ []) (is_time e && is_unchanged (option_and_then parse_secs (text_of e)) times.1)

-- what is no time stays
no_time_stays : (times : Option Times) (e : ElementTree) → is_time e ≡ false → timed times e ≡ e
no_time_stays None e h = refl
no_time_stays (Some times) e h = ap (λ b. cond (b && is_unchanged (option_and_then parse_secs (text_of e)) times.1) (with_children e (text (date_text_of times.0) ∷ [])) e) h

-- a property without type stays
untyped_stays : (kind : Option (List ℕ)) (e : ElementTree) → is_dav (codes "getcontenttype") e ≡ false → typed_property kind e ≡ e
untyped_stays None e h = refl
untyped_stays (Some kind) e h = ap (λ b. cond (b && is_unknown (text_of e)) (with_children e (text kind ∷ [])) e) h

time_told : (kind : Option (List ℕ)) (times : Option Times) (e : ElementTree) → is_time e ≡ true → found_property kind times e ≡ timed times e
time_told kind times e h =
    let still : is_time (timed times e) ≡ true = still_time times e ∙ h in
    ap usual (untyped_stays kind (timed times e) (time_without_type (timed times e) still)) ∙ usual_unless (timed times e) (time_without_usual (timed times e) still)

usual_is_no_time : (e : ElementTree) (b : Bool) → is_time e ≡ b → has_usual_name e ≡ true → b ≡ false
usual_is_no_time e true is h = absurd (true≢false (sym h ∙ time_without_usual e is))
usual_is_no_time e false is h = refl

usual_told : (kind : Option (List ℕ)) (times : Option Times) (e : ElementTree) → has_usual_name e ≡ true → found_property kind times e ≡ dav_element (name_of e) (children_of e)
usual_told kind times e h =
    ap (λ t. usual (typed_property kind t)) (no_time_stays times e (usual_is_no_time e (is_time e) refl h)) ∙ ap usual (usual_stays kind e h) ∙ usual_when e h

other_told : (kind : Option (List ℕ)) (times : Option Times) (e : ElementTree) → has_usual_name e ≡ false → is_time e ≡ false → TellsType kind e (found_property kind times e)
other_told kind times e other timeless =
    subst (TellsType kind e) (sym (ap (λ t. usual (typed_property kind t)) (no_time_stays times e timeless) ∙ usual_unless (typed_property kind e) (type_changes_no_name kind e ∙ other))) (tells_type kind e)

tells_property : (kind : Option (List ℕ)) (times : Option Times) (e : ElementTree) → TellsProperty kind times e (found_property kind times e)
tells_property kind times e = (λ yes. usual_told kind times e yes, λ is. time_told kind times e is, λ no none. other_told kind times e no none)

-- ---- trees

told_if : (R : ElementTree → ElementTree → Type 0) (e x : ElementTree) (es news : List ElementTree) (a b : Bool) → R e x → EachIs R es news
    → EachIs R (cond (a && not b) (e ∷ es) es) (cons_option (cond {A = Option ElementTree} a (cond {A = Option ElementTree} b None (Some x)) None) news)
told_if R e x es news true true one more = more
told_if R e x es news true false one more = (one, more)
told_if R e x es news false b one more = more

each_told : (kind : Option (List ℕ)) (times : Option Times) (es : List ElementTree)
    → EachIs (TellsProperty kind times) (filter (λ e. is_element e && not (is_own e)) es) (filter_map (child_told (told_property kind (Found times))) es)
each_told kind times [] = refl
each_told kind times (e ∷ es) = told_if (TellsProperty kind times) e (found_property kind times e) _ _ (is_element e) (is_own e) (tells_property kind times e) (each_told kind times es)

prop_if : (kind : Option (List ℕ)) (times : Option Times) (e : ElementTree) (b : Bool) → is_dav (codes "prop") e ≡ b
    → TellsProp kind times e (cond b (with_children e (filter_map (child_told (told_property kind (Found times))) (children_of e))) e)
prop_if kind times e true is = (λ yes. (filter_map (child_told (told_property kind (Found times))) (children_of e), refl, each_told kind times (children_of e)), λ no. cc)
prop_if kind times e false is = (λ yes. cc, λ no. refl)

tells_prop : (kind : Option (List ℕ)) (times : Option Times) (e : ElementTree) → TellsProp kind times e (prop_told (told_property kind (Found times)) e)
tells_prop kind times e = prop_if kind times e (is_dav (codes "prop") e) refl

by_kind : (kind : Option (List ℕ)) (times : Option Times) (e : ElementTree)
    → (news : List ElementTree) × (typed_by kind (Found times) e ≡ with_children e news)
    × EachIs (KeepsAllBut (codes "propstat") (TellsProp kind times)) (children_of e) news
by_kind kind times e = (
  map (each_below (codes "propstat") (prop_told (told_property kind (Found times)))) (children_of e),
  refl,
  each_is _ _ (keeps_all_but (codes "propstat") _ _ (tells_prop kind times)) (children_of e),
)

child_if : (e : ElementTree) (b : Bool) → is_dav (codes "response") e ≡ b
    → (is_dav (codes "response") e ≡ true → TellsByAddress e (cond b (typed_by (type_in e) (Found (times_told e)) e) e))
    × (is_dav (codes "response") e ≡ false → cond b (typed_by (type_in e) (Found (times_told e)) e) e ≡ e)
child_if e true is = (λ yes. by_kind (type_in e) (times_told e) e, λ no. cc)
child_if e false is = (λ yes. cc, λ no. refl)

-- a response among others
pub child_typed : (e new : ElementTree) → is_dav (codes "response") e ≡ true → new ≡ typed_by (type_in e) (Found (times_told e)) e → new ≡ typed_child e
child_typed e new h is = is ∙ sym (ap (λ b. cond b (typed_by (type_in e) (Found (times_told e)) e) e) h)

-- the same where properties were set
pub child_set : (e new : ElementTree) → is_dav (codes "response") e ≡ true → new ≡ typed_by None Outcome e → new ≡ outcome_child e
child_set e new h is = is ∙ sym (ap (λ b. cond b (typed_by None Outcome e) e) h)

tells_types : (told : ElementTree) → TellsTypes told (typed told)
tells_types told = (map typed_child (children_of told), refl, each_is _ _ (λ e. child_if e (is_dav (codes "response") e) refl) (children_of told))

pub tells_types_of : (told sent : ElementTree) → sent ≡ typed told → TellsTypes told sent
tells_types_of told sent e = subst (λ t. TellsTypes told t) (sym e) (tells_types told)
