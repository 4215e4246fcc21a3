-- The properties in a multistatus: where the machine tells the type `application/octet-stream` (RFC 4918, section 15.5), the type by the
-- name of what the response is about, where the table has one; the time that is kept, in the place of the computed one (section 15.7); and
-- two properties by their usual names (section 14.18). All else stays, but for the server's own.
use Rattle.std.specs.Prelude.{ℕ, ◌≡◌, ◌&&◌, Bool, true, false, not, List, [], ◌∷◌, map, codes, bytes_eq, if◌then◌else◌, Option, Some, None}
use Rattle.std.specs.List.{filter, filter_map, find}
use Rattle.std.specs.Option.{option_and_then}
use Rattle.dav_core.specs.Element.{ElementTree, text, text_of, name_of, children_of, child_elements, is_element, with_children}
use Rattle.dav_presented.specs.Names.{is_dav}
use Rattle.dav_presented.specs.Missing.{dav_element}
use Rattle.dav_presented.specs.Times.{Times, is_own, is_time, named_as_set, timed, times_told}
use Rattle.dav_presented.specs.Types.{type_of}
use Rattle.dav_presented.specs.Usual.{has_usual_name, usual}
use Rattle.dav_presented.specs.declared.times.Telling.{Telling}
use Rattle.dav_presented.specs.declared.times.Telling.TheVariants.{Found, Outcome}

-- The type of a file of which nothing more is known (RFC 9110, section 8.3).
abbrev pub unknown_type : List ℕ
unknown_type = codes "application/octet-stream"

-- Whether an element's text is that type (RFC 4918, section 15.5).
abbrev pub is_unknown : Option (List ℕ) → Bool
is_unknown None = false
is_unknown (Some told) = bytes_eq told unknown_type

-- A property: `getcontenttype` with that type gets this one, where there is one (RFC 4918, section 15.5).
abbrev pub typed_property : Option (List ℕ) → ElementTree → ElementTree
typed_property None e = e
typed_property (Some kind) e = if is_dav (codes "getcontenttype") e && is_unknown (text_of e) then with_children e (text kind ∷ []) else e

-- What is told of a property that was found: the time that is kept, the type by the address, and its usual name (RFC 4918, sections 14.18,
-- 15.5 and 15.7).
abbrev pub found_property : Option (List ℕ) → Option Times → ElementTree → ElementTree
found_property kind times e = usual (typed_property kind (timed times e))

-- What is told of a property: where properties were found, none of the server's own; where they were set, by the name by which a client
-- set it.
abbrev pub told_property : Option (List ℕ) → Telling → ElementTree → Option ElementTree
told_property kind (Found times) e = if is_own e then None else Some (found_property kind times e)
told_property kind Outcome e = Some (named_as_set e)

-- An element of `DAV:` with that name, each child changed; another tree stays.
abbrev pub each_below : List ℕ → (ElementTree → ElementTree) → ElementTree → ElementTree
each_below name f e = if is_dav name e then with_children e (map f (children_of e)) else e

-- What is told of a child of a `prop`: a text there is no property.
abbrev pub child_told : (ElementTree → Option ElementTree) → ElementTree → Option ElementTree
child_told f e = if is_element e then f e else None

-- A `prop` with what is told of its properties; another tree stays (RFC 4918, section 14.18).
abbrev pub prop_told : (ElementTree → Option ElementTree) → ElementTree → ElementTree
prop_told f e = if is_dav (codes "prop") e then with_children e (filter_map (child_told f) (children_of e)) else e

-- The type by the address in an `href`, if there is one (RFC 4918, section 14.7).
abbrev pub type_at : Option ElementTree → Option (List ℕ)
type_at None = None
type_at (Some href) = option_and_then type_of (text_of href)

-- The type by the address of a response (RFC 4918, section 14.24): by what is after the last dot of the address, in which letters and
-- digits stand as they are (RFC 3986, section 2.3).
abbrev pub type_in : ElementTree → Option (List ℕ)
type_in response = type_at (find (is_dav (codes "href")) (child_elements response))

-- A response whose properties are told so (RFC 4918, section 14.24).
abbrev pub typed_by : Option (List ℕ) → Telling → ElementTree → ElementTree
typed_by kind telling response = with_children response (map (each_below (codes "propstat") (prop_told (told_property kind telling))) (children_of response))

-- A child of a multistatus: a response is changed, all else stays (RFC 4918, section 14.16).
abbrev pub typed_child : ElementTree → ElementTree
typed_child e = if is_dav (codes "response") e then typed_by (type_in e) (Found (times_told e)) e else e

-- A multistatus of what was found, with the types and the times of its files and the usual names of its properties (RFC 4918, section 14.16).
abbrev pub typed : ElementTree → ElementTree
typed told = with_children told (map typed_child (children_of told))

-- A child of a multistatus that tells what was set: a response is changed, all else stays (RFC 4918, section 14.16).
abbrev pub outcome_child : ElementTree → ElementTree
outcome_child e = if is_dav (codes "response") e then typed_by None Outcome e else e

-- A multistatus of what was set, with the names by which the client set it (RFC 4918, section 9.2.1).
abbrev pub outcomes : ElementTree → ElementTree
outcomes told = with_children told (map outcome_child (children_of told))

-- ---- what a client reads

-- Two lists of trees that are as this relation has it, one by one, in order.
abbrev pub EachIs : (ElementTree → ElementTree → Type 0) → List ElementTree → List ElementTree → Type 0
EachIs R [] news = news ≡ []
EachIs R (old ∷ olds) [] = ⊥
EachIs R (old ∷ olds) (new ∷ news) = R old new × EachIs R olds news

-- An element of `DAV:` with that name keeps its name and its attributes, and its children are as this relation has it; another tree stays.
abbrev pub KeepsAllBut : List ℕ → (ElementTree → ElementTree → Type 0) → ElementTree → ElementTree → Type 0
KeepsAllBut name R old new =
    (is_dav name old ≡ true → (news : List ElementTree) × (new ≡ with_children old news) × EachIs R (children_of old) news)
    × (is_dav name old ≡ false → new ≡ old)

-- A property: where there is a type, a `getcontenttype` that told `application/octet-stream` tells it, and any other stays (RFC 4918,
-- section 15.5).
abbrev pub TellsType : Option (List ℕ) → ElementTree → ElementTree → Type 0
TellsType None old new = new ≡ old
TellsType (Some kind) old new =
    ((is_dav (codes "getcontenttype") old && is_unknown (text_of old)) ≡ true → new ≡ with_children old (text kind ∷ []))
    × ((is_dav (codes "getcontenttype") old && is_unknown (text_of old)) ≡ false → new ≡ old)

-- A property that is told by the request's own element, `resourcetype` or `current-user-principal`, is told by its usual name, with the
-- children that it has; a time is the one that is kept; any other tells the type, or stays (RFC 4918, sections 14.18 and 15.7).
abbrev pub TellsProperty : Option (List ℕ) → Option Times → ElementTree → ElementTree → Type 0
TellsProperty kind times old new =
    (has_usual_name old ≡ true → new ≡ dav_element (name_of old) (children_of old))
    × (is_time old ≡ true → new ≡ timed times old)
    × (has_usual_name old ≡ false → is_time old ≡ false → TellsType kind old new)

-- A `prop` tells so each of its properties but for the server's own, in their order; another tree stays (RFC 4918, section 14.18).
abbrev pub TellsProp : Option (List ℕ) → Option Times → ElementTree → ElementTree → Type 0
TellsProp kind times old new =
    (is_dav (codes "prop") old ≡ true → (news : List ElementTree) × (new ≡ with_children old news)
    × EachIs (TellsProperty kind times) (filter (λ e. is_element e && not (is_own e)) (children_of old)) news)
    × (is_dav (codes "prop") old ≡ false → new ≡ old)

-- A response: its properties tell the type by its address, where that has one, and the time that is kept, and have their usual names; all
-- else in it stays (RFC 4918, section 14.24).
abbrev pub TellsByAddress : ElementTree → ElementTree → Type 0
TellsByAddress old new =
    (news : List ElementTree) × (new ≡ with_children old news)
    × EachIs (KeepsAllBut (codes "propstat") (TellsProp (type_in old) (times_told old))) (children_of old) news

-- A multistatus in which each response tells its properties so, and all else stays (RFC 4918, section 14.16).
abbrev pub TellsTypes : ElementTree → ElementTree → Type 0
TellsTypes told new =
    (news : List ElementTree) × (new ≡ with_children told news)
    × EachIs (λ old child. (is_dav (codes "response") old ≡ true → TellsByAddress old child) × (is_dav (codes "response") old ≡ false → child ≡ old)) (children_of told) news
