-- What a PROPFIND that names properties is told of those that a resource doesn't have (RFC 4918, sections 9.1, 14.22 and 14.24).
use Rattle.std.specs.Prelude.{ℕ, ◌<◌, ◌++◌, ◌&&◌, ◌||◌, Bool, List, [], ◌∷◌, length, map, codes, bytes_eq, if◌then◌else◌, not, IsSomeAnd, Option, Some, None}
use Rattle.std.specs.List.{list_any, filter}
use Rattle.dav_core.specs.Element.{ElementTree, element, text, no_trees, trees, name_of, prefix_of, namespace_of, children_of, child_elements, with_child, with_children}
use Rattle.dav_presented.specs.Names.{is_same, is_dav}

-- ---- what is asked for

-- The first of some elements that says what is asked for, where it is a `prop` (RFC 4918, section 14.20). `allprop` and `propname` name
-- nothing that has to be there.
abbrev pub prop_among : List ElementTree → Option ElementTree
prop_among [] = None
prop_among (e ∷ es) =
    if bytes_eq (name_of e) (codes "prop") then Some e
    else if bytes_eq (name_of e) (codes "propname") || bytes_eq (name_of e) (codes "allprop") then None
    else prop_among es

-- The body of a PROPFIND asks by a `prop` (RFC 4918, section 14.18) that names more than 1,000 properties, each as often as it stands
-- there.
abbrev pub AsksForMany : ElementTree → Type 0
AsksForMany propfind = IsSomeAnd (prop_among (child_elements propfind)) (λ prop. 1000 < length (child_elements prop))

-- ---- what is told

-- Whether a property of that name is among the children of a `prop`.
abbrev pub is_in_prop : ElementTree → ElementTree → Bool
is_in_prop e prop = list_any (λ f. is_same e f) (child_elements prop)

-- Whether a property of that name is under the status of a `propstat` (RFC 4918, section 14.22).
abbrev pub is_in_propstat : ElementTree → ElementTree → Bool
is_in_propstat e propstat = list_any (λ c. is_dav (codes "prop") c && is_in_prop e c) (child_elements propstat)

-- Whether a property of that name is told in a response, under whatever status (RFC 4918, section 14.24).
abbrev pub is_told : ElementTree → ElementTree → Bool
is_told e response = list_any (λ c. is_dav (codes "propstat") c && is_in_propstat e c) (child_elements response)

-- ---- what is missing

-- The element with nothing in it, as a property that isn't there is told (RFC 4918, section 9.1).
abbrev pub bare : ElementTree → ElementTree
bare e = element (name_of e) (prefix_of e) (namespace_of e) [] no_trees

-- What was found missing, after one more name: as before where it is told, or was found already (RFC 4918, section 9.1).
abbrev pub one_more : ElementTree → List ElementTree → ElementTree → List ElementTree
one_more response found e = if is_told e response || list_any (λ f. is_same e f) found then found else found ++ bare e ∷ []

-- What was found missing, after more names, in their order (RFC 4918, section 9.1).
abbrev pub missing_after : ElementTree → List ElementTree → List ElementTree → List ElementTree
missing_after response found [] = found
missing_after response found (e ∷ es) = missing_after response (one_more response found e) es

-- The names of some elements, each once, where it stands first, with nothing in it (RFC 4918, section 14.18).
abbrev pub named_after : List ElementTree → List ElementTree → List ElementTree
named_after found [] = found
named_after found (e ∷ es) = named_after (if list_any (λ f. is_same e f) found then found else found ++ bare e ∷ []) es

-- The same from the first of them on (RFC 4918, section 14.18).
abbrev pub named_once : List ElementTree → List ElementTree
named_once es = named_after [] es

-- Those of some names that a response doesn't tell (RFC 4918, section 14.24).
abbrev pub untold : ElementTree → List ElementTree → List ElementTree
untold response es = filter (λ e. not (is_told e response)) es

-- ---- what is sent

-- An element of the namespace `DAV:` as it is written (RFC 4918, section 14).
abbrev pub dav_element : List ℕ → List ElementTree → ElementTree
dav_element name children = element name (Some (codes "D")) None [] (trees children)

-- Properties that aren't there, under 404 (RFC 4918, section 14.22).
abbrev pub not_found : List ElementTree → ElementTree
not_found es = dav_element (codes "propstat") (dav_element (codes "prop") es ∷ dav_element (codes "status") (text (codes "HTTP/1.1 404 Not Found") ∷ []) ∷ [])

-- A response with the properties that aren't there, after the others; as it was where there are none (RFC 4918, section 14.24).
abbrev pub with_missing : ElementTree → List ElementTree → ElementTree
with_missing response [] = response
with_missing response (e ∷ es) = with_child response (not_found (e ∷ es))

-- A response to a request for these properties (RFC 4918, section 9.1).
abbrev pub completed : List ElementTree → ElementTree → ElementTree
completed asked response = with_missing response (missing_after response [] asked)

-- A child of a multistatus: a response is completed, all else stays (RFC 4918, section 14.16).
abbrev pub completed_child : List ElementTree → ElementTree → ElementTree
completed_child asked child = if is_dav (codes "response") child then completed asked child else child

-- A multistatus to a request for these properties; as it was where the request names none (RFC 4918, section 14.16).
abbrev pub completed_tree : Option ElementTree → ElementTree → ElementTree
completed_tree None told = told
completed_tree (Some prop) told = with_children told (map (completed_child (child_elements prop)) (children_of told))

-- The multistatus that is sent to a PROPFIND with this body (RFC 4918, section 9.1).
abbrev pub answered : ElementTree → ElementTree → ElementTree
answered propfind told = completed_tree (prop_among (child_elements propfind)) told
