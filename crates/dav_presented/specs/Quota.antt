-- The room that a folder tells (RFC 4331).
use Rattle.std.specs.Prelude.{ℕ, ◌==◌, ◌&&◌, ◌||◌, Bool, false, not, List, [], ◌∷◌, ◌++◌, map, codes, decimal, bytes_eq, if◌then◌else◌, Option, Some, None}
use Rattle.std.specs.List.{ends_with, filter, find, list_any}
use Rattle.dav_core.specs.Element.{ElementTree, text, text_of, children_of, child_elements, with_child, with_children}
use Rattle.dav_presented.specs.declared.quota.Room.{Room}
use Rattle.dav_presented.specs.Names.{is_dav}
use Rattle.dav_presented.specs.Missing.{dav_element, is_in_prop, is_told, prop_among}
use Rattle.dav_presented.specs.Responses.{each_response, ok_status, propstat_of}

-- ---- what is told

-- A property of `DAV:` that is a number of bytes, in decimal (RFC 4331, sections 3 and 4).
abbrev pub bytes_property : List ℕ → ℕ → ElementTree
bytes_property name count = dav_element name (text (decimal count) ∷ [])

-- How many bytes can still be stored, and how many are in use (RFC 4331, sections 3 and 4).
abbrev pub quota : Room → List ElementTree
quota room =
    bytes_property (codes "quota-available-bytes") room.available ∷ bytes_property (codes "quota-used-bytes") room.used ∷ []

-- Whether a `prop` names one of these properties (RFC 4331, sections 3 and 4).
abbrev pub names_quota : ElementTree → Bool
names_quota prop = list_any (λ e. is_dav (codes "quota-available-bytes") e || is_dav (codes "quota-used-bytes") e) (child_elements prop)

-- Of these properties those that a `prop` names and a response doesn't tell (RFC 4918, section 9.1).
abbrev pub named_quota : Room → ElementTree → ElementTree → List ElementTree
named_quota room prop response = filter (λ e. is_in_prop e prop && not (is_told e response)) (quota room)

-- ---- where it is told

-- Whether there is an address, and it is that of a folder: its text ends in a slash, 47 (RFC 4918, section 5.2).
abbrev pub ends_in_slash : Option (List ℕ) → Bool
ends_in_slash None = false
ends_in_slash (Some address) = ends_with ◌==◌ address (47 ∷ [])

-- The text of an element, if there is one.
abbrev pub text_if_any : Option ElementTree → Option (List ℕ)
text_if_any None = None
text_if_any (Some e) = text_of e

-- Whether a response is about a folder, by its address (RFC 4918, sections 5.2 and 14.24).
abbrev pub is_of_folder : ElementTree → Bool
is_of_folder response = ends_in_slash (text_if_any (find (is_dav (codes "href")) (child_elements response)))

-- Whether there is a text, and it is the status 200.
abbrev pub is_ok : Option (List ℕ) → Bool
is_ok None = false
is_ok (Some status) = bytes_eq status ok_status

-- Whether an element is the status 200 (RFC 4918, section 14.28).
abbrev pub says_ok : ElementTree → Bool
says_ok e = is_dav (codes "status") e && is_ok (text_of e)

-- Whether an element is a `propstat` of properties that are there (RFC 4918, section 14.22).
abbrev pub is_found : ElementTree → Bool
is_found e = is_dav (codes "propstat") e && list_any says_ok (child_elements e)

-- A `prop` with more properties, after the others; another tree stays (RFC 4918, section 14.18).
abbrev pub more_in_prop : List ElementTree → ElementTree → ElementTree
more_in_prop es e = if is_dav (codes "prop") e then with_children e (children_of e ++ es) else e

-- A child of a response: a `propstat` of 200 gets more properties, all else stays (RFC 4918, section 14.22).
abbrev pub more_in_found : List ElementTree → ElementTree → ElementTree
more_in_found es e = if is_found e then with_children e (map (more_in_prop es) (children_of e)) else e

-- A response with these properties under 200: in the `propstat` that it has, or in a new one (RFC 4918, section 14.24).
abbrev pub with_found : List ElementTree → ElementTree → ElementTree
with_found es response =
    if list_any is_found (child_elements response) then with_children response (map (more_in_found es) (children_of response))
    else with_child response (propstat_of ok_status es)

-- A response that tells these properties too, if there are any (RFC 4918, section 14.24).
abbrev pub telling : List ElementTree → ElementTree → ElementTree
telling [] response = response
telling (e ∷ es) response = with_found (e ∷ es) response

-- A response to a request for these properties: one about a folder tells its room (RFC 4331, section 3).
abbrev pub with_quota_of : Room → ElementTree → ElementTree → ElementTree
with_quota_of room prop response = if is_of_folder response then telling (named_quota room prop response) response else response

-- Whether a request asks by an element, and that names one of these properties.
abbrev pub names_quota_if_any : Option ElementTree → Bool
names_quota_if_any None = false
names_quota_if_any (Some prop) = names_quota prop

-- Whether the body of a PROPFIND asks for the room (RFC 4331, section 3: all properties are asked for without it).
abbrev pub asks_for_quota : ElementTree → Bool
asks_for_quota propfind = names_quota_if_any (prop_among (child_elements propfind))

-- A multistatus to a request that asks by this element, if by any: where that names the room, folders tell it (RFC 4331, sections 3 and 4).
abbrev pub with_quota_for : Room → Option ElementTree → ElementTree → ElementTree
with_quota_for room None told = told
with_quota_for room (Some prop) told = if names_quota prop then each_response (with_quota_of room prop) told else told

-- The multistatus to a PROPFIND with this body, in which folders tell the room that is asked for (RFC 4331, sections 3 and 4).
abbrev pub with_quota : Room → ElementTree → ElementTree → ElementTree
with_quota room propfind told = with_quota_for room (prop_among (child_elements propfind)) told
