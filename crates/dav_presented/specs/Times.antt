-- The times of files that clients set: that of a picture, or of the file that was copied. A server computes `getlastmodified` (RFC 4918,
-- section 15.7); so a time that is set is kept as a property of the server's own, beside the moment at which it was set, and it is told
-- in the place of the computed one, as long as the file isn't changed after that moment.
use Rattle.std.specs.Prelude.{ℕ, ◌&&◌, ◌||◌, ◌++◌, Bool, true, false, nat_le, nat_lt, length, take, drop, List, [], ◌∷◌, map, codes, bytes_eq, if◌then◌else◌, Option, Some, None}
use Rattle.std.specs.List.{find, list_any}
use Rattle.std.specs.Option.{option_and_then, option_eq, option_or}
use Rattle.httpdate.specs.Date.{parse_secs}
use Rattle.dav_core.specs.Element.{ElementTree, element, text, no_trees, trees, name_of, prefix_of, text_of, is_named, children_of, child_elements, with_child, with_children}
use Rattle.dav_engine.specs.Date.{date_text_of}
use Rattle.dav_presented.specs.Names.{is_dav, is_in}
use Rattle.dav_presented.specs.Missing.{dav_element}

-- ---- names

-- The namespace of the properties that are the server's own (Namespaces in XML 1.0, section 2.1).
abbrev pub own_space : List ℕ
own_space = codes "vuldarg:times"

-- Whether an element is of that namespace.
abbrev pub is_own : ElementTree → Bool
is_own e = is_in own_space e

-- The name of the time that Windows sets.
abbrev pub windows_time : List ℕ
windows_time = codes "Win32LastModifiedTime"

-- Whether a property is the time of a file's last change: `getlastmodified` (RFC 4918, section 15.7), or that of Windows.
abbrev pub is_time : ElementTree → Bool
is_time e = is_dav (codes "getlastmodified") e || (bytes_eq (name_of e) windows_time && is_in (codes "urn:schemas-microsoft-com:") e)

-- ---- what is kept

-- The property by which a time is kept, both in seconds since 1970: the time, and the moment at which it was set, as two dates (RFC 9110,
-- section 5.6.7); its prefix is the name by which it was set.
abbrev pub kept : List ℕ → ℕ → ℕ → ElementTree
kept name time moment = element (codes "modified") (Some name) (Some own_space) [] (trees (text (date_text_of time ++ date_text_of moment) ∷ []))

-- A time that a client sets is kept, where it is a date; else the property stays.
abbrev pub kept_if : ℕ → ElementTree → Option ℕ → ElementTree
kept_if moment e None = e
kept_if moment e (Some time) = kept (name_of e) time moment

-- What a server's own property is set as by a client: a property of `DAV:`, which is refused (RFC 4918, section 9.2.1).
abbrev pub refused : ElementTree → ElementTree
refused e = element (name_of e) (Some (codes "D")) (Some (codes "DAV:")) [] no_trees

-- What a property is set as at this moment: a time as it is kept; another one as it is, but for the server's own, which no client sets.
abbrev pub set_as : ℕ → ElementTree → ElementTree
set_as moment e =
    if is_time e then kept_if moment e (option_and_then parse_secs (text_of e))
    else if is_own e then refused e
    else e

-- An element of that name, in whatever namespace, with each child changed; another tree stays.
abbrev pub each_named : List ℕ → (ElementTree → ElementTree) → ElementTree → ElementTree
each_named name f e = if is_named name e then with_children e (map f (children_of e)) else e

-- The body of a PROPPATCH as it is run at this moment (RFC 4918, sections 9.2 and 14.26).
abbrev pub patch_as : ℕ → ElementTree → ElementTree
patch_as moment tree = with_children tree (map (each_named (codes "set") (each_named (codes "prop") (set_as moment))) (children_of tree))

-- ---- what is asked for

-- The property by which a time is kept, as a request names it (RFC 4918, section 14.18).
abbrev pub own_time : ElementTree
own_time = element (codes "modified") (Some (codes "T")) (Some own_space) [] no_trees

-- A `prop` of a PROPFIND that asks for a time asks for the one that is kept as well (RFC 4918, section 14.18).
abbrev pub asked_too : ElementTree → ElementTree
asked_too e = if is_named (codes "prop") e && list_any is_time (child_elements e) then with_child e own_time else e

-- The body of a PROPFIND as it is run (RFC 4918, section 9.1).
abbrev pub find_as : ElementTree → ElementTree
find_as tree = with_children tree (map asked_too (children_of tree))

-- ---- what is told

-- Whether a property is one by which a time is kept.
abbrev pub is_kept : ElementTree → Bool
is_kept e = is_own e && bytes_eq (name_of e) (codes "modified")

-- The first property of a `prop` among these by which a time is kept (RFC 4918, section 14.18).
abbrev pub kept_in_props : List ElementTree → Option ElementTree
kept_in_props [] = None
kept_in_props (e ∷ es) = if is_dav (codes "prop") e then option_or (find is_kept (child_elements e)) (kept_in_props es) else kept_in_props es

-- The first property of a `propstat` among these by which a time is kept (RFC 4918, section 14.22).
abbrev pub kept_in_propstats : List ElementTree → Option ElementTree
kept_in_propstats [] = None
kept_in_propstats (e ∷ es) = if is_dav (codes "propstat") e then option_or (kept_in_props (child_elements e)) (kept_in_propstats es) else kept_in_propstats es

-- a time, and the moment at which it was set
abbrev pub Times : Type 0
Times = ℕ × ℕ

-- Both, where there are both.
abbrev pub both : Option ℕ → Option ℕ → Option Times
both (Some time) (Some moment) = Some (time, moment)
both (Some time) None = None
both None moment = None

-- The two dates in a text: the first one is of 29 bytes (RFC 9110, section 5.6.7).
abbrev pub times_of : List ℕ → Option Times
times_of bytes = if nat_lt (length bytes) 29 then None else both (parse_secs (take 29 bytes)) (parse_secs (drop 29 bytes))

-- The time that a property keeps.
abbrev pub times_in : ElementTree → Option Times
times_in e = option_and_then times_of (text_of e)

-- The time that is kept of what a response is about (RFC 4918, section 14.24).
abbrev pub times_told : ElementTree → Option Times
times_told response = option_and_then times_in (kept_in_propstats (child_elements response))

-- Whether what was changed last at a time, if it is one, wasn't changed after this moment.
abbrev pub is_unchanged : Option ℕ → ℕ → Bool
is_unchanged None moment = false
is_unchanged (Some changed) moment = nat_le changed moment

-- A property in a response: a time is the one that is kept, as long as what the machine tells isn't later than the moment at which that was
-- set; any other stays.
abbrev pub timed : Option Times → ElementTree → ElementTree
timed None e = e
timed (Some times) e =
    if is_time e && is_unchanged (option_and_then parse_secs (text_of e)) times.1 then with_children e (text (date_text_of times.0) ∷ []) else e

-- What was set in the place of a server's own property, by its prefix: that is the name by which the client set it.
abbrev pub named_as_set : ElementTree → ElementTree
named_as_set e =
    if is_kept e && option_eq bytes_eq (prefix_of e) (Some (codes "getlastmodified")) then dav_element (codes "getlastmodified") []
    else if is_kept e && option_eq bytes_eq (prefix_of e) (Some windows_time) then element windows_time (Some (codes "Z")) None [] no_trees
    else e
