-- PROPPATCH (RFC 4918, section 9.2).
use Rattle.std.specs.Prelude.{ℕ, ◌++◌, ◌==◌, ◌&&◌, ◌||◌, bytes_eq, nat_lt, Bool, true, false, not, List, [], ◌∷◌, map, codes, if◌then◌else◌, Option, Some, None}
use Rattle.std.specs.Char.{is_ascii_alphanumeric}
use Rattle.std.specs.List.{filter, flat_map, list_any, list_all}
use Rattle.std.specs.Option.{is_none, is_some, unwrap_or}
use Rattle.http_header.specs.FieldValue.{is_visible_text}
use Rattle.dav_core.specs.declared.errors.DavError.TheVariants as dav
use Rattle.dav_core.specs.declared.fs.DavMetaData.{DavMetaData}
use Rattle.dav_core.specs.declared.method.DavMethod.TheVariants as method
use Rattle.dav_core.specs.Asking.{Metadata, PatchProps}
use Rattle.dav_core.specs.Element.{ElementTree, element, no_trees, name_of, prefix_of, namespace_of, child_elements, text_of, is_named, xmlns_name}
use Rattle.dav_core.specs.Path.{PathText, names, is_nonempty}
use Rattle.dav_core.specs.Property.{Property, Patch, patch_of}
use Rattle.dav_headers.specs.Elements.{elements_of}
use Rattle.dav_engine.specs.declared.reply.ReplyBody.TheVariants as reply
use Rattle.dav_engine.specs.declared.request.Body.{Body}
use Rattle.dav_engine.specs.declared.request.Body.TheVariants as body
use Rattle.dav_engine.specs.Caller.{Caller, requester}
use Rattle.dav_engine.specs.Conditions.{Conditions, AreConditions, guarded}
use Rattle.dav_engine.specs.Folder.{closed, location_found}
use Rattle.dav_engine.specs.Headers.{Headers}
use Rattle.dav_engine.specs.Method.{MethodPlan, ◌>>=◌, require_free, ask_for, gives, required}
use Rattle.dav_engine.specs.Multistatus.{multistatus, xml_type}
use Rattle.dav_engine.specs.Plan.{Done}
use Rattle.dav_engine.specs.Properties.{dav_space, apache_space, microsoft_space, windows_names, is_in, has_properties, Group, property_response}
use Rattle.dav_engine.specs.Reply.{Reply, Header}

-- ---- what is to change

-- A change that a PROPPATCH asks for: a property by its element, and whether it is set or removed (RFC 4918, section 14.19).
pub record Change : Type 0 where
  pub is_set : Bool
  pub property : ElementTree

-- properties that are all set, or all removed
abbrev pub each_changed : Bool → List ElementTree → List Change
each_changed is_set es = map (λ e. record { is_set = is_set; property = e }) es

-- the changes of a `set` or `remove`: the elements in each `prop` (RFC 4918, section 14.18)
abbrev pub changes_to : Bool → ElementTree → List Change
changes_to is_set part = each_changed is_set (flat_map child_elements (filter (is_named (codes "prop")) (child_elements part)))

-- The changes of a part of a body: of a `set` or a `remove`; another element has none (RFC 4918, sections 14.23 and 14.26).
abbrev pub changes_by : ElementTree → List Change
changes_by part =
    if bytes_eq (name_of part) (codes "set") then changes_to true part
    else if bytes_eq (name_of part) (codes "remove") then changes_to false part
    else []

-- All changes of the body of a PROPPATCH, in order; none where it isn't a `propertyupdate`. Names count, and namespaces don't
-- (RFC 4918, section 14.19).
abbrev pub changes_in : Body → Option (List Change)
changes_in (body.Tree tree) = if bytes_eq (name_of tree) (codes "propertyupdate") then Some (flat_map changes_by (child_elements tree)) else None
changes_in content = None

-- ---- what becomes of each

-- Whether an element has a text, and no element in it.
abbrev pub has_text_alone : ElementTree → Bool
has_text_alone e = is_some (text_of e) && not (is_nonempty (child_elements e))

-- a language tag: letters, digits and hyphens (RFC 9110, section 8.5.1)
abbrev pub is_language : List ℕ → Bool
is_language tag = is_nonempty tag && list_all (λ b. is_ascii_alphanumeric b || (b == 45)) tag

-- Whether the header Content-Language may have this text (RFC 9110, section 8.5).
abbrev pub are_languages : List ℕ → Bool
are_languages value = is_visible_text value && list_all is_language (elements_of value)

-- 409 for a property whose value isn't a text; else this status (RFC 4918, section 9.2.1).
abbrev pub with_text : ElementTree → Option ℕ → Option ℕ
with_text e verdict = if has_text_alone e then verdict else Some 409

-- 409 for a property whose value isn't a list of languages; else this status (RFC 4918, section 9.2.1).
abbrev pub with_languages : ElementTree → Option ℕ → Option ℕ
with_languages e verdict = with_text e (if are_languages (unwrap_or (text_of e) []) then verdict else Some 409)

-- No status, so that the property is stored, where the store keeps properties; else 403.
abbrev pub storable_if : Bool → Option ℕ
storable_if has = if has then None else Some 403

-- The status of a property of the namespace `DAV:` that is to be set; none where it is to be stored: `displayname` and
-- `getcontentlanguage` may be (RFC 4918, section 15).
abbrev pub set_dav_status : Bool → ElementTree → Option ℕ
set_dav_status has e =
    if bytes_eq (name_of e) (codes "displayname") then with_text e (storable_if has)
    else if bytes_eq (name_of e) (codes "getcontentlanguage") then with_languages e (storable_if has)
    else if bytes_eq (name_of e) (codes "getlastmodified") then with_text e (Some 403)
    else Some 403

-- The status of a property of Apache's that is to be set: none is accepted.
abbrev pub set_apache_status : ElementTree → Option ℕ
set_apache_status e = if bytes_eq (name_of e) (codes "executable") then with_text e (Some 403) else Some 403

-- The status of a property of Microsoft's that is to be set: what Windows sets is answered 200, and not stored.
abbrev pub set_windows_status : ElementTree → Option ℕ
set_windows_status e = if list_any (bytes_eq (name_of e)) windows_names then with_text e (Some 200) else Some 403

-- The status with which a property that is to be set is answered at once, by whether the store keeps properties; none where it
-- is to be stored. A client can't set what the server computes (RFC 4918, section 9.2.1).
abbrev pub set_status : Bool → ElementTree → Option ℕ
set_status has e =
    if is_in dav_space e then set_dav_status has e
    else if is_in apache_space e then set_apache_status e
    else if is_in microsoft_space e then set_windows_status e
    else None

-- The status of a property of the namespace `DAV:` that is to be removed: 200 for `displayname` and `getcontentlanguage` where
-- the store keeps properties, though nothing is removed; else 403.
abbrev pub remove_dav_status : Bool → ElementTree → Option ℕ
remove_dav_status has e =
    if bytes_eq (name_of e) (codes "displayname") || bytes_eq (name_of e) (codes "getcontentlanguage") then (if has then Some 200 else Some 403)
    else Some 403

-- The status with which a property that is to be removed is answered at once, by whether the store keeps properties; none where
-- the store is to remove it (RFC 4918, section 9.2.1).
abbrev pub remove_status : Bool → ElementTree → Option ℕ
remove_status has e =
    if is_in dav_space e then remove_dav_status has e
    else if is_in apache_space e || is_in microsoft_space e then Some 403
    else None

-- The status with which a change is answered at once, by whether the store keeps properties; none where the store is to make it.
abbrev pub change_status : Bool → Change → Option ℕ
change_status has c = if c.is_set then set_status has c.property else remove_status has c.property

-- ---- what is reported

-- The attribute that declares the namespace of an element, if it has one, under its prefix (Namespaces in XML 1.0, section 3).
abbrev pub declares : Option (List ℕ) → Option (List ℕ) → List (List ℕ × List ℕ)
declares prefix None = []
declares prefix (Some space) = (xmlns_name (unwrap_or prefix []), space) ∷ []

-- a property by its name, with its namespace declared, and without its value
abbrev pub by_name : List ℕ → Option (List ℕ) → Option (List ℕ) → ElementTree
by_name name prefix space = element name prefix space (declares prefix space) no_trees

-- The element of a property by its name, with its namespace declared, and without its value.
abbrev pub element_by_name : ElementTree → ElementTree
element_by_name e = by_name (name_of e) (prefix_of e) (namespace_of e)

-- A property that the store answered with, by its name, with its namespace declared, and without its value.
abbrev pub property_by_name : Property → ElementTree
property_by_name p = by_name p.name p.prefix p.namespace

-- A property, with the status that reports what became of it.
abbrev pub Told : Type 0
Told = ℕ × ElementTree

-- The properties under their statuses, with one more under this status; the statuses rise.
abbrev pub told_under : ℕ → ElementTree → List Group → List Group
told_under status e [] = (status, e ∷ []) ∷ []
told_under status e (g ∷ gs) =
    if status == g.0 then (g.0, g.1 ++ e ∷ []) ∷ gs
    else if nat_lt status g.0 then (status, e ∷ []) ∷ g ∷ gs
    else g ∷ told_under status e gs

-- The properties under their statuses, in rising order, with these added one after another.
abbrev pub grouped_onto : List Group → List Told → List Group
grouped_onto gs [] = gs
grouped_onto gs (told ∷ more) = grouped_onto (told_under told.0 told.1 gs) more

-- The properties under the statuses that report what became of them, in rising order (RFC 4918, section 14.22).
abbrev pub grouped : List Told → List Group
grouped told = grouped_onto [] told

-- The change, if it is answered at once, with its status.
abbrev pub answered_by : Change → Option ℕ → List (ℕ × Change)
answered_by c None = []
answered_by c (Some status) = (status, c) ∷ []

-- The changes that are answered at once, each with its status.
abbrev pub answered_at_once : Bool → List Change → List (ℕ × Change)
answered_at_once has cs = flat_map (λ c. answered_by c (change_status has c)) cs

-- The changes that the store is to make.
abbrev pub to_store : Bool → List Change → List Change
to_store has cs = filter (λ c. is_none (change_status has c)) cs

-- Whether one of the changes that are answered at once is refused.
abbrev pub has_refused : List (ℕ × Change) → Bool
has_refused answers = list_any (λ r. not (r.0 == 200)) answers

-- The status of a change that is answered at once where one is refused: 424 where it would have been 200 (RFC 4918, sections 9.2.1 and 11.4).
abbrev pub failed_status : ℕ → ℕ
failed_status status = if status == 200 then 424 else status

-- The property of a change that the store would have made: one that was to be set is reported with its value.
abbrev pub failed_element : Change → ElementTree
failed_element c = if c.is_set then c.property else element_by_name c.property

-- What is reported of all changes where one is refused: all fail (RFC 4918, sections 9.2.1 and 11.4).
abbrev pub all_failed : List (ℕ × Change) → List Change → List Told
all_failed answers stored =
    map (λ r. (failed_status r.0, element_by_name r.1.property)) answers ++ map (λ c. (424, failed_element c)) stored

-- What is reported of all changes where none is refused: of those that the store made, what it answered.
abbrev pub all_done : List (ℕ × Change) → List (ℕ × Property) → List Told
all_done answers stored =
    map (λ r. (r.0, element_by_name r.1.property)) answers ++ map (λ a. (a.0, property_by_name a.1)) stored

-- a change as the store takes it
abbrev pub as_patch : Change → Patch
as_patch c = patch_of (
  c.is_set,
  record {
    name = name_of c.property;
    prefix = prefix_of c.property;
    namespace = namespace_of c.property;
    xml = if c.is_set then Some c.property else None;
  },
)

-- ---- the method

-- Asks the store for these changes, if there are any.
abbrev pub store_changes : PathText → List Change → MethodPlan (List (ℕ × Property))
store_changes p [] = gives []
store_changes p (c ∷ cs) = ask_for (PatchProps (names p) (map as_patch (c ∷ cs)))

-- Makes all changes; where one is refused, none: the store isn't asked (RFC 4918, section 9.2).
abbrev pub change_all : PathText → (refused : Bool) → List (ℕ × Change) → List Change → MethodPlan (List Told)
change_all p true answers stored = gives (all_failed answers stored)
change_all p false answers stored = do
  done ← store_changes p stored
  gives (all_done answers done)

-- 207 with one response (RFC 4918, sections 9.2.1 and 13)
abbrev pub proppatch_reply : List Header → PathText → List Told → Reply
proppatch_reply location p told = record {
  status = 207;
  headers = location ++ xml_type ∷ [];
  body = reply.Tree (multistatus (property_response p (grouped told) ∷ []));
}

-- Makes all changes, or none, and reports what became of each (RFC 4918, section 9.2).
abbrev pub change_properties : PathText → List Change → MethodPlan (List Told)
change_properties p changes = do
  has ← has_properties p
  change_all p (has_refused (answered_at_once has changes)) (answered_at_once has changes) (to_store has changes)

-- Makes the changes, or none, and replies with a multistatus.
abbrev pub patch_properties : PathText → List Header → List Change → MethodPlan Reply
patch_properties p location changes = do
  told ← change_properties p changes
  gives (proppatch_reply location p told)

-- Makes the changes of a body; 400 where it is no `propertyupdate`.
abbrev pub patch_body : PathText → List Header → Body → MethodPlan Reply
patch_body p location content = do
  changes ← Done (required (changes_in content) dav.XmlParseError)
  patch_properties p location changes

-- A PROPPATCH of what was found: 412 where a condition fails, 423 where a lock conflicts (RFC 4918, section 7.5).
abbrev pub proppatch_found : Conditions → PathText → List Header → Body → Caller → DavMetaData → MethodPlan Reply
proppatch_found c p location content who found = do
  tokens ← guarded dav.Status method.PropPatch c (Some found)
  _ ← require_free false (requester who tokens) (names p) (dav.Status 423)
  patch_body p location content

-- A PROPPATCH of what was found at a path: that of a folder gets a slash at its end, if it has none.
abbrev pub proppatch_at : Conditions → PathText → Body → Caller → DavMetaData → MethodPlan Reply
proppatch_at c p content who found = proppatch_found c (closed found.dir p) (location_found (Some found) p) content who found

-- The plan of a PROPPATCH, with the conditions of its headers (RFC 4918, section 9.2).
abbrev pub proppatch : Conditions → PathText → Body → Caller → MethodPlan Reply
proppatch c p content who = do
  found ← ask_for (Metadata (names p))
  proppatch_at c p content who found

-- The plan of a PROPPATCH with these headers and this body, of this path, by this client (RFC 4918, section 9.2).
pub data IsProppatch (headers : Headers) (p : PathText) (content : Body) (who : Caller) : MethodPlan Reply → Type 0 where
  is_proppatch : (c : Conditions) → AreConditions headers p.prefix (names p) c → IsProppatch headers p content who (proppatch c p content who)
