-- Properties of resources, and how they are reported (RFC 4918, sections 4, 9.1 and 15).
use Rattle.std.specs.Prelude.{ℕ, ◌+◌, ◌-◌, ◌++◌, ◌==◌, ◌&&◌, ◌||◌, bytes_eq, length, replicate, Bool, true, false, not, List, [], ◌∷◌, map, codes, if◌then◌else◌, Option, Some, None}
use Rattle.std.specs.Fmt.{decimal, digits}
use Rattle.std.specs.List.{filter, filter_map, list_any, starts_with}
use Rattle.std.specs.Option.{option_eq, unwrap_or}
use Rattle.std.specs.Result.{result_ok}
use Rattle.http_header.specs.HeaderMap.{get}
use Rattle.httpdate.specs.Text.{two_digits, four_digits, time_of_day}
use Rattle.httpdate.specs.declared.parts.Parts.{Parts}
use Rattle.dav_core.specs.declared.fs.DavMetaData.{DavMetaData}
use Rattle.dav_core.specs.Asking.{HaveProps, GetProps, GetProp, GetQuota}
use Rattle.dav_core.specs.Element.{ElementTree, element, text, no_trees, trees, name_of, namespace_of, with_child, with_attributes, attributes_of}
use Rattle.dav_core.specs.Metadata.{tag_of}
use Rattle.dav_core.specs.Path.{PathText, names, last_name, is_nonempty}
use Rattle.dav_core.specs.Property.{Property, PropertyKey}
pub use Rattle.dav_engine.specs.declared.properties.live.Source.{Source}
pub use Rattle.dav_engine.specs.declared.properties.live.Source.TheVariants.{Here, Nowhere, AvailableQuota, UsedQuota, InStore}
pub use Rattle.dav_engine.specs.declared.properties.kind.Telling.{Telling}
pub use Rattle.dav_engine.specs.declared.properties.kind.Telling.TheVariants.{Requested, AllProperties, NamesAlone, Outcomes, Others}
use Rattle.dav_engine.specs.Date.{date_of, date_text_of}
use Rattle.dav_engine.specs.Headers.{Headers, text_in}
use Rattle.dav_engine.specs.LockTree.{locks_found, locks_supported}
use Rattle.dav_engine.specs.Method.{MethodPlan, ◌>>=◌, look, answer_of, gives}
use Rattle.dav_engine.specs.Multistatus.{dav_element, dav_text, href, multistatus, status_element}
use Rattle.dav_engine.specs.Options.{is_root}
use Rattle.dav_engine.specs.Plan.{Locks}

-- ---- names (RFC 4918, section 15; the namespaces of other makers)

-- The namespace `DAV:` of the properties that RFC 4918 defines.
abbrev pub dav_space : List ℕ
dav_space = codes "DAV:"

-- The namespace of Apache's properties.
abbrev pub apache_space : List ℕ
apache_space = codes "http://apache.org/dav/props/"

-- The namespace of Microsoft's properties.
abbrev pub microsoft_space : List ℕ
microsoft_space = codes "urn:schemas-microsoft-com:"

-- a prefix, and the namespace that is written with it
abbrev pub Space : Type 0
Space = List ℕ × List ℕ

-- The namespaces beside `DAV:` that a multistatus declares where one of its properties has them, in this order.
abbrev pub other_spaces : List Space
other_spaces =
    (codes "A", apache_space) ∷ (codes "Z", microsoft_space)
    ∷ (codes "nc", codes "http://nextcloud.org/ns") ∷ (codes "oc", codes "http://owncloud.org/ns") ∷ []

-- Whether an element is of this namespace.
abbrev pub is_in : List ℕ → ElementTree → Bool
is_in space e = option_eq bytes_eq (namespace_of e) (Some space)

-- A property as a request names it: by its prefix, namespace and name.
abbrev pub asked_property : List ℕ → List ℕ → List ℕ → ElementTree
asked_property prefix space name = element name (Some prefix) (Some space) [] no_trees

-- The properties that a request for all properties gets of every resource (RFC 4918, section 15).
abbrev pub common_properties : List ElementTree
common_properties = map (asked_property (codes "D") dav_space) (
    codes "creationdate" ∷ codes "displayname" ∷ codes "getcontentlanguage" ∷ codes "getcontentlength" ∷ codes "getcontenttype"
    ∷ codes "getetag" ∷ codes "getlastmodified" ∷ codes "lockdiscovery" ∷ codes "resourcetype" ∷ codes "supportedlock" ∷ [])

-- The names of the properties that Windows asks for.
abbrev pub windows_names : List (List ℕ)
windows_names = codes "Win32CreationTime" ∷ codes "Win32FileAttributes" ∷ codes "Win32LastAccessTime" ∷ codes "Win32LastModifiedTime" ∷ []

-- The properties whose names a request for property names gets.
abbrev pub named_properties : List ElementTree
named_properties = common_properties
    ++ asked_property (codes "D") dav_space (codes "quota-available-bytes")
    ∷ asked_property (codes "D") dav_space (codes "quota-used-bytes")
    ∷ asked_property (codes "A") apache_space (codes "executable")
    ∷ asked_property (codes "Z") microsoft_space (codes "Win32LastAccessTime") ∷ []

-- ---- what is reported of each resource

-- What is to be reported of properties, by the name of the element that asks for it (RFC 4918, section 14).
abbrev pub telling_of : List ℕ → Telling
telling_of name =
    if bytes_eq name (codes "prop") then Requested
    else if bytes_eq name (codes "allprop") then AllProperties
    else if bytes_eq name (codes "propname") then NamesAlone
    else if bytes_eq name (codes "propertyupdate") then Outcomes
    else Others

-- Whether a text contains another.
abbrev pub holds : List ℕ → List ℕ → Bool
holds [] needle = not (is_nonempty needle)
holds (b ∷ bs) needle = starts_with ◌==◌ (b ∷ bs) needle || holds bs needle

-- The first User-Agent of a request; empty where there is none, or where it isn't text (RFC 9110, section 10.1.5).
abbrev pub user_agent : Headers → List ℕ
user_agent headers = unwrap_or (text_in (get headers (codes "user-agent"))) []

-- How properties are reported: what was asked for; which User-Agent asked, and which principal; and the properties, in order.
pub record Writer : Type 0 where
  pub telling : Telling
  pub agent : List ℕ
  pub principal : Option (List ℕ)
  pub properties : List ElementTree

-- Whether two properties have the same namespace and the same name.
abbrev pub is_same_property : ElementTree → ElementTree → Bool
is_same_property e f = option_eq bytes_eq (namespace_of e) (namespace_of f) && bytes_eq (name_of e) (name_of f)

-- The properties that a User-Agent of Microsoft gets beside all others.
abbrev pub windows_properties : List ℕ → List ElementTree
windows_properties agent = if holds agent (codes "Microsoft") then map (asked_property (codes "Z") microsoft_space) windows_names else []

-- The properties that follow those that the request names: none where it names all that it wants.
abbrev pub listed_properties : Telling → List ℕ → List ElementTree
listed_properties Requested agent = []
listed_properties Outcomes agent = []
listed_properties AllProperties agent = common_properties ++ windows_properties agent
listed_properties NamesAlone agent = named_properties
listed_properties Others agent = named_properties

-- All properties that are to be reported, in order: those that the request names, and the listed ones that aren't among them.
abbrev pub wanted_properties : Telling → List ℕ → List ElementTree → List ElementTree
wanted_properties telling agent given = given ++ filter (λ e. not (list_any (λ f. is_same_property f e) given)) (listed_properties telling agent)

-- What is to be reported of each resource, in the reply to a request with these headers, by this principal (RFC 4918, section 9.1).
abbrev pub writer : Telling → Headers → Option (List ℕ) → List ElementTree → Writer
writer telling headers principal given = record {
  telling = telling;
  agent = user_agent headers;
  principal = principal;
  properties = wanted_properties telling (user_agent headers) given;
}

-- Whether properties are reported with their values: not where the request asks for their names alone.
abbrev pub has_values : Telling → Bool
has_values NamesAlone = false
has_values _ = true

-- ---- values

-- A value as the content of an element: none where it is empty, or where names alone are reported.
abbrev pub value_text : Bool → List ℕ → List ElementTree
value_text false value = []
value_text true [] = []
value_text true (b ∷ bs) = text (b ∷ bs) ∷ []

-- A property with its value, written with this prefix (RFC 4918, section 15).
abbrev pub live : List ℕ → Writer → ElementTree → List ℕ → ElementTree
live prefix w e value = element (name_of e) (Some prefix) None [] (trees (value_text (has_values w.telling) value))

-- a date and time of day as in `1970-01-01T00:00:01Z` (RFC 3339, section 5.6)
abbrev pub internet_date : Parts → List ℕ
internet_date d = four_digits d.year ++ 45 ∷ (two_digits d.mon ++ 45 ∷ (two_digits d.day ++ 84 ∷ (time_of_day d ++ 90 ∷ [])))

-- A number with zeros before it, so that it has at least n digits.
abbrev pub padded : ℕ → List ℕ → List ℕ
padded n value = replicate (n - length value) 48 ++ value

-- The property `getetag`, where the resource has a change number (RFC 4918, section 15.6).
abbrev pub tag_source : Writer → ElementTree → Option ℕ → Source
tag_source w e None = Nowhere
tag_source w e (Some number) = Here (live (codes "D") w e (tag_of number))

-- The property `getcontentlength` of a file; a folder has none (RFC 4918, section 15.4).
abbrev pub length_source : Writer → ElementTree → DavMetaData → Source
length_source w e m = if m.dir then Nowhere else Here (live (codes "D") w e (decimal m.len))

-- The value of `getcontenttype`, by whether the resource is a folder (RFC 4918, section 15.5).
abbrev pub content_type_of : Bool → List ℕ
content_type_of dir = if dir then codes "httpd/unix-directory" else codes "application/octet-stream"

-- The element with the principal's address in it, unless names alone are reported.
abbrev pub principal_element : Bool → ElementTree → List ℕ → ElementTree
principal_element false e principal = e
principal_element true e principal = with_child e (dav_text (codes "href") principal)

-- The property `current-user-principal`, where the requester is known (RFC 5397, section 3).
abbrev pub principal_source : Writer → ElementTree → Option (List ℕ) → Source
principal_source w e None = Nowhere
principal_source w e (Some principal) = Here (principal_element (has_values w.telling) e principal)

-- The property `resourcetype`: a folder is a collection (RFC 4918, section 15.9).
abbrev pub resource_type : Bool → ElementTree → ElementTree
resource_type true e = with_child e (dav_element (codes "collection") [])
resource_type false e = e

-- The locks that are reported: none where names alone are.
abbrev pub locks_told : Writer → Locks → Locks
locks_told w locks = if has_values w.telling then locks else None

-- Where a property of the namespace `DAV:` is found (RFC 4918, section 15; RFC 4331, sections 3 and 4; RFC 5397, section 3).
abbrev pub dav_source : Writer → ElementTree → PathText → DavMetaData → Locks → List ℕ → Source
dav_source w e p m locks name =
    if bytes_eq name (codes "creationdate") then Here (live (codes "D") w e (internet_date (date_of m.created)))
    else if bytes_eq name (codes "displayname") then InStore
    else if bytes_eq name (codes "getcontentlanguage") then InStore
    else if bytes_eq name (codes "getetag") then tag_source w e m.number
    else if bytes_eq name (codes "getcontentlength") then length_source w e m
    else if bytes_eq name (codes "getcontenttype") then Here (live (codes "D") w e (content_type_of m.dir))
    else if bytes_eq name (codes "getlastmodified") then Here (live (codes "D") w e (date_text_of m.modified))
    else if bytes_eq name (codes "resourcetype") then Here (resource_type (m.dir && has_values w.telling) e)
    else if bytes_eq name (codes "current-user-principal") then principal_source w e w.principal
    else if bytes_eq name (codes "supportedlock") then Here (locks_supported (locks_told w locks))
    else if bytes_eq name (codes "lockdiscovery") then Here (locks_found (locks_told w locks) (names p))
    else if bytes_eq name (codes "quota-available-bytes") then AvailableQuota
    else if bytes_eq name (codes "quota-used-bytes") then UsedQuota
    else Nowhere

-- Whether a name begins with a dot.
abbrev pub is_hidden : List ℕ → Bool
is_hidden [] = false
is_hidden (b ∷ bs) = b == 46

-- The file attributes of Windows: hidden 2, folder 16, file 32.
abbrev pub windows_attributes : PathText → DavMetaData → ℕ
windows_attributes p m = (if is_hidden (last_name p.bytes) then 2 else 0) + (if m.dir then 16 else 32)

-- Where a property that Windows asks for is found.
abbrev pub windows_source : Writer → ElementTree → PathText → DavMetaData → List ℕ → Source
windows_source w e p m name =
    if bytes_eq name (codes "Win32CreationTime") then Here (live (codes "Z") w e (date_text_of m.created))
    else if bytes_eq name (codes "Win32LastModifiedTime") then Here (live (codes "Z") w e (date_text_of m.modified))
    else if bytes_eq name (codes "Win32FileAttributes") then Here (live (codes "Z") w e (padded 8 (digits 16 false (windows_attributes p m))))
    else Nowhere

-- Where a property is found: computed here, nowhere, in the quota or in the store.
abbrev pub source : Writer → ElementTree → PathText → DavMetaData → Locks → Source
source w e p m locks =
    if is_in dav_space e then dav_source w e p m locks (name_of e)
    else if is_in microsoft_space e then windows_source w e p m (name_of e)
    else if is_in apache_space e then Nowhere
    else InStore

-- ---- the store is asked

-- How many bytes are used, and how many there are in all where that is known (RFC 4331); none where the store doesn't say.
abbrev pub Quota : Type 0
Quota = Option (ℕ × Option ℕ)

-- what is known of the quota: none where the store wasn't asked yet; it is asked once
abbrev pub QuotaKnown : Type 0
QuotaKnown = Option Quota

-- Asks the store for the quota, unless its answer is known already; none where the store refuses.
abbrev pub cached_quota : QuotaKnown → MethodPlan Quota
cached_quota (Some quota) = gives quota
cached_quota None = do
  answer ← answer_of GetQuota
  gives (result_ok answer)

-- How many bytes are used: for the root what the store says, for all else its length.
abbrev pub used_bytes : PathText → DavMetaData → ℕ → ℕ
used_bytes p m used = if is_root p then used else m.len

-- A number of bytes as text; for the WebDAV file system of macOS with 14 digits at least, since it reads so many.
abbrev pub used_text : List ℕ → ℕ → List ℕ
used_text agent used = if holds agent (codes "WebDAVFS") then padded 14 (decimal used) else decimal used

-- The property `quota-used-bytes`, where the store says it (RFC 4331, section 4).
abbrev pub used_told : Writer → ElementTree → PathText → DavMetaData → Quota → Option ElementTree
used_told w e p m None = None
used_told w e p m (Some (used, total)) = Some (live (codes "D") w e (used_text w.agent (used_bytes p m used)))

-- The property `quota-available-bytes`, where the store says how many bytes there are in all; at least 0 (RFC 4331, section 3).
abbrev pub available_told : Writer → ElementTree → PathText → DavMetaData → Quota → Option ElementTree
available_told w e p m None = None
available_told w e p m (Some (used, None)) = None
available_told w e p m (Some (used, Some total)) = Some (live (codes "D") w e (decimal (total - used_bytes p m used)))

-- Asks whether the store keeps properties of what is at a path; a refusal means that it doesn't.
abbrev pub has_properties : PathText → MethodPlan Bool
has_properties p = do
  answer ← answer_of (HaveProps (names p))
  gives (unwrap_or (result_ok answer) false)

-- The key of a property: its namespace, empty where it has none, and its name.
abbrev pub key_of : ElementTree → PropertyKey
key_of e = (unwrap_or (namespace_of e) [], name_of e)

-- Asks for a property that the store keeps, if it keeps any; a refusal means that there is none.
abbrev pub kept_if : PathText → ElementTree → Bool → MethodPlan (Option ElementTree)
kept_if p e false = gives None
kept_if p e true = do
  answer ← answer_of (GetProp (names p) (key_of e))
  gives (result_ok answer)

-- Asks the store for one property, only where the request names the properties that it wants.
abbrev pub kept_property : Telling → PathText → ElementTree → MethodPlan (Option ElementTree)
kept_property Requested p e = do
  has ← has_properties p
  kept_if p e has
kept_property telling p e = gives None

-- What a part gives, together with what is known of the quota from then on.
abbrev pub WithQuota : Type 0 → Type 0
WithQuota A = A × QuotaKnown

-- a property by where it is found; none where it isn't
abbrev pub found_in : Writer → ElementTree → PathText → DavMetaData → QuotaKnown → Source → MethodPlan (WithQuota (Option ElementTree))
found_in w e p m known (Here told) = gives (Some told, known)
found_in w e p m known Nowhere = gives (None, known)
found_in w e p m known AvailableQuota = do
  quota ← cached_quota known
  gives (available_told w e p m quota, Some quota)
found_in w e p m known UsedQuota = do
  quota ← cached_quota known
  gives (used_told w e p m quota, Some quota)
found_in w e p m known InStore = do
  kept ← kept_property w.telling p e
  gives (kept, known)

-- One property of what is at a path; none where it isn't found.
abbrev pub found_property : Writer → PathText → DavMetaData → QuotaKnown → ElementTree → MethodPlan (WithQuota (Option ElementTree))
found_property w p m known e = do
  locks ← look
  found_in w e p m known (source w e p m locks)

-- The properties that were found: this one, if it was, and those after it.
abbrev pub with_found : Option ElementTree → List ElementTree → List ElementTree
with_found None more = more
with_found (Some e) more = e ∷ more

-- the properties of a list, in order; what isn't found is left out
abbrev pub found_properties : Writer → PathText → DavMetaData → QuotaKnown → List ElementTree → MethodPlan (WithQuota (List ElementTree))
found_properties w p m known [] = gives ([], known)
found_properties w p m known (e ∷ es) = do
  one ← found_property w p m known e
  more ← found_properties w p m one.1 es
  gives (with_found one.0 more.0, more.1)

-- the elements of properties that the store keeps; those without one are left out
abbrev pub kept_elements : Option (List Property) → List ElementTree
kept_elements None = []
kept_elements (Some ps) = filter_map (λ p. p.xml) ps

-- The elements of all properties that the store keeps of what is at a path, if it keeps any.
abbrev pub stored_properties : PathText → Bool → MethodPlan (List ElementTree)
stored_properties p false = gives []
stored_properties p true = do
  answer ← answer_of (GetProps (names p) true)
  gives (kept_elements (result_ok answer))

-- Asks for all properties that the store keeps of what is at a path, whichever the request wants (RFC 4918, section 9.1).
abbrev pub all_kept : PathText → MethodPlan (List ElementTree)
all_kept p = do
  has ← has_properties p
  stored_properties p has

-- ---- responses

-- properties under one status (RFC 4918, section 14.22)
abbrev pub Group : Type 0
Group = ℕ × List ElementTree

-- The element with properties under one status (RFC 4918, section 14.22).
abbrev pub propstat : Group → ElementTree
propstat group = dav_element (codes "propstat") (dav_element (codes "prop") group.1 ∷ status_element group.0 ∷ [])

-- The response with the properties of one resource, under their statuses, in this order (RFC 4918, section 14.24).
abbrev pub property_response : PathText → List Group → ElementTree
property_response p groups = dav_element (codes "response") (href p ∷ map propstat groups)

-- The properties that were found, under 200; where none was, there is no status.
abbrev pub found_groups : List ElementTree → List Group
found_groups [] = []
found_groups (e ∷ es) = (200, e ∷ es) ∷ []

-- The response with the properties of one resource, and what is known of the quota from then on (RFC 4918, section 9.1).
abbrev pub properties_of : Writer → PathText → DavMetaData → QuotaKnown → MethodPlan (WithQuota ElementTree)
properties_of w p m known = do
  found ← found_properties w p m known w.properties
  kept ← all_kept p
  gives (property_response p (found_groups (found.0 ++ kept)), found.1)

-- The attribute that declares a namespace under its prefix (Namespaces in XML 1.0, section 3).
abbrev pub declaration : Space → List ℕ × List ℕ
declaration s = (codes "xmlns:" ++ s.0, s.1)

-- The attributes that declare the namespaces of the reported properties; none where the outcomes of a PROPPATCH are reported.
abbrev pub declared_for : Telling → List ElementTree → List (List ℕ × List ℕ)
declared_for Outcomes es = []
declared_for telling es = map declaration (filter (λ s. list_any (is_in s.1) es) other_spaces)

-- The multistatus with all responses, and the namespaces of their properties declared (RFC 4918, section 14.16).
abbrev pub told_by : Writer → List ElementTree → ElementTree
told_by w responses = with_attributes (multistatus responses) (attributes_of (multistatus responses) ++ declared_for w.telling w.properties)
