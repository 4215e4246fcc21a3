-- PROPFIND (RFC 4918, section 9.1).
use Rattle.std.specs.Prelude.{ℕ, suc, zero, ◌++◌, ◌&&◌, ◌≡◌, bytes_eq, Bool, true, false, not, List, [], ◌∷◌, codes, if◌then◌else◌, Option, Some, None, Result, Ok, Err}
use Rattle.std.specs.List.{find}
use Rattle.std.specs.Option.{is_some, option_or}
use Rattle.http_header.specs.HeaderMap.{get_all}
use Rattle.dav_core.specs.declared.errors.FsError.{FsError}
use Rattle.dav_core.specs.declared.errors.DavError.TheVariants as dav
use Rattle.dav_core.specs.declared.fs.DavMetaData.{DavMetaData}
use Rattle.dav_core.specs.Asking.{Metadata, ReadDir, EntryMetadata}
use Rattle.dav_core.specs.Element.{ElementTree, name_of, is_named, child_elements}
use Rattle.dav_core.specs.Path.{PathText, names}
use Rattle.dav_headers.specs.Depth.{IsDepth}
use Rattle.dav_headers.specs.Value.{only_text}
use Rattle.dav_headers.specs.declared.depth.Depth.{Depth}
use Rattle.dav_headers.specs.declared.depth.Depth.TheVariants.{Zero, Infinity}
use Rattle.dav_engine.specs.declared.reply.ReplyBody.{ReplyBody}
use Rattle.dav_engine.specs.declared.reply.ReplyBody.TheVariants as reply
use Rattle.dav_engine.specs.declared.request.Body.{Body}
use Rattle.dav_engine.specs.declared.request.Body.TheVariants as body
use Rattle.dav_engine.specs.Caller.{Caller}
use Rattle.dav_engine.specs.Folder.{closed, location_found, child_of, room_at}
use Rattle.dav_engine.specs.Headers.{Headers, Decodes}
use Rattle.dav_engine.specs.Lock.{is_absent}
use Rattle.dav_engine.specs.Method.{MethodPlan, ◌>>=◌, answer_of, ask_for, gives, required}
use Rattle.dav_engine.specs.Multistatus.{dav_element, declares_dav, xml_type}
use Rattle.dav_engine.specs.Plan.{Done}
use Rattle.dav_engine.specs.Properties.{Telling, Requested, AllProperties, NamesAlone, Writer, writer, QuotaKnown, WithQuota, properties_of, told_by, dav_space, is_in}
use Rattle.dav_engine.specs.Reply.{Reply, Header}

-- ---- what is asked for

-- What the body of a PROPFIND asks for, and the properties that it names (RFC 4918, section 14.20).
abbrev pub Query : Type 0
Query = Telling × List ElementTree

-- The child elements of an element, if there is one.
abbrev pub children_of_found : Option ElementTree → List ElementTree
children_of_found None = []
children_of_found (Some e) = child_elements e

-- What one element of a `propfind` asks for; a request for all properties names those that are included
-- (RFC 4918, sections 14.2, 14.18 and 14.21).
abbrev pub query_by : List ElementTree → ElementTree → Option Query
query_by included e =
    if bytes_eq (name_of e) (codes "propname") then Some (NamesAlone, [])
    else if bytes_eq (name_of e) (codes "prop") then Some (Requested, child_elements e)
    else if bytes_eq (name_of e) (codes "allprop") then Some (AllProperties, included)
    else None

-- What the first of the elements asks for that asks for something.
abbrev pub query_among : List ElementTree → List ElementTree → Option Query
query_among included [] = None
query_among included (e ∷ es) = option_or (query_by included e) (query_among included es)

-- The elements that a `propfind` includes beside all properties. They are in `includes`, where the standard has `include`
-- (RFC 4918, section 14.8).
abbrev pub included_in : ElementTree → List ElementTree
included_in tree = children_of_found (find (is_named (codes "includes")) (child_elements tree))

-- what a `propfind` asks for; none of another element (RFC 4918, section 14.20)
abbrev pub query_of : ElementTree → Option Query
query_of tree = if bytes_eq (name_of tree) (codes "propfind") && is_in dav_space tree then query_among (included_in tree) (child_elements tree) else None

-- What a body asks for that is an element tree; none for another body.
abbrev pub tree_query : Body → Option Query
tree_query (body.Tree tree) = query_of tree
tree_query content = None

-- What the body of a PROPFIND asks for: without one all properties; none where it isn't a `propfind` that asks for something
-- (RFC 4918, section 9.1).
abbrev pub query_in : Body → Option Query
query_in content = if is_absent content then Some (AllProperties, []) else tree_query content

-- ---- the walk

-- responses, with what is known of the quota from then on
abbrev pub Responses : Type 0
Responses = WithQuota (List ElementTree)

-- The plan that reports what is below a path, where the Bool says that this is wanted.
abbrev pub Below : Type 0
Below = PathText → Bool → QuotaKnown → MethodPlan Responses

-- the response for a member, and those for what is below it
abbrev pub tell_member : Below → Writer → PathText → DavMetaData → QuotaKnown → MethodPlan Responses
tell_member below w p m known = do
  one ← properties_of w p m known
  more ← below p m.dir one.1
  gives (one.0 ∷ more.0, more.1)

-- The responses for a member and what is below it; none where the store refuses the member's metadata.
abbrev pub tell_if_found : Below → Writer → PathText → List ℕ → QuotaKnown → Result DavMetaData FsError → MethodPlan Responses
tell_if_found below w p name known (Err e) = gives ([], known)
tell_if_found below w p name known (Ok m) = tell_member below w (child_of p name m.dir) m known

-- The responses for the members of a folder, in order, each followed by those for what is below it.
abbrev pub tell_members : Below → Writer → PathText → QuotaKnown → List (List ℕ × Bool) → MethodPlan Responses
tell_members below w p known [] = gives ([], known)
tell_members below w p known (entry ∷ entries) = do
  found ← answer_of (EntryMetadata (names p ++ entry.0 ∷ []))
  one ← tell_if_found below w p entry.0 known found
  more ← tell_members below w p one.1 entries
  gives (one.0 ++ more.0, more.1)

-- The responses for the members of a folder; none where the store refuses to list it.
abbrev pub tell_listed : Below → Writer → PathText → QuotaKnown → Result (List (List ℕ × Bool)) FsError → MethodPlan Responses
tell_listed below w p known (Err e) = gives ([], known)
tell_listed below w p known (Ok entries) = tell_members below w p known entries

-- The responses for what is below a path, where that is wanted: for the members of the folder and, where `deep` holds, after
-- each of them those for what is below it, down to as many levels as there is room for (RFC 4918, section 9.1).
abbrev pub tell_below : (deep : Bool) → ℕ → Writer → PathText → Bool → QuotaKnown → MethodPlan Responses
tell_below deep room w p false known = gives ([], known)
tell_below deep zero w p true known = gives ([], known)
tell_below deep (suc room) w p true known = do
  listed ← answer_of (ReadDir (names p))
  tell_listed (λ q dir then_known. tell_below deep room w q (dir && deep) then_known) w p known listed

-- ---- the method

-- What the headers of a PROPFIND say: its depth, and whether it has X-Litmus, as programs that test servers send: only these
-- may ask for infinite depth (RFC 4918, sections 9.1 and 10.2).
pub record FindHeaders : Type 0 where
  pub depth : Option Depth
  pub is_test : Bool

-- What the headers of a PROPFIND say; a Depth that doesn't decode counts as absent (RFC 4918, section 10.2).
pub record AreFindHeaders (headers : Headers) (h : FindHeaders) : Type 0 where
  pub depth : Decodes IsDepth (get_all headers (codes "depth")) h.depth
  pub is_test : h.is_test ≡ is_some (only_text (get_all headers (codes "x-litmus")))

-- The headers of a reply with two more, by which a cache uses it again only after asking the server (RFC 9111, sections 5.2.2.4 and 5.4).
abbrev pub uncached : List Header → List Header
uncached headers = (codes "cache-control", codes "no-cache") ∷ (codes "pragma", codes "no-cache") ∷ headers

-- The reply to a PROPFIND of infinite depth that isn't served: 501 with the condition `propfind-finite-depth`
-- (RFC 4918, section 16); section 9.1.1 has 403 for it.
abbrev pub finite_depth : Reply
finite_depth = record {
  status = 501;
  headers = uncached (xml_type ∷ []);
  body = reply.Tree (declares_dav (dav_element (codes "error") (dav_element (codes "propfind-finite-depth") [] ∷ [])));
}

-- Whether Depth asks for infinite depth; without Depth it doesn't.
abbrev pub is_infinite : Option Depth → Bool
is_infinite (Some Infinity) = true
is_infinite depth = false

-- Whether there is a response for the resource itself: without Depth only for its members.
abbrev pub tells_itself : Option Depth → Bool
tells_itself depth = is_some depth

-- Whether there are responses for the members: at any depth but 0.
abbrev pub tells_members : Option Depth → Bool
tells_members (Some Zero) = false
tells_members depth = true

-- The response for the resource itself, where there is to be one.
abbrev pub tell_itself : Bool → Writer → PathText → DavMetaData → MethodPlan Responses
tell_itself false w p m = gives ([], None)
tell_itself true w p m = do
  one ← properties_of w p m None
  gives (one.0 ∷ [], one.1)

-- 207 with this body, which isn't to be stored by caches (RFC 4918, section 13)
abbrev pub found_reply : List Header → ReplyBody → Reply
found_reply location content = record {
  status = 207;
  headers = uncached (location ++ xml_type ∷ []);
  body = content;
}

-- 207 with all responses (RFC 4918, section 13)
abbrev pub propfind_reply : List Header → Writer → List ElementTree → Reply
propfind_reply location w responses = found_reply location (reply.Tree (told_by w responses))

-- a PROPFIND of what was found: 400 where the body asks for nothing
abbrev pub propfind_found : FindHeaders → Headers → PathText → List Header → Body → Caller → DavMetaData → MethodPlan Reply
propfind_found h headers p location content who m = do
  query ← Done (required (query_in content) dav.XmlParseError)
  let w = writer query.0 headers who.principal query.1
  itself ← tell_itself (tells_itself h.depth) w p m
  below ← tell_below (is_infinite h.depth) (room_at p) w p (m.dir && tells_members h.depth) itself.1
  gives (propfind_reply location w (itself.0 ++ below.0))

-- Whether the depth is finite, or needn't be.
abbrev pub is_served_depth : FindHeaders → Bool
is_served_depth h = not (is_infinite h.depth && not h.is_test)

-- A PROPFIND of a depth that is served; else the reply that the depth be finite.
abbrev pub propfind_if : Bool → FindHeaders → Headers → PathText → Body → Caller → MethodPlan Reply
propfind_if false h headers p content who = gives finite_depth
propfind_if true h headers p content who = do
  found ← ask_for (Metadata (names p))
  propfind_found h headers (closed found.dir p) (location_found (Some found) p) content who found

-- The plan of a PROPFIND, with what its headers say. No condition and no lock is checked (RFC 4918, section 9.1).
abbrev pub propfind : FindHeaders → Headers → PathText → Body → Caller → MethodPlan Reply
propfind h headers p content who = propfind_if (is_served_depth h) h headers p content who

-- The plan of a PROPFIND with these headers and this body, of this path, by this client (RFC 4918, section 9.1).
pub data IsPropfind (headers : Headers) (p : PathText) (content : Body) (who : Caller) : MethodPlan Reply → Type 0 where
  is_propfind : (h : FindHeaders) → AreFindHeaders headers h → IsPropfind headers p content who (propfind h headers p content who)
