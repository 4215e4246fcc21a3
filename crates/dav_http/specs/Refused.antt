-- Requests that aren't run: what they say of their conditions, or of their place in a file, isn't understood, what is there was changed since,
-- or they ask for too much, or could leave too much (RFC 9110, sections 13.1, 13.2.1 and 14.5; RFC 4918, sections 9.1 and 10.4).
use Rattle.std.specs.Prelude.{◌≡◌, ◌≢◌, ◌⊎◌, ℕ, ◌<◌, ◌≤◌, false, if◌then◌else◌, List, [], codes, Option, Some, None, Ok}
use Rattle.http_header.specs.HeaderMap.{get_all}
use Rattle.http_header.specs.FieldValue.{FieldValue}
use Rattle.dav_engine.specs.Headers.{Headers}
use Rattle.dav_core.specs.Element.{ElementTree}
use Rattle.dav_core.specs.Path.{PathText, names}
use Rattle.dav_core.specs.World.{Node, node_at}
use Rattle.dav_core.specs.declared.method.DavMethod.{DavMethod}
use Rattle.dav_headers.specs.ETagList.{IsTagList}
use Rattle.dav_headers.specs.If.{IsIfHeader}
use Rattle.dav_server.specs.Head.{Request}
use Rattle.dav_server.specs.Headers.{headers_of}
use Rattle.dav_server.specs.Method.{GivesServed}
use Rattle.dav_server.specs.Server.{Server}
use Rattle.dav_server.specs.TagLaws.{is_safe}
use Rattle.dav_server.specs.Target.{TargetNames}
use Rattle.dav_presented.specs.Fields.{date_of, is_absent}
use Rattle.dav_presented.specs.Missing.{AsksForMany}
use Rattle.dav_xml.specs.Namespaces.{document}
use Rattle.dav_http.specs.Crowded.{IsCrowded}
use Rattle.dav_http.specs.Placed.{IsPlaced}

-- a method that is served and may change something (RFC 9110, section 9.2.1)
abbrev pub MayChange : List ℕ → Type 0
MayChange method = (m : DavMethod) × GivesServed method (Ok m) × (is_safe m ≡ false)

-- ---- what isn't understood

-- a field is there, and its values mean nothing
abbrev pub IsUnread : {A : Type 0} → (List FieldValue → A → Type 0) → List FieldValue → Type 0
IsUnread {A} Means values = (values ≢ []) × ((a : A) → ¬ Means values a)

-- An If, an If-Match or an If-None-Match is there, and means nothing (RFC 4918, section 10.4; RFC 9110, sections 13.1.1 and 13.1.2); or a
-- Content-Range that names no bytes: what comes isn't the whole of a file (RFC 9110, section 14.5).
abbrev pub HasUnread : Headers → Type 0
HasUnread headers =
    (IsUnread IsIfHeader (get_all headers (codes "if"))
    ⊎ (IsUnread IsTagList (get_all headers (codes "if-match")) ⊎ IsUnread IsTagList (get_all headers (codes "if-none-match"))))
    ⊎ IsUnread IsPlaced (get_all headers (codes "content-range"))

-- ---- changes that the client hasn't seen

-- the moment in If-Unmodified-Since that counts: that of a date, and without If-Match (RFC 9110, section 13.1.4)
abbrev pub since_in : Headers → Option ℕ
since_in headers = if is_absent (get_all headers (codes "if-match")) then date_of (get_all headers (codes "if-unmodified-since")) else None

-- what is at the target of a request was changed last at this moment
abbrev pub IsChangedAt : Server → Request → ℕ → Type 0
IsChangedAt s q moment =
    (m : DavMethod) × (p : PathText) × (n : Node)
    × GivesServed q.method (Ok m) × TargetNames s.settings.prefix m q.target (Ok p)
    × (node_at s.state.store.world (names p) ≡ Some n) × (n.modified ≡ moment)

-- what is at the target was changed after the moment in If-Unmodified-Since (RFC 9110, section 13.1.4)
abbrev pub IsStale : Server → Request → Type 0
IsStale s q = (since : ℕ) × (moment : ℕ) × (since_in (headers_of q.fields) ≡ Some since) × IsChangedAt s q moment × (since < moment)

-- The conditions of a request aren't met, or it isn't understood, so it is answered with this status.
pub data IsUnmet (s : Server) (q : Request) : ℕ → Type 0 where
  unread : HasUnread (headers_of q.fields) → IsUnmet s q 400
  stale : ¬ HasUnread (headers_of q.fields) → IsStale s q → IsUnmet s q 412

-- ---- too much

-- a PROPFIND asks for so many properties by their names that it isn't answered (RFC 4918, section 9.1)
abbrev pub AsksForTooMany : Request → List ℕ → Type 0
AsksForTooMany q body = (q.method ≡ codes "PROPFIND") × (tree : ElementTree) × (document body ≡ Ok tree) × AsksForMany tree

-- ---- which are refused

-- A request with this method may be one that isn't run: a PROPFIND, or one that may change something.
abbrev pub MayBeRefused : List ℕ → Type 0
MayBeRefused method = (method ≡ codes "PROPFIND") ⊎ MayChange method

-- A request with this body isn't run by a server, and is answered with this status.
pub data Refuses (s : Server) (q : Request) (body : List ℕ) : ℕ → Type 0 where
  many : AsksForTooMany q body → Refuses s q body 400
  unmet : {status : ℕ} → MayChange q.method → IsUnmet s q status → Refuses s q body status
  crowded : MayChange q.method → ((status : ℕ) → ¬ IsUnmet s q status) → IsCrowded s q body → Refuses s q body 507

-- this is the one for which it holds; none where it holds for none
abbrev pub Tells : (ℕ → Type 0) → Option ℕ → Type 0
Tells Holds (Some n) = Holds n
Tells Holds None = (n : ℕ) → ¬ Holds n

-- An update that is run loses no change of a later second: where it names a moment, and no tag, what is at its target was changed at that
-- moment or before (RFC 9110, section 13.1.4). Of two changes of one second it says nothing.
abbrev pub NoLaterSecondIsLost : Type 0
NoLaterSecondIsLost =
    (s : Server) (q : Request) (body : List ℕ) (since moment : ℕ)
    → ((status : ℕ) → ¬ Refuses s q body status) → MayChange q.method
    → since_in (headers_of q.fields) ≡ Some since → IsChangedAt s q moment → moment ≤ since
