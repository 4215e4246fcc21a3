-- No update is lost (RFC 9110, sections 8.8.3 and 13.1.1; RFC 4918, section 10.4).
use Rattle.std.specs.Prelude.{◌≡◌, ◌⊎◌, ℕ, ◌<◌, ◌≤◌, Bool, true, false, List, [], ◌∷◌, Contains, codes, Some, None, Ok}
use Rattle.std.specs.List.{zip}
use Rattle.http_header.specs.HeaderMap.{get_all}
use Rattle.dav_core.specs.declared.method.DavMethod.{DavMethod}
use Rattle.dav_core.specs.declared.method.DavMethod.TheVariants.{Put, Patch, Delete, Copy, Move, PropPatch}
use Rattle.dav_core.specs.Asking.{StoreState}
use Rattle.dav_core.specs.Path.{PathText, names}
use Rattle.dav_core.specs.World.{Node, File, node_at, IsWorld}
use Rattle.dav_headers.specs.ETag.{EntityTag, tag_text}
use Rattle.dav_headers.specs.ETagList.{tags, IsTagList}
use Rattle.dav_headers.specs.If.{Condition, entity_tag, IsIfHeader}
use Rattle.dav_engine.specs.Headers.{Headers}
use Rattle.dav_engine.specs.Plan.{Locks}
use Rattle.dav_engine.specs.Put.{bytes_of_body}
use Rattle.dav_engine.specs.Reply.{Reply}
use Rattle.dav_server.specs.Head.{Request, IsHead}
use Rattle.dav_server.specs.Headers.{headers_of}
use Rattle.dav_server.specs.Machine.{Exchange, Settings, Steps}
use Rattle.dav_server.specs.Method.{GivesServed}
use Rattle.dav_server.specs.Run.{Turn, begun, Runs}
use Rattle.dav_server.specs.TagLaws.{ShownIn, MomentsAreDates}
use Rattle.dav_server.specs.Target.{TargetNames}

-- ---- what replies reported

-- the request is a PUT of these bytes as the whole file: it has no Content-Range (RFC 9110, sections 9.3.4 and 14.5)
abbrev pub PutsWhole : Exchange → List ℕ → Type 0
PutsWhole x bytes =
    (r : Request)
    × IsHead x.head r × GivesServed r.method (Ok Put) × (get_all (headers_of r.fields) (codes "content-range") ≡ [])
    × (bytes_of_body x.body ≡ Some bytes)

-- a PUT of these bytes as the whole file is among these requests, and its reply has this entity tag
abbrev pub StoredIn : List Turn → List Reply → List ℕ → List ℕ → Type 0
StoredIn ts replies tag bytes =
    (t : Turn) × (reply : Reply) × Contains (zip ts replies) (t, reply) × PutsWhole t.asked bytes × Contains reply.headers (codes "etag", tag)

-- one of these replies reports that a file with these bytes has this entity tag: the reply to a GET of it, or to a PUT of the whole file
abbrev pub ToldIn : List Turn → List Reply → List ℕ → List ℕ → Type 0
ToldIn ts replies tag bytes = ShownIn ts replies tag bytes ⊎ StoredIn ts replies tag bytes

-- ---- what it asks for later

-- whether a method changes, removes, copies or moves what its target names: PUT, PATCH, DELETE, COPY, MOVE and PROPPATCH
abbrev pub is_update : DavMethod → Bool
is_update Put = true
is_update Patch = true
is_update Delete = true
is_update Copy = true
is_update Move = true
is_update PropPatch = true
is_update _ = false

-- If-Match lists this tag alone; or If is one list, without a resource tag, with this tag as a condition without `Not` (RFC 9110, section
-- 13.1.1; RFC 4918, section 10.4).
abbrev pub AsksForTag : Headers → EntityTag → Type 0
AsksForTag headers tag =
    IsTagList (get_all headers (codes "if-match")) (tags (tag ∷ []))
    ⊎ ((conditions : List Condition)
    × IsIfHeader (get_all headers (codes "if")) (record { resource = None; conditions = conditions } ∷ [])
    × Contains conditions (record { negated = false; item = entity_tag tag }))

-- the request is an update of what is at this path, on condition that it has this entity tag (RFC 9110, section 13.1.1; RFC 4918, section
-- 10.4)
abbrev pub UpdatesIf : Settings → Exchange → PathText → EntityTag → Type 0
UpdatesIf s x p tag =
    (r : Request) × (m : DavMethod)
    × IsHead x.head r × GivesServed r.method (Ok m) × (is_update m ≡ true) × TargetNames s.prefix m r.target (Ok p)
    × AsksForTag (headers_of r.fields) tag

-- a status of success, 2xx (RFC 9110, section 15.3)
abbrev pub IsSuccess : ℕ → Type 0
IsSuccess status = (200 ≤ status) × (status < 300)

-- ---- the law

-- An update on condition of an entity tag that is answered with success finds at its path a file with the bytes that an earlier reply of
-- the run reported under that tag, in any run from a world and whatever the store refuses. So what others wrote in between is never
-- overwritten (RFC 9110, section 13.1.1; RFC 4918, section 10.4).
abbrev pub NoLostUpdate : Type 0
NoLostUpdate =
    (s : Settings) (ts : List Turn) (t : Turn) (old mid new : StoreState) (ls ks ms : Locks)
    (replies : List Reply) (reply : Reply) (p : PathText) (tag : EntityTag) (bytes : List ℕ)
    → IsWorld old.world → MomentsAreDates ts → Runs s ts old ls replies mid ks → ToldIn ts replies (tag_text tag.weak tag.tag) bytes
    → UpdatesIf s t.asked p tag → Steps s t.asked (begun t.refusals mid) ks reply new ms → IsSuccess reply.status
    → (n : Node) × (node_at mid.world (names p) ≡ Some n) × (n.kind ≡ File bytes)
