-- Entity tags over whole runs (RFC 9110, sections 8.8.1 and 13), and what safe methods leave.
use Rattle.std.specs.Prelude.{◌≡◌, ℕ, ◌≤◌, ◌++◌, Bool, true, false, List, [], ◌∷◌, All, Contains, codes, Some, Ok}
use Rattle.std.specs.List.{zip}
use Rattle.http_header.specs.HeaderMap.{get_all}
use Rattle.dav_core.specs.declared.method.DavMethod.{DavMethod}
use Rattle.dav_core.specs.declared.method.DavMethod.TheVariants.{Get, Head, Options, PropFind}
use Rattle.dav_core.specs.Asking.{StoreState}
use Rattle.dav_core.specs.Path.{PathText, names}
use Rattle.dav_core.specs.World.{Node, File, node_at, last_moment, IsWorld}
use Rattle.dav_headers.specs.ETag.{EntityTag, tag_text}
use Rattle.dav_headers.specs.ETagList.{tags, IsTagList}
use Rattle.dav_engine.specs.declared.reply.ReplyBody.TheVariants as body
use Rattle.dav_engine.specs.Plan.{Locks}
use Rattle.dav_engine.specs.Reply.{Reply}
use Rattle.dav_server.specs.Head.{Request, IsHead}
use Rattle.dav_server.specs.Headers.{headers_of}
use Rattle.dav_server.specs.Machine.{Exchange, Settings, Steps, StepCut}
use Rattle.dav_server.specs.Method.{GivesServed}
use Rattle.dav_server.specs.Run.{Turn, begun, Runs, RanInPart}
use Rattle.dav_server.specs.Target.{TargetNames}

-- the request has a head, with this served method
abbrev pub HasMethod : DavMethod → Exchange → Type 0
HasMethod m x = (r : Request) × IsHead x.head r × GivesServed r.method (Ok m)

-- the reply is a 200 with this entity tag in its ETag and these bytes as its body (RFC 9110, section 8.8.3)
pub record Shows (tag bytes : List ℕ) (reply : Reply) : Type 0 where
  pub status : reply.status ≡ 200
  pub tag_is : Contains reply.headers (codes "etag", tag)
  pub bytes_are : reply.body ≡ body.Bytes bytes

-- a GET among these requests was answered 200 with these bytes and this entity tag
abbrev pub ShownIn : List Turn → List Reply → List ℕ → List ℕ → Type 0
ShownIn ts replies tag bytes =
    (t : Turn) × (reply : Reply) × Contains (zip ts replies) (t, reply) × HasMethod Get t.asked × Shows tag bytes reply

-- the replies to GETs with equal entity tags have equal bytes, at whatever paths and moments (RFC 9110, section 8.8.1)
abbrev pub EqualTagsShowEqualBytes : List Turn → List Reply → Type 0
EqualTagsShowEqualBytes ts replies =
    (tag bytes others : List ℕ) → ShownIn ts replies tag bytes → ShownIn ts replies tag others → bytes ≡ others

-- the requests are made at moments that HTTP can write
abbrev pub MomentsAreDates : List Turn → Type 0
MomentsAreDates ts = All (λ t. t.asked.moment ≤ last_moment) ts

-- In a run that begins with a world, under any refusals, GETs that are answered with equal entity tags are answered with equal bytes (RFC
-- 9110, section 8.8.1).
abbrev pub TagsTellBytes : Type 0
TagsTellBytes =
    (s : Settings) (ts : List Turn) (old new : StoreState) (ls ms : Locks) (replies : List Reply)
    → IsWorld old.world → MomentsAreDates ts → Runs s ts old ls replies new ms → EqualTagsShowEqualBytes ts replies

-- the target of a request names this path, and its If-None-Match lists this one tag (RFC 9110, section 13.1.2)
abbrev pub LacksTag : Settings → Exchange → PathText → EntityTag → Type 0
LacksTag s x p tag =
    (r : Request) × (m : DavMethod)
    × IsHead x.head r × GivesServed r.method (Ok m) × TargetNames s.prefix m r.target (Ok p)
    × IsTagList (get_all (headers_of r.fields) (codes "if-none-match")) (tags (tag ∷ []))

-- In a run that begins with a world, a request that is answered 304 to an If-None-Match of one tag finds at its path a file with the
-- bytes that any GET of the run, before it or after it, was answered with under that tag (RFC 9110, sections 13.1.2 and 15.4.5).
abbrev pub NotModifiedIsTrue : Type 0
NotModifiedIsTrue =
    (s : Settings) (front back : List Turn) (t : Turn) (old mid end new : StoreState) (ls ks js ms : Locks)
    (replies more : List Reply) (reply : Reply) (p : PathText) (tag : EntityTag) (bytes : List ℕ)
    → IsWorld old.world → MomentsAreDates (front ++ t ∷ back)
    → Runs s front old ls replies mid ks → Steps s t.asked (begun t.refusals mid) ks reply end js → Runs s back end js more new ms
    → reply.status ≡ 304 → LacksTag s t.asked p tag
    → ShownIn (front ++ t ∷ back) (replies ++ reply ∷ more) (tag_text tag.weak tag.tag) bytes
    → (n : Node) × (node_at mid.world (names p) ≡ Some n) × (n.kind ≡ File bytes)

-- whether a method is one of the safe ones, GET, HEAD, OPTIONS and PROPFIND (RFC 9110, section 9.2.1; RFC 4918, section 9.1)
abbrev pub is_safe : DavMethod → Bool
is_safe Get = true
is_safe Head = true
is_safe Options = true
is_safe PropFind = true
is_safe _ = false

-- GET, HEAD, OPTIONS and PROPFIND leave the world and the list of locks as they were (RFC 9110, section 9.2.1; RFC 4918, section 9.1).
abbrev pub ReadingLeaves : Type 0
ReadingLeaves =
    (s : Settings) (x : Exchange) (old new : StoreState) (ls ms : Locks) (reply : Reply) (m : DavMethod)
    → HasMethod m x → is_safe m ≡ true → Steps s x old ls reply new ms → (new.world ≡ old.world) × (ms ≡ ls)

-- GET, HEAD, OPTIONS and PROPFIND leave the world and the list of locks as they were also in a step in which memory runs out (RFC 9110,
-- section 9.2.1).
abbrev pub ReadingLeavesCut : Type 0
ReadingLeavesCut =
    (s : Settings) (x : Exchange) (old new : StoreState) (ls ms : Locks) (m : DavMethod)
    → HasMethod m x → is_safe m ≡ true → StepCut s x old ls new ms → (new.world ≡ old.world) × (ms ≡ ls)

-- A run that begins with a world ends with one.
abbrev pub RunsKeepWorlds : Type 0
RunsKeepWorlds =
    (s : Settings) (ts : List Turn) (old new : StoreState) (ls ms : Locks) (replies : List Reply)
    → IsWorld old.world → MomentsAreDates ts → Runs s ts old ls replies new ms → IsWorld new.world

-- A run that begins with a world leaves one also where memory runs out in it.
abbrev pub RunsKeepWorldsCut : Type 0
RunsKeepWorldsCut =
    (s : Settings) (ts : List Turn) (old new : StoreState) (ls ms : Locks) (replies : List Reply)
    → IsWorld old.world → MomentsAreDates ts → RanInPart s ts old ls replies new ms → IsWorld new.world
