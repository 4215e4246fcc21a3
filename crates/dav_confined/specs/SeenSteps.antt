-- What a request reads: what is at its target or below it, and what the conditions of its If speak of. So its answer tells of nothing else.
use Rattle.std.specs.Prelude.{◌≡◌, ℕ, ◌≤◌, Bool, true, List, All, IfSome, codes, Some, None, false}
use Rattle.http_header.specs.HeaderMap.{get_all}
use Rattle.dav_core.specs.declared.method.DavMethod.{DavMethod}
use Rattle.dav_core.specs.Asking.{StoreState}
use Rattle.dav_core.specs.CallLaws.{IsStorable}
use Rattle.dav_core.specs.Locks.{Lock}
use Rattle.dav_core.specs.Path.{Path, PathText, names}
use Rattle.dav_core.specs.World.{last_moment, IsWorld}
use Rattle.dav_engine.specs.Conditions.{Addressed, SaysLists}
use Rattle.dav_engine.specs.Headers.{Headers}
use Rattle.dav_engine.specs.Method.{MethodPlan}
use Rattle.dav_engine.specs.Plan.{Locks}
use Rattle.dav_engine.specs.Reply.{Reply}
use Rattle.dav_confined.specs.Seen.{AgreeAt, AllUnder, CoverAlike, ReadsSeen}
use Rattle.dav_server.specs.Get.{IsGet}
use Rattle.dav_server.specs.Head.{Request}
use Rattle.dav_server.specs.Headers.{headers_of}
use Rattle.dav_server.specs.Holder.{IsRequestTo}
use Rattle.dav_server.specs.Machine.{Exchange, Settings, Steps}
use Rattle.dav_server.specs.TagLaws.{is_safe}

-- The plan of a GET or HEAD reads at its target, and at the paths that the lists of its If speak of, alone (RFC 9110, section 9.3.1).
abbrev pub GetReadsSeen : Type 0
GetReadsSeen =
    (seen : Path → Bool) (m : DavMethod) (headers : Headers) (p : PathText) (now : ℕ) (plan : MethodPlan Reply)
    → IsStorable (names p) → now ≤ last_moment → seen (names p) ≡ true
    → ((lists : List Addressed) → SaysLists p.prefix (names p) (get_all headers (codes "if")) lists → All (λ l. IfSome l.path (λ q. seen q ≡ true)) lists)
    → IsGet m headers p now plan → ReadsSeen seen None plan

-- Whatever these bytes are as a request, it only reads, at these paths: its target and all below it is among them, and so is each path that
-- the lists of its If speak of.
pub record ReadsAt (seen : Path → Bool) (s : Settings) (x : Exchange) : Type 0 where
  pub safe : (r : Request) (m : DavMethod) (p : PathText) → IsRequestTo s x r m p → is_safe m ≡ true
  pub target : (r : Request) (m : DavMethod) (p : PathText) → IsRequestTo s x r m p → AllUnder seen (names p)
  pub conditions : (r : Request) (m : DavMethod) (p : PathText) (lists : List Addressed) → IsRequestTo s x r m p
      → SaysLists p.prefix (names p) (get_all (headers_of r.fields) (codes "if")) lists → All (λ l. IfSome l.path (λ q. seen q ≡ true)) lists

-- A GET, HEAD, OPTIONS or PROPFIND is answered alike, byte for byte, by two servers that agree at the paths where it reads: in what is
-- there, with numbers and times, and in the locks that cover it; whatever else they hold, under the same refusals, and where neither
-- runs out of memory.
abbrev pub StepsAnswerAlike : Type 0
StepsAnswerAlike =
    (seen : Path → Bool) (s : Settings) (x : Exchange) (old new old' new' : StoreState) (ls ks : List Lock) (ms ns : Locks) (reply reply' : Reply)
    → ReadsAt seen s x → x.moment ≤ last_moment
    → Steps s x old (Some ls) reply new ms → Steps s x old' (Some ks) reply' new' ns
    → new.short ≡ false → new'.short ≡ false → old.refusals ≡ old'.refusals → IsWorld old.world → IsWorld old'.world
    → AgreeAt seen old.world old'.world → CoverAlike seen ls ks → reply ≡ reply'
