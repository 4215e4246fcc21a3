-- What a head asks for, as the machine reads it, and whether that has leave.
use Rattle.std.specs.Prelude.{◌≡◌, ◌&&◌, ◌||◌, ℕ, Bool, true, false, bytes_eq, codes, List, Option, Some, None, Result}
use Rattle.std.specs.List.{list_all}
use Rattle.std.specs.Result.{result_ok}
use Rattle.http_header.specs.HeaderMap.{get_all}
use Rattle.dav_core.specs.declared.errors.DavError.{DavError}
use Rattle.dav_core.specs.declared.method.DavMethod.{DavMethod}
use Rattle.dav_core.specs.declared.method.DavMethod.TheVariants.{Copy, Move}
use Rattle.dav_core.specs.Path.{Path, PathText, names, star}
use Rattle.dav_engine.specs.Conditions.{AreConditions, Conditions, paths_in}
use Rattle.dav_engine.specs.CopyMove.{DestinationNames}
use Rattle.dav_engine.specs.Headers.{Headers}
use Rattle.dav_server.specs.Head.{Request}
use Rattle.dav_server.specs.Headers.{headers_of}
use Rattle.dav_server.specs.Holder.{IsRequestTo}
use Rattle.dav_server.specs.Machine.{Exchange, Settings}
use Rattle.dav_access.specs.Rules.{Rules, has_right, may_read, may_write}
use Rattle.dav_confined.specs.Leave.{needed}

-- the method, the path that the target names, the one that Destination names, if it names one, and the
-- paths that the lists of If speak of
pub record AskedView : Type 0 where
  pub method : DavMethod
  pub path : PathText
  pub destination : Option PathText
  pub spoken_of : List Path

-- The headers of a request to a path name these paths besides it: the one in Destination, and those that the
-- lists of If speak of (RFC 4918, sections 10.3 and 10.4.2).
pub record NamesPaths (headers : Headers) (a : AskedView) : Type 0 where
  pub place : Result PathText DavError
  pub named : DestinationNames a.path.prefix (get_all headers (codes "destination")) place
  pub destination : a.destination ≡ result_ok place
  pub conditions : Conditions
  pub read : AreConditions headers a.path.prefix (names a.path) conditions
  pub spoken_of : a.spoken_of ≡ paths_in conditions.lists

-- the machine reads this in the bytes of the request
pub record IsAsked (s : Settings) (x : Exchange) (a : AskedView) : Type 0 where
  pub request : Request
  pub to : IsRequestTo s x request a.method a.path
  pub says : NamesPaths (headers_of request.fields) a

-- the machine reads no request in the bytes: they are no head, its method isn't served, or its target names no path
abbrev pub IsUnread : Settings → Exchange → Type 0
IsUnread s x = (r : Request) (m : DavMethod) (p : PathText) → ¬ IsRequestTo s x r m p

-- whether a principal has the right that the method needs at its target; `*` needs none
abbrev pub has_target : Rules → Option (List ℕ) → AskedView → Bool
has_target rules who a = bytes_eq a.path.bytes star || has_right rules who (needed a.method) (names a.path)

-- whether a principal may write at the path, if there is one
abbrev pub may_write_at : Rules → Option (List ℕ) → Option PathText → Bool
may_write_at rules who None = true
may_write_at rules who (Some d) = may_write rules who (names d)

-- whether a principal has the right that COPY and MOVE need at the path that Destination names
abbrev pub has_destination : Rules → Option (List ℕ) → DavMethod → Option PathText → Bool
has_destination rules who Copy destination = may_write_at rules who destination
has_destination rules who Move destination = may_write_at rules who destination
has_destination rules who method destination = true

-- whether a principal has leave for what is asked: at the target, at Destination, and for If
abbrev pub has_leave : Rules → Option (List ℕ) → AskedView → Bool
has_leave rules who a =
    has_target rules who a && (has_destination rules who a.method a.destination && list_all (may_read rules who) a.spoken_of)
