-- Which requests may look at what is on the way to what may be read: who may read only below a folder may see that it is there.
use Rattle.std.specs.Prelude.{◌≡◌, ◌&&◌, ℕ, Bool, true, List, Option, codes}
use Rattle.std.specs.List.{list_all}
use Rattle.http_header.specs.HeaderMap.{get_all}
use Rattle.dav_core.specs.declared.method.DavMethod.{DavMethod}
use Rattle.dav_core.specs.Path.{PathText, names}
use Rattle.dav_engine.specs.Conditions.{Addressed, SaysLists}
use Rattle.dav_server.specs.Head.{Request}
use Rattle.dav_server.specs.Headers.{headers_of}
use Rattle.dav_server.specs.Holder.{IsRequestTo}
use Rattle.dav_server.specs.Machine.{Exchange, Settings}
use Rattle.dav_server.specs.TagLaws.{is_safe}
use Rattle.dav_access.specs.Rules.{Rules, may_read, may_see}
use Rattle.dav_confined.specs.Asked.{AskedView}
use Rattle.dav_confined.specs.Granted.{OnlyReadsThere}
use Rattle.dav_confined.specs.Leave.{HasLeave, SpeaksOfReadable}

-- A request may look by these rules: it only reads, its principal may see that something is at its target, and may read at each path that
-- its If speaks of (RFC 9110, section 9.2.1; RFC 4918, section 10.4.2).
pub record MayLook (rules : Rules) (s : Settings) (x : Exchange) : Type 0 where
  pub request : Request
  pub method : DavMethod
  pub path : PathText
  pub to : IsRequestTo s x request method path
  pub safe : is_safe method ≡ true
  pub seen : may_see rules x.principal (names path) ≡ true
  pub conditions : (lists : List Addressed) → SaysLists path.prefix (names path) (get_all (headers_of request.fields) (codes "if")) lists
      → SpeaksOfReadable rules x.principal lists

-- whether a principal may look by what is asked
abbrev pub may_look : Rules → Option (List ℕ) → AskedView → Bool
may_look rules who a = is_safe a.method && (may_see rules who (names a.path) && list_all (may_read rules who) a.spoken_of)

-- each request with this head, of this principal, may look below this prefix
abbrev pub Looks : Rules → List ℕ → Option (List ℕ) → List ℕ → Type 0
Looks rules prefix who head =
    (s : Settings) (x : Exchange) → s.prefix ≡ prefix → x.head ≡ head → x.principal ≡ who → MayLook rules s x

-- each request with this head, of this principal, has leave below this prefix, and only reads, at what its principal may read
abbrev pub OnlyReads : Rules → List ℕ → Option (List ℕ) → List ℕ → Type 0
OnlyReads rules prefix who head =
    (s : Settings) (x : Exchange) → s.prefix ≡ prefix → x.head ≡ head → x.principal ≡ who → HasLeave rules s x × OnlyReadsThere rules s x

-- whether what is asked only reads, at what a principal may read
abbrev pub only_reads : Rules → Option (List ℕ) → AskedView → Bool
only_reads rules who a = is_safe a.method && (may_read rules who (names a.path) && list_all (may_read rules who) a.spoken_of)
