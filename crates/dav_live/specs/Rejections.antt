-- Which requests aren't taken, by their heads alone (RFC 9110, section 15.5).
use Rattle.std.specs.Prelude.{◌≡◌, ◌≢◌, ◌⊎◌, ◌≤◌, ◌<◌, ◌+◌, ℕ, Bool, true, false, List, ◌++◌, IfSome, Option, Some, None, Ok, codes, drop, get_or, length, take}
use Rattle.dav_core.specs.declared.method.DavMethod.{DavMethod}
use Rattle.dav_core.specs.declared.method.DavMethod.TheVariants.{Put, Patch, PropFind, PropPatch, Lock as LockMethod}
use Rattle.dav_headers.specs.Cut.{IsCut}
use Rattle.dav_headers.specs.Value.{IsNumber}
use Rattle.dav_server.specs.Head.{Request, is_same_name}
use Rattle.dav_server.specs.Method.{GivesServed}
use Rattle.dav_server.specs.TagLaws.{is_safe}
use Rattle.dav_wire.specs.declared.answer.Rejection.{Rejection}
use Rattle.dav_wire.specs.declared.answer.Rejection.TheVariants.{BadRequest, Forbidden, Misdirected, NotImplemented, UnsupportedMediaType}
use Rattle.dav_live.specs.Hosts.{AsksBadPort, TellsFor, asked_host, value_of}

-- ---- where a request comes from

-- an origin has this authority: what follows its scheme, a colon and two slashes (RFC 6454, section 6.2)
abbrev pub HasAuthority : List ℕ → List ℕ → Type 0
HasAuthority origin authority = (scheme : List ℕ) × IsCut 58 origin scheme (codes "//" ++ authority)

-- an origin has the authority of a Host, if there is one, in letters of either case
abbrev pub IsOfHost : List ℕ → Option (List ℕ) → Type 0
IsOfHost origin None = ⊥
IsOfHost origin (Some host) = (authority : List ℕ) × HasAuthority origin authority × (is_same_name authority host ≡ true)

-- A request comes of this server's own pages, or of no page: it has no Origin, or one with the authority of its Host (RFC 6454, section 7.3).
abbrev pub IsOwnOrigin : Request → Type 0
IsOwnOrigin r = IfSome (value_of (codes "origin") r) (λ origin. IsOfHost origin (value_of (codes "host") r))

-- ---- bodies

-- a head states that its body has at most so many bytes, or states no length (RFC 9110, section 8.6)
abbrev pub StatesAtMost : ℕ → Request → Type 0
StatesAtMost most r = IfSome (value_of (codes "content-length") r) (λ text. (n : ℕ) × IsNumber text n × (n ≤ most))

-- A request may have more bytes in its body than so many: it states them, or its body comes in chunks (RFC 9112, sections 6.2 and 7.1).
abbrev pub MayHaveMore : ℕ → Request → Type 0
MayHaveMore most r = (¬ StatesAtMost most r) ⊎ (value_of (codes "transfer-encoding") r ≢ None)

-- whether a method takes a body; with the others the machine answers 415 (RFC 4918, section 8.4)
abbrev pub takes_body : DavMethod → Bool
takes_body Put = true
takes_body Patch = true
takes_body PropFind = true
takes_body PropPatch = true
takes_body LockMethod = true
takes_body _ = false

-- A request is a GET or HEAD, and states no body (RFC 9110, sections 8.6, 9.3.1 and 9.3.2; RFC 9112, section 6.3).
pub record IsPlainRead (r : Request) : Type 0 where
  pub method : (r.method ≡ codes "GET") ⊎ (r.method ≡ codes "HEAD")
  pub no_length : value_of (codes "content-length") r ≡ None
  pub no_coding : value_of (codes "transfer-encoding") r ≡ None

-- bytes begin with this name, in letters of either case (RFC 9110, section 5.1)
abbrev pub BeginsWithName : List ℕ → List ℕ → Type 0
BeginsWithName bytes name = is_same_name (take (length name) bytes) name ≡ true

-- a line of a head, after the first one, begins with this name (RFC 9112, sections 2.2 and 5)
abbrev pub HasLine : List ℕ → List ℕ → Type 0
HasLine head name = (k : ℕ) × (k < length head) × (get_or head k 0 ≡ 10) × BeginsWithName (drop (k + 1) head) name

-- ---- which aren't taken

-- a method that only reads (RFC 9110, section 9.2.1)
abbrev pub IsSafe : List ℕ → Type 0
IsSafe method = (m : DavMethod) × GivesServed method (Ok m) × (is_safe m ≡ true)

-- a page of another origin makes a request that may change something (RFC 6454)
abbrev pub IsForged : Request → Type 0
IsForged r = (¬ IsSafe r.method) × (¬ IsOwnOrigin r)

-- No body is taken of a request for this host, for this reason: its method isn't served (RFC 9110, section 15.6.2), or takes none (section
-- 15.5.16).
pub data IsBodyRefused (r : Request) : Rejection → Type 0 where
  unserved : ((m : DavMethod) → ¬ GivesServed r.method (Ok m)) → IsBodyRefused r NotImplemented
  bodiless : (m : DavMethod) → GivesServed r.method (Ok m) → takes_body m ≡ false → ¬ StatesAtMost 0 r → IsBodyRefused r UnsupportedMediaType

-- A request with this head isn't taken, for this reason: a page of another origin may only read; and no body is taken of a request for
-- a port that can't be (RFC 9112, section 3.2), or another host (RFC 9110, section 7.4), or by its method.
pub data IsUntaken (hosts : List (List ℕ)) (r : Request) : Rejection → Type 0 where
  forged : IsForged r → IsUntaken hosts r Forbidden
  bad_port : ¬ IsForged r → MayHaveMore 0 r → AsksBadPort (asked_host r) → IsUntaken hosts r BadRequest
  misdirected : ¬ IsForged r → MayHaveMore 0 r → ¬ AsksBadPort (asked_host r) → TellsFor hosts (asked_host r) false
      → IsUntaken hosts r Misdirected
  body : {why : Rejection} → ¬ IsForged r → MayHaveMore 0 r → ¬ AsksBadPort (asked_host r) → TellsFor hosts (asked_host r) true → IsBodyRefused r why
      → IsUntaken hosts r why

-- this says why no body is taken of a request for this host; none where one is
abbrev pub TellsRefusedBody : Request → Option Rejection → Type 0
TellsRefusedBody r (Some why) = IsBodyRefused r why
TellsRefusedBody r None = (why : Rejection) → ¬ IsBodyRefused r why

-- this says why a request with this head isn't taken; none where there is no reason
abbrev pub TellsUntaken : List (List ℕ) → Request → Option Rejection → Type 0
TellsUntaken hosts r (Some why) = IsUntaken hosts r why
TellsUntaken hosts r None = (why : Rejection) → ¬ IsUntaken hosts r why
