-- Which requests a live server runs, and what it runs of them.
use Rattle.std.specs.Prelude.{◌≡◌, ◌≢◌, ◌<◌, ◌⊎◌, ◌↔◌, ◌==◌, ◌&&◌, ℕ, Bool, true, false, List, [], ◌∷◌, ◌++◌, Option, Some, None, Err, IfSome, IsTrue, if◌then◌else◌, codes, count_by, drop, length, min, option_map, string_bytes, take, unwrap_or, max}
use Rattle.std.specs.Option.{is_none, is_some}
use Rattle.dav_access.specs.declared.limit.Limit.{Limit}
use Rattle.dav_access.specs.Rules.{Rules}
use Rattle.dav_confined.specs.Leave.{Permits}
use Rattle.dav_confined.specs.Sight.{Looks}
use Rattle.dav_core.specs.Path.{PathText}
use Rattle.dav_core.specs.World.{last_moment}
use Rattle.dav_core.specs.declared.errors.DavError.TheVariants.{IllegalPath}
use Rattle.dav_core.specs.declared.method.DavMethod.TheVariants.{Get}
use Rattle.dav_access.specs.Principals.{IsPrincipal, ShowsNoUser}
use Rattle.dav_http.specs.Kept.{IsKeptOf, Says}
use Rattle.dav_http.specs.Placed.{BeginsPast}
use Rattle.dav_kept.specs.Records.{RequestView}
use Rattle.dav_server.specs.Head.{Request}
use Rattle.dav_server.specs.Target.{TargetNames}
use Rattle.dav_shards.specs.Shards.{IsElsewhere}
use Rattle.dav_shards.specs.declared.parts.Part.{Part}
use Rattle.dav_shards.specs.declared.parts.Part.TheVariants.{Target, Destination, Condition}
use Rattle.dav_live.specs.Clock.{moment_after}
use Rattle.dav_live.specs.Hosts.{AsksBadPort, TellsFor, asked_host, value_of}
use Rattle.dav_live.specs.Numbered.{HasNumber}
use Rattle.dav_live.specs.Rejections.{IsSafe}
use Rattle.dav_live.specs.Tokens.{token_text}
use Rattle.dav_http.specs.Steps.{TakesTree}
use Rattle.dav_live.specs.Swollen.{IsSwollen}
use Rattle.dav_live.specs.declared.admission.Admitted.{Admitted}
use Rattle.dav_live.specs.declared.admission.Decision.{Decision}
use Rattle.dav_live.specs.declared.admission.Decision.TheVariants.{Look, Refused, Run}
use Rattle.dav_live.specs.declared.admission.Reason.{Reason}
use Rattle.dav_live.specs.declared.admission.Reason.TheVariants.{BadPort, Misdirected, Unauthorized, Forbidden, Elsewhere, TooLong, Outside, ReadOnly, TooFar, Swollen}

-- What a server goes by: the prefix of its paths, the names of its host, the most seconds for which a lock is granted, whether a PROPFIND
-- without a Depth is left to the machine, whether requests may only read, its users, if it has a list of them, the rules of access, if it
-- has any, the limits of its settings, all limits, the folders that it has, or none where it has all, the moment, in seconds since 1970,
-- the seconds that the front's steady clock told last, if it did, the random bytes of its tokens, and the most bytes of a body.
pub record AdmissionView : Type 0 where
  pub prefix : List ℕ
  pub hosts : List (List ℕ)
  pub lock_time : ℕ
  pub strict : Bool
  pub read_only : Bool
  pub users : Option (List (List ℕ × List ℕ))
  pub rules : Option Rules
  pub own : List Limit
  pub limits : List Limit
  pub only : List PathText
  pub moment : ℕ
  pub seconds : Option ℕ
  pub random : List ℕ
  pub most_body : ℕ

-- how many slashes a text has
abbrev pub slashes_in : List ℕ → ℕ
slashes_in text = count_by (λ b. b == 47) text

-- the target or the Destination of a request has more than 1,024 slashes
abbrev pub HasManySlashes : Request → Type 0
HasManySlashes r =
    (1024 < slashes_in r.target) ⊎ (1024 < slashes_in (unwrap_or (value_of (codes "destination") r) []))

-- the target of a request names a path that isn't at or below the prefix
abbrev pub IsOutside : List ℕ → Request → Type 0
IsOutside prefix r = TargetNames prefix Get r.target (Err IllegalPath)

-- the list of which a request has to show a user; none where there are rules and it shows no name
abbrev pub users_for : AdmissionView → Request → Option (List (List ℕ × List ℕ))
users_for a r = if is_some a.rules && is_none (value_of (codes "authorization") r) then None else a.users

-- A request shows that it is of this user, or of nobody: where there are no users, or where there are rules and it shows no name.
abbrev pub IsMadeBy : AdmissionView → Request → Option (List ℕ) → Type 0
IsMadeBy a r user = IsPrincipal (users_for a r) (value_of (codes "authorization") r) user

-- a request is for this server (RFC 9110, section 7.2), with a port that can be, and is of this user, or of nobody
pub record IsLetIn (a : AdmissionView) (r : Request) (user : Option (List ℕ)) : Type 0 where
  pub port : ¬ AsksBadPort (asked_host r)
  pub host : TellsFor a.hosts (asked_host r) true
  pub principal : IsMadeBy a r user

-- these bytes are the head that is kept of a request, and run
abbrev pub IsHeadKept : AdmissionView → Request → List ℕ → Type 0
IsHeadKept a came head = (kept : Request) × IsKeptOf a.lock_time a.strict came kept × Says head kept

-- by the rules, where there are any, each request with this head has leave, of this user
abbrev pub HasLeaveIn : AdmissionView → Option (List ℕ) → List ℕ → Type 0
HasLeaveIn a user head = IfSome a.rules (λ rules. Permits rules a.prefix user head)

-- A request of this user may look at a folder on the way to what may be read: there are rules, and by these each request with this head may.
-- Where there are users, nobody may: a client that shows a name only where it is asked for one would else be told of what nobody may see.
abbrev pub LooksIn : AdmissionView → Option (List ℕ) → List ℕ → Type 0
LooksIn a user head = ((user ≢ None) ⊎ (a.users ≡ None)) × ((rules : Rules) × (a.rules ≡ Some rules) × Looks rules a.prefix user head)

-- a request of which this head is kept has leave, of this user, or may look
abbrev pub MayAskIn : AdmissionView → Option (List ℕ) → List ℕ → Type 0
MayAskIn a user head = HasLeaveIn a user head ⊎ LooksIn a user head

-- this part of a request of which this head is kept names what is elsewhere
abbrev pub IsElsewhereIn : AdmissionView → List ℕ → Part → Type 0
IsElsewhereIn a head part = IsElsewhere a.only a.prefix head part

-- no part of it does
abbrev pub IsHereIn : AdmissionView → List ℕ → Type 0
IsHereIn a head = (part : Part) → ¬ IsElsewhere a.only a.prefix head part

-- why a request of this user isn't run that has no leave
abbrev pub reason_for : Option (List ℕ) → Reason
reason_for None = Unauthorized
reason_for (Some user) = Forbidden

-- a request may do more than read, and none may
abbrev pub IsClosedTo : AdmissionView → Request → Type 0
IsClosedTo a r = (a.read_only ≡ true) × ¬ IsSafe r.method

-- a request has a body that would be read as an element tree far larger than it (RFC 9110, section 15.5.14)
abbrev pub HasSwollenBody : Request → List ℕ → Type 0
HasSwollenBody r body = TakesTree r.method × IsSwollen body

-- A request isn't run, for the first of these reasons that applies: it is for a port that can't be (RFC 9112,
-- section 3.2); it is for another host (RFC 9110, section 7.4); no user is shown, but this
-- name (RFC 9110, section 15.5.2); its body would be read as far more than it is (section 15.5.14); its paths have too many slashes; its target
-- isn't below the prefix; requests may only read; what would be run of it has no leave, and may not look either (RFC 9110, section 15.5.4); this
-- part of it names what is elsewhere (RFC 9110, section 15.5.20; RFC 4918, sections 9.8.5, 9.9.4 and 10.4); it begins to write past what a body
-- may have (RFC 9110, section 15.5.14). With it the user.
pub data IsTurnedAway (a : AdmissionView) (r : Request) (body : List ℕ) : Reason → List ℕ → Type 0 where
  bad_port : AsksBadPort (asked_host r) → IsTurnedAway a r body BadPort []
  misdirected : ¬ AsksBadPort (asked_host r) → TellsFor a.hosts (asked_host r) false → IsTurnedAway a r body Misdirected []
  unknown : (shown : List ℕ) → ¬ AsksBadPort (asked_host r) → TellsFor a.hosts (asked_host r) true
      → ShowsNoUser (users_for a r) (value_of (codes "authorization") r) shown → IsTurnedAway a r body Unauthorized shown
  swollen : (user : Option (List ℕ)) → IsLetIn a r user → HasSwollenBody r body → IsTurnedAway a r body Swollen (unwrap_or user [])
  too_long : (user : Option (List ℕ)) → IsLetIn a r user → ¬ HasSwollenBody r body → HasManySlashes r → IsTurnedAway a r body TooLong (unwrap_or user [])
  outside : (user : Option (List ℕ)) → IsLetIn a r user → ¬ HasSwollenBody r body → ¬ HasManySlashes r → IsOutside a.prefix r
      → IsTurnedAway a r body Outside (unwrap_or user [])
  closed : (user : Option (List ℕ)) → IsLetIn a r user → ¬ HasSwollenBody r body → ¬ HasManySlashes r → ¬ IsOutside a.prefix r
      → IsClosedTo a r → IsTurnedAway a r body ReadOnly (unwrap_or user [])
  without_leave : (user : Option (List ℕ)) (head : List ℕ) → IsLetIn a r user → ¬ HasSwollenBody r body → ¬ HasManySlashes r
      → ¬ IsOutside a.prefix r → ¬ IsClosedTo a r → IsHeadKept a r head → ¬ HasLeaveIn a user head → ¬ LooksIn a user head → IsTurnedAway a r body (reason_for user) (unwrap_or user [])
  elsewhere : (user : Option (List ℕ)) (head : List ℕ) (part : Part) → IsLetIn a r user → ¬ HasSwollenBody r body → ¬ HasManySlashes r
      → ¬ IsOutside a.prefix r → ¬ IsClosedTo a r → IsHeadKept a r head → MayAskIn a user head → IsElsewhereIn a head part → IsTurnedAway a r body (Elsewhere part) (unwrap_or user [])
  too_far : (user : Option (List ℕ)) (head : List ℕ) → IsLetIn a r user → ¬ HasSwollenBody r body → ¬ HasManySlashes r
      → ¬ IsOutside a.prefix r → ¬ IsClosedTo a r → IsHeadKept a r head → HasLeaveIn a user head → IsHereIn a head → BeginsPast a.most_body r → IsTurnedAway a r body TooFar (unwrap_or user [])

-- The token for a lock that a request may create: a LOCK with a body gets that of the next number, and no other request gets one (RFC
-- 4918, sections 6.5 and 9.10.2).
pub data IsTokenFor (random : List ℕ) (number : ℕ) (method body : List ℕ) : Option (List ℕ) → Type 0 where
  next : method ≡ codes "LOCK" → body ≢ [] → HasNumber number (Some (token_text random number)) → IsTokenFor random number method body (Some (token_text random number))
  none : (method ≢ codes "LOCK") ⊎ (body ≡ []) → IsTokenFor random number method body None

-- The request that is run of one that came with this body, where tokens of so many numbers were given: the head that is kept of it, the
-- body, the moment, who makes it, and the token for a lock. It has leave, names nothing elsewhere, and writes within what a body may have.
pub record IsRequestOf (a : AdmissionView) (tokens : ℕ) (came : Request) (body : List ℕ) (q : RequestView) : Type 0 where
  pub let_in : IsLetIn a came q.principal
  pub lean : ¬ HasSwollenBody came body
  pub few : ¬ HasManySlashes came
  pub inside : ¬ IsOutside a.prefix came
  pub open_to : ¬ IsClosedTo a came
  pub kept : Request
  pub is_kept : IsKeptOf a.lock_time a.strict came kept
  pub says : Says q.head kept
  pub leave : HasLeaveIn a q.principal q.head
  pub here : IsHereIn a q.head
  pub within : ¬ BeginsPast a.most_body came
  pub body_is : q.body ≡ body
  pub moment : q.moment ≡ a.moment
  pub token : IsTokenFor a.random tokens came.method body q.token

-- The request that looks at a folder on the way, of one that came with this body: the head that is kept of it, the body, the moment, and who
-- makes it. It has no leave to be run, and names nothing elsewhere.
pub record IsLookOf (a : AdmissionView) (came : Request) (body : List ℕ) (q : RequestView) : Type 0 where
  pub let_in : IsLetIn a came q.principal
  pub lean : ¬ HasSwollenBody came body
  pub few : ¬ HasManySlashes came
  pub inside : ¬ IsOutside a.prefix came
  pub open_to : ¬ IsClosedTo a came
  pub kept : IsHeadKept a came q.head
  pub lacks : ¬ HasLeaveIn a q.principal q.head
  pub looks : LooksIn a q.principal q.head
  pub here : IsHereIn a q.head
  pub body_is : q.body ≡ body
  pub moment : q.moment ≡ a.moment
  pub token : q.token ≡ None

-- a request that was admitted, with its body, as it is run
abbrev pub request_in : AdmissionView → Admitted → List ℕ → RequestView
request_in a admitted body = record {
  moment = a.moment;
  principal = option_map string_bytes admitted.principal;
  token = option_map string_bytes admitted.token;
  head = admitted.head.items;
  body = body;
}

-- this says whether a request only reads (RFC 9110, section 9.2.1)
abbrev pub TellsSafe : Request → Bool → Type 0
TellsSafe r is = IsTrue is ↔ IsSafe r.method

-- what becomes of a request with this body, where tokens of so many numbers were given
abbrev pub IsDecision : AdmissionView → ℕ → Request → List ℕ → Decision → Type 0
IsDecision a tokens came body (Refused refused) = IsTurnedAway a came body refused.reason (string_bytes refused.user)
IsDecision a tokens came body (Look admitted) = IsLookOf a came body (request_in a admitted body)
IsDecision a tokens came body (Run admitted) =
    IsRequestOf a tokens came body (request_in a admitted body) × TellsSafe came admitted.only_reads

-- the status where this part of a request names what is elsewhere (RFC 9110, section 15.5.20; RFC 4918, sections 9.8.5, 9.9.4 and 10.4)
abbrev pub status_elsewhere : Part → ℕ
status_elsewhere Target = 421
status_elsewhere Destination = 502
status_elsewhere Condition = 412

-- the status of a reason (RFC 9110, sections 15.5.1, 15.5.2, 15.5.4, 15.5.5, 15.5.13, 15.5.14, 15.5.15, 15.5.20 and 15.6.3)
abbrev pub status_of : Reason → ℕ
status_of BadPort = 400
status_of Misdirected = 421
status_of Unauthorized = 401
status_of Forbidden = 403
status_of (Elsewhere part) = status_elsewhere part
status_of TooLong = 414
status_of ReadOnly = 403
status_of Outside = 404
status_of TooFar = 413
status_of Swollen = 413

-- the fields of the response: 401 has the challenge (RFC 9110, section 11.6.1; RFC 7617, section 2.1)
abbrev pub refusal_fields : Reason → List (List ℕ × List ℕ)
refusal_fields Unauthorized = (codes "www-authenticate", codes "Basic realm=\"vuldarg\", charset=\"UTF-8\"") ∷ []
refusal_fields _ = []

-- the fields of the response to a request that isn't run, by its status: 401 has the challenge
abbrev pub challenge_fields : ℕ → List (List ℕ × List ℕ)
challenge_fields status = if status == 401 then refusal_fields Unauthorized else []

-- What a server goes by after its front reported these seconds of its steady clock and this date: its moment is at most the end of the
-- year 9999.
abbrev pub after_clocks : AdmissionView → ℕ → ℕ → AdmissionView
after_clocks a seconds date =
    record a { moment = min (moment_after a.moment a.seconds seconds date) last_moment; seconds = Some seconds }

-- what it goes by where its moment is at least this one, which is at most the end of the year 9999
abbrev pub gone_on : ℕ → AdmissionView → AdmissionView
gone_on latest a = record a { moment = max a.moment (min latest last_moment) }

-- the random bytes after the front told these: the first sixteen of them, in the place of as many
abbrev pub with_random : List ℕ → List ℕ → List ℕ
with_random bytes random = take 16 bytes ++ drop (min 16 (length bytes)) random
