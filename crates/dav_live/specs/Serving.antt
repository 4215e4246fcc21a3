-- How a live server answers requests and hears its front, and what of that is kept.
use Rattle.std.specs.Prelude.{◌≡◌, ◌≢◌, ◌⊎◌, ◌==◌, ℕ, if◌then◌else◌, List, [], ◌∷◌, ◌++◌, Option, Some, None, codes}
use Rattle.http_server.specs.declared.response.Response.{Response}
use Rattle.http_server.specs.Response.{IsResponse, fields_of}
use Rattle.httpdate.specs.Date.{date_text, unix_secs}
use Rattle.httpdate.specs.declared.date.HttpDate.{HttpDate}
use Rattle.dav_access.specs.Logins.{LoginsView}
use Rattle.dav_access.specs.Rules.{Rules}
use Rattle.dav_access.specs.declared.limit.Limit.{Limit}
use Rattle.dav_access.specs.RulesText.{UserList}
use Rattle.dav_http.specs.Uploaded.{BringsTime, time_body, time_head}
use Rattle.dav_kept.specs.Kept.{Holding, IsAnswerOf, held_by}
use Rattle.dav_kept.specs.Records.{RequestView}
use Rattle.dav_kept.specs.declared.handler.Effect.{Effect}
use Rattle.dav_kept.specs.declared.kept.Kept.{Kept}
use Rattle.dav_server.specs.Head.{IsHead, Request}
use Rattle.dav_wire.specs.declared.answer.Asked.{Asked}
use Rattle.dav_wire.specs.declared.answer.Rejection.{Rejection}
use Rattle.dav_live.specs.Admission.{AdmissionView, HasLeaveIn, IsLookOf, IsRequestOf, IsTurnedAway, after_clocks, refusal_fields, status_of, with_random}
use Rattle.dav_live.specs.Lists.{IsFaulty, Reports}
use Rattle.dav_live.specs.Runs.{Commits, GoesOn, Saves, StaysKept}
use Rattle.dav_live.specs.Rejections.{IsPlainRead}
use Rattle.dav_live.specs.Verdicts.{IsVerdict}
use Rattle.dav_live.specs.declared.admission.Reason.{Reason}
use Rattle.dav_live.specs.declared.lists.ListsError.{ListsError}
use Rattle.dav_live.specs.Waiting.{HasToWait, IsAfterLogin, IsAfterVerdict, MayBeHeard, wait_fields}
use Rattle.dav_live.specs.Full.{IsFull, IsUnrun}
use Rattle.dav_live.specs.Words.{IsExplained}
use Rattle.dav_live.specs.declared.service.Service.{Service}

-- what a service goes by
abbrev pub admission_of : {H J : Type 0} → Service H J → AdmissionView
admission_of s = s.admission

-- what it knows of logins
abbrev pub logins_of : {H J : Type 0} → Service H J → LoginsView
logins_of s = s.logins

-- its server, with the journal
abbrev pub kept_of : {H J : Type 0} → Service H J → Kept H J
kept_of s = s.kept

-- what its server holds
abbrev pub held_of : {H J : Type 0} → Service H J → Holding H
held_of s = held_by s.kept

-- ---- a request

-- A request is run, with this response: the server answers it; or there is no room for its record, and nothing is done (RFC 4918, section
-- 11.5).
pub data IsRun {S : Type 0} (answers : S → RequestView → Response → S → Type 0) (old : Holding S) (q : RequestView) (own : Response)
    (new : Holding S) : Type 0 where
  answered : (does : Effect) → IsAnswerOf answers old q own does new → IsRun answers old q own new
  full : IsFull own → new ≡ old → IsRun answers old q own new

-- a request of the server's own that belongs to another one: by the same user, at the same moment
abbrev pub belonging_to : RequestView → List ℕ → List ℕ → RequestView
belonging_to q head body = record { moment = q.moment; principal = q.principal; token = None; head = head; body = body }

-- a response that says besides that a time is kept, where it was set with this status (RFC 4918, section 9.2.1)
pub record IsAccepted (answer : ℕ) (own said : Response) : Type 0 where
  pub fields : fields_of said ≡ fields_of own ++ (if answer == 207 then (codes "x-oc-mtime", codes "accepted") ∷ [] else [])
  pub status : said.status ≡ own.status
  pub body : said.body ≡ own.body

-- A request that was run, with this response, brought a file and told its time, which the server then sets by a request of its own, and says
-- so; or it is no such request, or that one has no leave, and that is all.
pub data IsTimed {S : Type 0} (answers : S → RequestView → Response → S → Type 0) (a : AdmissionView) (old : Holding S) (q : RequestView)
    (own said : Response) (new : Holding S) : Type 0 where
  untold : ((r : Request) (time : ℕ) → IsHead q.head r → ¬ BringsTime r own.status time) → said ≡ own → new ≡ old → IsTimed answers a old q own said new
  without_leave : (r : Request) (time : ℕ) → IsHead q.head r → BringsTime r own.status time → ¬ HasLeaveIn a q.principal (time_head r)
      → said ≡ own → new ≡ old → IsTimed answers a old q own said new
  told : (r : Request) (time : ℕ) (set : Response) → IsHead q.head r → BringsTime r own.status time → HasLeaveIn a q.principal (time_head r)
      → IsRun answers old (belonging_to q (time_head r) (time_body time)) set new → IsAccepted set.status own said → IsTimed answers a old q own said new

-- A request is run with all that belongs to it, with this response: it, and then what sets the time of the file that it brought.
pub record IsRunWhole {S : Type 0} (answers : S → RequestView → Response → S → Type 0) (a : AdmissionView) (old : Holding S) (q : RequestView)
    (said : Response) (new : Holding S) : Type 0 where
  pub own : Response
  pub mid : Holding S
  pub run : IsRun answers old q own mid
  pub timed : IsTimed answers a mid q own said new

-- The response to a request, but for its date, and what is held then: 400 where its head is none (RFC 9110, section 15.5.1); the refusal
-- of one that isn't let in; the status of one that the server doesn't run; what is told to one that only looks at a folder on the way to
-- what may be read; and else that of the request that is run of it.
pub data IsResponseTo {S : Type 0} (answers : S → RequestView → Response → S → Type 0) (refuses : Option Rules → List Limit → S → Request → RequestView → ℕ → Type 0)
    (looks : Rules → S → RequestView → Response → Type 0)
    (a : AdmissionView) (old : Holding S) (asked : Asked) (own : Response) (new : Holding S) : Type 0 where
  no_head : ((r : Request) → ¬ IsHead asked.head r) → IsResponse 400 [] [] own → new ≡ old → IsResponseTo answers refuses looks a old asked own new
  turned_away : (r : Request) (reason : Reason) (user : List ℕ) → IsHead asked.head r → IsTurnedAway a r asked.body reason user
      → IsResponse (status_of reason) (refusal_fields reason) [] own → new ≡ old → IsResponseTo answers refuses looks a old asked own new
  not_run : (r : Request) (q : RequestView) (status : ℕ) → IsHead asked.head r → IsRequestOf a old.tokens r asked.body q → refuses a.rules a.limits old.state r q status
      → IsUnrun status own → new ≡ old → IsResponseTo answers refuses looks a old asked own new
  shown_way : (r : Request) (q : RequestView) (rules : Rules) → IsHead asked.head r → IsLookOf a r asked.body q → a.rules ≡ Some rules
      → looks rules old.state q own → new ≡ old → IsResponseTo answers refuses looks a old asked own new
  run : (r : Request) (q : RequestView) → IsHead asked.head r → IsRequestOf a old.tokens r asked.body q → ((status : ℕ) → ¬ refuses a.rules a.limits old.state r q status)
      → IsRunWhole answers a old q own new → IsResponseTo answers refuses looks a old asked own new

-- The response to a request, but for its date, what is held then, and what is known of logins: 429 to who has to wait (RFC 6585,
-- section 4), and else the response to it.
pub data IsReplyTo {S : Type 0} (answers : S → RequestView → Response → S → Type 0) (refuses : Option Rules → List Limit → S → Request → RequestView → ℕ → Type 0)
    (looks : Rules → S → RequestView → Response → Type 0)
    (a : AdmissionView) (l : LoginsView) (old : Holding S) (asked : Asked) (own : Response) (new : Holding S) (after : LoginsView) : Type 0 where
  told_to_wait : (r : Request) (seconds : ℕ) → IsHead asked.head r → HasToWait a l r seconds → IsResponse 429 (wait_fields seconds) [] own
      → new ≡ old → after ≡ l → IsReplyTo answers refuses looks a l old asked own new after
  heard : (r : Request) → IsHead asked.head r → MayBeHeard a l r → IsResponseTo answers refuses looks a old asked own new
      → IsAfterLogin a l r own.status after → IsReplyTo answers refuses looks a l old asked own new after
  headless : ((r : Request) → ¬ IsHead asked.head r) → IsResponseTo answers refuses looks a old asked own new → after ≡ l
      → IsReplyTo answers refuses looks a l old asked own new after

-- the response as it is sent: with the date of a moment (RFC 9110, section 6.6.1)
pub record IsDated (moment : ℕ) (own sent : Response) : Type 0 where
  pub date : HttpDate
  pub is_date : unix_secs date ≡ moment
  pub fields : fields_of sent ≡ fields_of own ++ (codes "date", date_text date) ∷ []
  pub status : sent.status ≡ own.status
  pub body : sent.body ≡ own.body

-- A service answers a request, and says in words what it refuses: what it goes by stays as it was, and the run of its records goes on.
pub record Serves {H J : Type 0} (answers : H → RequestView → Response → H → Type 0) (refuses : Option Rules → List Limit → H → Request → RequestView → ℕ → Type 0)
    (looks : Rules → H → RequestView → Response → Type 0) (is_clean : J → Type 0)
    (kept : J → List (List ℕ) → Type 0) (old : Service H J) (asked : Asked) (sent : Response) (new : Service H J) : Type 0 where
  pub own : Response
  pub replies : IsReplyTo answers refuses looks (admission_of old) (logins_of old) (held_of old) asked own (held_of new) (logins_of new)
  pub said : Response
  pub explained : IsExplained own said
  pub dated : IsDated (admission_of old).moment said sent
  pub same : admission_of new ≡ admission_of old
  pub goes_on : GoesOn answers is_clean kept (kept_of old) (kept_of new)

-- ---- what the front tells besides

-- nothing changes but what is to be told to who runs the server
abbrev pub StaysAll : {H J : Type 0} → Service H J → Service H J → Type 0
StaysAll old new = (admission_of new ≡ admission_of old) × (kept_of new ≡ kept_of old)

-- What is said of these bytes as the head of a request, before its body is taken, and what is known of logins then. All is left to the
-- answer where they are no head, or that of a GET or HEAD without a body; else there is a verdict, and a login is noted that was wrong.
pub data IsSaid (a : AdmissionView) (l : LoginsView) (head : List ℕ) (verdict : Option Rejection) (after : LoginsView) : Type 0 where
  left : ((r : Request) → IsHead head r → IsPlainRead r) → verdict ≡ None → after ≡ l → IsSaid a l head verdict after
  judged : (r : Request) → IsHead head r → IsVerdict a l r verdict → IsAfterVerdict a l r verdict after → IsSaid a l head verdict after

-- A request isn't taken, by its head alone, or may go on: what the service goes by stays.
pub record IsJudged {H J : Type 0} (old : Service H J) (head : List ℕ) (verdict : Option Rejection) (new : Service H J) : Type 0 where
  pub same : StaysAll old new
  pub said : IsSaid (admission_of old) (logins_of old) head verdict (logins_of new)

-- the requests that follow come from this address
abbrev pub IsPlaced : {H J : Type 0} → Service H J → List ℕ → Service H J → Type 0
IsPlaced old address new = StaysAll old new × (logins_of new ≡ record (logins_of old) { address = address })

-- the front began, with these random bytes
abbrev pub IsGreeted : {H J : Type 0} → Service H J → List ℕ → Service H J → Type 0
IsGreeted old bytes new =
    (admission_of new ≡ record (admission_of old) { random = with_random bytes (admission_of old).random })
    × (kept_of new ≡ kept_of old) × (logins_of new ≡ logins_of old)

-- The list of users or the rules were written anew. Both are as they are reported; or, where one is at fault, both are as they were. What is
-- known of logins stays, though the lists are others: a login that was right is checked by them all the same, and just doesn't wait for that.
pub data IsListed {H J : Type 0} (old : Service H J) (bytes : List ℕ) (new : Service H J) : Type 0 where
  anew : (users : UserList) (rules : Option Rules) (listed : List Limit) → Reports bytes users rules listed
      → admission_of new ≡ record (admission_of old) { users = users; rules = rules; limits = (admission_of old).own ++ listed }
      → kept_of new ≡ kept_of old
      → logins_of new ≡ logins_of old → IsListed old bytes new
  refused : (fault : ListsError) → IsFaulty bytes fault → StaysAll old new → logins_of new ≡ logins_of old → IsListed old bytes new

-- ---- locks end

-- the request of the server's own that has this head: nobody's, without a body
abbrev pub own_request : ℕ → List ℕ → RequestView
own_request moment head = record { moment = moment; principal = None; token = None; head = head; body = [] }

-- Locks were ended whose time has passed: each time the first of them, by a request of the server's own, which was answered 204 (RFC
-- 4918, sections 6.6 and 9.11).
pub data EndsLocks {S : Type 0} (answers : S → RequestView → Response → S → Type 0) (ends : S → ℕ → Option (List ℕ) → Type 0)
    (moment : ℕ) (old : Holding S) : Holding S → Type 0 where
  none : EndsLocks answers ends moment old old
  one : {mid new : Holding S} (head : List ℕ) (sent : Response) → EndsLocks answers ends moment old mid
      → ends mid.state moment (Some head) → IsRun answers mid (own_request moment head) sent new → sent.status ≡ 204
      → EndsLocks answers ends moment old new

-- No lock is left whose time has passed; or the next one couldn't be ended, since there is no room for that on the disk, or since the
-- request for it wasn't answered 204.
pub data IsEnded {S : Type 0} (answers : S → RequestView → Response → S → Type 0) (ends : S → ℕ → Option (List ℕ) → Type 0)
    (moment : ℕ) (old new : Holding S) : Type 0 where
  all : ends old.state moment None → new ≡ old → IsEnded answers ends moment old new
  stuck : (head : List ℕ) (sent : Response) → ends old.state moment (Some head) → IsRun answers old (own_request moment head) sent new
      → sent.status ≢ 204 → IsEnded answers ends moment old new

-- The clocks of the front are heard. Where the moment is later then, locks end whose time has passed by then.
pub record IsPassed {H J : Type 0} (answers : H → RequestView → Response → H → Type 0) (is_clean : J → Type 0)
    (kept : J → List (List ℕ) → Type 0) (ends : H → ℕ → Option (List ℕ) → Type 0) (old : Service H J) (seconds date : ℕ) (new : Service H J) : Type 0 where
  pub clocks : admission_of new ≡ after_clocks (admission_of old) seconds date
  pub logins : logins_of new ≡ logins_of old
  pub ended : (((admission_of new).moment ≡ (admission_of old).moment) × (kept_of new ≡ kept_of old))
      ⊎ ((mid : Holding H) × EndsLocks answers ends (admission_of new).moment (held_of old) mid
      × IsEnded answers ends (admission_of new).moment mid (held_of new))
  pub goes_on : GoesOn answers is_clean kept (kept_of old) (kept_of new)

-- ---- all is kept

-- A second passed: what is held is as it was, and so are the blocks that are kept; or the journal began anew.
pub record IsMarked {H J : Type 0} (saved : H → List ℕ) (is_saveable : H → Type 0) (is_clean : J → Type 0)
    (kept : J → List (List ℕ) → Type 0) (old new : Service H J) : Type 0 where
  pub same : admission_of new ≡ admission_of old
  pub logins : logins_of new ≡ logins_of old
  pub keeps : StaysKept is_clean kept (kept_of old) (kept_of new) ⊎ Saves saved is_saveable is_clean kept (kept_of old) (kept_of new)

-- all that was answered is kept
pub record IsCommitted {H J : Type 0} (is_clean : J → Type 0) (kept : J → List (List ℕ) → Type 0) (old new : Service H J) : Type 0 where
  pub same : admission_of new ≡ admission_of old
  pub logins : logins_of new ≡ logins_of old
  pub commits : Commits is_clean kept (kept_of old) (kept_of new)
