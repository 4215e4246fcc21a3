-- What is said of a request by its head, before its body is taken (RFC 9110, sections 10.1.1 and 15.5).
use Rattle.std.specs.Prelude.{◌==◌, ℕ, List, [], Option, Some, None, codes, if◌then◌else◌, unwrap_or}
use Rattle.dav_access.specs.Logins.{LoginsView}
use Rattle.dav_access.specs.Principals.{ShowsNoUser}
use Rattle.dav_server.specs.Head.{Request}
use Rattle.dav_wire.specs.declared.answer.Rejection.{Rejection}
use Rattle.dav_wire.specs.declared.answer.Rejection.TheVariants.{Forbidden, TooManyRequests, Unauthorized, Unavailable}
use Rattle.dav_live.specs.Admission.{AdmissionView, IsClosedTo, IsHeadKept, IsMadeBy, MayAskIn, users_for}
use Rattle.dav_live.specs.Hosts.{value_of}
use Rattle.dav_live.specs.Rejections.{IsPlainRead, IsUntaken, MayHaveMore}
use Rattle.dav_live.specs.Waiting.{HasToWait, MayBeHeard}

-- ---- who sends it

-- a request is taken by its head alone
abbrev pub IsTakeable : AdmissionView → Request → Type 0
IsTakeable a r = (why : Rejection) → ¬ IsUntaken a.hosts r why

-- Nothing of the body is taken before it is known who sends it: a request that is taken by its head alone may have a body of more than
-- 4,096 bytes.
abbrev pub IsSenderAsked : AdmissionView → Request → Type 0
IsSenderAsked a r = IsTakeable a r × MayHaveMore 4096 r

-- a request is of a user, or of nobody, and what would be run of it has leave, or may look
pub record HasSendersLeave (a : AdmissionView) (r : Request) : Type 0 where
  pub user : Option (List ℕ)
  pub head : List ℕ
  pub made : IsMadeBy a r user
  pub kept : IsHeadKept a r head
  pub leave : MayAskIn a user head

-- why a request of this user isn't taken that has no leave (RFC 9110, sections 15.5.2 and 15.5.4)
abbrev pub rejection_without_leave : Option (List ℕ) → Rejection
rejection_without_leave None = Unauthorized
rejection_without_leave (Some user) = Forbidden

-- ---- whoever waits

-- A request isn't taken, for this reason: by its head alone; as no user is shown, but this name (RFC 9110, section 15.5.2); or as what would
-- be run of it has no leave, and may not look either (section 15.5.4). With it the user.
pub data IsRejected (a : AdmissionView) (r : Request) : Rejection → List ℕ → Type 0 where
  untaken : (why : Rejection) → IsUntaken a.hosts r why → IsRejected a r why []
  unknown : (shown : List ℕ) → IsSenderAsked a r → ShowsNoUser (users_for a r) (value_of (codes "authorization") r) shown
      → IsRejected a r Unauthorized shown
  without_leave : (user : Option (List ℕ)) (head : List ℕ) → IsSenderAsked a r → IsMadeBy a r user → IsHeadKept a r head
      → ¬ MayAskIn a user head → IsRejected a r (rejection_without_leave user) (unwrap_or user [])

-- The body of a request may be taken: none of these holds.
pub record MayGoOn (a : AdmissionView) (r : Request) : Type 0 where
  pub takeable : IsTakeable a r
  pub sender : MayHaveMore 4096 r → HasSendersLeave a r

-- this says why a request isn't taken, whoever waits; none where it may go on
abbrev pub TellsRejected : AdmissionView → Request → Option Rejection → Type 0
TellsRejected a r (Some why) = (user : List ℕ) × IsRejected a r why user
TellsRejected a r None = MayGoOn a r

-- ---- the verdict

-- why a request isn't taken that has to wait for so many seconds: 503 for a second, 429 for a minute (RFC 9110, section 15.6.4; RFC 6585,
-- section 4)
abbrev pub rejection_of_wait : ℕ → Rejection
rejection_of_wait seconds = if seconds == 1 then Unavailable else TooManyRequests

-- The verdict on a request, before its body is taken: it isn't where requests may only read, and it may do more; else where it has to wait;
-- else where there is another reason. Where there is none it may go on.
pub data IsVerdict (a : AdmissionView) (l : LoginsView) (r : Request) : Option Rejection → Type 0 where
  closed : IsClosedTo a r → IsVerdict a l r (Some Forbidden)
  waits : (seconds : ℕ) → ¬ IsClosedTo a r → HasToWait a l r seconds → IsVerdict a l r (Some (rejection_of_wait seconds))
  rejected : (why : Rejection) (user : List ℕ) → ¬ IsClosedTo a r → MayBeHeard a l r → IsRejected a r why user → IsVerdict a l r (Some why)
  goes_on : ¬ IsClosedTo a r → MayBeHeard a l r → MayGoOn a r → IsVerdict a l r None

-- A GET or HEAD without a body may go on by its head, unless it has to wait: so where it is left to the answer, nothing else is passed over.
abbrev pub PlainReadsMayGoOn : Type 0
PlainReadsMayGoOn = (a : AdmissionView) (r : Request) → IsPlainRead r → (¬ IsClosedTo a r) × MayGoOn a r
