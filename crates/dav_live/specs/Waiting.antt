-- Who waits before a password is checked, and which logins are known to be wrong and right after a request (RFC 6585, section 4).
use Rattle.std.specs.Prelude.{◌≡◌, ◌≢◌, ◌==◌, ℕ, List, [], ◌∷◌, Option, Some, None, codes, if◌then◌else◌, unwrap_or}
use Rattle.dav_access.specs.Basic.{IsBasic}
use Rattle.dav_access.specs.Logins.{LoginsView, after_right, after_wrong, wait_of}
use Rattle.dav_server.specs.Head.{Request}
use Rattle.dav_wire.specs.declared.answer.Rejection.{Rejection}
use Rattle.dav_wire.specs.declared.answer.Rejection.TheVariants.{Unauthorized}
use Rattle.dav_live.specs.Admission.{AdmissionView}
use Rattle.dav_live.specs.Hosts.{AsksBadPort, asked_host, value_of}

-- a request shows a login of this name and password, where there is a list of users (RFC 7617, section 2)
pub record ShowsLogin (a : AdmissionView) (r : Request) (name password : List ℕ) : Type 0 where
  pub users : a.users ≢ None
  pub value : List ℕ
  pub shown : value_of (codes "authorization") r ≡ Some value
  pub basic : IsBasic value name password

-- the seconds of the front's steady clock
abbrev pub seconds_of : AdmissionView → ℕ
seconds_of a = unwrap_or a.seconds 0

-- a request shows a login that waits for so many seconds
pub record HasToWait (a : AdmissionView) (l : LoginsView) (r : Request) (seconds : ℕ) : Type 0 where
  pub name : List ℕ
  pub password : List ℕ
  pub shows : ShowsLogin a r name password
  pub is : wait_of l name password (seconds_of a) ≡ seconds
  pub some : seconds ≢ 0

-- a request doesn't have to wait
abbrev pub MayBeHeard : AdmissionView → LoginsView → Request → Type 0
MayBeHeard a l r = (seconds : ℕ) → ¬ HasToWait a l r seconds

-- when to come again who has to wait so many seconds: a second, or a minute (RFC 9110, section 10.2.3)
abbrev pub wait_fields : ℕ → List (List ℕ × List ℕ)
wait_fields seconds = (codes "retry-after", if seconds == 1 then codes "1" else codes "60") ∷ []

-- What is known of logins after a request was answered with this status. The login that it shows is wrong where that is 401, and right
-- where it is neither that nor 421; of one that is 421, or for a port that can't be, the login isn't looked at.
pub data IsAfterLogin (a : AdmissionView) (l : LoginsView) (r : Request) (status : ℕ) : LoginsView → Type 0 where
  was_wrong : (name password : List ℕ) → ShowsLogin a r name password → ¬ AsksBadPort (asked_host r) → status ≡ 401
      → IsAfterLogin a l r status (after_wrong l name password (seconds_of a))
  was_right : (name password : List ℕ) → ShowsLogin a r name password → ¬ AsksBadPort (asked_host r) → status ≢ 401 → status ≢ 421
      → IsAfterLogin a l r status (after_right l name password)
  was_misdirected : status ≡ 421 → IsAfterLogin a l r status l
  was_for_no_port : AsksBadPort (asked_host r) → IsAfterLogin a l r status l
  showed_none : ((name password : List ℕ) → ¬ ShowsLogin a r name password) → IsAfterLogin a l r status l

-- And after one was judged by its head: the login that it shows is wrong where that is why it isn't taken.
pub data IsAfterVerdict (a : AdmissionView) (l : LoginsView) (r : Request) (verdict : Option Rejection) : LoginsView → Type 0 where
  judged_wrong : (name password : List ℕ) → ShowsLogin a r name password → verdict ≡ Some Unauthorized
      → IsAfterVerdict a l r verdict (after_wrong l name password (seconds_of a))
  judged_else : verdict ≢ Some Unauthorized → IsAfterVerdict a l r verdict l
  judged_nobody : ((name password : List ℕ) → ¬ ShowsLogin a r name password) → IsAfterVerdict a l r verdict l
