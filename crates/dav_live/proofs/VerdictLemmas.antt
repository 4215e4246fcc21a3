-- What is said of a request by its head.
use Rattle.std.proofs.Common.{◌≡◌, ◌≢◌, ◌∙◌, ◌==◌, ◌≤◌, ℕ, Bool, false, true, if◌then◌else◌, List, [], Option, None, Some, Result, Ok, Err, IfOk, IfSome, String, string_bytes, unwrap_or, codes, sym, subst, ap, refl, inl, inr}
use Rattle.std.specs.Global.{Global}
use Rattle.std.proofs.lemmas.Bool.{eqb-true}
use Rattle.dav_access.specs.Logins.{LoginsView, wait_of}
use Rattle.dav_access.specs.Principals.{ShowsNoUser}
use Rattle.dav_core.specs.declared.method.DavMethod.TheVariants.{Get, Head}
use Rattle.dav_headers.specs.Value.{IsNumber}
use Rattle.dav_server.specs.Head.{IsHead, Request}
use Rattle.dav_wire.specs.declared.answer.Rejection.{Rejection}
use Rattle.dav_wire.specs.declared.answer.Rejection.TheVariants.{TooManyRequests, Unauthorized, Unavailable}
use Rattle.dav_live.specs.Admission.{AdmissionView, MayAskIn, IsClosedTo, IsHeadKept, IsMadeBy, users_for}
use Rattle.dav_live.specs.Hosts.{value_of}
use Rattle.dav_live.specs.Rejections.{IsPlainRead, IsSafe, IsUntaken, MayHaveMore, TellsUntaken, bad_port, body, forged, misdirected}
use Rattle.dav_live.specs.Serving.{IsJudged, StaysAll, admission_of, judged, left, logins_of}
use Rattle.dav_live.specs.Verdicts.{IsRejected, IsSenderAsked, IsTakeable, IsVerdict, PlainReadsMayGoOn, TellsRejected, goes_on, rejected, rejection_of_wait, rejection_without_leave, unknown, untaken, waits, without_leave}
use Rattle.dav_live.specs.Waiting.{IsAfterVerdict, MayBeHeard, ShowsLogin, seconds_of}
use Rattle.dav_live.specs.declared.admission.judging.Rejected.{Rejected}
use Rattle.dav_live.specs.declared.service.Service.{Service}
use Rattle.dav_live.proofs.LoginLemmas.{heard_bare, heard_free}

-- ---- whoever waits

-- what is told of the hosts as they are kept is told of the hosts
pub untaken_by : (hosts : List (List ℕ)) (a : AdmissionView) (r : Request) (found : Option Rejection) (why : Rejection) → a.hosts ≡ hosts → found ≡ Some why
    → TellsUntaken hosts r found → IsUntaken a.hosts r why
untaken_by hosts a r found why same some tells =
    subst (λ (hs : List (List ℕ)). IsUntaken hs r why) (sym same) (subst (TellsUntaken hosts r) some tells)

pub takeable_by : (hosts : List (List ℕ)) (a : AdmissionView) (r : Request) (found : Option Rejection) → a.hosts ≡ hosts → found ≡ None
    → TellsUntaken hosts r found → IsTakeable a r
takeable_by hosts a r found same none tells why =
    subst (λ (hs : List (List ℕ)). ¬ IsUntaken hs r why) (sym same) (subst (TellsUntaken hosts r) none tells why)

module _ (a : AdmissionView) (r : Request) (x : Rejected) where
  rejected_as : (why : Rejection) (user : List ℕ) → x.why ≡ why → string_bytes x.user ≡ user → IsRejected a r why user → IsRejected a r x.why (string_bytes x.user)
  rejected_as why user why_is user_is is =
      subst (λ (w : Rejection). IsRejected a r w (string_bytes x.user)) (sym why_is) (subst (IsRejected a r why) (sym user_is) is)

  pub rejected_untaken : (why : Rejection) (user : String Global) → x ≡ record { why = why; user = user } → string_bytes user ≡ [] → IsUntaken a.hosts r why
      → IsRejected a r x.why (string_bytes x.user)
  rejected_untaken why user is nobody not_taken =
      rejected_as why [] (ap (λ (y : Rejected). y.why) is) (ap (λ (y : Rejected). string_bytes y.user) is ∙ nobody) (untaken why not_taken)

  pub rejected_unknown : (shown : String Global) → x ≡ record { why = Unauthorized; user = shown } → IsSenderAsked a r
      → ShowsNoUser (users_for a r) (value_of (codes "authorization") r) (string_bytes shown) → IsRejected a r x.why (string_bytes x.user)
  rejected_unknown shown is asked shows =
      rejected_as Unauthorized (string_bytes shown) (ap (λ (y : Rejected). y.why) is) (ap (λ (y : Rejected). string_bytes y.user) is) (unknown (string_bytes shown) asked shows)

  pub rejected_leave : (user : Option (List ℕ)) (head : List ℕ) → x.why ≡ rejection_without_leave user → string_bytes x.user ≡ unwrap_or user [] → IsSenderAsked a r
      → IsMadeBy a r user → IsHeadKept a r head → ¬ MayAskIn a user head → IsRejected a r x.why (string_bytes x.user)
  rejected_leave user head why user_is asked made kept lacks =
      rejected_as (rejection_without_leave user) (unwrap_or user []) why user_is (without_leave user head asked made kept lacks)

-- ---- and who has to wait

-- a verdict that is one is told
pub tells_verdict : {E : Type 0} (res : Result (Option Rejection) E) (P : Option Rejection → Type 0) (why : Rejection) → IfOk res (λ v. v ≡ Some why) → P (Some why) → IfOk res P
tells_verdict (Ok v) P why is holds = subst P (sym is) holds
tells_verdict (Err e) P why is holds = tt

module _ (a : AdmissionView) (l : LoginsView) (r : Request) (open_to : ¬ IsClosedTo a r) where
  -- what is said whoever waits is said of who may be heard
  pub verdict_of : MayBeHeard a l r → (v : Option Rejection) → TellsRejected a r v → IsVerdict a l r v
  verdict_of heard None on = goes_on open_to heard on
  verdict_of heard (Some why) (user, is) = rejected why user open_to heard is

  pub verdict_bare_of : {E : Type 0} (res : Result (Option Rejection) E) → ((name password : List ℕ) → ¬ ShowsLogin a r name password) → IfOk res (TellsRejected a r)
      → IfOk res (IsVerdict a l r)
  verdict_bare_of (Ok v) none tells = verdict_of (heard_bare a l r none) v tells
  verdict_bare_of (Err e) none tells = tt

  pub verdict_free_of : {E : Type 0} (res : Result (Option Rejection) E) (verdict : Option Rejection) (name password : List ℕ) → ShowsLogin a r name password
      → wait_of l name password (seconds_of a) ≡ 0 → TellsRejected a r verdict → IfOk res (λ v. v ≡ verdict) → IfOk res (IsVerdict a l r)
  verdict_free_of (Ok v) verdict name password shows free tells is = subst (IsVerdict a l r) (sym is) (verdict_of (heard_free a l r name password shows free) verdict tells)
  verdict_free_of (Err e) verdict name password shows free tells is = tt

  pub verdict_wait_of : (name password : List ℕ) (seconds : ℕ) → ShowsLogin a r name password → seconds ≡ wait_of l name password (seconds_of a) → seconds ≢ 0
      → IsVerdict a l r (Some (rejection_of_wait seconds))
  verdict_wait_of name password seconds shows is some =
      waits seconds open_to (record { name = name; password = password; shows = shows; is = sym is; some = some })

-- who waits for more than a second waits for a minute
minute_by : (n : ℕ) (b : Bool) → (n == 1) ≡ b → n ≢ 1 → (if b then Unavailable else TooManyRequests) ≡ TooManyRequests
minute_by n true is more = absurd (more (eqb-true n 1 is))
minute_by n false is more = refl

pub minute_is : (n : ℕ) → n ≢ 1 → rejection_of_wait n ≡ TooManyRequests
minute_is n more = minute_by n (n == 1) refl more

-- ---- what is left to the answer

plain_is_safe : (r : Request) → IsPlainRead r → IsSafe r.method
plain_is_safe r plain = elim plain.method [ inl get ↦ (Get, (tt, get), refl) | inr head ↦ (Head, (tt, head), refl) ]

plain_is_short : (most : ℕ) (r : Request) → IsPlainRead r → ¬ MayHaveMore most r
plain_is_short most r plain (inl long) =
    long (subst (λ (o : Option (List ℕ)). IfSome o (λ text. (n : ℕ) × IsNumber text n × (n ≤ most))) (sym plain.no_length) tt)
plain_is_short most r plain (inr coded) = coded plain.no_coding

plain_is_taken : (hosts : List (List ℕ)) (r : Request) (why : Rejection) → IsPlainRead r → ¬ IsUntaken hosts r why
plain_is_taken hosts r _ plain (forged is) = is.0 (plain_is_safe r plain)
plain_is_taken hosts r _ plain (bad_port _ more _) = plain_is_short 0 r plain more
plain_is_taken hosts r _ plain (misdirected _ more _ _) = plain_is_short 0 r plain more
plain_is_taken hosts r _ plain (body _ more _ _ _) = plain_is_short 0 r plain more

pub plain_reads_may_go_on : PlainReadsMayGoOn
plain_reads_may_go_on a r plain = (
  λ closed_to. closed_to.1 (plain_is_safe r plain),
  record {
    takeable = λ why is. plain_is_taken a.hosts r why plain is;
    sender = λ more. absurd (plain_is_short 4096 r plain more);
  },
)

-- ---- as the answerer judges

module _ {H J : Type 0} (old new : Service H J) (head : List ℕ) where
  pub judged_head : {E : Type 0} (res : Result (Option Rejection) E) (r : Request) → IsHead head r → StaysAll old new
      → IfOk res (IsVerdict (admission_of old) (logins_of old) r) → IfOk res (λ v. IsAfterVerdict (admission_of old) (logins_of old) r v (logins_of new))
      → IfOk res (λ v. IsJudged old head v new)
  judged_head (Ok v) r is stays verdict known = record { same = stays; said = judged r is verdict known }
  judged_head (Err e) r is stays verdict known = tt

  -- all is left to the answer
  pub left_head : ((r : Request) → IsHead head r → IsPlainRead r) → StaysAll old new → logins_of new ≡ logins_of old → IsJudged old head None new
  left_head plain stays known = record { same = stays; said = left plain refl known }
