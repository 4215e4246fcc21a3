-- The login that a request shows.
use Rattle.std.proofs.Common.{◌≡◌, ◌≢◌, ◌∙◌, ◌⊎◌, ◌==◌, List, [], ℕ, Bool, true, false, Option, None, Some, MatchOption, Result, Ok, Err, IfOk, OnOk, string_bytes, codes, sym, subst, inl, inr, refl, true≢false}
use Rattle.std.proofs.lemmas.Bool.{eqb-false, eqb-true}
use Rattle.http_server.specs.Response.{IsResponse}
use Rattle.http_server.specs.declared.response.Response.{Response}
use Rattle.dav_access.specs.Basic.{IsBasic}
use Rattle.dav_access.specs.Logins.{LoginsView, after_right, after_wrong, wait_of}
use Rattle.dav_access.specs.Rules.{Rules}
use Rattle.dav_access.specs.declared.limit.Limit.{Limit}
use Rattle.dav_access.specs.declared.basic.Credentials.{Credentials}
use Rattle.dav_access.proofs.BasicLemmas.{basic_once}
use Rattle.dav_kept.specs.Kept.{Holding}
use Rattle.dav_kept.specs.Records.{RequestView}
use Rattle.dav_server.specs.Head.{IsHead, Request}
use Rattle.dav_wire.specs.declared.answer.Asked.{Asked}
use Rattle.dav_wire.specs.declared.answer.Rejection.{Rejection}
use Rattle.dav_wire.specs.declared.answer.Rejection.TheVariants.{BadRequest, Unauthorized, Forbidden, UnsupportedMediaType, Misdirected, TooManyRequests, NotImplemented, Unavailable}
use Rattle.dav_live.specs.Admission.{AdmissionView}
use Rattle.std.specs.Bool.{Decides}
use Rattle.dav_live.specs.Hosts.{AsksBadPort, asked_host, value_of}
use Rattle.dav_live.specs.Serving.{IsReplyTo, IsResponseTo, heard, told_to_wait}
use Rattle.dav_live.specs.Waiting.{IsAfterLogin, IsAfterVerdict, MayBeHeard, ShowsLogin, judged_else, judged_nobody, judged_wrong, seconds_of, showed_none, wait_fields, was_for_no_port, was_misdirected, was_right, was_wrong}

-- the value of the field is one
pub shown_is : (a : AdmissionView) (r : Request) (value name password : List ℕ) → value_of (codes "authorization") r ≡ Some value
    → ShowsLogin a r name password → IsBasic value name password
shown_is a r value name password shown shows =
    let e : Some shows.value ≡ Some value = sym shows.shown ∙ shown in
    let same : shows.value ≡ value = cc in
    subst (λ (v : List ℕ). IsBasic v name password) same shows.basic

-- what the credentials of the field's value are, the login is
pub login_shown : (a : AdmissionView) (r : Request) (value : List ℕ) (login : Option Credentials) → a.users ≢ None → value_of (codes "authorization") r ≡ Some value
    → MatchOption login ((name password : List ℕ) → ¬ IsBasic value name password) (λ c. IsBasic value (string_bytes c.name) (string_bytes c.password))
    → MatchOption login ((name password : List ℕ) → ¬ ShowsLogin a r name password) (λ c. ShowsLogin a r (string_bytes c.name) (string_bytes c.password))
login_shown a r value None users shown none = λ name password shows. none name password (shown_is a r value name password shown shows)
login_shown a r value (Some c) users shown is = record { users = users; value = value; shown = shown; basic = is }

-- a request shows one login
pub login_once : (a : AdmissionView) (r : Request) (name password other_name other_password : List ℕ) → ShowsLogin a r name password
    → ShowsLogin a r other_name other_password → (name ≡ other_name) × (password ≡ other_password)
login_once a r name password other_name other_password shows other =
    basic_once shows.value name password other_name other_password shows.basic (shown_is a r shows.value other_name other_password shows.shown other)

-- who shows a login that doesn't wait may be heard, and so may who shows none
pub heard_free : (a : AdmissionView) (l : LoginsView) (r : Request) (name password : List ℕ) → ShowsLogin a r name password
    → wait_of l name password (seconds_of a) ≡ 0 → MayBeHeard a l r
heard_free a l r name password shows free seconds waits =
    let same = login_once a r name password waits.name waits.password shows waits.shows in
    let at : wait_of l waits.name waits.password (seconds_of a) ≡ 0 =
    subst (λ (n : List ℕ). wait_of l n waits.password (seconds_of a) ≡ 0) same.0 (subst (λ (p : List ℕ). wait_of l name p (seconds_of a) ≡ 0) same.1 free) in
    waits.some (sym waits.is ∙ at)

pub heard_bare : (a : AdmissionView) (l : LoginsView) (r : Request) → ((name password : List ℕ) → ¬ ShowsLogin a r name password) → MayBeHeard a l r
heard_bare a l r none seconds waits = none waits.name waits.password waits.shows

-- ---- results

pub on_three : {T E A B C D : Type 0} (r : Result T E) → (A → B → C → D) → OnOk r A → OnOk r B → OnOk r C → OnOk r D
on_three (Ok x) f a b c = f a b c
on_three (Err e) f a b c = tt

pub on_four : {T E A B C D F : Type 0} (r : Result T E) → (A → B → C → D → F) → OnOk r A → OnOk r B → OnOk r C → OnOk r D → OnOk r F
on_four (Ok x) f a b c d = f a b c d
on_four (Err e) f a b c d = tt

same_or_not : (n m : ℕ) (b : Bool) → (n == m) ≡ b → (n ≡ m) ⊎ (n ≢ m)
same_or_not n m true is = inl (eqb-true n m is)
same_or_not n m false is = inr (eqb-false n m is)

-- ---- what is known after a request

pub seen_login : (a : AdmissionView) (l : LoginsView) (r : Request) (status : ℕ) (after : LoginsView) (name password : List ℕ) → ShowsLogin a r name password
    → (unseen : Bool) → Decides unseen (AsksBadPort (asked_host r))
    → (unseen ≡ false → status ≡ 401 → after ≡ after_wrong l name password (seconds_of a))
    → (unseen ≡ false → status ≢ 401 → status ≢ 421 → after ≡ after_right l name password)
    → (status ≡ 421 → after ≡ l) → (unseen ≡ true → after ≡ l) → IsAfterLogin a l r status after
seen_login a l r status after name password shows true asks wrong right other none =
    subst (IsAfterLogin a l r status) (sym (none refl)) (was_for_no_port (asks.0 refl))
seen_login a l r status after name password shows false asks wrong right other none =
    let port : ¬ AsksBadPort (asked_host r) = λ bad. true≢false (sym (asks.1 bad)) in
    elim (same_or_not status 401 (status == 401) refl) [
      | inl is ↦ subst (IsAfterLogin a l r status) (sym (wrong refl is)) (was_wrong name password shows port is)
      | inr not ↦ elim (same_or_not status 421 (status == 421) refl) [
        | inl is ↦ subst (IsAfterLogin a l r status) (sym (other is)) (was_misdirected is)
        | inr neither ↦ subst (IsAfterLogin a l r status) (sym (right refl not neither)) (was_right name password shows port not neither)
      ]
    ]

module _ {S : Type 0} (answers : S → RequestView → Response → S → Type 0) (refuses : Option Rules → List Limit → S → Request → RequestView → ℕ → Type 0) (looks : Rules → S → RequestView → Response → Type 0)
    (a : AdmissionView) (l : LoginsView) (old : Holding S) (asked : Asked) (r : Request) (is : IsHead asked.head r) (own : Response) (new : Holding S) (after : LoginsView) where
  -- a request that shows no login is heard
  pub replied_bare : ((name password : List ℕ) → ¬ ShowsLogin a r name password) → IsResponseTo answers refuses looks a old asked own new → after ≡ l
      → IsReplyTo answers refuses looks a l old asked own new after
  replied_bare none responds same =
      subst (λ (v : LoginsView). IsReplyTo answers refuses looks a l old asked own new v) (sym same) (heard r is (heard_bare a l r none) responds (showed_none none))

  -- and so is one whose login doesn't wait
  pub replied_heard : (name password : List ℕ) → ShowsLogin a r name password → wait_of l name password (seconds_of a) ≡ 0
      → IsResponseTo answers refuses looks a old asked own new → IsAfterLogin a l r own.status after → IsReplyTo answers refuses looks a l old asked own new after
  replied_heard name password shows free responds known = heard r is (heard_free a l r name password shows free) responds known

  -- any other has to wait
  pub replied_wait : (name password : List ℕ) (seconds : ℕ) → ShowsLogin a r name password → seconds ≡ wait_of l name password (seconds_of a) → seconds ≢ 0
      → IsResponse 429 (wait_fields seconds) [] own → new ≡ old → after ≡ l → IsReplyTo answers refuses looks a l old asked own new after
  replied_wait name password seconds shows waits some response held known =
      told_to_wait r seconds is (record { name = name; password = password; shows = shows; is = sym waits; some = some }) response held known

-- ---- a head that is judged

-- who isn't taken for another reason is as known as before
pub verdict_else : {E : Type 0} (res : Result (Option Rejection) E) (a : AdmissionView) (l : LoginsView) (r : Request) (after : LoginsView) (why : Rejection)
    → why ≢ Unauthorized → IfOk res (λ v. v ≡ Some why) → after ≡ l → IfOk res (λ v. IsAfterVerdict a l r v after)
verdict_else (Ok v) a l r after why differs is same =
    subst (IsAfterVerdict a l r v) (sym same)
    (judged_else (λ (wrong : v ≡ Some Unauthorized). let e : Some why ≡ Some Unauthorized = sym is ∙ wrong in differs (cc)))
verdict_else (Err e) a l r after why differs is same = tt

-- and so is who shows no login
pub verdict_bare : {E : Type 0} (res : Result (Option Rejection) E) (a : AdmissionView) (l : LoginsView) (r : Request) (after : LoginsView)
    → ((name password : List ℕ) → ¬ ShowsLogin a r name password) → after ≡ l → IfOk res (λ v. IsAfterVerdict a l r v after)
verdict_bare (Ok v) a l r after none same = subst (IsAfterVerdict a l r v) (sym same) (judged_nobody none)
verdict_bare (Err e) a l r after none same = tt

is_unauthorized : (v : Option Rejection) → (v ≡ Some Unauthorized) ⊎ (v ≢ Some Unauthorized)
is_unauthorized None = inr (λ e. let wrong : None ≡ Some Unauthorized = e in cc)
is_unauthorized (Some BadRequest) = inr (λ e. let wrong : Some BadRequest ≡ Some Unauthorized = e in cc)
is_unauthorized (Some Unauthorized) = inl refl
is_unauthorized (Some Forbidden) = inr (λ e. let wrong : Some Forbidden ≡ Some Unauthorized = e in cc)
is_unauthorized (Some UnsupportedMediaType) = inr (λ e. let wrong : Some UnsupportedMediaType ≡ Some Unauthorized = e in cc)
is_unauthorized (Some Misdirected) = inr (λ e. let wrong : Some Misdirected ≡ Some Unauthorized = e in cc)
is_unauthorized (Some TooManyRequests) = inr (λ e. let wrong : Some TooManyRequests ≡ Some Unauthorized = e in cc)
is_unauthorized (Some NotImplemented) = inr (λ e. let wrong : Some NotImplemented ≡ Some Unauthorized = e in cc)
is_unauthorized (Some Unavailable) = inr (λ e. let wrong : Some Unavailable ≡ Some Unauthorized = e in cc)

-- a login is noted as wrong where that is why its request isn't taken
pub verdict_seen : {E : Type 0} (res : Result (Option Rejection) E) (a : AdmissionView) (l : LoginsView) (r : Request) (after : LoginsView) (verdict : Option Rejection)
    (name password : List ℕ) → ShowsLogin a r name password → IfOk res (λ v. v ≡ verdict)
    → OnOk res (verdict ≡ Some Unauthorized → after ≡ after_wrong l name password (seconds_of a)) → OnOk res (verdict ≢ Some Unauthorized → after ≡ l)
    → IfOk res (λ v. IsAfterVerdict a l r v after)
verdict_seen (Ok v) a l r after verdict name password shows is wrong other =
    subst (λ (o : Option Rejection). IsAfterVerdict a l r o after) (sym is)
    (elim (is_unauthorized verdict) [
      | inl so ↦ subst (IsAfterVerdict a l r verdict) (sym (wrong so)) (judged_wrong name password shows so)
      | inr else_ ↦ subst (IsAfterVerdict a l r verdict) (sym (other else_)) (judged_else else_)
    ])
verdict_seen (Err e) a l r after verdict name password shows is wrong other = tt
