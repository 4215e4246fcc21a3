use Rattle.std.proofs.Common.{◌≡◌, ◌∙◌, ◌≢◌, ℕ, List, Option, Some, MatchOption, arith, ap, rules, subst, sym, string_bytes, true≢false}
use Rattle.dav_access.specs.Logins.{LoginsView, after_wrong, wait_of}
use Rattle.dav_access.specs.declared.basic.Credentials.{Credentials}
use Rattle.dav_wire.specs.declared.answer.Rejection.{Rejection}
use Rattle.dav_wire.specs.declared.answer.Rejection.TheVariants.{Unauthorized, Forbidden, TooManyRequests, Unavailable}
use Rattle.dav_live.specs.Admission.{IsClosedTo}
use Rattle.dav_live.specs.Serving.{admission_of, logins_of}
use Rattle.dav_live.specs.Verdicts.{IsVerdict, closed}
use Rattle.dav_live.specs.Waiting.{ShowsLogin, seconds_of}
use Rattle.dav_live.proofs.LoginLemmas.{verdict_bare, verdict_else, verdict_seen}
use Rattle.dav_live.proofs.ServingLemmas.{at_none, on_ok}
use Rattle.dav_live.proofs.VerdictLemmas.{minute_is, tells_verdict, verdict_bare_of, verdict_free_of, verdict_wait_of}
use Rattle.dav_live.proofs.service.Service.judge_head.Goals as goal

pub returns-then-is_closed_to-clause-login : goal.returns-then-is_closed_to-clause-login
returns-then-is_closed_to-clause-login g c =
    verdict_else c.reject.result (admission_of c.args.self.now) (logins_of c.args.self.now) c.args.head.now (logins_of c.reject.new.self) Forbidden
    (λ e. let wrong : Forbidden ≡ Unauthorized = e in cc) c.reject.ensures.is c.reject.ensures.logins

pub returns-in_default-clause-login : goal.returns-in_default-clause-login
returns-in_default-clause-login g c =
    let a = admission_of c.args.self.now in
    verdict_bare c.judge_rest.result a (logins_of c.args.self.now) c.args.head.now (logins_of c.judge_rest.new.self)
    (at_none (λ (x : Credentials). ShowsLogin a c.args.head.now (string_bytes x.name) (string_bytes x.password)) c.in_ok-login.field-0 c.in_default.is c.in_ok-login.ensures)
    c.judge_rest.ensures.logins

pub returns-in-0-clause-login : goal.returns-in-0-clause-login
returns-in-0-clause-login g c =
    let a = admission_of c.args.self.now in
    let l = logins_of c.args.self.now in
    let name = string_bytes c.in-Some.login.name in
    let password = string_bytes c.in-Some.login.password in
    let shows : ShowsLogin a c.args.head.now name password =
    subst (λ (o : Option Credentials). MatchOption o ((n p : List ℕ) → ¬ ShowsLogin a c.args.head.now n p) (λ x. ShowsLogin a c.args.head.now (string_bytes x.name) (string_bytes x.password)))
    c.in-Some.is c.in_ok-login.ensures in
    let done = c.in_ok-verdict-in-0.ensures in
    verdict_seen c.see_verdict.result a l c.args.head.now (logins_of c.see_verdict.new.self) c.in_ok-verdict-in-0.verdict name password shows c.see_verdict.ensures.is
    (on_ok c.see_verdict.result
    (λ wrong so. wrong so ∙ ap (λ (n : ℕ). after_wrong (logins_of c.judge_rest-in-0.new.self) name password n) (ap seconds_of done.same.0)
    ∙ ap (λ (v : LoginsView). after_wrong v name password (seconds_of a)) done.logins) c.see_verdict.ensures.wrong)
    (on_ok c.see_verdict.result (λ other else_. other else_ ∙ done.logins) c.see_verdict.ensures.other)

pub returns-in-1-clause-login : goal.returns-in-1-clause-login
returns-in-1-clause-login g c =
    verdict_else c.reject-in-1.result (admission_of c.args.self.now) (logins_of c.args.self.now) c.args.head.now (logins_of c.reject-in-1.new.self) Unavailable
    (λ e. let wrong : Unavailable ≡ Unauthorized = e in cc) c.reject-in-1.ensures.is c.reject-in-1.ensures.logins

pub returns-clause-login : goal.returns-clause-login
returns-clause-login g c =
    verdict_else c.reject-in_default-wait_for.result (admission_of c.args.self.now) (logins_of c.args.self.now) c.args.head.now (logins_of c.reject-in_default-wait_for.new.self)
    TooManyRequests (λ e. let wrong : TooManyRequests ≡ Unauthorized = e in cc) c.reject-in_default-wait_for.ensures.is c.reject-in_default-wait_for.ensures.logins

-- ---- the verdict

pub returns-then-is_closed_to-clause-verdict : goal.returns-then-is_closed_to-clause-verdict
returns-then-is_closed_to-clause-verdict g c =
    let is : IsClosedTo (admission_of c.args.self.now) c.args.head.now = c.is_closed_to.ensures.0 c.if-is_closed_to.true in
    tells_verdict c.reject.result (IsVerdict (admission_of c.args.self.now) (logins_of c.args.self.now) c.args.head.now) Forbidden c.reject.ensures.is (closed is)

pub returns-in_default-clause-verdict : goal.returns-in_default-clause-verdict
returns-in_default-clause-verdict g c =
    let a = admission_of c.args.self.now in
    let free_to : ¬ IsClosedTo a c.args.head.now = λ is. true≢false (sym (c.is_closed_to.ensures.1 is) ∙ c.if-is_closed_to.false) in
    verdict_bare_of a (logins_of c.args.self.now) c.args.head.now free_to c.judge_rest.result
    (at_none (λ (x : Credentials). ShowsLogin a c.args.head.now (string_bytes x.name) (string_bytes x.password)) c.in_ok-login.field-0 c.in_default.is c.in_ok-login.ensures)
    c.judge_rest.ensures.verdict

pub returns-in-0-clause-verdict : goal.returns-in-0-clause-verdict
returns-in-0-clause-verdict g c =
    let a = admission_of c.args.self.now in
    let l = logins_of c.args.self.now in
    let name = string_bytes c.in-Some.login.name in
    let password = string_bytes c.in-Some.login.password in
    let free_to : ¬ IsClosedTo a c.args.head.now = λ is. true≢false (sym (c.is_closed_to.ensures.1 is) ∙ c.if-is_closed_to.false) in
    let shows : ShowsLogin a c.args.head.now name password =
    subst (λ (o : Option Credentials). MatchOption o ((n p : List ℕ) → ¬ ShowsLogin a c.args.head.now n p) (λ x. ShowsLogin a c.args.head.now (string_bytes x.name) (string_bytes x.password)))
    c.in-Some.is c.in_ok-login.ensures in
    let free : wait_of l name password (seconds_of a) ≡ 0 = sym c.wait_for.ensures ∙ c.in-0.is in
    verdict_free_of a l c.args.head.now free_to c.see_verdict.result c.in_ok-verdict-in-0.verdict name password shows free c.in_ok-verdict-in-0.ensures.verdict
    c.see_verdict.ensures.is

pub returns-in-1-clause-verdict : goal.returns-in-1-clause-verdict
returns-in-1-clause-verdict g c =
    let a = admission_of c.args.self.now in
    let l = logins_of c.args.self.now in
    let name = string_bytes c.in-Some.login.name in
    let password = string_bytes c.in-Some.login.password in
    let free_to : ¬ IsClosedTo a c.args.head.now = λ is. true≢false (sym (c.is_closed_to.ensures.1 is) ∙ c.if-is_closed_to.false) in
    let shows : ShowsLogin a c.args.head.now name password =
    subst (λ (o : Option Credentials). MatchOption o ((n p : List ℕ) → ¬ ShowsLogin a c.args.head.now n p) (λ x. ShowsLogin a c.args.head.now (string_bytes x.name) (string_bytes x.password)))
    c.in-Some.is c.in_ok-login.ensures in
    tells_verdict c.reject-in-1.result (IsVerdict a l c.args.head.now) Unavailable c.reject-in-1.ensures.is
    (verdict_wait_of a l c.args.head.now free_to name password 1 shows (sym c.in-1.is ∙ c.wait_for.ensures) (λ e. absurd (omega (arith, e))))

pub returns-clause-verdict : goal.returns-clause-verdict
returns-clause-verdict g c =
    let a = admission_of c.args.self.now in
    let l = logins_of c.args.self.now in
    let name = string_bytes c.in-Some.login.name in
    let password = string_bytes c.in-Some.login.password in
    let free_to : ¬ IsClosedTo a c.args.head.now = λ is. true≢false (sym (c.is_closed_to.ensures.1 is) ∙ c.if-is_closed_to.false) in
    let shows : ShowsLogin a c.args.head.now name password =
    subst (λ (o : Option Credentials). MatchOption o ((n p : List ℕ) → ¬ ShowsLogin a c.args.head.now n p) (λ x. ShowsLogin a c.args.head.now (string_bytes x.name) (string_bytes x.password)))
    c.in-Some.is c.in_ok-login.ensures in
    let some : c.wait_for.result ≢ 0 = search rules in
    let more : c.wait_for.result ≢ 1 = search rules in
    tells_verdict c.reject-in_default-wait_for.result (IsVerdict a l c.args.head.now) TooManyRequests c.reject-in_default-wait_for.ensures.is
    (subst (λ (why : Rejection). IsVerdict a l c.args.head.now (Some why)) (minute_is c.wait_for.result more)
    (verdict_wait_of a l c.args.head.now free_to name password c.wait_for.result shows c.wait_for.ensures some))
