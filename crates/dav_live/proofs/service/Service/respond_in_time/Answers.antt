use Rattle.std.proofs.Common.{◌≡◌, ◌∙◌, ◌≢◌, ℕ, List, Option, MatchOption, rules, ap, sym, subst, string_bytes}
use Rattle.dav_access.specs.Logins.{LoginsView, after_right, after_wrong, wait_of}
use Rattle.dav_access.specs.declared.basic.Credentials.{Credentials}
use Rattle.dav_kept.specs.Kept.{held_by}
use Rattle.dav_kept.specs.declared.kept.Kept.{Kept}
use Rattle.dav_live.specs.Serving.{IsResponseTo, admission_of, held_of, kept_of, logins_of}
use Rattle.dav_live.specs.Waiting.{ShowsLogin, seconds_of}
use Rattle.dav_live.proofs.LoginLemmas.{on_four, on_three, replied_bare, replied_heard, replied_wait, seen_login}
use Rattle.dav_live.proofs.RunLemmas.{goes_on_same}
use Rattle.dav_live.proofs.ServingLemmas.{at_none, holds_on}
use Rattle.dav_live.proofs.service.Service.respond_in_time.Goals as goal

pub returns-in_default-clause-replies : goal.returns-in_default-clause-replies
returns-in_default-clause-replies g c =
    let a = admission_of c.args.self.now in
    let none : (name password : List ℕ) → ¬ ShowsLogin a c.args.head.now name password =
    at_none (λ (x : Credentials). ShowsLogin a c.args.head.now (string_bytes x.name) (string_bytes x.password)) c.in_ok-login.field-0 c.in_default.is c.in_ok-login.ensures in
    on_three c.respond_to.result
    (λ responds known goes. replied_bare g.H.Handles.answers g.H.Ends.refuses g.H.Ends.looks a (logins_of c.args.self.now) (held_of c.args.self.now) c.args.asked.now c.args.head.now c.requires.head
    c.respond_to.new.response (held_of c.respond_to.new.self) (logins_of c.respond_to.new.self) none responds known)
    c.respond_to.ensures.responds c.respond_to.ensures.logins c.respond_to.ensures.goes_on

pub returns-in-0-clause-replies : goal.returns-in-0-clause-replies
returns-in-0-clause-replies g c =
    let a = admission_of c.args.self.now in
    let l = logins_of c.args.self.now in
    let name = string_bytes c.in-Some.login.name in
    let password = string_bytes c.in-Some.login.password in
    let done = c.in_ok-respond_to-in-0.ensures in
    let shows : ShowsLogin a c.args.head.now name password =
    subst (λ (o : Option Credentials). MatchOption o ((n p : List ℕ) → ¬ ShowsLogin a c.args.head.now n p) (λ x. ShowsLogin a c.args.head.now (string_bytes x.name) (string_bytes x.password)))
    c.in-Some.is c.in_ok-login.ensures in
    let free : wait_of l name password (seconds_of a) ≡ 0 = sym c.wait_for.ensures ∙ c.in-0.is in
    let status : c.as_u16.result ≡ c.respond_to-in-0.new.response.status = c.as_u16.ensures.value in
    let at : seconds_of (admission_of c.respond_to-in-0.new.self) ≡ seconds_of a = ap seconds_of done.same in
    on_four c.see_login.result
    (λ wrong right other unseen. replied_heard g.H.Handles.answers g.H.Ends.refuses g.H.Ends.looks a l (held_of c.args.self.now) c.args.asked.now c.args.head.now c.requires.head
    c.respond_to-in-0.new.response (held_of c.see_login.new.self) (logins_of c.see_login.new.self) name password shows free
    (subst (λ (k : Kept g.row.H.Denot g.row.J.Denot). IsResponseTo g.H.Handles.answers g.H.Ends.refuses g.H.Ends.looks a (held_of c.args.self.now) c.args.asked.now c.respond_to-in-0.new.response (held_by k))
    (sym c.see_login.ensures.same.1) done.responds)
    (seen_login a l c.args.head.now c.respond_to-in-0.new.response.status (logins_of c.see_login.new.self) name password shows
    c.asks_bad_port.result c.asks_bad_port.ensures
    (λ seen is. wrong seen (status ∙ is) ∙ ap (λ (n : ℕ). after_wrong (logins_of c.respond_to-in-0.new.self) name password n) at
    ∙ ap (λ (v : LoginsView). after_wrong v name password (seconds_of a)) done.logins)
    (λ seen not neither. right seen (λ is. not (sym status ∙ is)) (λ is. neither (sym status ∙ is)) ∙ ap (λ (v : LoginsView). after_right v name password) done.logins)
    (λ is. other (status ∙ is) ∙ done.logins)
    (λ is. unseen is ∙ done.logins)))
    c.see_login.ensures.wrong c.see_login.ensures.right c.see_login.ensures.other c.see_login.ensures.unseen

pub returns-clause-replies : goal.returns-clause-replies
returns-clause-replies g c =
    let a = admission_of c.args.self.now in
    let name = string_bytes c.in-Some.login.name in
    let password = string_bytes c.in-Some.login.password in
    let shows : ShowsLogin a c.args.head.now name password =
    subst (λ (o : Option Credentials). MatchOption o ((n p : List ℕ) → ¬ ShowsLogin a c.args.head.now n p) (λ x. ShowsLogin a c.args.head.now (string_bytes x.name) (string_bytes x.password)))
    c.in-Some.is c.in_ok-login.ensures in
    let some : c.wait_for.result ≢ 0 = search rules in
    holds_on c.note.result
    (replied_wait g.H.Handles.answers g.H.Ends.refuses g.H.Ends.looks a (logins_of c.args.self.now) (held_of c.args.self.now) c.args.asked.now c.args.head.now c.requires.head
    c.fill_wait.new.response (held_of c.note.new.self) (logins_of c.note.new.self) name password c.wait_for.result shows c.wait_for.ensures some
    c.in_ok-fill_wait-in_default-wait_for.ensures (ap (λ (k : Kept g.row.H.Denot g.row.J.Denot). held_by k) c.note.ensures.same.1) c.note.ensures.logins)

pub returns-clause-goes_on : goal.returns-clause-goes_on
returns-clause-goes_on g c =
    holds_on c.note.result (goes_on_same g.H.Handles.answers g.J.Keeps.is_clean g.J.Keeps.kept (kept_of c.args.self.now) (kept_of c.note.new.self) c.note.ensures.same.1)
