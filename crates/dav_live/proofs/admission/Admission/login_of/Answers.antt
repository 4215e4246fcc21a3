use Rattle.std.proofs.Common.{◌≡◌, ◌≢◌, None, Some, rules, codes}
use Rattle.dav_live.specs.Hosts.{value_of}
use Rattle.dav_live.proofs.LoginLemmas.{login_shown}
use Rattle.dav_live.proofs.admission.Admission.login_of.Goals as goal

pub returns-in_ok-credentials_of-in-Some : goal.returns-in_ok-credentials_of-in-Some
returns-in_ok-credentials_of-in-Some c =
    let users : c.args.self.now.users ≢ None = search rules in
    let shown : value_of (codes "authorization") c.args.head.now ≡ Some c.in-Some.value.now = search rules in
    login_shown c.args.self.now c.args.head.now c.in-Some.value.now c.in_ok-credentials_of-in-Some.field-0 users shown c.in_ok-credentials_of-in-Some.ensures
