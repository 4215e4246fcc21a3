use Rattle.std.proofs.Common.{◌≡◌, ◌∙◌, Some, ap, sym}
use Rattle.std.specs.Option.{option_copied}
use Rattle.dav_kept.specs.Records.{RequestView}
use Rattle.dav_server.specs.Server.{Server}
use Rattle.dav_live.proofs.MachineLemmas.{may_by_result}
use Rattle.dav_live.proofs.machine.Machine.may_unlock.Goals as goal

pub returns : goal.returns
returns c =
    let locks : c.args.self.now.state.locks ≡ Some c.in-Some.locks.now =
    sym (ap (λ (s : Server). s.state.locks) c.self.view_is) ∙ sym c.locks.ensures ∙ ap option_copied c.in-Some.is in
    let prefix : c.args.self.now.settings.prefix ≡ c.prefix-prefix.result.now = sym (ap (λ (s : Server). s.settings.prefix) c.self.view_is) ∙ sym c.prefix-prefix.ensures in
    may_by_result c.args.rules.now c.args.self.now c.args.request.now c.in-Some.locks.now c.may_unlock.result locks
    (λ x head who. c.may_unlock.ensures c.args.self.now.settings x prefix (head ∙ sym (ap (λ (q : RequestView). q.head) c.request.view_is))
    (who ∙ sym (ap (λ (q : RequestView). q.principal) c.request.view_is)))
