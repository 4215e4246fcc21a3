use Rattle.std.proofs.Common.{ap, ◌∙◌}
use Rattle.std.proofs.lemmas.Result.{IfOk-weaker}
use Rattle.dav_http.proofs.RefusedLemmas.{crowded_at, crowded_nowhere}
use Rattle.dav_http.proofs.handler.Handler.is_crowded_by.Goals as goal

pub returns-in-Ok : goal.returns-in-Ok
returns-in-Ok c =
    IfOk-weaker c.is_crowded_at.result _ _
    (λ is decides.
    crowded_at c.args.self.now.server c.args.head.now c.args.body.now c.requires c.prefix.result.now c.target.result.now
    (c.prefix.ensures ∙ ap (λ h. h.server.settings.prefix) c.self.view_is) c.target.ensures c.in-Ok.path c.in-Ok.ensures.path is decides)
    c.is_crowded_at.ensures

pub returns-in-Err : goal.returns-in-Err
returns-in-Err c =
    IfOk-weaker c.nowhere.result _ _
    (λ is never.
    crowded_nowhere c.args.self.now.server c.args.head.now c.args.body.now c.requires c.prefix.result.now c.target.result.now
    (c.prefix.ensures ∙ ap (λ h. h.server.settings.prefix) c.self.view_is) c.target.ensures c.in-Err.error c.in-Err.ensures.path never.1 is never.0)
    c.nowhere.ensures
