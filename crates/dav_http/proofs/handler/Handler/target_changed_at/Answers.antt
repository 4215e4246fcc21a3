use Rattle.std.proofs.Common.{ap, ◌∙◌}
use Rattle.std.proofs.lemmas.Result.{IfOk-weaker}
use Rattle.dav_http.proofs.RefusedLemmas.{tells_change_by, tells_none_by}
use Rattle.dav_http.proofs.handler.Handler.target_changed_at.Goals as goal

pub returns-in-Ok-path_of : goal.returns-in-Ok-path_of
returns-in-Ok-path_of c =
    tells_change_by c.args.self.now.server c.args.head.now c.in-Ok.method c.method.result.now c.prefix.result.now c.target.result.now c.method.ensures
    (c.prefix.ensures ∙ ap (λ h. h.server.settings.prefix) c.self.view_is) c.target.ensures c.in-Ok.ensures c.in-Ok-path_of.path c.in-Ok-path_of.ensures.path c.changed_at.result c.changed_at.ensures

pub returns-in-Err : goal.returns-in-Err
returns-in-Err c =
    IfOk-weaker c.never.result _ _
    (λ at is.
    tells_none_by c.args.self.now.server c.args.head.now c.in-Ok.method c.method.result.now c.prefix.result.now c.target.result.now c.method.ensures
    (c.prefix.ensures ∙ ap (λ h. h.server.settings.prefix) c.self.view_is) c.target.ensures c.in-Ok.ensures c.in-Err.error c.in-Err.ensures.path is.1 at is.0)
    c.never.ensures
