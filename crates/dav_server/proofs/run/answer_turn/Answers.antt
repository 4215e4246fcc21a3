use Rattle.std.proofs.Common.{ap, sym}
use Rattle.std.specs.Option.{is_some}
use Rattle.std.proofs.lemmas.Result.{on_ok_weaker, on_err_weaker}
use Rattle.dav_server.proofs.RunLemmas.{loaded_server, added_from, stops_from}
use Rattle.dav_server.proofs.run.answer_turn.Goals as goal

pub returns-clause-ok : goal.returns-clause-ok
returns-clause-ok c =
    let same = loaded_server c.handler.inside.fs c.load.new.self c.step.inside.refusals.items _ _ c.load.ensures.value (ap (λ h. h.server) c.handler.view_is) c.step.view_is in
    on_ok_weaker _ (added_from c.answer_next.new.handler.server c.args.replies.now.items c.answer_next.new.replies.items same (ap (λ t. t.asked) c.step.view_is)) c.answer_next.ensures.ok

pub returns-clause-cut : goal.returns-clause-cut
returns-clause-cut c =
    let same = loaded_server c.handler.inside.fs c.load.new.self c.step.inside.refusals.items _ _ c.load.ensures.value (ap (λ h. h.server) c.handler.view_is) c.step.view_is in
    on_err_weaker _ (stops_from c.answer_next.new.handler.server same (ap (λ t. t.asked) c.step.view_is)) c.answer_next.ensures.cut

pub returns-clause-loaded : goal.returns-clause-loaded
returns-clause-loaded c = sym (ap (λ t. is_some t.refusals) c.step.view_is)
