use Rattle.std.proofs.Common.{◌∙◌, [], sym, ap}
use Rattle.dav_engine.specs.Proppatch.{told_under}
use Rattle.dav_engine.proofs.GroupLemmas.{grouped_more}
use Rattle.dav_engine.proofs.methods.proppatch.changes.grouped.Goals as goal

pub loop-status-preserved : goal.loop-status-preserved
loop-status-preserved c =
    c.in_ok-tell_under.ensures ∙ ap (told_under c.in-Some.status c.in-Some.element) c.loop-status.invariant
    ∙ sym (grouped_more [] c.loop-status.yielded (c.in-Some.status, c.in-Some.element))
