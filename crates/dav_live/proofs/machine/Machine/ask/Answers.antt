use Rattle.std.proofs.Common.{◌∙◌}
use Rattle.dav_live.proofs.machine.Machine.ask.Goals as goal

pub returns-clause-left : goal.returns-clause-left
returns-clause-left c leaves = c.in_ok-reply.ensures.left leaves ∙ c.self.view_is ∙ c.see_told.ensures
