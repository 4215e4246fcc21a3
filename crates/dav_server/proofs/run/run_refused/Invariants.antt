use Rattle.std.proofs.Common.{◌≡◌, ◌++◌}
use Rattle.dav_server.specs.Isolation.{AreLoaded}
use Rattle.dav_server.specs.Server.{AnswersAll}
use Rattle.dav_server.specs.TagLaws.{MomentsAreDates}
use Rattle.dav_server.proofs.run.run_refused.Given as goal

-- the replies so far are those of a run of the steps so far, and the rest is to come
abbrev pub invariant-loop-step : goal.invariant-loop-step
invariant-loop-step l =
    (l.handler.server.settings ≡ l.fn.handler.server.settings)
    × AnswersAll l.fn.handler.server l.yielded l.replies.items l.handler.server
    × MomentsAreDates l.yielded
    × (l.fn.steps.items ≡ l.yielded ++ l.step-iterator.rest.items)
    × AreLoaded l.yielded
