use Rattle.std.proofs.Common.{◌≡◌, ◌++◌, List}
use Rattle.std.specs.Io.KnownBytes.{Appends}
use Rattle.dav_engine.specs.Reply.{Reply}
use Rattle.dav_server.specs.Server.{AnswersAll}
use Rattle.dav_run.specs.Print.{lines_of}
use Rattle.dav_run.proofs.play.play_turns.Given as goal

-- the replies to the steps so far were written, and the rest is to come
abbrev pub invariant-loop-step : goal.invariant-loop-step
invariant-loop-step g l =
    (l.handler.server.settings ≡ l.fn.handler.server.settings)
    × ((replies : List Reply) × AnswersAll l.fn.handler.server l.yielded replies l.handler.server
    × Appends (g.W.Write.contents l.initial.writer) (g.W.Write.contents l.writer) (lines_of replies))
    × (l.fn.steps.items ≡ l.yielded ++ l.step-iterator.rest.items)
