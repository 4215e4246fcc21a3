use Rattle.std.specs.Vec.Iter.{into_iter_items}
use Rattle.std.proofs.Common.{All, List, ℕ}
use Rattle.dav_engine.specs.Caller.{Caller}
use Rattle.dav_engine.specs.Reply.{Reply}
use Rattle.dav_http.specs.Steps.{IsStepFor}
use Rattle.dav_server.specs.Server.{Server}
use Rattle.dav_limits.specs.Watches.{AreExact, IsNoted, IsPart}
use Rattle.dav_limits.proofs.watches.Noted.renewed.Given as goal

-- those so far are exact, and what is left was noted
abbrev pub invariant-loop-part : goal.invariant-loop-part
invariant-loop-part l =
    (head body : List ℕ) (who : Caller) (old : Server) (reply : Reply) → IsNoted old head l.fn.self → IsStepFor head body who old reply l.handler.server
    → AreExact l.handler.server l.list.items × All (IsPart old head l.asked) (into_iter_items l.part-iterator)
