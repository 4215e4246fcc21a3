use Rattle.std.proofs.Common.{map, take}
use Rattle.dav_core.specs.Locks.{Lock}
use Rattle.dav_server.specs.Isolation.{HolderTurns}
use Rattle.dav_run.specs.Play.{MayBeGranted, turn_for}
use Rattle.dav_run.specs.Script.{script_request}
use Rattle.dav_run.proofs.play.own_steps.Given as goal

-- the steps so far are those of the requests so far that name the token
abbrev pub invariant-loop-request : goal.invariant-loop-request
invariant-loop-request l =
    (h : Lock) → MayBeGranted (turn_for (script_request l.grant)) h → HolderTurns h (map turn_for (map script_request (take l.request-index l.requests))) l.steps.items
