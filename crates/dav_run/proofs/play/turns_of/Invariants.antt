use Rattle.std.proofs.Common.{◌≡◌, map, take}
use Rattle.dav_run.specs.Play.{turn_for}
use Rattle.dav_run.specs.Script.{script_request}
use Rattle.dav_run.proofs.play.turns_of.Given as goal

-- the steps so far are those of the requests so far
abbrev pub invariant-loop-request : goal.invariant-loop-request
invariant-loop-request l = l.steps.items ≡ map turn_for (map script_request (take l.request-index l.requests))
