use Rattle.std.proofs.Common.{◌≡◌, map, take}
use Rattle.dav_engine.specs.Multistatus.{response_for, multistatus}
use Rattle.dav_engine.proofs.reply.multistatus.multistatus.Given as goal

abbrev pub invariant-loop-item : goal.invariant-loop-item
invariant-loop-item l = l.element ≡ multistatus (map response_for (take l.item-index l.items))
