use Rattle.std.proofs.Common.{◌≡◌, ◌++◌, map, take}
use Rattle.dav_engine.specs.Properties.{asked_property}
use Rattle.dav_engine.proofs.properties.kind.add_asked.Given as goal

abbrev pub invariant-loop-name : goal.invariant-loop-name
invariant-loop-name l = l.list.items ≡ l.fn.list.items ++ map (λ name. asked_property l.prefix l.space name.now) (take l.name-index l.names)
