use Rattle.std.proofs.Common.{◌≡◌, map, take}
use Rattle.dav_core.specs.Method.{method_name}
use Rattle.dav_engine.specs.Options.{offered}
use Rattle.dav_engine.proofs.methods.options.names_of.Given as goal

-- the names of those that were passed
abbrev pub invariant-loop-method : goal.invariant-loop-method
invariant-loop-method l = map (λ name. name.now) l.names.items ≡ map method_name (offered l.allow l.locks (take l.method-index l.methods))
