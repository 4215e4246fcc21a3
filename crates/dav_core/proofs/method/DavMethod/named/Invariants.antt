use Rattle.std.proofs.Common.{◌<◌}
use Rattle.dav_core.specs.declared.method.DavMethod.{DavMethod}
use Rattle.dav_core.specs.Method.{NamesMethod, place_of}
use Rattle.dav_core.proofs.method.DavMethod.named.Given as goal

abbrev pub invariant-loop-method : goal.invariant-loop-method
invariant-loop-method l = (m : DavMethod) → place_of m < l.method-index → ¬ (NamesMethod l.text m)
