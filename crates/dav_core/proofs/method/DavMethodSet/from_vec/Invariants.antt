use Rattle.std.proofs.Common.{take}
use Rattle.dav_core.specs.Method.{IsNamedSet, texts_of}
use Rattle.dav_core.proofs.method.DavMethodSet.from_vec.Given as goal

abbrev pub invariant-loop-name : goal.invariant-loop-name
invariant-loop-name l = IsNamedSet (texts_of (take l.name-index l.names)) l.set
