use Rattle.std.proofs.Common.{sym}
use Rattle.dav_core.specs.Path.{names_of}
use Rattle.dav_core.specs.PathRef.{ref_bytes}
use Rattle.dav_core.proofs.LoopLemmas.{no_last}
use Rattle.dav_core.proofs.davpath.DavPathRef.file_name.Goals as goal

pub returns-in_default : goal.returns-in_default
returns-in_default c = λ w. w.0 (no_last (names_of (ref_bytes c.args.self)) (sym c.in_default.ensures))
