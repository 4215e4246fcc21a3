use Rattle.std.proofs.Common.{refl}
use Rattle.dav_core.proofs.BufferLemmas.{drops_last, drops_none}
use Rattle.dav_core.proofs.davpath.reading.drop_last.Goals as goal

pub returns-in-Some : goal.returns-in-Some
returns-in-Some c = λ ps k.
    rw c.truncate.ensures.items (drops_last ps c.args.buf.now.items c.in-Some.i (rw c.deref.ensures.value at c.in-Some.ensures) k)

pub returns-in-None : goal.returns-in-None
returns-in-None c = λ ps k.
    (drops_none ps c.args.buf.now.items (rw c.deref.ensures.value at c.in-None.ensures) k, refl)
