use Rattle.std.proofs.Common.{refl, ap, true, false, Ok, Err}
use Rattle.std.specs.Prelude.{alloc_error}
use Rattle.std.proofs.lemmas.Result.{err_from_is_err_and}
use Rattle.dav_engine.proofs.methods.delete.delete_items.Goals as goal

pub returns-in_err-removal : goal.returns-in_err-removal
returns-in_err-removal g c =
    let p = err_from_is_err_and c.from_residual.result c.from_residual.ensures.1 in
    rw (p.1, p.2, ← c.reach_at-reach.ensures) record { clean = Err alloc_error; walks = c.in_err-removal.ensures; result_is = refl }

pub returns-then-branch : goal.returns-then-branch
returns-then-branch g c =
    rw (← c.reach_at-reach.ensures) record { clean = Ok true; walks = rw c.if-branch.true at c.in_ok-removal.ensures; result_is = refl }

pub returns : goal.returns
returns g c =
    rw (← c.reach_at-reach.ensures) record { clean = Ok false; walks = rw c.if-branch.false at c.in_ok-removal.ensures; result_is = ap Err c.last_error.ensures }
