use Rattle.std.proofs.Common.{refl, Ok, Err}
use Rattle.std.specs.Prelude.{alloc_error}
use Rattle.std.proofs.lemmas.Result.{err_from_is_err_and}
use Rattle.dav_engine.proofs.CutWalks.{cut_behind}
use Rattle.dav_engine.proofs.methods.copy_move.move_items.Goals as goal

pub returns-in_err-last : goal.returns-in_err-last
returns-in_err-last g c =
    let p = err_from_is_err_and c.from_residual.result c.from_residual.ensures.1 in
    rw (p.1, p.2) record { last = Err alloc_error; walks = cut_behind c.in_err-last.ensures.err.0.1 c.in_err-last.ensures.err.1; result_is = refl }

pub returns : goal.returns
returns g c = record { last = Ok c.in_ok-last.last; walks = c.in_ok-last.ensures.ok; result_is = c.result_of.ensures }
