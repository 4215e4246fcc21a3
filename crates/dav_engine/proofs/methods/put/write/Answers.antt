use Rattle.std.proofs.Common.{refl, sym}
use Rattle.std.proofs.lemmas.Result.{err_from_is_err_and}
use Rattle.dav_engine.proofs.PutLemmas.{written_none, written_some}
use Rattle.dav_engine.proofs.Following.{follows_up_to}
use Rattle.dav_engine.proofs.methods.put.write.Goals as goal

pub returns-then-is_empty : goal.returns-then-is_empty
returns-then-is_empty g c ls = written_none _ _ _ (sym c.if-is_empty.ensures) refl

pub returns-in_err-clone : goal.returns-in_err-clone
returns-in_err-clone g c ls =
    let p = err_from_is_err_and c.from_residual.result c.from_residual.ensures.1 in
    rw (p.1, p.2) follows_up_to

pub returns-in-Ok : goal.returns-in-Ok
returns-in-Ok g c ls = written_some _ _ _ _ _ (sym c.if-is_empty.ensures) c.in_ok-clone.ensures.cases c.in-Ok.ensures.asks refl

pub returns-in-Err : goal.returns-in-Err
returns-in-Err g c ls = written_some _ _ _ _ _ (sym c.if-is_empty.ensures) c.in_ok-clone.ensures.cases c.in-Err.ensures.asks refl
