use Rattle.std.proofs.Common.{refl, ap, Ok, Err}
use Rattle.std.proofs.lemmas.Result.{err_from_is_err_and}
use Rattle.dav_engine.proofs.PutLemmas.{told_same, stored_as}
use Rattle.dav_engine.proofs.Following.{follows_done, follows_ask, follows_then, follows_err, follows_up_to}
use Rattle.dav_engine.proofs.methods.put.store.Goals as goal

pub returns-in-Err : goal.returns-in-Err
returns-in-Err g c ls = follows_ask c.in-Err.ensures (follows_done (ap Err c.open_error.ensures))

pub returns-in_err-seek : goal.returns-in_err-seek
returns-in_err-seek g c ls =
    let p = err_from_is_err_and c.from_residual.result c.from_residual.ensures.1 in
    rw (p.1, p.2) (follows_ask c.in-Ok.ensures (follows_err _ _ (c.in_err-seek.ensures ls)))

pub returns-in_err-write : goal.returns-in_err-write
returns-in_err-write g c ls =
    let p = err_from_is_err_and c.from_residual-in_err-write.result c.from_residual-in_err-write.ensures.1 in
    rw (p.1, p.2) (follows_ask c.in-Ok.ensures (follows_then _ (c.in_ok-seek.ensures ls) (follows_err _ _ (c.in_err-write.ensures ls))))

pub returns-in-Err-flush : goal.returns-in-Err-flush
returns-in-Err-flush g c ls = follows_ask c.in-Ok.ensures (follows_then _ (c.in_ok-seek.ensures ls)
    (follows_then _ (c.in_ok-write.ensures ls) (follows_ask c.in-Err-flush.ensures.asks (follows_done refl))))

pub returns-in_err-stored : goal.returns-in_err-stored
returns-in_err-stored g c ls =
    let p = err_from_is_err_and c.from_residual-in_err-stored.result c.from_residual-in_err-stored.ensures.1 in
    rw (p.1, p.2) (follows_ask c.in-Ok.ensures (follows_then _ (c.in_ok-seek.ensures ls)
    (follows_then _ (c.in_ok-write.ensures ls) (follows_ask c.in-Ok-flush.ensures.asks (follows_ask (told_same c.in-Ok-flush.ensures.same c.file_metadata-after.ensures.asks) follows_up_to)))))

pub returns : goal.returns
returns g c ls = follows_ask c.in-Ok.ensures (follows_then _ (c.in_ok-seek.ensures ls)
    (follows_then _ (c.in_ok-write.ensures ls) (follows_ask c.in-Ok-flush.ensures.asks (follows_ask (told_same c.in-Ok-flush.ensures.same c.file_metadata-after.ensures.asks)
    (follows_done (ap Ok (stored_as _ _ _ c.in_ok-stored.ensures c.ok.ensures.value)))))))
