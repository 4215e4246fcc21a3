use Rattle.std.proofs.Common.{refl, ap, Ok}
use Rattle.std.proofs.lemmas.Result.{err_from_is_err_and}
use Rattle.dav_engine.proofs.Theorems.{follows_done, follows_ask, follows_up_to}
use Rattle.dav_server.proofs.handle_gethead.show.Goals as goal

pub returns-in-Err : goal.returns-in-Err
returns-in-Err g c ls = follows_ask c.in-Err.ensures (follows_done refl)

pub returns-in-Err-read_bytes : goal.returns-in-Err-read_bytes
returns-in-Err-read_bytes g c ls = follows_ask c.in-Ok.ensures (follows_ask c.in-Err-read_bytes.ensures.asks (follows_done refl))

pub returns-in_err-shown : goal.returns-in_err-shown
returns-in_err-shown g c ls =
    let p = err_from_is_err_and c.from_residual.result c.from_residual.ensures.1 in
    rw (p.1, p.2) (follows_ask c.in-Ok.ensures (follows_ask c.in-Ok-read_bytes.ensures.asks follows_up_to))

pub returns : goal.returns
returns g c ls = follows_ask c.in-Ok.ensures (follows_ask c.in-Ok-read_bytes.ensures.asks (follows_done (ap Ok c.in_ok-shown.ensures)))
