use Rattle.std.proofs.Common.{◌≡◌, Err, sym, ap, subst, ◌∙◌}
use Rattle.std.proofs.lemmas.Result.{err_from_is_err_and}
use Rattle.dav_run.specs.declared.play.Fault.TheVariants.{NotScript}
use Rattle.dav_server.specs.Setup.{IsPrefix}
use Rattle.dav_server.specs.declared.davhandler.HandlerError.TheVariants.{BadPrefix}
use Rattle.dav_run.proofs.play.server_of.Goals as goal

pub returns-in_err-new-clause-bad : goal.returns-in_err-new-clause-bad
returns-in_err-new-clause-bad c = λ e fits.
    let p = err_from_is_err_and c.from_residual-in_err-new.result c.from_residual-in_err-new.ensures.1 in
    let is : p.0 ≡ NotScript = (let same = sym p.1 ∙ e in cc) in
    c.in_err-new.ensures.bad (ap Err (p.2.1.0 is)) (subst IsPrefix (sym c.deref.ensures) fits)

pub returns-clause-prefix : goal.returns-clause-prefix
returns-clause-prefix c = subst IsPrefix c.deref.ensures c.in_ok-new.ensures.prefix
