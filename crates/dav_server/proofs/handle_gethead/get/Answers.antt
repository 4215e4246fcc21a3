use Rattle.std.proofs.Common.{refl, sym, ap, not, Some}
use Rattle.std.proofs.lemmas.Result.{err_from_is_err_and}
use Rattle.dav_core.specs.Path.{names}
use Rattle.dav_engine.proofs.Theorems.{follows_done, follows_ask, follows_out}
use Rattle.dav_server.specs.Get.{show_or_tell}
use Rattle.dav_server.proofs.GetLemmas.{get_stopped, get_goes}
use Rattle.dav_server.proofs.handle_gethead.get.Goals as goal

pub returns-in-Err : goal.returns-in-Err
returns-in-Err g c = follows_ask c.in-Err.ensures.asks (follows_done refl)

pub returns-then-is_dir : goal.returns-then-is_dir
returns-then-is_dir g c = follows_ask c.in-Ok.ensures.asks (follows_out _ _ _ (ap not (sym c.if-is_dir.ensures)) refl)

pub returns-in_err-status : goal.returns-in_err-status
returns-in_err-status g c =
    let p = err_from_is_err_and c.from_residual.result c.from_residual.ensures.1 in
    rw (p.1, p.2) (get_stopped c.args.request.now.method c.args.conditions.now (names c.args.request.now.path) c.args.now c.in-Ok.found _ _ c.in-Ok.ensures.asks (ap not (sym c.if-is_dir.ensures)) c.in_err-status.was c.if_match.ensures)

pub returns-in-Some : goal.returns-in-Some
returns-in-Some g c = get_goes c.args.request.now.method c.args.conditions.now (names c.args.request.now.path) c.args.now c.in-Ok.found _ _ (Some c.in-Some.status) c.in-Ok.ensures.asks (ap not (sym c.if-is_dir.ensures)) c.in_ok-status.was c.in-Some.is c.if_match.ensures (c.judged.ensures (show_or_tell c.args.request.now.method (names c.args.request.now.path) c.args.now c.in-Ok.found) _ _)

pub returns-in-None : goal.returns-in-None
returns-in-None g c = get_goes c.args.request.now.method c.args.conditions.now (names c.args.request.now.path) c.args.now c.in-Ok.found _ _ _ c.in-Ok.ensures.asks (ap not (sym c.if-is_dir.ensures)) c.in_ok-status.was c.in-None.is c.if_match.ensures (c.show_or_tell.ensures _)
