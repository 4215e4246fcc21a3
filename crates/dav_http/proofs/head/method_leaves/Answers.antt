use Rattle.std.proofs.Common.{refl}
use Rattle.dav_http.proofs.LeavesLemmas.{leaves_by, leaves_unserved}
use Rattle.dav_http.proofs.head.method_leaves.Goals as goal

pub returns-in-Ok : goal.returns-in-Ok
returns-in-Ok c = λ head r is named. leaves_by head c.args.method.now r c.args.reply.now is named c.in-Ok.known c.is_safe.result c.is_early_error.result c.in-Ok.ensures c.is_safe.ensures c.is_early_error.ensures

pub returns-in-Err : goal.returns-in-Err
returns-in-Err c = λ head r is named. (λ _. leaves_unserved head c.args.method.now r c.args.reply.now is named _ c.in-Err.ensures, λ _. refl)
