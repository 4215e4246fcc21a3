use Rattle.dav_engine.proofs.CopyLemmas.{renamed, rename_refused}
use Rattle.dav_engine.proofs.RemovalLemmas.{err_by, ok_by}
use Rattle.dav_engine.proofs.methods.copy_move.copying.renaming.Goals as goal

pub returns-in-Ok-clause-ok : goal.returns-in-Ok-clause-ok
returns-in-Ok-clause-ok g c = renamed c.args.now c.args.source.now c.args.destination.now c.in-Ok.ensures

pub returns-in-Err-clause-ok : goal.returns-in-Err-clause-ok
returns-in-Err-clause-ok g c = ok_by c.refused.result (λ last h. rename_refused c.args.now c.args.source.now c.args.destination.now c.in-Err.ensures h) c.refused.ensures.ok

pub returns-in-Err-clause-err : goal.returns-in-Err-clause-err
returns-in-Err-clause-err g c = err_by c.refused.result (λ same. ((c.in-Err.e, c.in-Err.ensures), same)) c.refused.ensures.err
