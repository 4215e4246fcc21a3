use Rattle.dav_engine.proofs.CopyLemmas.{file_copied, file_told}
use Rattle.dav_engine.proofs.methods.copy_move.copying.copy_file.Goals as goal

pub returns-in-Ok : goal.returns-in-Ok
returns-in-Ok g c = file_copied c.args.job.now.moment c.args.job.now.source.now c.args.job.now.destination.now c.in-Ok.ensures

pub returns-in-Err : goal.returns-in-Err
returns-in-Err g c = file_told c.args.job.now.moment c.args.job.now.source.now c.args.job.now.destination.now c.refused.result _ _ c.in-Err.ensures c.refused.ensures.ok c.refused.ensures.err
