use Rattle.std.proofs.Common.{Err, subst}
use Rattle.dav_server.specs.TargetCode.{GivesPath}
use Rattle.dav_confined.proofs.ReadingLemmas.{none_given}
use Rattle.dav_confined.proofs.reading.target_in.Goals as goal

pub returns-in-Err : goal.returns-in-Err
returns-in-Err c =
    none_given c.args.prefix.now c.args.target.now c.args.method c.in-Err.error c.never.result
    (subst (GivesPath c.args.prefix.now c.args.method c.args.target.now) c.in-Err.is c.path_of.ensures.path) c.never.ensures
