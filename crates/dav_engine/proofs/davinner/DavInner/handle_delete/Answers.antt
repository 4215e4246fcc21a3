use Rattle.dav_engine.specs.OnHandler.{caller_in}
use Rattle.dav_engine.specs.Follows.{served}
use Rattle.dav_engine.specs.Delete.{DeleteHeaders, AreDeleteHeaders, delete, is_delete}
use Rattle.dav_engine.proofs.ModelLemmas.{follows_for}
use Rattle.dav_engine.proofs.davinner.DavInner.handle_delete.Goals as goal

pub returns-clause-serves : goal.returns-clause-serves
returns-clause-serves g c =
    let request = c.args.request.now in
    let headers : DeleteHeaders = record { conditions = c.in_ok-conditions.conditions; depth = c.in_ok-depth.depth } in
    let reads : AreDeleteHeaders request.headers request.path headers = record { conditions = c.in_ok-conditions.ensures; depth = c.in_ok-depth.ensures } in
    served (delete headers request.path (caller_in c.args.self.now)) (is_delete headers reads) (follows_for (delete headers request.path) c.at-caller.ensures c.delete.ensures)
