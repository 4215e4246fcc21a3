use Rattle.dav_core.specs.Path.{names}
use Rattle.dav_engine.specs.OnHandler.{caller_in}
use Rattle.dav_engine.specs.Follows.{served}
use Rattle.dav_engine.specs.Put.{bytes_of_body, is_put}
use Rattle.dav_engine.proofs.PutLemmas.{put_body_goes, put_body_ends}
use Rattle.dav_engine.proofs.davinner.DavInner.handle_put.Goals as goal

pub returns-in-Some-clause-serves : goal.returns-in-Some-clause-serves
returns-in-Some-clause-serves g c =
    served _ (is_put _ c.in_ok-headers.ensures)
    (put_body_goes c.args.request.now.method c.in_ok-headers.headers (names c.args.request.now.path) (caller_in c.args.self.now) (bytes_of_body c.args.body.now) _ c.in-Some.ensures c.put.ensures.plan)

pub returns-clause-serves : goal.returns-clause-serves
returns-clause-serves g c =
    served _ (is_put _ c.in_ok-headers.ensures)
    (put_body_ends c.args.request.now.method c.in_ok-headers.headers (names c.args.request.now.path) (caller_in c.args.self.now) (bytes_of_body c.args.body.now) c.in-None.ensures)
