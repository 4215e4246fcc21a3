use Rattle.dav_live.specs.Serving.{held_of, kept_of}
use Rattle.dav_kept.specs.Kept.{held_by}
use Rattle.dav_live.proofs.RunLemmas.{goes_on_left}
use Rattle.dav_live.proofs.ServingLemmas.{looked}
use Rattle.dav_live.proofs.service.Service.look.Goals as goal

pub returns-in-Ok-clause-run : goal.returns-in-Ok-clause-run
returns-in-Ok-clause-run g c =
    looked g.H.Handles.answers (held_of c.args.self.now) (held_by c.answer_safe.new.self) c.args.request.now c.answer_safe.new.response c.in-Ok.ensures.answered c.in-Ok.ensures.held

pub returns-in-Ok-clause-goes_on : goal.returns-in-Ok-clause-goes_on
returns-in-Ok-clause-goes_on g c =
    goes_on_left g.H.Handles.answers g.J.Keeps.is_clean g.J.Keeps.kept (kept_of c.args.self.now) c.answer_safe.new.self c.in-Ok.ensures.held c.in-Ok.ensures.stays c.in-Ok.ensures.journal
