use Rattle.dav_live.specs.Serving.{kept_of}
use Rattle.dav_live.proofs.RunLemmas.{no_more_runs}
use Rattle.dav_live.proofs.service.Service.begin.Goals as goal

pub returns-in-Ok-clause-run : goal.returns-in-Ok-clause-run
returns-in-Ok-clause-run g c =
    λ first start blocks opened since numbered clean.
    no_more_runs g.H.Handles.answers g.H.Handles.saved g.H.Handles.is_saveable g.J.Keeps.is_clean g.J.Keeps.kept (kept_of c.make_ready.new.self) (kept_of c.shorten.new.self) c.in-Ok.ensures.keeps clean
    first since.all.records (c.in_ok-make_ready.ensures.run first start blocks opened since numbered (c.in-Ok.ensures.clean clean))
