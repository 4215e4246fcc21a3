use Rattle.dav_live.proofs.RunLemmas.{begun}
use Rattle.dav_kept.specs.Kept.{journal_of}
use Rattle.dav_live.proofs.service.Service.make_ready.Goals as goal

pub returns-in-Ok-clause-run : goal.returns-in-Ok-clause-run
returns-in-Ok-clause-run g c =
    λ first start blocks opened since numbered clean.
    begun g.H.Handles.answers g.H.Handles.saved g.H.Handles.is_saveable g.H.Handles.loads g.J.Keeps.kept g.J.Keeps.has_read (g.J.Keeps.is_clean (journal_of c.begin.new.self)) c.args.self.now.kept c.begin.new.self c.in-Ok.field-0
    first start blocks opened since numbered c.in-Ok.ensures.held c.in-Ok.ensures.preface (λ fresh is read. c.in-Ok.ensures.first fresh is read) c.in-Ok.ensures.again clean
