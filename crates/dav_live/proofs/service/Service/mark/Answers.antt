use Rattle.dav_live.specs.Serving.{kept_of}
use Rattle.dav_live.proofs.RunLemmas.{kept_then}
use Rattle.dav_live.proofs.ServingLemmas.{on_ok}
use Rattle.dav_live.proofs.service.Service.mark.Goals as goal

pub returns : goal.returns
returns g c = on_ok c.keep_mark.result (λ keeps. record {
  same = c.in_ok-shorten.ensures.same;
  logins = c.in_ok-shorten.ensures.logins;
  keeps = kept_then g.H.Handles.answers g.H.Handles.saved g.H.Handles.is_saveable g.J.Keeps.is_clean g.J.Keeps.kept (kept_of c.args.self.now) (kept_of c.shorten.new.self) c.keep_mark.new.self c.in_ok-shorten.ensures.keeps (record {
    held = c.keep_mark.ensures.held;
    stays = c.keep_mark.ensures.stays;
    clean = c.keep_mark.ensures.clean;
    keeps = keeps;
  });
}) c.keep_mark.ensures.kept
