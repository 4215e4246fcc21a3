use Rattle.std.proofs.Common.{ap, inl, rules, ◌∙◌}
use Rattle.dav_live.specs.Admission.{AdmissionView, after_clocks}
use Rattle.dav_live.specs.Serving.{kept_of}
use Rattle.dav_live.proofs.RunLemmas.{goes_on_same}
use Rattle.dav_live.proofs.ServingLemmas.{passed_later}
use Rattle.dav_live.proofs.service.hearing.ServiceKeeper.hear_clocks.Goals as goal

pub returns-then-hear_clocks : goal.returns-then-hear_clocks
returns-then-hear_clocks g c =
    passed_later g.H.Handles.answers g.J.Keeps.is_clean g.J.Keeps.kept g.H.Ends.ends c.end_locks.result c.args.self.now c.look_at_date.new.self c.end_locks.new.self c.args.seconds c.args.date
    c.hear_clocks.new.self c.in_ok-look_at_date.ensures.same c.in_ok-look_at_date.ensures.logins c.hear_clocks.ensures.clocks c.end_locks.ensures.ended c.end_locks.ensures.same
    c.end_locks.ensures.logins c.end_locks.ensures.goes_on

pub returns-else-hear_clocks : goal.returns-else-hear_clocks
returns-else-hear_clocks g c =
    let stays = c.in_ok-look_at_date.ensures.same in
    record {
      clocks = c.hear_clocks.ensures.clocks ∙ ap (λ (v : AdmissionView). after_clocks v c.args.seconds c.args.date) stays.0;
      logins = c.in_ok-look_at_date.ensures.logins;
      ended = inl (c.hear_clocks.ensures.still (search rules) ∙ ap (λ (v : AdmissionView). v.moment) stays.0, stays.1);
      goes_on = goes_on_same g.H.Handles.answers g.J.Keeps.is_clean g.J.Keeps.kept (kept_of c.args.self.now) (kept_of c.look_at_date.new.self) stays.1;
    }
