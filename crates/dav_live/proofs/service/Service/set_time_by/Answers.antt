use Rattle.std.proofs.Common.{List, None, ap, subst, ℕ, ◌∙◌}
use Rattle.std.specs.Option.{option_copied}
use Rattle.dav_kept.specs.Records.{RequestView}
use Rattle.dav_live.specs.Serving.{IsRun, held_of}
use Rattle.dav_live.proofs.service.Service.set_time_by.Goals as goal

pub returns-clause-set : goal.returns-clause-set
returns-clause-set g c = (
  c.change.new.response,
  subst (λ (q : RequestView). IsRun g.H.Handles.answers (held_of c.args.self.now) q c.change.new.response (held_of c.change.new.self))
      (c.request_of-own.ensures
      ∙ ap (λ (h : List ℕ). record { moment = c.args.moment; principal = option_copied c.args.principal; token = None; head = h; body = c.args.set.now.body }) c.deref.ensures.value)
      c.in_ok-change.ensures.run,
  record { fields = c.in_ok-add_accepted.ensures.fields; status = c.in_ok-add_accepted.ensures.status; body = c.in_ok-add_accepted.ensures.body },
)
