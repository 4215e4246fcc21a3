use Rattle.std.proofs.Common.{ap, sym, subst, ◌∙◌}
use Rattle.std.specs.Option.{option_copied}
use Rattle.dav_kept.specs.Records.{RequestView}
use Rattle.dav_live.specs.Serving.{admission_of, held_of, kept_of}
use Rattle.dav_live.proofs.RunLemmas.{goes_on_left}
use Rattle.dav_live.proofs.service.Service.look_by_rules.Goals as goal

pub returns-in-Ok-clause-looked : goal.returns-in-Ok-clause-looked
returns-in-Ok-clause-looked g c = (
  c.in-Some.rules.now,
  sym c.rules.ensures ∙ ap option_copied c.in-Some.is,
  subst (λ (v : RequestView). g.H.Ends.looks c.in-Some.rules.now (held_of c.args.self.now).state v c.ask.new.response)
      (c.request_in-request.ensures (admission_of c.args.self.now) (sym c.moment.ensures.is)) c.in-Ok.ensures.told,
)

pub returns-in-Ok-clause-goes_on : goal.returns-in-Ok-clause-goes_on
returns-in-Ok-clause-goes_on g c =
    goes_on_left g.H.Handles.answers g.J.Keeps.is_clean g.J.Keeps.kept (kept_of c.args.self.now) c.ask.new.self c.in-Ok.ensures.held c.in-Ok.ensures.stays c.in-Ok.ensures.journal
