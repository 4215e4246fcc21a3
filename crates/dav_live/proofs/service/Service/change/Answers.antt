use Rattle.std.proofs.Common.{◌≡◌, refl, rules}
use Rattle.dav_kept.specs.Kept.{held_by}
use Rattle.dav_kept.proofs.KeptLemmas.{of_some}
use Rattle.dav_live.specs.Serving.{answered, held_of, kept_of}
use Rattle.dav_live.proofs.RunLemmas.{answered_goes_on, goes_on_held, goes_on_same}
use Rattle.dav_live.proofs.service.Service.change.Goals as goal

pub returns-then-not-branch-clause-goes_on : goal.returns-then-not-branch-clause-goes_on
returns-then-not-branch-clause-goes_on g c = goes_on_same g.H.Handles.answers g.J.Keeps.is_clean g.J.Keeps.kept (kept_of c.args.self.now) c.args.self.now.kept refl

pub returns-in-Ok-Some-clause-run : goal.returns-in-Ok-Some-clause-run
returns-in-Ok-Some-clause-run g c =
    let is = of_some _ _ c.in-Ok-Some.field-0 c.in-Ok-Some.field-0-0 c.in-Ok-Some.field-0-is c.in-Ok-Some.ensures.answered in
    answered c.in-Ok-Some.field-0-0 is

pub returns-in-Ok-Some-clause-goes_on : goal.returns-in-Ok-Some-clause-goes_on
returns-in-Ok-Some-clause-goes_on g c =
    let is = of_some _ _ c.in-Ok-Some.field-0 c.in-Ok-Some.field-0-0 c.in-Ok-Some.field-0-is c.in-Ok-Some.ensures.answered in
    answered_goes_on g.H.Handles.answers g.J.Keeps.is_clean g.J.Keeps.kept (kept_of c.args.self.now) c.answer.new.self c.args.request.now c.answer.new.response
    c.in-Ok-Some.field-0-0 is c.see_record.ensures c.requires.number c.in-Ok-Some.ensures.stays c.answer.ensures.clean c.in-Ok-Some.ensures.kept

pub returns-in_ok-fill_full-in-Ok-None-clause-goes_on : goal.returns-in_ok-fill_full-in-Ok-None-clause-goes_on
returns-in_ok-fill_full-in-Ok-None-clause-goes_on g c =
    let held : held_by c.answer.new.self ≡ held_of c.args.self.now = search rules in
    goes_on_held g.H.Handles.answers g.J.Keeps.is_clean g.J.Keeps.kept (kept_of c.args.self.now) c.answer.new.self held c.in-Ok-None.ensures.stays c.answer.ensures.clean c.in-Ok-None.ensures.kept
