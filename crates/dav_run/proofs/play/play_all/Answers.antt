use Rattle.std.proofs.Common.{List, map, inr, refl, ap, ◌∙◌}
use Rattle.dav_run.specs.Print.{lines_of}
use Rattle.dav_run.specs.Play.{turn_for}
use Rattle.dav_run.specs.Script.{script_request}
use Rattle.dav_run.specs.declared.request.Request as request
use Rattle.dav_run.proofs.Played.{some_set_up}
use Rattle.dav_run.proofs.play.play_all.Goals as goal

pub returns-clause-short : goal.returns-clause-short
returns-clause-short g c = λ is.
    let set_up = c.in_ok-handler.ensures in
    let (replies, some, wrote) = c.play_turns.ensures.short is in
    let turns = c.in_ok-steps.ensures ∙ ap (λ (l : List request.Request). map turn_for (map script_request l)) c.deref.ensures.value in
    (lines_of replies, inr (set_up.prefix, (replies, some_set_up replies set_up.settings set_up.state turns some, refl)), wrote)
