use Rattle.std.proofs.Common.{List, Option, map}
use Rattle.std.specs.Option.{option_map}
use Rattle.std.proofs.lemmas.Result.{err_from_is_err_and}
use Rattle.dav_engine.specs.Follows.{served}
use Rattle.dav_engine.specs.Conditions.{Addressed}
use Rattle.dav_engine.specs.ConditionView.{list_of, is_dav_if}
use Rattle.dav_engine.proofs.VerdictLemmas.{dav_plan, dav_stopped, dav_uncopied, dav_answered}
use Rattle.dav_engine.proofs.conditions.dav_if_match.Goals as goal

pub returns-in_err-holds : goal.returns-in_err-holds
returns-in_err-holds g c =
    let lists : Option (List Addressed) = option_map (λ l. map list_of l.items) c.in_ok-lists.lists in
    let p = err_from_is_err_and c.from_residual-in_err-holds.result c.from_residual-in_err-holds.ensures.1 in
    rw p.1 (served (dav_plan lists) (is_dav_if lists c.in_ok-lists.ensures) (dav_stopped lists c.in_err-holds.ensures))

pub returns-in_err-submitted : goal.returns-in_err-submitted
returns-in_err-submitted g c =
    let lists : Option (List Addressed) = option_map (λ l. map list_of l.items) c.in_ok-lists.lists in
    let p = err_from_is_err_and c.from_residual-in_err-submitted.result c.from_residual-in_err-submitted.ensures.1 in
    rw p.1 (served (dav_plan lists) (is_dav_if lists c.in_ok-lists.ensures) (dav_uncopied lists c.in_ok-holds.holds c.in_ok-holds.ensures))

pub returns : goal.returns
returns g c =
    let lists : Option (List Addressed) = option_map (λ l. map list_of l.items) c.in_ok-lists.lists in
    served (dav_plan lists) (is_dav_if lists c.in_ok-lists.ensures) (dav_answered lists c.in_ok-holds.holds c.in_ok-submitted.field-0 c.in_ok-submitted.ensures c.in_ok-holds.ensures)
