use Rattle.std.proofs.Common.{◌≡◌, ◌++◌, ◌∷◌, [], List, Some, None, ap, sym, ◌∙◌, subst, map}
use Rattle.std.proofs.lemmas.List.{map_push}
use Rattle.dav_headers.specs.IfTokens.{Token}
use Rattle.dav_headers.specs.IfParts.{part_view}
use Rattle.dav_headers.specs.IfWritten.{with_front}
use Rattle.dav_headers.specs.IfTexts.{condition_view, StepsAs}
use Rattle.dav_headers.proofs.IfListLemmas.{from, step_more, step_end, read_on, read_end, within}
use Rattle.dav_headers.proofs.if_header.written.conditions_of.Goals as goal

pub returns-in_default-clause-none : goal.returns-in_default-clause-none
returns-in_default-clause-none c = λ e.
    let P : List Token → Type 0 = λ x. StepsAs x None in
    let none = subst P (from part_view c.conditions.at c.args.parts.now c.conditions.invariant.0) c.in_default.ensures in
    sym c.conditions.invariant.1 ∙ ap (with_front _) none

pub conditions-preserved : goal.conditions-preserved
conditions-preserved c =
    let P : List Token → Type 0 = λ x. StepsAs x (Some (c.in-Some.condition, c.in-Some.n)) in
    let here = subst P (from part_view c.conditions.at c.args.parts.now c.conditions.invariant.0) c.in-Some.ensures in
    let step = step_more _ _ _ _ here c.in-Some-condition.is in
    let items : map condition_view c.push.new.self.items ≡ map condition_view c.conditions.found.items ++ condition_view c.in-Some-condition.condition ∷ [] = ap (map condition_view) c.in_ok-push-in-Some-condition.ensures.items ∙ map_push condition_view _ _ in (
      within c.args.parts.now c.conditions.at c.in-Some.n c.conditions.invariant.0 step.1,
      rw items (read_on _ c.conditions.at c.in-Some.n _ _ c.conditions.invariant.1 step.2),
    )

pub returns-in-None-clause-found : goal.returns-in-None-clause-found
returns-in-None-clause-found c =
    let P : List Token → Type 0 = λ x. StepsAs x (Some (c.in-Some.condition, c.in-Some.n)) in
    let here = subst P (from part_view c.conditions.at c.args.parts.now c.conditions.invariant.0) c.in-Some.ensures in
    let step = step_end _ _ _ here c.in-None.is in
    (within c.args.parts.now c.conditions.at c.in-Some.n c.conditions.invariant.0 step.1, read_end _ c.conditions.at c.in-Some.n _ c.conditions.invariant.1 step.2)
