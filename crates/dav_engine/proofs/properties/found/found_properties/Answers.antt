use Rattle.std.proofs.Common.{◌≡◌, drop, ◌+◌, [], ◌++◌, refl, sym, ap, ◌∙◌}
use Rattle.std.proofs.lemmas.List.{append-nil, drop_all}
use Rattle.std.proofs.lemmas.Result.{err_from_is_err_and}
use Rattle.dav_headers.proofs.Theorems.{drop_turn}
use Rattle.dav_engine.specs.Follows.{followed, gave_up}
use Rattle.dav_engine.specs.Properties.{with_found}
use Rattle.dav_engine.proofs.FoundLemmas.{rest_found, one_stopped, behind_stopped, all_found}
use Rattle.dav_engine.proofs.PartLemmas.{gave, stopped}
use Rattle.dav_engine.proofs.properties.found.found_properties.Goals.{in-Some+in_ok-push, in_default}
use Rattle.dav_engine.proofs.properties.found.found_properties.Goals as goal

pub returns-in_err-one : goal.returns-in_err-one
returns-in_err-one g c =
    let es = c.args.properties.now in
    let i = c.loop-property.property-index in
    let e = c.property-item.result in
    let p = err_from_is_err_and c.from_residual.result c.from_residual.ensures.1 in
    rw p.1 (gave_up refl (one_stopped c.args.writer.now c.args.resource.path.now c.args.resource.meta.now _ es (drop (i + 1) es) (drop i es) c.loop-property.found.items e _ _
    (drop_turn es i e c.loop-property-test.true c.property-item.is) (stopped c.in_err-one.ensures) c.loop-property.invariant))

pub returns-in_err-push : goal.returns-in_err-push
returns-in_err-push g c =
    let es = c.args.properties.now in
    let i = c.loop-property.property-index in
    let e = c.property-item.result in
    let p = err_from_is_err_and c.from_residual-in_err-push.result c.from_residual-in_err-push.ensures.1 in
    rw p.1 (gave_up refl (behind_stopped c.args.writer.now c.args.resource.path.now c.args.resource.meta.now _ es (drop (i + 1) es) (drop i es) c.loop-property.found.items e _ _ _ _
    (drop_turn es i e c.loop-property-test.true c.property-item.is) (gave c.in_ok-one.ensures) c.loop-property.invariant))

pub loop-property-preserved : goal.loop-property-preserved
loop-property-preserved g c =
    let es = c.args.properties.now in
    let i = c.loop-property.property-index in
    let e = c.property-item.result in
    let more : c.match-one.found.items ≡ c.loop-property.found.items ++ with_found c.in_ok-one.one [] = elim c.match-one.branch [
      | in-Some+in_ok-push w ↦ rw w.in-Some.is (ap (λ v. v.items) w.found-is ∙ w.in_ok-push.ensures.items)
      | in_default w ↦ rw w.in_default.is (ap (λ v. v.items) w.found-is ∙ sym (append-nil c.loop-property.found.items))
    ] in
    rest_found c.args.writer.now c.args.resource.path.now c.args.resource.meta.now _ es (drop (i + 1) es) (drop i es) c.loop-property.found.items _ e _ _ _ c.in_ok-one.one
    (drop_turn es i e c.loop-property-test.true c.property-item.is) more (gave c.in_ok-one.ensures) c.loop-property.invariant

pub returns : goal.returns
returns g c =
    let es = c.args.properties.now in
    let i = c.loop-property.property-index in
    followed (all_found c.args.writer.now c.args.resource.path.now c.args.resource.meta.now _ es (drop i es) c.loop-property.found.items _ _ (drop_all i es c.loop-property-test.false) c.loop-property.invariant)
