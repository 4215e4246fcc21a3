use Rattle.std.proofs.Common.{refl, ap, ◌∙◌}
use Rattle.std.proofs.lemmas.Result.{err_from_is_err_and}
use Rattle.dav_engine.specs.Follows.{gave_up}
use Rattle.dav_engine.specs.Properties.{Writer}
use Rattle.dav_engine.specs.PropertyView.{groups_in}
use Rattle.dav_engine.proofs.FoundLemmas.{response_stopped, kept_cut, response_cut, response_told}
use Rattle.dav_engine.proofs.PartLemmas.{gave, stopped, gave_any, gives_if}
use Rattle.dav_engine.proofs.properties.found.response_of.Goals as goal

pub returns-in_err-found : goal.returns-in_err-found
returns-in_err-found g c =
    let same = c.deref.ensures.value ∙ ap (λ (w : Writer). w.properties) c.writer.view_is in
    let p = err_from_is_err_and c.from_residual.result c.from_residual.ensures.1 in
    rw p.1 (gave_up refl (response_stopped c.args.writer.now c.args.resource.path.now c.args.resource.meta.now _ c.deref.result.now _ same (stopped c.in_err-found.ensures)))

pub returns-in_err-kept : goal.returns-in_err-kept
returns-in_err-kept g c =
    let same = c.deref.ensures.value ∙ ap (λ (w : Writer). w.properties) c.writer.view_is in
    let p = err_from_is_err_and c.from_residual-in_err-kept.result c.from_residual-in_err-kept.ensures.1 in
    rw p.1 (gave_up refl (kept_cut c.args.writer.now c.args.resource.path.now c.args.resource.meta.now _ c.deref.result.now _ _ c.in_ok-found.found.items same (gave c.in_ok-found.ensures) (λ ls. stopped (c.in_err-kept.ensures ls))))

pub returns-in_err-joined : goal.returns-in_err-joined
returns-in_err-joined g c =
    let same = c.deref.ensures.value ∙ ap (λ (w : Writer). w.properties) c.writer.view_is in
    let p = err_from_is_err_and c.from_residual-in_err-joined.result c.from_residual-in_err-joined.ensures.1 in
    rw p.1 (gave_up refl (response_cut c.args.writer.now c.args.resource.path.now c.args.resource.meta.now _ c.deref.result.now _ _ c.in_ok-found.found.items c.in_ok-kept.kept.items same (gave c.in_ok-found.ensures) (gave_any c.in_ok-kept.ensures)))

pub returns-in_err-groups : goal.returns-in_err-groups
returns-in_err-groups g c =
    let same = c.deref.ensures.value ∙ ap (λ (w : Writer). w.properties) c.writer.view_is in
    let p = err_from_is_err_and c.from_residual-in_err-groups.result c.from_residual-in_err-groups.ensures.1 in
    rw p.1 (gave_up refl (response_cut c.args.writer.now c.args.resource.path.now c.args.resource.meta.now _ c.deref.result.now _ _ c.in_ok-found.found.items c.in_ok-kept.kept.items same (gave c.in_ok-found.ensures) (gave_any c.in_ok-kept.ensures)))

pub returns : goal.returns
returns g c =
    let same = c.deref.ensures.value ∙ ap (λ (w : Writer). w.properties) c.writer.view_is in
    gives_if c.property_response.result c.property_response.ensures
    (λ response is. response_told c.args.writer.now c.args.resource.path.now c.args.resource.meta.now _ c.deref.result.now _ _ c.in_ok-found.found.items c.in_ok-kept.kept.items c.in_ok-joined.field-0.items (groups_in c.in_ok-groups.groups) response same
    (gave c.in_ok-found.ensures) (gave_any c.in_ok-kept.ensures) c.in_ok-joined.ensures c.in_ok-groups.ensures is)
    (response_cut c.args.writer.now c.args.resource.path.now c.args.resource.meta.now _ c.deref.result.now _ _ c.in_ok-found.found.items c.in_ok-kept.kept.items same (gave c.in_ok-found.ensures) (gave_any c.in_ok-kept.ensures))
