use Rattle.std.proofs.Common.{◌∙◌, ◌||◌, true, not, ap}
use Rattle.std.specs.Option.{is_some, unwrap_or}
use Rattle.std.proofs.lemmas.Result.{err_from_is_err_and}
use Rattle.dav_core.specs.Path.{names}
use Rattle.dav_core.proofs.Theorems.{parent_names}
use Rattle.dav_engine.proofs.CopyMoveLemmas.{parent_short, no_folder, is_kept, is_there}
use Rattle.dav_engine.proofs.methods.copy_move.destination_found.Goals as goal

pub returns-in_err-parent : goal.returns-in_err-parent
returns-in_err-parent g c =
    let p = err_from_is_err_and c.from_residual.result c.from_residual.ensures.1 in
    rw (p.1, p.2) (parent_short c.args.overwrite c.args.destination.now _)

pub returns-then-not-is_folder_found : goal.returns-then-not-is_folder_found
returns-then-not-is_folder_found g c =
    no_folder c.args.overwrite c.args.destination.now (names c.in_ok-parent.parent) c.metadata.result _ (parent_names c.args.destination.now.bytes c.in_ok-parent.parent.bytes c.in_ok-parent.ensures.parent) c.metadata.ensures.asks (c.as_ref.ensures.value ∙ c.ok-above.ensures.value) c.is_folder_found.result c.is_folder_found.ensures c.if-not-is_folder_found.true

pub returns-then-not-may_overwrite : goal.returns-then-not-may_overwrite
returns-then-not-may_overwrite g c =
    is_kept c.args.overwrite c.args.destination.now (names c.in_ok-parent.parent) c.metadata.result _ (parent_names c.args.destination.now.bytes c.in_ok-parent.parent.bytes c.in_ok-parent.ensures.parent) c.metadata.ensures.asks (c.as_ref.ensures.value ∙ c.ok-above.ensures.value) c.is_folder_found.result c.is_folder_found.ensures c.if-not-is_folder_found.false c.symlink_metadata.result _ c.symlink_metadata.ensures.asks c.ok-there.ensures.value c.may_overwrite.result (c.may_overwrite.ensures ∙ ap (λ o. unwrap_or c.args.overwrite true || not (is_some o)) c.as_ref-2.ensures.value) c.if-not-may_overwrite.true

pub returns : goal.returns
returns g c =
    is_there c.args.overwrite c.args.destination.now (names c.in_ok-parent.parent) c.metadata.result _ (parent_names c.args.destination.now.bytes c.in_ok-parent.parent.bytes c.in_ok-parent.ensures.parent) c.metadata.ensures.asks (c.as_ref.ensures.value ∙ c.ok-above.ensures.value) c.is_folder_found.result c.is_folder_found.ensures c.if-not-is_folder_found.false c.symlink_metadata.result _ c.symlink_metadata.ensures.asks c.ok-there.ensures.value c.may_overwrite.result (c.may_overwrite.ensures ∙ ap (λ o. unwrap_or c.args.overwrite true || not (is_some o)) c.as_ref-2.ensures.value) c.if-not-may_overwrite.false
