use Rattle.std.proofs.Common.{refl}
use Rattle.std.proofs.lemmas.Result.{err_from_is_err_and}
use Rattle.dav_core.specs.Property.{property_key}
use Rattle.dav_engine.specs.Follows.{followed, gave_up}
use Rattle.dav_engine.proofs.PartLemmas.{gave_any}
use Rattle.dav_engine.proofs.KeptLemmas.{one_not_kept, one_asked, one_stopped}
use Rattle.dav_engine.proofs.properties.stored.kept_property.Goals as goal

pub returns-then-not-has_properties : goal.returns-then-not-has_properties
returns-then-not-has_properties g c ls =
    followed (one_not_kept c.args.path.now c.args.property.now c.has_properties.result c.if-not-has_properties.true (gave_any c.has_properties.ensures) ls)

pub returns-in_err-asked : goal.returns-in_err-asked
returns-in_err-asked g c ls =
    let p = err_from_is_err_and c.from_residual.result c.from_residual.ensures.1 in
    rw p.1 (gave_up refl (one_stopped c.args.path.now c.args.property.now c.has_properties.result (gave_any c.has_properties.ensures) ls))

pub returns : goal.returns
returns g c ls =
    followed (one_asked c.args.path.now c.args.property.now c.has_properties.result (property_key c.in_ok-asked.asked) c.get_prop.result c.ok-kept.result
    c.if-not-has_properties.false (gave_any c.has_properties.ensures) c.in_ok-asked.ensures c.get_prop.ensures c.ok-kept.ensures.value ls)
