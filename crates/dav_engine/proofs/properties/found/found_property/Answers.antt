use Rattle.std.proofs.Common.{refl}
use Rattle.std.proofs.lemmas.Result.{err_from_is_err_and}
use Rattle.dav_engine.specs.Follows.{gave_up}
use Rattle.dav_engine.proofs.FoundLemmas.{looked_found, looked_stopped, not_looked}
use Rattle.dav_engine.proofs.PartLemmas.{gives_by}
use Rattle.dav_engine.proofs.properties.found.found_property.Goals as goal

pub returns-in_err-source : goal.returns-in_err-source
returns-in_err-source g c =
    let p = err_from_is_err_and c.from_residual.result c.from_residual.ensures.1 in
    rw p.1 (gave_up refl (not_looked c.args.writer.now c.args.resource.path.now c.args.resource.meta.now _ c.args.property.now _))

pub returns : goal.returns
returns g c =
    gives_by c.found_in.result (c.found_in.ensures _)
    (λ one found. looked_found c.args.writer.now c.args.resource.path.now c.args.resource.meta.now _ c.args.property.now _ _ c.in_ok-source.source one c.in_ok-source.ensures found)
    (λ stop. looked_stopped c.args.writer.now c.args.resource.path.now c.args.resource.meta.now _ c.args.property.now _ c.in_ok-source.source c.in_ok-source.ensures stop)
