use Rattle.std.proofs.Common.{ap}
use Rattle.dav_engine.specs.Follows.{followed}
use Rattle.dav_engine.specs.Plan.{ran_done}
use Rattle.dav_engine.specs.Properties.{Writer}
use Rattle.dav_engine.proofs.FoundLemmas.{available_found, available_stopped, used_found, used_stopped, store_found, store_stopped}
use Rattle.dav_engine.proofs.PartLemmas.{gave_any, gives_if, gives_by}
use Rattle.dav_engine.proofs.properties.found.found_in.Goals as goal

pub returns-in-Here : goal.returns-in-Here
returns-in-Here g c = rw c.in-Here.is (λ ls. followed ran_done)

pub returns-in-Nowhere : goal.returns-in-Nowhere
returns-in-Nowhere g c = rw c.in-Nowhere.is (λ ls. followed ran_done)

pub returns-in-AvailableQuota : goal.returns-in-AvailableQuota
returns-in-AvailableQuota g c ls =
    rw c.in-AvailableQuota.is (gives_if c.available_told.result c.available_told.ensures
    (λ one is. available_found c.args.writer.now c.args.resource.path.now c.args.resource.meta.now c.args.property.now _ _ one (gave_any c.cached_quota-quota.ensures) is ls)
    (available_stopped c.args.writer.now c.args.resource.path.now c.args.resource.meta.now c.args.property.now _ _ (gave_any c.cached_quota-quota.ensures) ls))

pub returns-in-UsedQuota : goal.returns-in-UsedQuota
returns-in-UsedQuota g c ls =
    rw c.in-UsedQuota.is (gives_if c.used_told.result c.used_told.ensures
    (λ one is. used_found c.args.writer.now c.args.resource.path.now c.args.resource.meta.now c.args.property.now _ _ one (gave_any c.cached_quota-quota-in-UsedQuota.ensures) is ls)
    (used_stopped c.args.writer.now c.args.resource.path.now c.args.resource.meta.now c.args.property.now _ _ (gave_any c.cached_quota-quota-in-UsedQuota.ensures) ls))

pub returns-in-InStore : goal.returns-in-InStore
returns-in-InStore g c ls =
    let same = ap (λ (w : Writer). w.telling) c.writer.view_is in
    rw c.in-InStore.is (gives_by c.kept_for.result (c.kept_for.ensures ls)
    (λ one asked. store_found c.args.writer.now c.args.resource.path.now c.args.resource.meta.now c.args.property.now _ _ one same asked)
    (λ stop. store_stopped c.args.writer.now c.args.resource.path.now c.args.resource.meta.now c.args.property.now _ _ same stop))
