use Rattle.std.proofs.Common.{Ok, Err}
use Rattle.dav_engine.specs.Follows.{followed}
use Rattle.dav_engine.proofs.PartLemmas.{gave_any, gives_if}
use Rattle.dav_engine.proofs.KeptLemmas.{none_kept, kept_asked, kept_stopped}
use Rattle.dav_engine.proofs.properties.stored.all_kept.Goals as goal

pub returns-then-not-has_properties : goal.returns-then-not-has_properties
returns-then-not-has_properties g c ls =
    followed (rw c.new.ensures.items (none_kept c.args.path.now c.has_properties.result c.if-not-has_properties.true (gave_any c.has_properties.ensures) ls))

pub returns-in-Ok : goal.returns-in-Ok
returns-in-Ok g c ls =
    let has = gave_any c.has_properties.ensures in
    gives_if c.elements.result c.elements.ensures
    (λ es is. kept_asked c.args.path.now c.has_properties.result (Ok c.in-Ok.properties.items) es.items c.if-not-has_properties.false has c.in-Ok.ensures is ls)
    (kept_stopped c.args.path.now c.has_properties.result (Ok c.in-Ok.properties.items) c.if-not-has_properties.false has c.in-Ok.ensures ls)

pub returns-in-Err : goal.returns-in-Err
returns-in-Err g c ls =
    followed (kept_asked c.args.path.now c.has_properties.result (Err c.in-Err.field-0) _
    c.if-not-has_properties.false (gave_any c.has_properties.ensures) c.in-Err.ensures c.new-in-Err.ensures.items ls)
