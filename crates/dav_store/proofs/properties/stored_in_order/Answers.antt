use Rattle.std.proofs.Common.{rules, sym}
use Rattle.std.proofs.lemmas.Fn.{always_returns_same}
use Rattle.dav_core.specs.Property.{key_cmp, property_key}
use Rattle.dav_store.specs.KeyOrder.{key_total}
use Rattle.dav_store.proofs.KeyTree.{found_in_order, not_found_in_order, rises_along}
use Rattle.dav_store.proofs.properties.stored_in_order.Goals as goal

pub returns-in-Ok : goal.returns-in-Ok
returns-in-Ok c =
    let key = property_key c.args.property.now in
    let ties = c.in-Ok.ensures.position (λ e. key_cmp e.0 key) (always_returns_same _ _ _ (λ a r g called. search rules)) in
    sym (found_in_order key_cmp key_total key c.args.entries.now c.in-Ok.i c.index-entries-i.result c.requires c.in-Ok.ensures.bound (ties c.index-entries-i.result))

pub returns-in-Err : goal.returns-in-Err
returns-in-Err c =
    let key = property_key c.args.property.now in
    let parts = c.in-Err.ensures.position (λ e. key_cmp e.0 key) (always_returns_same _ _ _ (λ a r g called. search rules)) in
    sym (not_found_in_order key_cmp key_total key c.args.entries.now c.in-Err.field-0 (parts (rises_along key_cmp key_total key c.args.entries.now c.requires)))
