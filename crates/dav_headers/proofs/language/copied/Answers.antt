use Rattle.std.proofs.Common.{◌++◌, map, string_bytes, ap}
use Rattle.dav_headers.proofs.LoopLemmas.{seen_turn, seen_end}
use Rattle.dav_headers.proofs.language.copied.Goals as goal

pub loop-item-init : goal.loop-item-init
loop-item-init c = ap (λ ts. map string_bytes ts ++ map string_bytes c.args.items.now.items) c.in_ok-copies.ensures.items

pub loop-item-preserved : goal.loop-item-preserved
loop-item-preserved c =
    let lt = rw c.deref-item-items.ensures.value at c.loop-item-test.true in
    let is = rw c.deref-item-items.ensures.value at c.item-item.is in
    seen_turn string_bytes string_bytes c.args.items.now.items _ _ c.loop-item.item-index c.item-item.result c.in_ok-clone.field-0
    lt is c.in_ok-clone.ensures.cases c.in_ok-push.ensures.items c.loop-item.invariant

pub returns : goal.returns
returns c =
    let end = rw c.deref-item-items.ensures.value at c.loop-item-test.false in
    seen_end string_bytes string_bytes c.args.items.now.items _ c.loop-item.item-index end c.loop-item.invariant
