use Rattle.std.proofs.Common.{◌++◌, ap}
use Rattle.dav_headers.proofs.LoopLemmas.{copy_turn, copy_end}
use Rattle.dav_headers.proofs.etag_list.copied.Goals as goal

pub loop-tag-init : goal.loop-tag-init
loop-tag-init c = ap (λ ts. ts ++ c.args.tags.now.items) c.in_ok-copies.ensures.items

pub loop-tag-preserved : goal.loop-tag-preserved
loop-tag-preserved c =
    let lt = rw c.deref-tag-items.ensures.value at c.loop-tag-test.true in
    let is = rw c.deref-tag-items.ensures.value at c.tag-item.is in
    copy_turn c.args.tags.now.items _ _ c.loop-tag.tag-index c.tag-item.result _ lt is c.in_ok-clone.ensures.cases c.in_ok-push.ensures.items c.loop-tag.invariant

pub returns : goal.returns
returns c =
    let end = rw c.deref-tag-items.ensures.value at c.loop-tag-test.false in
    copy_end c.args.tags.now.items _ c.loop-tag.tag-index end c.loop-tag.invariant
