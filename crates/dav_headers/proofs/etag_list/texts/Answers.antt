use Rattle.std.proofs.Common.{◌++◌, map, string_bytes, ap}
use Rattle.dav_headers.specs.ETag.{EntityTag, tag_text}
use Rattle.dav_headers.proofs.LoopLemmas.{seen_turn, seen_end}
use Rattle.dav_headers.proofs.etag_list.texts.Goals as goal

pub loop-tag-init : goal.loop-tag-init
loop-tag-init c = ap (λ ts. map string_bytes ts ++ map (λ (t : EntityTag). tag_text t.weak t.tag) c.args.tags.now) c.new-texts.ensures.items

pub loop-tag-preserved : goal.loop-tag-preserved
loop-tag-preserved c =
    seen_turn (λ (t : EntityTag). tag_text t.weak t.tag) string_bytes c.args.tags.now _ _ c.loop-tag.tag-index c.tag-item.result c.in_ok-format.field-0
    c.loop-tag-test.true c.tag-item.is c.in_ok-format.ensures.ok c.in_ok-push.ensures.items c.loop-tag.invariant

pub returns : goal.returns
returns c = seen_end (λ (t : EntityTag). tag_text t.weak t.tag) string_bytes c.args.tags.now _ c.loop-tag.tag-index c.loop-tag-test.false c.loop-tag.invariant
