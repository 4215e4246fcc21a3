use Rattle.std.proofs.Common.{◌≡◌, drop, [], length, subst, inl, refl, sym, ap, ◌∙◌, arith}
use Rattle.std.proofs.lemmas.Bool.{false≢true}
use Rattle.std.proofs.lemmas.List.{drop_all}
use Rattle.dav_headers.specs.ETagList.{tag_list, IsTagList}
use Rattle.dav_headers.specs.Value.{IsText}
use Rattle.dav_headers.proofs.LoopLemmas.{drop_turn}
use Rattle.dav_headers.proofs.ETagListLemmas.{Sofar, Sofar-start, Sofar-step, Sofar-end, Sofar-stuck, is_star, is_no_star}
use Rattle.dav_headers.proofs.IfTokenLemmas.{empty_from_test, many_from_test}
use Rattle.dav_headers.proofs.ReadingLemmas.{out_of_memory}
use Rattle.dav_headers.proofs.etag_list.ETagList.decode.Goals as goal
use Rattle.dav_headers.proofs.etag_list.ETagList.decode.Goals.{then-is_empty-via-then-is_empty, then-is_empty-via-else-is_empty+then-not-can_be_read}

pub loop-value-init : goal.loop-value-init
loop-value-init c = rw c.new-tags.ensures.items (Sofar-start c.args.values.now)

pub returns-then-eq : goal.returns-then-eq
returns-then-eq c =
    let turn = drop_turn c.args.values.now c.loop-value.value-index c.value-item.result c.loop-value-test.true c.value-item.is in
    let text : IsText c.value-item.result.bytes = c.in-Ok.ensures.succeeds.0 refl in
    let star = is_star _ _ _ c.eq.result c.in-Ok.ensures.ok c.trimmed.ensures c.eq.ensures c.if-eq.true in
    let some = many_from_test c.args.values.now _ _ c.is_empty.ensures c.if-is_empty.false refl in
    (some, c.loop-value.invariant.any (rw turn (text, inl star)))

pub loop-value-preserved : goal.loop-value-preserved
loop-value-preserved c =
    let turn = drop_turn c.args.values.now c.loop-value.value-index c.value-item.result c.loop-value-test.true c.value-item.is in
    let text : IsText c.value-item.result.bytes = c.in-Ok.ensures.succeeds.0 refl in
    let other = is_no_star _ _ _ c.eq.result c.in-Ok.ensures.ok c.trimmed.ensures c.eq.ensures c.if-eq.false in
    let added = c.in_ok-push_tags.ensures in
    let these = rw c.in-Ok.ensures.ok at added.2 in
    rw added.1
    (Sofar-step c.args.values.now _ c.value-item.result c.loop-value.tags.items added.0
    (subst (λ rest. Sofar c.args.values.now rest c.loop-value.tags.items) turn c.loop-value.invariant) text other these)

pub returns : goal.returns
returns c =
    let some = many_from_test c.args.values.now _ _ c.is_empty.ensures c.if-is_empty.false refl in
    let end : drop c.loop-value.value-index c.args.values.now ≡ [] = drop_all c.loop-value.value-index c.args.values.now c.loop-value-test.false in
    (some, Sofar-end c.args.values.now c.loop-value.tags.items (subst (λ rest. Sofar c.args.values.now rest c.loop-value.tags.items) end c.loop-value.invariant))

pub returns-in_err-push_tags : goal.returns-in_err-push_tags
returns-in_err-push_tags c =
    let (l, reads) = c.can_be_read.ensures.0 c.if-not-can_be_read.false in
    out_of_memory tag_list IsTagList c.args.values.now c.from_residual.result c.from_residual.ensures.1 (l, (many_from_test c.args.values.now _ _ c.is_empty.ensures c.if-is_empty.false refl, reads))

pub returns-then-is_empty : goal.returns-then-is_empty
returns-then-is_empty c =
    λ l h. elim c.then-is_empty.branch [
      | then-is_empty-via-then-is_empty w ↦ let none = empty_from_test c.args.values.now _ c.is_empty.ensures w.if-is_empty.true in omega (arith, h.0, ap length none)
      | then-is_empty-via-else-is_empty+then-not-can_be_read w ↦ false≢true (sym w.if-not-can_be_read.true ∙ w.can_be_read.ensures.1 (l, h.1))
    ]

pub returns-in_default : goal.returns-in_default
returns-in_default c =
    let turn = drop_turn c.args.values.now c.loop-value.value-index c.value-item.result c.loop-value-test.true c.value-item.is in
    let here = subst (λ rest. Sofar c.args.values.now rest c.loop-value.tags.items) turn c.loop-value.invariant in
    λ l h. Sofar-stuck c.args.values.now _ c.value-item.result c.loop-value.tags.items here (λ text. absurd (false≢true (c.in_default.ensures.succeeds.1 text))) l h.1
