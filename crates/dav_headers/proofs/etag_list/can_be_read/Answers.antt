use Rattle.std.proofs.Common.{◌≡◌, drop, [], subst, refl, ◌++◌, inl}
use Rattle.std.proofs.lemmas.List.{drop_all}
use Rattle.std.proofs.lemmas.Bool.{false≢true}
use Rattle.dav_headers.specs.ETagList.{star, tags}
use Rattle.dav_headers.specs.Elements.{elements_of}
use Rattle.dav_headers.specs.Value.{IsText}
use Rattle.dav_headers.proofs.LoopLemmas.{drop_turn}
use Rattle.dav_headers.proofs.ETagListLemmas.{Sofar, Sofar-start, Sofar-step, Sofar-end, Sofar-stuck, is_star, is_no_star, tags_in}
use Rattle.dav_headers.proofs.etag_list.can_be_read.Goals as goal

pub loop-value-preserved : goal.loop-value-preserved
loop-value-preserved c =
    let turn = drop_turn c.args.values.now c.loop-value.value-index c.value-item.result c.loop-value-test.true c.value-item.is in
    let text : IsText c.value-item.result.bytes = c.in-Ok.ensures.succeeds.0 refl in
    let other = is_no_star _ _ _ c.eq.result c.in-Ok.ensures.ok c.trimmed.ensures c.eq.ensures c.if-eq.false in
    let so_far = c.loop-value.invariant in
    let added = tags_in (elements_of c.value-item.result.bytes) in (
      so_far.0 ++ added.0,
      Sofar-step c.args.values.now _ c.value-item.result so_far.0 added.0
          (subst (λ rest. Sofar c.args.values.now rest so_far.0) turn so_far.1) text other added.1,
    )

pub returns : goal.returns
returns c =
    let end : drop c.loop-value.value-index c.args.values.now ≡ [] = drop_all c.loop-value.value-index c.args.values.now c.loop-value-test.false in
    let so_far = c.loop-value.invariant in
    let read = Sofar-end c.args.values.now so_far.0 (subst (λ rest. Sofar c.args.values.now rest so_far.0) end so_far.1) in
    (λ t. (tags so_far.0, read), λ h. refl)

pub loop-value-init : goal.loop-value-init
loop-value-init c = ([], Sofar-start c.args.values.now)

pub returns-in_default : goal.returns-in_default
returns-in_default c =
    let turn = drop_turn c.args.values.now c.loop-value.value-index c.value-item.result c.loop-value-test.true c.value-item.is in
    let so_far = c.loop-value.invariant in
    let here = subst (λ rest. Sofar c.args.values.now rest so_far.0) turn so_far.1 in
    let stuck = Sofar-stuck c.args.values.now _ c.value-item.result so_far.0 here (λ text. absurd (false≢true (c.in_default.ensures.succeeds.1 text))) in
    (λ f. absurd (false≢true f), λ (l, h). absurd (stuck l h))

pub returns-then-eq : goal.returns-then-eq
returns-then-eq c =
    let turn = drop_turn c.args.values.now c.loop-value.value-index c.value-item.result c.loop-value-test.true c.value-item.is in
    let text : IsText c.value-item.result.bytes = c.in-Ok.ensures.succeeds.0 refl in
    let is = is_star _ _ _ c.eq.result c.in-Ok.ensures.ok c.trimmed.ensures c.eq.ensures c.if-eq.true in
    (λ t. (star, c.loop-value.invariant.1.any (rw turn (text, inl is))), λ h. refl)
