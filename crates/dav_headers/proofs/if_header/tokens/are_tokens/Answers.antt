use Rattle.std.proofs.Common.{◌++◌, ◌∷◌, [], arith, ap, sym, refl, length}
use Rattle.dav_headers.specs.IfParts.{part_view}
use Rattle.dav_headers.proofs.IfTokenLemmas.{ReadSoFar-start, ReadSoFar-step, ReadSoFar-end, ReadSoFar-stuck, skip_is_no_longer, empty_from_test, some_from_test}
use Rattle.dav_headers.proofs.if_header.tokens.are_tokens.Goals as goal

pub loop-rest-init : goal.loop-rest-init
loop-rest-init c = ([], ReadSoFar-start _ _ _ c.skip-rest.ensures refl)

pub returns-in_default : goal.returns-in_default
returns-in_default c = (
  λ f. absurd (cc),
  λ (ts, h). absurd (ReadSoFar-stuck _ _ _ c.loop-rest.invariant.1 (some_from_test _ _ c.is_empty.ensures c.loop-rest-test.true) (sym c.in_default.ensures.is) ts h),
)

pub loop-rest-smaller : goal.loop-rest-smaller
loop-rest-smaller c =
    omega (arith, ap length c.skip-rest-in-loop-rest.ensures, skip_is_no_longer c.in-Some.after.now, c.in-Some.ensures.shorter)

pub loop-rest-preserved : goal.loop-rest-preserved
loop-rest-preserved c =
    let so_far = c.loop-rest.invariant in
    (so_far.0 ++ part_view c.in-Some._part ∷ [], rw c.skip-rest-in-loop-rest.ensures (ReadSoFar-step _ _ _ _ _ so_far.1 (sym c.in-Some.ensures.is)))

pub returns : goal.returns
returns c =
    let so_far = c.loop-rest.invariant in
    (λ t. (so_far.0, ReadSoFar-end _ _ _ so_far.1 (empty_from_test _ _ c.is_empty.ensures c.loop-rest-test.false)), λ h. refl)
