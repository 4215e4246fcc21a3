use Rattle.std.proofs.Common.{inr, refl, arith}
use Rattle.dav_turns.proofs.FrameLemmas.{has_head, begins}
use Rattle.dav_turns.proofs.frames.next_in.Goals as goal

pub returns-then-head-gt-MOST : goal.returns-then-head-gt-MOST
returns-then-head-gt-MOST c = (
  c.head_in-head.result.len,
  has_head c.args.input.now c.in-Some.head.now _ _ _ _ _ c.in-Some.ensures.lookup.0.2 c.head_in-head.ensures.bytes c.head_in-head.ensures.fits,
  c.if-head-gt-MOST.true,
)

pub returns-then-rest-head : goal.returns-then-rest-head
returns-then-rest-head c =
    inr (
      c.head_in-head.result.len,
      has_head c.args.input.now c.in-Some.head.now _ _ _ _ _ c.in-Some.ensures.lookup.0.2 c.head_in-head.ensures.bytes c.head_in-head.ensures.fits,
      c.if-head-gt-MOST.false,
      omega (arith, c.if-rest-head.true, c.in-Some.ensures.lookup.0.1),
    )

pub returns : goal.returns
returns c =
    begins c.args.input.now c.in-Some.head.now _ c.head_in-head.result.len c.in-Some.ensures.lookup.0.2 c.head_in-head.ensures.bytes
    c.head_in-head.ensures.fits c.if-head-gt-MOST.false c.if-rest-head.false refl
