use Rattle.std.proofs.Common.{rules}
use Rattle.dav_presented.proofs.DotLemmas.{after_more}
use Rattle.dav_presented.proofs.types.last_part.Goals as goal

pub loop-after-preserved : goal.loop-after-preserved
loop-after-preserved c =
    (after_more c.args.text.now c.loop-after.rest.now c.in-Some.ensures.0 c.in-Some.after.now c.loop-after.invariant.0 c.in-Some.ensures.1, search rules)
