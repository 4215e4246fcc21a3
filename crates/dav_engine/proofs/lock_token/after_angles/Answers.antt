use Rattle.std.proofs.Common.{rules}
use Rattle.dav_engine.proofs.LockTokenLemmas.{passed_opening}
use Rattle.dav_engine.proofs.lock_token.after_angles.Goals as goal

pub loop-more-preserved : goal.loop-more-preserved
loop-more-preserved c =
    let passed = passed_opening c.args.text.now c.loop-more.rest.now c.in-Some.more.now (c.loop-more.invariant.1, c.loop-more.invariant.2, c.loop-more.invariant.3) c.in-Some.ensures.found in
    (search rules, passed.0, passed.1, passed.2)
