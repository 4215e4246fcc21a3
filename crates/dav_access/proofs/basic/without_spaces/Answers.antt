use Rattle.std.proofs.Common.{◌+◌}
use Rattle.dav_access.proofs.BasicLemmas.{space_more}
use Rattle.dav_access.proofs.basic.without_spaces.Goals as goal

pub loop-after-preserved : goal.loop-after-preserved
loop-after-preserved c =
    let so_far = c.loop-after.invariant in
    (so_far.0 + 1, space_more so_far.0 c.args.bytes.now c.loop-after.rest.now c.in-Some.after.now so_far.1 c.in-Some.ensures)
