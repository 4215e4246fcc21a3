use Rattle.std.proofs.Common.{◌≡◌, suc, length, arith, ap, sym, ◌∙◌}
use Rattle.dav_store.proofs.TreeClimbs.{climbs_far_enough}
use Rattle.dav_store.proofs.TreeBelow.{deeper, too_far}
use Rattle.dav_store.proofs.tree.nodes.Nodes.lowest.Goals as goal

-- src/tree/nodes.rt
pub returns-in-None-clause-below : goal.returns-in-None-clause-below
returns-in-None-clause-below g c = climbs_far_enough _ _ c.args.self.now c.args.top c.loop.at (suc c.loop.counter) c.requires.there c.loop.invariant.reaches

pub loop-preserved : goal.loop-preserved
loop-preserved g c =
    let w = deeper c.args.self.now c.args.top c.loop.at c.in-Some.child c.loop.counter c.requires.rooted c.requires.there c.loop.invariant.there
    (sym c.first_child.ensures ∙ c.in-Some.is) c.loop.invariant.reaches c.loop.invariant.not_before in
    record { there = w.there; reaches = w.reaches; not_before = w.not_before }

pub returns-clause-below : goal.returns-clause-below
returns-clause-below g c =
    let end : c.loop.counter ≡ length c.args.self.now.nodes = omega (arith, ap (λ t. length t.nodes) c.self.view_is) in
    absurd (too_far c.args.self.now c.args.top c.loop.at c.loop.counter c.requires.there end c.loop.invariant.reaches c.loop.invariant.not_before)

pub returns-clause-bare : goal.returns-clause-bare
returns-clause-bare g c =
    let end : c.loop.counter ≡ length c.args.self.now.nodes = omega (arith, ap (λ t. length t.nodes) c.self.view_is) in
    absurd (too_far c.args.self.now c.args.top c.loop.at c.loop.counter c.requires.there end c.loop.invariant.reaches c.loop.invariant.not_before)
