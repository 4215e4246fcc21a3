use Rattle.std.proofs.Common.{◌≤◌, sym, arith, length, below_more}
use Rattle.dav_core.specs.Path.{names}
use Rattle.dav_core.specs.PathRef.{names_left}
use Rattle.dav_store.proofs.NamedLemmas.{named_there, named_nowhere}
use Rattle.dav_store.proofs.SeatedLemmas.{walk_on}
use Rattle.dav_store.proofs.memls.index.Counts.named_place.Goals as goal

pub returns-in-Some : goal.returns-in-Some
returns-in-Some c = named_there c.args.token.now (names c.args.path.now) c.args.locks.now c.loop-len.len c.in-Some.i c.loop-len.invariant.2 (sym c.in-Some.ensures)

pub loop-len-preserved : goal.loop-len-preserved
loop-len-preserved c =
    let (whole, here, none) = c.loop-len.invariant in
    let bound : c.loop-len.len ≤ length (names c.args.path.now) = omega (arith, c.loop-len-test.true, c.count-len-end.ensures) in
    let on = walk_on c.args.self.now (names c.args.path.now) c.loop-len.len (names_left c.loop-len.left) (names_left c.next-name.new.self) c.next-name.result c.loop-len.at c.below-at.result whole here bound c.next-name.ensures.steps c.below-at.ensures in
    (on.0, on.1, below_more _ _ none (sym c.in_default.ensures))

pub returns-in_default : goal.returns-in_default
returns-in_default c = named_nowhere c.args.token.now (names c.args.path.now) c.args.locks.now c.loop-len.len (omega (arith, c.count-len-end.ensures)) c.loop-len.invariant.2 (sym c.in_default.ensures)
