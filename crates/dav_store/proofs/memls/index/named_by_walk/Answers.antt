use Rattle.std.proofs.Common.{sym, arith, below_more}
use Rattle.dav_core.specs.Path.{names}
use Rattle.dav_store.proofs.NamedLemmas.{named_there, named_nowhere}
use Rattle.dav_store.proofs.memls.index.named_by_walk.Goals as goal

pub returns-in-Some : goal.returns-in-Some
returns-in-Some c = named_there c.args.token.now (names c.args.path.now) c.args.locks.now c.loop-len.len c.in-Some.i c.loop-len.invariant (sym c.in-Some.ensures)

pub loop-len-preserved : goal.loop-len-preserved
loop-len-preserved c = below_more _ _ c.loop-len.invariant (sym c.in_default.ensures)

pub returns-in_default : goal.returns-in_default
returns-in_default c = named_nowhere c.args.token.now (names c.args.path.now) c.args.locks.now c.loop-len.len (omega (arith, c.count-len-end.ensures)) c.loop-len.invariant (sym c.in_default.ensures)
