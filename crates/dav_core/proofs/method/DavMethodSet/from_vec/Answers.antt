use Rattle.dav_core.proofs.NamedLemmas.{named_next, not_all_named}
use Rattle.dav_core.proofs.method.DavMethodSet.from_vec.Goals as goal

pub returns-in_default : goal.returns-in_default
returns-in_default c =
    not_all_named c.args.names.now c.loop-name.name-index _ c.loop-name-test.true c.in_default.ensures

pub loop-name-preserved : goal.loop-name-preserved
loop-name-preserved c =
    named_next c.args.names.now c.loop-name.name-index _ c.loop-name.set _ c.in-Some.method c.loop-name-test.true c.loop-name.invariant c.in-Some.ensures c.add.ensures
