use Rattle.dav_core.specs.Path.{names}
use Rattle.dav_engine.proofs.ConditionLemmas.{addressed_more}
use Rattle.dav_engine.proofs.conditions.lists_of.Goals as goal

pub loop-list-preserved-in_ok-push : goal.loop-list-preserved-in_ok-push
loop-list-preserved-in_ok-push c =
    addressed_more c.args.prefix.now (names c.args.own.now) c.loop-list.yielded c.in-Some.list c.loop-list.all.items c.push.new.self.items c.in_ok-path.path
    c.in_ok-push.ensures.items c.in_ok-path.ensures c.loop-list.invariant

pub loop-list-preserved : goal.loop-list-preserved
loop-list-preserved c =
    addressed_more c.args.prefix.now (names c.args.own.now) c.loop-list.yielded c.in-Some.list c.loop-list.all.items c.push.new.self.items c.in_ok-path.path
    c.in_ok-push.ensures.items c.in_ok-path.ensures c.loop-list.invariant
