use Rattle.std.proofs.Common.{ap}
use Rattle.dav_kept.specs.Records.{RequestView}
use Rattle.dav_live.proofs.MachineLemmas.{way_seen, way_told, where_ok}
use Rattle.dav_live.proofs.machine.MachineEnds.look.Goals as goal

pub returns-then-is_seen-clause-looks : goal.returns-then-is_seen-clause-looks
returns-then-is_seen-clause-looks c =
    where_ok _ _ c.show_way.result
    (way_seen c.args.rules.now c.args.self.now c.way_reply.new.self c.in_ok-reply.ensures.same c.args.request.now c.in_ok-reply.reply c.in_ok-reply.ensures.reply c.show_way.new.response
    c.request.inside.head.now (ap (λ (q : RequestView). q.head) c.request.view_is) (c.is_for_folder-is_seen.ensures c.if-is_seen.true))
    c.show_way.ensures.told

pub returns-else-is_seen-clause-looks : goal.returns-else-is_seen-clause-looks
returns-else-is_seen-clause-looks c =
    where_ok _ _ c.tell_way.result
    (way_told c.args.rules.now c.args.self.now c.way_reply.new.self c.in_ok-reply.ensures.same c.args.request.now c.in_ok-reply.reply c.in_ok-reply.ensures.reply c.tell_way.new.response)
    c.tell_way.ensures
