use Rattle.std.proofs.Common.{codes, map, string_bytes, subst}
use Rattle.dav_live.specs.Hosts.{TellsFor, asked_host, value_of}
use Rattle.dav_live.specs.Rejections.{bad_port, forged, misdirected}
use Rattle.dav_live.proofs.RejectionLemmas.{by_body, decided_not, no_reason}
use Rattle.dav_live.proofs.rejection.rejection_of.Goals as goal

pub returns-then-is_forged : goal.returns-then-is_forged
returns-then-is_forged c = forged (c.is_forged.ensures.0 c.if-is_forged.true)

pub returns-then-not-may_have_more : goal.returns-then-not-may_have_more
returns-then-not-may_have_more c =
    λ why. no_reason (map string_bytes c.args.hosts.now) c.args.head.now why (decided_not c.is_forged.result c.is_forged.ensures c.if-is_forged.false)
    (decided_not c.may_have_more.result c.may_have_more.ensures c.if-not-may_have_more.true)

pub returns-then-asks_bad_port : goal.returns-then-asks_bad_port
returns-then-asks_bad_port c =
    bad_port (decided_not c.is_forged.result c.is_forged.ensures c.if-is_forged.false) (c.may_have_more.ensures.0 c.if-not-may_have_more.false)
    (c.asks_bad_port.ensures.0 c.if-asks_bad_port.true)

pub returns-then-not-is_for : goal.returns-then-not-is_for
returns-then-not-is_for c =
    misdirected (decided_not c.is_forged.result c.is_forged.ensures c.if-is_forged.false) (c.may_have_more.ensures.0 c.if-not-may_have_more.false)
    (decided_not c.asks_bad_port.result c.asks_bad_port.ensures c.if-asks_bad_port.false)
    (subst (TellsFor (map string_bytes c.args.hosts.now) (asked_host c.args.head.now)) c.if-not-is_for.true c.is_for.ensures)

pub returns : goal.returns
returns c =
    by_body (map string_bytes c.args.hosts.now) c.args.head.now c.body_rejection.result (decided_not c.is_forged.result c.is_forged.ensures c.if-is_forged.false)
    (c.may_have_more.ensures.0 c.if-not-may_have_more.false) (decided_not c.asks_bad_port.result c.asks_bad_port.ensures c.if-asks_bad_port.false)
    (subst (TellsFor (map string_bytes c.args.hosts.now) (asked_host c.args.head.now)) c.if-not-is_for.false c.is_for.ensures) c.body_rejection.ensures
