use Rattle.dav_seen.proofs.WayLemmas.{asked_way, headless_way, unread_way}
use Rattle.dav_seen.proofs.reply.way_reply.Goals as goal

pub returns-in_default-clause-reply : goal.returns-in_default-clause-reply
returns-in_default-clause-reply c =
    unread_way c.args.rules.now c.args.handler.now.server c.args.head.now c.args.body.now c.args.caller.now c.prefix-prefix.result.now c.prefix-prefix.ensures c.in_ok-asked.field-0
    c.in_ok-asked.ensures c.status_reply.result c.in_default.is c.status_reply.ensures

pub returns-in_default-read-clause-reply : goal.returns-in_default-read-clause-reply
returns-in_default-read-clause-reply c =
    headless_way c.args.rules.now c.args.handler.now.server c.args.head.now c.args.body.now c.args.caller.now c.status_reply-in_default-read.result
    c.in_default-read.ensures c.status_reply-in_default-read.ensures

pub returns-clause-reply : goal.returns-clause-reply
returns-clause-reply c =
    asked_way c.args.rules.now c.args.handler.now.server c.args.head.now c.args.body.now c.args.caller.now c.prefix-prefix.result.now c.prefix-prefix.ensures c.in_ok-asked.field-0
    c.in_ok-asked.ensures c.in-Some.asked c.in-Some-read.head _ c.reply_at.result c.in-Some.is c.in-Some-read.ensures c.value-depth.ensures c.reply_at.ensures.reply
