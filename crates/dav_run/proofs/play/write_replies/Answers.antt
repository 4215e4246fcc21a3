use Rattle.dav_run.proofs.Lines.{lines_written}
use Rattle.dav_run.proofs.play.write_replies.Goals as goal

pub loop-reply-preserved : goal.loop-reply-preserved
loop-reply-preserved g c =
    lines_written c.args.replies.now c.loop-reply.reply-index c.reply-item.result _ _ _ _ _ _
    c.loop-reply-test.true c.reply-item.is c.in_ok-line.ensures c.deref.ensures.value
    c.loop-reply.invariant c.in_ok-write_all.ensures.bytes c.in_ok-flush.ensures.bytes
