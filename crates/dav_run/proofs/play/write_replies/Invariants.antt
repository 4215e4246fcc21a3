use Rattle.std.proofs.Common.{take}
use Rattle.std.specs.Io.KnownBytes.{Appends}
use Rattle.dav_run.specs.Print.{lines_of}
use Rattle.dav_run.proofs.play.write_replies.Given as goal

abbrev pub invariant-loop-reply : goal.invariant-loop-reply
invariant-loop-reply g l =
    Appends (g.W.Write.contents l.initial.writer) (g.W.Write.contents l.writer) (lines_of (take l.reply-index l.replies))
