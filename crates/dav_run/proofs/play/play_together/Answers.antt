use Rattle.std.proofs.Common.{List, take, Err, ap, subst}
use Rattle.std.proofs.lemmas.Result.{err_from_is_err_and}
use Rattle.std.specs.Io.KnownBytes.{Appends}
use Rattle.dav_engine.specs.Reply.{Reply}
use Rattle.dav_run.specs.Print.{lines_of}
use Rattle.dav_run.proofs.Played.{same_error, some_of_all, some_of_part, some_taken}
use Rattle.dav_run.proofs.play.play_together.Goals as goal

pub returns-in-Ok-clause-short : goal.returns-in-Ok-clause-short
returns-in-Ok-clause-short g c = λ is.
    let short = c.write_replies.ensures.short is in
    let wrote = subst (λ (l : List Reply). Appends (g.W.Write.contents c.args.writer.now) (g.W.Write.contents c.write_replies.new.writer) (lines_of (take short.0 l))) c.deref.ensures.value short.1 in
    (take short.0 c.in-Ok.replies.items, some_taken short.0 (some_of_all c.run_refused.new.handler.server c.in-Ok.ensures.run), wrote)

pub returns-in_err-write_replies-in-Err-clause-short : goal.returns-in_err-write_replies-in-Err-clause-short
returns-in_err-write_replies-in-Err-clause-short g c =
    let p = err_from_is_err_and c.from_residual.result c.from_residual.ensures.1 in
    rw (p.1, p.2) (λ is.
    let short = c.in_err-write_replies-in-Err.ensures.short (ap Err (same_error is)) in
    let wrote = subst (λ (l : List Reply). Appends (g.W.Write.contents c.args.writer.now) (g.W.Write.contents c.write_replies-in-Err.new.writer) (lines_of (take short.0 l))) c.deref-in-Err.ensures.value short.1 in
    (take short.0 c.in-Err.fault.replies.items, some_taken short.0 (some_of_part c.run_refused.new.handler.server c.in-Err.ensures.fault), wrote))

pub returns-in_ok-write_replies-in-Err-clause-short : goal.returns-in_ok-write_replies-in-Err-clause-short
returns-in_ok-write_replies-in-Err-clause-short g c = λ is.
    let wrote = subst (λ (l : List Reply). Appends (g.W.Write.contents c.args.writer.now) (g.W.Write.contents c.write_replies-in-Err.new.writer) (lines_of l)) c.deref-in-Err.ensures.value c.in_ok-write_replies-in-Err.ensures.written in
    (c.in-Err.fault.replies.items, some_of_part c.run_refused.new.handler.server c.in-Err.ensures.fault, wrote)
