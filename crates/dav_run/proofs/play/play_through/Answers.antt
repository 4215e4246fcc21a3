use Rattle.std.proofs.Common.{Err, ap}
use Rattle.std.proofs.lemmas.Result.{err_from_is_err_and}
use Rattle.dav_run.specs.Script.{script_content}
use Rattle.dav_run.proofs.Played.{unplayable, played_all, played_alone, played_some, played_some_alone, onto, same_error}
use Rattle.dav_run.proofs.play.play_through.Goals as goal

pub returns-in_err-play_all-clause-not_script : goal.returns-in_err-play_all-clause-not_script
returns-in_err-play_all-clause-not_script g c =
    let p = err_from_is_err_and c.from_residual-in_err-play_all.result c.from_residual-in_err-play_all.ensures.1 in
    rw (p.1, p.2) (λ is. unplayable _ (script_content c.in_ok-script.script) c.in_ok-script.ensures.ok (c.in_err-play_all.ensures.bad (ap Err (same_error is))))

pub returns-in_err-play_all-clause-short : goal.returns-in_err-play_all-clause-short
returns-in_err-play_all-clause-short g c =
    let p = err_from_is_err_and c.from_residual-in_err-play_all.result c.from_residual-in_err-play_all.ensures.1 in
    rw (p.1, p.2) (λ is.
    played_some (g.R.Read.remaining c.args.reader.now) (script_content c.in_ok-script.script) c.in_ok-script.ensures.ok (g.W.Write.contents c.args.writer.now) (g.W.Write.contents c.play_all.new.writer)
    (c.in_err-play_all.ensures.short (ap Err (same_error is))))

pub returns-in-None-clause-played : goal.returns-in-None-clause-played
returns-in-None-clause-played g c =
    played_all (g.R.Read.remaining c.args.reader.now) (script_content c.in_ok-script.script) c.in_ok-script.ensures.ok (g.W.Write.contents c.args.writer.now) (g.W.Write.contents c.play_all.new.writer)
    c.in-None.is c.in_ok-play_all.ensures.prefix c.in_ok-play_all.ensures.played

pub returns-clause-played : goal.returns-clause-played
returns-clause-played g c =
    onto c.play_alone.result
    (λ told.
    played_alone (g.R.Read.remaining c.args.reader.now) (script_content c.in_ok-script.script) c.in_ok-script.ensures.ok (g.W.Write.contents c.args.writer.now) (g.W.Write.contents c.play_alone.new.writer)
    c.in-Some.place (g.W.Write.contents c.play_all.new.writer) c.in-Some.is c.in_ok-play_all.ensures.prefix c.in_ok-play_all.ensures.played told)
    c.play_alone.ensures.played

pub returns-clause-short : goal.returns-clause-short
returns-clause-short g c = λ is.
    played_some_alone (g.R.Read.remaining c.args.reader.now) (script_content c.in_ok-script.script) c.in_ok-script.ensures.ok (g.W.Write.contents c.args.writer.now) (g.W.Write.contents c.play_alone.new.writer)
    c.in-Some.place (g.W.Write.contents c.play_all.new.writer) c.in-Some.is c.in_ok-play_all.ensures.prefix c.in_ok-play_all.ensures.played (c.play_alone.ensures.short is)
