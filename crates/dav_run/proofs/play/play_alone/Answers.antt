use Rattle.std.proofs.Common.{[], ◌+◌, ◌++◌, Err, inl, inr, refl, sym, ap, subst}
use Rattle.std.proofs.KnownBytes.{Appends-nil}
use Rattle.std.proofs.lemmas.Result.{err_from_is_err_and}
use Rattle.std.specs.Io.KnownBytes.{Appends}
use Rattle.dav_run.specs.Print.{lines_of, place_line}
use Rattle.dav_run.proofs.AloneLemmas.{alone_of_parts, run_of_front}
use Rattle.dav_run.proofs.Played.{appends_both, onto, same_error}
use Rattle.dav_run.proofs.play.play_alone.Goals as goal

pub returns-clause-played : goal.returns-clause-played
returns-clause-played g c =
    let set_up = c.in_ok-handler.ensures in
    let rs = c.args.script.now.requests.items in
    let there = c.run_refused.new.handler.server in
    let us = c.in_ok-own.own.items in
    let before = c.in_ok-run_refused.field-0.items in
    let after = alone_of_parts rs c.deref.result.now c.args.place c.index.result.now c.split_at.result.1.now us c.requires c.index.ensures c.split_at.ensures.back c.deref.ensures.value c.in_ok-own.ensures in
    let up_to = run_of_front rs c.deref.result.now c.split_at.result.0.now (c.args.place + 1) c.in_ok-first.first.items before there set_up.settings set_up.state c.in_ok-first.ensures c.split_at.ensures.front c.deref.ensures.value c.in_ok-run_refused.ensures.run in
    onto c.play_turns.result
    (λ told. (
      place_line c.args.place ++ lines_of told.0,
      (us, there, told.0, c.play_turns.new.handler.server, after, (before, up_to), told.1, refl),
      appends_both (g.W.Write.contents c.args.writer.now) (g.W.Write.contents c.write_place.new.writer) (g.W.Write.contents c.play_turns.new.writer) (place_line c.args.place) (lines_of told.0)
          c.in_ok-write_place.ensures.written told.2,
    ))
    c.play_turns.ensures.played

pub returns-clause-short : goal.returns-clause-short
returns-clause-short g c = λ is.
    let set_up = c.in_ok-handler.ensures in
    let rs = c.args.script.now.requests.items in
    let there = c.run_refused.new.handler.server in
    let us = c.in_ok-own.own.items in
    let before = c.in_ok-run_refused.field-0.items in
    let after = alone_of_parts rs c.deref.result.now c.args.place c.index.result.now c.split_at.result.1.now us c.requires c.index.ensures c.split_at.ensures.back c.deref.ensures.value c.in_ok-own.ensures in
    let up_to = run_of_front rs c.deref.result.now c.split_at.result.0.now (c.args.place + 1) c.in_ok-first.first.items before there set_up.settings set_up.state c.in_ok-first.ensures c.split_at.ensures.front c.deref.ensures.value c.in_ok-run_refused.ensures.run in
    let (replies, some, wrote) = c.play_turns.ensures.short is in (
      place_line c.args.place ++ lines_of replies,
      inr (us, there, replies, after, (before, up_to), some, refl),
      appends_both (g.W.Write.contents c.args.writer.now) (g.W.Write.contents c.write_place.new.writer) (g.W.Write.contents c.play_turns.new.writer) (place_line c.args.place) (lines_of replies)
          c.in_ok-write_place.ensures.written wrote,
    )

pub returns-in_err-write_place-clause-short : goal.returns-in_err-write_place-clause-short
returns-in_err-write_place-clause-short g c =
    let p = err_from_is_err_and c.from_residual-in_err-write_place.result c.from_residual-in_err-write_place.ensures.1 in
    rw (p.1, p.2) (λ is. (
      [],
      inl refl,
      subst (λ w. Appends (g.W.Write.contents c.args.writer.now) (g.W.Write.contents w) []) (sym (c.in_err-write_place.ensures.short (ap Err (same_error is))))
          (Appends-nil (g.W.Write.contents c.args.writer.now)),
    ))
