use Rattle.std.proofs.lemmas.Result.{on_ok_weaker}
use Rattle.dav_journal.proofs.journal.Journal.cut.Goals as goal

pub returns-clause-kept : goal.returns-clause-kept
returns-clause-kept g c = on_ok_weaker c.set_mark.result
    (λ marked clean contents r.
    let leveled = c.level.ensures.clean (c.set_mark.ensures.clean clean) in
    let cleared = c.in_ok-clear_marks.ensures.cleared (c.shut.ensures.clean leveled) contents r in
    marked contents (c.in_ok-level.ensures.kept contents (c.in_ok-shut.ensures.shut leveled contents cleared)) c.in_ok-level.ensures.synced) c.set_mark.ensures.kept

pub returns-clause-any_moment : goal.returns-clause-any_moment
returns-clause-any_moment g c clean contents r leaves left may =
    let leveled = c.level.ensures.clean (c.set_mark.ensures.clean clean) in
    let cleared = c.in_ok-clear_marks.ensures.cleared (c.shut.ensures.clean leveled) contents r in
    c.set_mark.ensures.any_moment contents (c.in_ok-level.ensures.kept contents (c.in_ok-shut.ensures.shut leveled contents cleared)) c.in_ok-level.ensures.synced left may
