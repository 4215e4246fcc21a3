use Rattle.std.proofs.Common.{inl, inr}
use Rattle.std.proofs.lemmas.Result.{on_ok_weaker}
use Rattle.dav_journal.proofs.PairLemmas.{none_behind}
use Rattle.dav_journal.proofs.journal.Journal.clear.Goals as goal

pub returns-in_err-drop_marks-clause-any_moment : goal.returns-in_err-drop_marks-clause-any_moment
returns-in_err-drop_marks-clause-any_moment g c clean opened contents leaves left may = inl (c.drop_marks.ensures.any_moment contents leaves left may)

pub returns-in_err-shut_first-clause-any_moment : goal.returns-in_err-shut_first-clause-any_moment
returns-in_err-shut_first-clause-any_moment g c clean opened contents leaves left may =
    let bare = c.in_ok-drop_marks.ensures.bare (c.shut_first.ensures.clean clean) opened in
    c.shut_first.ensures.any_moment clean bare contents (c.drop_marks.ensures.any_moment contents leaves) left may

pub returns-clause-any_moment : goal.returns-clause-any_moment
returns-clause-any_moment g c clean opened contents leaves left may =
    let leveled = c.level.ensures.clean clean in
    let bare = c.in_ok-drop_marks.ensures.bare (c.shut_first.ensures.clean leveled) opened in
    inr (c.level.ensures.any_moment _ (c.in_ok-shut_first.ensures.shut leveled bare) left may)

pub returns-in_err-drop_marks-clause-behind : goal.returns-in_err-drop_marks-clause-behind
returns-in_err-drop_marks-clause-behind g c clean opened generation leaves = c.drop_marks.ensures.behind generation leaves

pub returns-in_err-shut_first-clause-behind : goal.returns-in_err-shut_first-clause-behind
returns-in_err-shut_first-clause-behind g c clean opened generation leaves =
    let bare = c.in_ok-drop_marks.ensures.bare (c.shut_first.ensures.clean clean) opened in
    c.shut_first.ensures.behind clean bare generation (c.drop_marks.ensures.behind generation leaves)

pub returns-clause-behind : goal.returns-clause-behind
returns-clause-behind g c clean opened generation leaves left may =
    let leveled = c.level.ensures.clean clean in
    let bare = c.in_ok-drop_marks.ensures.bare (c.shut_first.ensures.clean leveled) opened in
    none_behind generation left (c.level.ensures.any_moment _ (c.in_ok-shut_first.ensures.shut leveled bare) left may)

pub returns-clause-kept : goal.returns-clause-kept
returns-clause-kept g c = on_ok_weaker c.level.result
    (λ leveled clean opened.
    let before = c.level.ensures.clean clean in
    let bare = c.in_ok-drop_marks.ensures.bare (c.shut_first.ensures.clean before) opened in
    leveled _ (c.in_ok-shut_first.ensures.shut before bare)) c.level.ensures.kept
