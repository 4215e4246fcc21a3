use Rattle.std.proofs.Common.{inr, ◌++◌, rules}
use Rattle.std.proofs.lemmas.Result.{on_ok_weaker}
use Rattle.dav_journal.proofs.journal.Journal.keep_both.Goals as goal

pub returns-clause-any_moment : goal.returns-clause-any_moment
returns-clause-any_moment g c contents kept left may =
    let more = c.in_ok-write.ensures.kept contents (c.args.content.now ++ c.args.body.now) (search rules) kept in
    inr (c.set_mark.ensures.any_moment _ more c.in_ok-write.ensures.synced left may)

pub returns-clause-kept : goal.returns-clause-kept
returns-clause-kept g c =
    on_ok_weaker c.set_mark.result
    (λ marked contents kept. marked _ (c.in_ok-write.ensures.kept contents (c.args.content.now ++ c.args.body.now) (search rules) kept) c.in_ok-write.ensures.synced) c.set_mark.ensures.kept
