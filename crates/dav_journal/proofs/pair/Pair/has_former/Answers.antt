use Rattle.std.proofs.Common.{sym, subst, rules}
use Rattle.dav_journal.specs.Journal.{IsJournal}
use Rattle.dav_journal.proofs.PairLemmas.{reads_then}
use Rattle.dav_journal.proofs.pair.Pair.has_former.Goals as goal

pub returns-in_err-see_copy-clause-stands : goal.returns-in_err-see_copy-clause-stands
returns-in_err-see_copy-clause-stands g c clean is =
    reads_then g.D.Disk _ _ _ (c.begins_with.ensures.stands (c.see_copy.ensures.reads.clean (clean.0)) is) c.see_copy.ensures.reads

pub returns-in_err-begins_with-2-clause-stands : goal.returns-in_err-begins_with-2-clause-stands
returns-in_err-begins_with-2-clause-stands g c clean is =
    let mid = c.begins_with-2.ensures.clean (clean.0) in
    let before = reads_then g.D.Disk _ _ _ (c.begins_with.ensures.stands (c.see_copy.ensures.reads.clean mid) is) c.see_copy.ensures.reads in
    reads_then g.D.Disk _ _ _ before (c.begins_with-2.ensures.stands (clean.0) (subst IsJournal (sym before.seen) is))

pub returns-then-branch-clause-stands : goal.returns-then-branch-clause-stands
returns-then-branch-clause-stands g c clean is =
    let mid = c.begins_with-2.ensures.clean (clean.0) in
    let before = reads_then g.D.Disk _ _ _ (c.begins_with.ensures.stands (c.see_copy.ensures.reads.clean mid) is) c.see_copy.ensures.reads in
    reads_then g.D.Disk _ _ _ before (c.begins_with-2.ensures.stands (clean.0) (subst IsJournal (sym before.seen) is))

pub returns-else-branch-clause-stands : goal.returns-else-branch-clause-stands
returns-else-branch-clause-stands g c clean is =
    let mid = c.begins_with-2.ensures.clean (clean.0) in
    let before = reads_then g.D.Disk _ _ _ (c.begins_with.ensures.stands (c.see_copy.ensures.reads.clean mid) is) c.see_copy.ensures.reads in
    reads_then g.D.Disk _ _ _ before (c.begins_with-2.ensures.stands (clean.0) (subst IsJournal (sym before.seen) is))

pub returns-in_err-begins_with-clause-stands : goal.returns-in_err-begins_with-clause-stands
returns-in_err-begins_with-clause-stands g c clean = c.begins_with.ensures.stands (clean.0)

pub returns-then-not-branch-clause-stands : goal.returns-then-not-branch-clause-stands
returns-then-not-branch-clause-stands g c clean = c.begins_with.ensures.stands (clean.0)

pub returns-then-not-branch-clause-another : goal.returns-then-not-branch-clause-another
returns-then-not-branch-clause-another g c is clean = c.in_ok-begins_with.ensures.another (search rules) (clean.0)
