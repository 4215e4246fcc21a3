use Rattle.std.proofs.Common.{◌∷◌, ◌++◌, List, ℕ, refl, sym, subst, inl, inr, rules}
use Rattle.std.specs.Int.{w64, to_be_bytes}
use Rattle.dav_journal.specs.Journal.{IsKept, OnlyReads, disk_of}
use Rattle.dav_journal.specs.Pair.{IsCleanPair}
use Rattle.dav_journal.proofs.AdoptLemmas.{copied_blocks, long_read, opened_read, taken_over}
use Rattle.dav_journal.proofs.PairLemmas.{are_journals, kept_recovers, pair_left, reads_same, reads_then, recovers_journal}
use Rattle.dav_journal.proofs.pair.Pair.adopt.Goals as goal

pub returns-in_err-has_former-clause-any_moment : goal.returns-in_err-has_former-clause-any_moment
returns-in_err-has_former-clause-any_moment g c clean blocks leaves left other may might =
    let seen = g.met.D.Disk.seen_may_stay c.args.self.now.counts.disk in
    inl (leaves left ((c.has_former.ensures.stands clean (recovers_journal _ _ (leaves _ seen))).crash left may))

pub returns-then-not-branch-clause-any_moment : goal.returns-then-not-branch-clause-any_moment
returns-then-not-branch-clause-any_moment g c clean blocks leaves left other may might =
    let seen = g.met.D.Disk.seen_may_stay c.args.self.now.counts.disk in
    inl (leaves left ((c.has_former.ensures.stands clean (recovers_journal _ _ (leaves _ seen))).crash left may))

pub returns-then-not-branch-clause-adopted : goal.returns-then-not-branch-clause-adopted
returns-then-not-branch-clause-adopted g c clean blocks leaves =
    let seen = g.met.D.Disk.seen_may_stay c.args.self.now.counts.disk in
    absurd (c.in_ok-has_former.ensures.another (search rules) clean blocks (leaves _ seen))

pub returns-then-not-branch-clause-another : goal.returns-then-not-branch-clause-another
returns-then-not-branch-clause-another g c is clean contents leaves =
    let p = c.args.self.now in
    let (one, other) = are_journals _ _ contents (leaves _ _ (g.met.D.Disk.seen_may_stay p.counts.disk) (g.met.D.Disk.seen_may_stay p.spare.disk)) in
    let same = c.in_ok-has_former.ensures.spare (search rules) in
    pair_left g.D.Disk _ _ _ _ contents (c.has_former.ensures.stands clean one) (subst (λ j. OnlyReads g.D.Disk p.spare.disk (disk_of j)) (sym same) (reads_same g.D.Disk p.spare.disk)) leaves

pub returns-in_err-copy_former-clause-any_moment : goal.returns-in_err-copy_former-clause-any_moment
returns-in_err-copy_former-clause-any_moment g c clean blocks leaves left other may might =
    let seen = g.met.D.Disk.seen_may_stay c.args.self.now.counts.disk in
    let before = c.copy_former.ensures.clean clean in
    let reads = reads_then g.D.Disk _ _ _ (c.has_former.ensures.stands before (recovers_journal _ _ (leaves _ seen))) c.copy_former.ensures.reads in
    inl (leaves left (reads.crash left may))

pub returns-in_err-clear-clause-any_moment : goal.returns-in_err-clear-clause-any_moment
returns-in_err-clear-clause-any_moment g c clean blocks leaves left other may might =
    let first = c.args.first.now in
    let seen = g.met.D.Disk.seen_may_stay c.args.self.now.counts.disk in
    let copied : IsCleanPair g.D.Disk c.copy_former.new.self = (c.clear.ensures.clean (clean.0), clean.1) in
    let begun = c.copy_former.ensures.clean copied in
    let reads = reads_then g.D.Disk _ _ _ (c.has_former.ensures.stands begun (recovers_journal _ _ (leaves _ seen))) c.copy_former.ensures.reads in
    let (more, read, kept) = c.in_ok-copy_former.ensures.copied copied c.args.former.now (c.in_ok-has_former.ensures.begins (search rules) begun) in
    let same = copied_blocks g.D.Disk c.copy_former.new.self.counts _ more blocks read (leaves _ (reads.crash _ (g.met.D.Disk.seen_may_stay c.copy_former.new.self.counts.disk))) in
    let copy = subst (λ (bs : List (List ℕ)). IsKept g.D.Disk c.copy_former.new.self.spare ((to_be_bytes w64 0 ++ first) ∷ bs)) same kept in
    elim (c.clear.ensures.any_moment (clean.0) (opened_read g.D.Disk _ _ read.reading (long_read g.D.Disk _ _ read)) _ (λ file was. leaves file (reads.crash file was)) left may) [
      | inl was ↦ inl was
      | inr none ↦ inr (taken_over left other first blocks none (kept_recovers g.D.Disk _ _ copy other might))
    ]

pub returns-clause-any_moment : goal.returns-clause-any_moment
returns-clause-any_moment g c clean blocks leaves left other may might =
    let first = c.args.first.now in
    let seen = g.met.D.Disk.seen_may_stay c.args.self.now.counts.disk in
    let copied : IsCleanPair g.D.Disk c.copy_former.new.self = (c.clear.ensures.clean (clean.0), clean.1) in
    let begun = c.copy_former.ensures.clean copied in
    let reads = reads_then g.D.Disk _ _ _ (c.has_former.ensures.stands begun (recovers_journal _ _ (leaves _ seen))) c.copy_former.ensures.reads in
    let (more, read, kept) = c.in_ok-copy_former.ensures.copied copied c.args.former.now (c.in_ok-has_former.ensures.begins (search rules) begun) in
    let same = copied_blocks g.D.Disk c.copy_former.new.self.counts _ more blocks read (leaves _ (reads.crash _ (g.met.D.Disk.seen_may_stay c.copy_former.new.self.counts.disk))) in
    let copy = subst (λ (bs : List (List ℕ)). IsKept g.D.Disk c.copy_former.new.self.spare ((to_be_bytes w64 0 ++ first) ∷ bs)) same kept in
    elim (c.clear.ensures.any_moment (clean.0) (opened_read g.D.Disk _ _ read.reading (long_read g.D.Disk _ _ read)) _ (λ file was. leaves file (reads.crash file was)) left may) [
      | inl was ↦ inl was
      | inr none ↦ inr (taken_over left other first blocks none (kept_recovers g.D.Disk _ _ copy other might))
    ]

pub returns-clause-adopted : goal.returns-clause-adopted
returns-clause-adopted g c clean blocks leaves =
    let first = c.args.first.now in
    let seen = g.met.D.Disk.seen_may_stay c.args.self.now.counts.disk in
    let copied : IsCleanPair g.D.Disk c.copy_former.new.self = (c.clear.ensures.clean (clean.0), clean.1) in
    let begun = c.copy_former.ensures.clean copied in
    let reads = reads_then g.D.Disk _ _ _ (c.has_former.ensures.stands begun (recovers_journal _ _ (leaves _ seen))) c.copy_former.ensures.reads in
    let (more, read, kept) = c.in_ok-copy_former.ensures.copied copied c.args.former.now (c.in_ok-has_former.ensures.begins (search rules) begun) in
    let same = copied_blocks g.D.Disk c.copy_former.new.self.counts _ more blocks read (leaves _ (reads.crash _ (g.met.D.Disk.seen_may_stay c.copy_former.new.self.counts.disk))) in
    let copy = subst (λ (bs : List (List ℕ)). IsKept g.D.Disk c.copy_former.new.self.spare ((to_be_bytes w64 0 ++ first) ∷ bs)) same kept in
    let cleared = c.in_ok-clear.ensures.kept (clean.0) (opened_read g.D.Disk _ _ read.reading (long_read g.D.Disk _ _ read)) in (
      refl,
      (λ left other may might. taken_over left other first blocks (kept_recovers g.D.Disk _ _ cleared left may) (kept_recovers g.D.Disk _ _ copy other might)),
    )
