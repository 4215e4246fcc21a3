use Rattle.std.proofs.Common.{◌∷◌, ◌++◌, [], List, ℕ, sym, refl, subst, inl, inr, rules}
use Rattle.std.specs.Int.{w64, to_be_bytes}
use Rattle.dav_journal.specs.Elder.{ElderRecovers}
use Rattle.dav_journal.specs.File.{Recovers}
use Rattle.dav_journal.proofs.ElderLemmas.{elder_stays}
use Rattle.dav_journal.proofs.ElderPairLemmas.{let_go_front, not_going, not_let_go, not_newer, read_elder_blocks, read_nothing, same_rest}
use Rattle.dav_journal.proofs.GoingLemmas.{going_long}
use Rattle.dav_journal.proofs.PairLemmas.{kept_recovers, reads_then}
use Rattle.dav_journal.proofs.pair.Pair.copy_elder.Goals as goal

pub returns-then-not-branch-clause-copied : goal.returns-then-not-branch-clause-copied
returns-then-not-branch-clause-copied g c clean blocks leaves =
    let p = c.args.self.now in
    let other = c.in_ok-open_elder.ensures.another (search rules) (clean.0) in
    elim (leaves _ _ (g.met.D.Disk.seen_may_stay p.counts.disk) (g.met.D.Disk.seen_may_stay p.spare.disk)) [
      | inl r ↦ absurd (other r.key r.front (going_long c.args.former.now blocks _ (inl r)))
      | inr (gone, copy) ↦ absurd (other gone.key (let_go_front _ _ gone) gone.whole)
    ]

pub returns-in_err-see_first-clause-going : goal.returns-in_err-see_first-clause-going
returns-in_err-see_first-clause-going g c clean blocks leaves left other may might =
    let p = c.args.self.now in
    let reads = reads_then g.D.Disk _ _ _ c.open_elder.ensures.reads c.is_let_go.ensures.stays.reads in
    let first = c.in_ok-open_elder.ensures.reading (search rules) (c.is_let_go.ensures.stays.reads.clean (clean.0)) in
    let gone = c.in_ok-is_let_go.ensures.is (search rules) (clean.0) first in
    elim (leaves _ _ (g.met.D.Disk.seen_may_stay p.counts.disk) (g.met.D.Disk.seen_may_stay p.spare.disk)) [
      | inl r ↦ absurd (not_going _ c.args.former.now blocks (rw c.open_elder.ensures.reads.seen r) gone)
      | inr (still, copy) ↦ leaves left other (reads.crash left may) ((c.see_first.ensures.stands (clean.1) _ copy).crash other might)
    ]

pub returns-then-branch-clause-going : goal.returns-then-branch-clause-going
returns-then-branch-clause-going g c clean blocks leaves left other may might =
    let p = c.args.self.now in
    let reads = reads_then g.D.Disk _ _ _ c.open_elder.ensures.reads c.is_let_go.ensures.stays.reads in
    let first = c.in_ok-open_elder.ensures.reading (search rules) (c.is_let_go.ensures.stays.reads.clean (clean.0)) in
    let gone = c.in_ok-is_let_go.ensures.is (search rules) (clean.0) first in
    elim (leaves _ _ (g.met.D.Disk.seen_may_stay p.counts.disk) (g.met.D.Disk.seen_may_stay p.spare.disk)) [
      | inl r ↦ absurd (not_going _ c.args.former.now blocks (rw c.open_elder.ensures.reads.seen r) gone)
      | inr (still, copy) ↦ leaves left other (reads.crash left may) ((c.see_first.ensures.stands (clean.1) _ copy).crash other might)
    ]

pub returns-then-branch-clause-copied : goal.returns-then-branch-clause-copied
returns-then-branch-clause-copied g c clean blocks leaves =
    let p = c.args.self.now in
    let reads = reads_then g.D.Disk _ _ _ c.open_elder.ensures.reads c.is_let_go.ensures.stays.reads in
    let first = c.in_ok-open_elder.ensures.reading (search rules) (c.is_let_go.ensures.stays.reads.clean (clean.0)) in
    let gone = c.in_ok-is_let_go.ensures.is (search rules) (clean.0) first in
    let none : ElderRecovers (g.D.Disk.seen p.counts.disk) (c.args.former.now ∷ blocks) → ⊥ = λ r. not_going _ c.args.former.now blocks (rw c.open_elder.ensures.reads.seen r) gone in
    elim (leaves _ _ (g.met.D.Disk.seen_may_stay p.counts.disk) (g.met.D.Disk.seen_may_stay p.spare.disk)) [
      | inl r ↦ absurd (none r)
      | inr (still, copy) ↦ (
        refl,
        ([], elder_stays g.D.Disk _ _ [] c.is_let_go.ensures.stays first),
        inr (rw c.is_let_go.ensures.stays.reads.seen gone),
        (λ other might.
            elim (leaves _ other (g.met.D.Disk.seen_may_stay p.counts.disk) ((c.see_first.ensures.stands (clean.1) _ copy).crash other might)) [
              | inl r ↦ absurd (none r)
              | inr (even, there) ↦ there
            ]),
      )
    ]

pub returns-in_default-clause-copied : goal.returns-in_default-clause-copied
returns-in_default-clause-copied g c clean blocks leaves =
    let p = c.args.self.now in
    let last = c.see_no_version.ensures.stays.reads.clean (clean.0) in
    let mid = c.next_elder.ensures.reads.clean last in
    let first = c.in_ok-open_elder.ensures.reading (search rules) (c.is_let_go.ensures.stays.reads.clean mid) in
    let opened = elder_stays g.D.Disk _ _ [] c.is_let_go.ensures.stays first in
    let read = rw c.in_default.is at c.in_ok-block.ensures.read last [] opened in
    let reads = reads_then g.D.Disk _ _ _ (reads_then g.D.Disk _ _ _ c.open_elder.ensures.reads c.is_let_go.ensures.stays.reads) c.next_elder.ensures.reads in
    elim (leaves _ _ (g.met.D.Disk.seen_may_stay p.counts.disk) (g.met.D.Disk.seen_may_stay p.spare.disk)) [
      | inl r ↦ absurd (read_nothing g.D.Disk _ c.args.former.now blocks read (rw reads.seen r))
      | inr (gone, copy) ↦ absurd (c.in_ok-is_let_go.ensures.other (search rules) mid first (rw c.open_elder.ensures.reads.seen gone))
    ]

pub returns-in_err-copy_whole-clause-going : goal.returns-in_err-copy_whole-clause-going
returns-in_err-copy_whole-clause-going g c clean blocks leaves left other may might =
    let p = c.args.self.now in
    let last = c.copy_whole.ensures.reads.clean (clean.0) in
    let mid = c.next_elder.ensures.reads.clean last in
    let first = c.in_ok-open_elder.ensures.reading (search rules) (c.is_let_go.ensures.stays.reads.clean mid) in
    let opened = elder_stays g.D.Disk _ _ [] c.is_let_go.ensures.stays first in
    let read = rw c.in-Some.is at c.in_ok-block.ensures.read last [] opened in
    let reads = reads_then g.D.Disk _ _ _ (reads_then g.D.Disk _ _ _ c.open_elder.ensures.reads c.is_let_go.ensures.stays.reads) c.next_elder.ensures.reads in
    let is = read.only left (c.copy_whole.ensures.reads.crash left may) in
    elim (leaves _ _ (g.met.D.Disk.seen_may_stay p.counts.disk) (g.met.D.Disk.seen_may_stay p.spare.disk)) [
      | inl r ↦ inl (rw (is, reads.seen) r)
      | inr (gone, copy) ↦ absurd (c.in_ok-is_let_go.ensures.other (search rules) mid first (rw c.open_elder.ensures.reads.seen gone))
    ]

pub returns-clause-going : goal.returns-clause-going
returns-clause-going g c clean blocks leaves left other may might =
    let p = c.args.self.now in
    let last = c.copy_whole.ensures.reads.clean (clean.0) in
    let mid = c.next_elder.ensures.reads.clean last in
    let first = c.in_ok-open_elder.ensures.reading (search rules) (c.is_let_go.ensures.stays.reads.clean mid) in
    let opened = elder_stays g.D.Disk _ _ [] c.is_let_go.ensures.stays first in
    let read = rw c.in-Some.is at c.in_ok-block.ensures.read last [] opened in
    let reads = reads_then g.D.Disk _ _ _ (reads_then g.D.Disk _ _ _ c.open_elder.ensures.reads c.is_let_go.ensures.stays.reads) c.next_elder.ensures.reads in
    let is = read.only left (c.copy_whole.ensures.reads.crash left may) in
    elim (leaves _ _ (g.met.D.Disk.seen_may_stay p.counts.disk) (g.met.D.Disk.seen_may_stay p.spare.disk)) [
      | inl r ↦ inl (rw (is, reads.seen) r)
      | inr (gone, copy) ↦ absurd (c.in_ok-is_let_go.ensures.other (search rules) mid first (rw c.open_elder.ensures.reads.seen gone))
    ]

pub returns-clause-copied : goal.returns-clause-copied
returns-clause-copied g c clean blocks leaves =
    let p = c.args.self.now in
    let reads = reads_then g.D.Disk _ _ _ (reads_then g.D.Disk _ _ _ c.open_elder.ensures.reads c.is_let_go.ensures.stays.reads) c.next_elder.ensures.reads in
    let all = reads_then g.D.Disk _ _ _ reads c.copy_whole.ensures.reads in
    let (more, read, kept) = c.in_ok-copy_whole.ensures.copied clean in
    elim (leaves _ _ (g.met.D.Disk.seen_may_stay p.counts.disk) (g.met.D.Disk.seen_may_stay p.spare.disk)) [
      | inl r ↦
          let now : ElderRecovers (g.D.Disk.seen c.copy_whole.new.self.counts.disk) (c.args.former.now ∷ blocks) = rw all.seen r in
          let same = same_rest c.args.former.now blocks more (read_elder_blocks g.D.Disk _ _ _ read now) in (
            refl,
            (_, read.reading),
            inl now,
            (λ other might. subst (λ (bs : List (List ℕ)). Recovers other ((to_be_bytes w64 0 ++ c.args.first.now) ∷ bs)) (sym same) (kept_recovers g.D.Disk _ _ kept other might)),
          )
      | inr (gone, copy) ↦ absurd (not_let_go g.D.Disk _ c.args.former.now more read.reading (rw all.seen gone))
    ]

pub returns-in_err-is_let_go-clause-newer : goal.returns-in_err-is_let_go-clause-newer
returns-in_err-is_let_go-clause-newer g c clean contents r =
    let first = c.in_ok-open_elder.ensures.reading (search rules) (c.is_let_go.ensures.stays.reads.clean (clean.0)) in
    absurd (not_newer g.D.Disk _ _ contents [] first c.open_elder.ensures.reads.seen r)

pub returns-in_err-see_first-clause-newer : goal.returns-in_err-see_first-clause-newer
returns-in_err-see_first-clause-newer g c clean contents r =
    let first = c.in_ok-open_elder.ensures.reading (search rules) (c.is_let_go.ensures.stays.reads.clean (clean.0)) in
    absurd (not_newer g.D.Disk _ _ contents [] first c.open_elder.ensures.reads.seen r)

pub returns-then-branch-clause-newer : goal.returns-then-branch-clause-newer
returns-then-branch-clause-newer g c clean contents r =
    let first = c.in_ok-open_elder.ensures.reading (search rules) (c.is_let_go.ensures.stays.reads.clean (clean.0)) in
    absurd (not_newer g.D.Disk _ _ contents [] first c.open_elder.ensures.reads.seen r)

pub returns-in_err-block-clause-newer : goal.returns-in_err-block-clause-newer
returns-in_err-block-clause-newer g c clean contents r =
    let first = c.in_ok-open_elder.ensures.reading (search rules) (c.is_let_go.ensures.stays.reads.clean (c.next_elder.ensures.reads.clean (clean.0))) in
    absurd (not_newer g.D.Disk _ _ contents [] first c.open_elder.ensures.reads.seen r)

pub returns-in_err-see_no_version-clause-newer : goal.returns-in_err-see_no_version-clause-newer
returns-in_err-see_no_version-clause-newer g c clean contents r =
    let first = c.in_ok-open_elder.ensures.reading (search rules) (c.is_let_go.ensures.stays.reads.clean (c.next_elder.ensures.reads.clean (c.see_no_version.ensures.stays.reads.clean (clean.0)))) in
    absurd (not_newer g.D.Disk _ _ contents [] first c.open_elder.ensures.reads.seen r)

pub returns-in_default-clause-newer : goal.returns-in_default-clause-newer
returns-in_default-clause-newer g c clean contents r =
    let first = c.in_ok-open_elder.ensures.reading (search rules) (c.is_let_go.ensures.stays.reads.clean (c.next_elder.ensures.reads.clean (c.see_no_version.ensures.stays.reads.clean (clean.0)))) in
    absurd (not_newer g.D.Disk _ _ contents [] first c.open_elder.ensures.reads.seen r)

pub returns-then-ne-clause-newer : goal.returns-then-ne-clause-newer
returns-then-ne-clause-newer g c clean contents r =
    let first = c.in_ok-open_elder.ensures.reading (search rules) (c.is_let_go.ensures.stays.reads.clean (c.next_elder.ensures.reads.clean (clean.0))) in
    absurd (not_newer g.D.Disk _ _ contents [] first c.open_elder.ensures.reads.seen r)

pub returns-in_err-copy_whole-clause-newer : goal.returns-in_err-copy_whole-clause-newer
returns-in_err-copy_whole-clause-newer g c clean contents r =
    let first = c.in_ok-open_elder.ensures.reading (search rules) (c.is_let_go.ensures.stays.reads.clean (c.next_elder.ensures.reads.clean (c.copy_whole.ensures.reads.clean (clean.0)))) in
    absurd (not_newer g.D.Disk _ _ contents [] first c.open_elder.ensures.reads.seen r)

pub returns-clause-newer : goal.returns-clause-newer
returns-clause-newer g c clean contents r =
    let first = c.in_ok-open_elder.ensures.reading (search rules) (c.is_let_go.ensures.stays.reads.clean (c.next_elder.ensures.reads.clean (c.copy_whole.ensures.reads.clean (clean.0)))) in
    absurd (not_newer g.D.Disk _ _ contents [] first c.open_elder.ensures.reads.seen r)
