use Rattle.std.proofs.Common.{◌∷◌, ◌++◌, [], List, ℕ, sym, subst, append_assoc, append-nil}
use Rattle.dav_journal.specs.Journal.{IsKept}
use Rattle.dav_journal.specs.Elder.{IsReadingElder}
use Rattle.dav_journal.proofs.PairLemmas.{reads_same, reads_then}
use Rattle.dav_journal.proofs.pair.elder.copy_elder_blocks.Goals as goal

pub loop-init : goal.loop-init
loop-init g c = (
  [],
  (λ clean before r. subst (λ (t : List (List ℕ)). IsReadingElder g.D.Disk c.args.from.now t) (sym (append-nil before)) r),
  (λ before k. subst (λ (t : List (List ℕ)). IsKept g.D.Disk c.args.to.now t) (sym (append-nil before)) k),
  reads_same g.D.Disk _,
  (λ clean. clean),
)

pub loop-preserved : goal.loop-preserved
loop-preserved g c =
    let b = c.loop.invariant in
    let block : List ℕ = c.in-Some.block.items in
    let read = rw c.in-Some.is at c.in_ok-block.ensures.read in (
      b.0 ++ block ∷ [],
      (λ clean first so. subst (λ (t : List (List ℕ)). IsReadingElder g.D.Disk c.next_elder.new.self t) (append_assoc first b.0 (block ∷ []))
          (read clean (first ++ b.0) (b.1 (c.next_elder.ensures.reads.clean clean) first so))),
      (λ first k. subst (λ (t : List (List ℕ)). IsKept g.D.Disk c.keep.new.self t) (append_assoc first b.0 (block ∷ []))
          (subst (λ (x : List ℕ). IsKept g.D.Disk c.keep.new.self ((first ++ b.0) ++ x ∷ [])) c.deref.ensures.value (c.in_ok-keep.ensures.kept (first ++ b.0) (b.2 first k)))),
      reads_then g.D.Disk _ _ _ b.3 c.next_elder.ensures.reads,
      (λ clean. b.4 (c.keep.ensures.clean clean)),
    )

pub returns-in_default-clause-copied : goal.returns-in_default-clause-copied
returns-in_default-clause-copied g c =
    let b = c.loop.invariant in
    let read = rw c.in_default.is at c.in_ok-block.ensures.read in (
      b.0,
      (λ clean first so. read clean (first ++ b.0) (b.1 (c.next_elder.ensures.reads.clean clean) first so)),
      b.2,
    )

pub returns-in_err-block-clause-reads : goal.returns-in_err-block-clause-reads
returns-in_err-block-clause-reads g c = reads_then g.D.Disk _ _ _ c.loop.invariant.3 c.next_elder.ensures.reads

pub returns-in_default-clause-reads : goal.returns-in_default-clause-reads
returns-in_default-clause-reads g c = reads_then g.D.Disk _ _ _ c.loop.invariant.3 c.next_elder.ensures.reads

pub returns-in_err-keep-clause-reads : goal.returns-in_err-keep-clause-reads
returns-in_err-keep-clause-reads g c = reads_then g.D.Disk _ _ _ c.loop.invariant.3 c.next_elder.ensures.reads

pub returns-clause-reads : goal.returns-clause-reads
returns-clause-reads g c = c.loop.invariant.3
