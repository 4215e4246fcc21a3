use Rattle.std.proofs.Common.{◌≡◌, ℕ, Err, ap, ◌+◌, [], ◌∷◌, ◌++◌, length, sym, ◌∙◌, subst, arith}
use Rattle.std.proofs.lemmas.Result.{err_from_is_err_and}
use Rattle.dav_journal.specs.Block.{AreBlocks, end_of}
use Rattle.dav_journal.proofs.BlockLemmas.{blocks_more}
use Rattle.dav_journal.proofs.JournalLemmas.{damage_stands, err_moved, more_stays, nothing_stays, reading_stays, stays_same}
use Rattle.dav_journal.proofs.MarkLemmas.{reached_low}
use Rattle.dav_journal.proofs.journal.Journal.next_here.Goals as goal

pub returns-in_default-clause-read : goal.returns-in_default-clause-read
returns-in_default-clause-read g c clean contents reading last =
    let stays = c.block_here.ensures.stays in
    let nothing = rw c.in_default.is at c.in_ok-content.ensures.read clean reading.whole in
    let new = c.block_here.new.self in
    record {
      reading = reading_stays g.D.Disk _ _ contents stays reading;
      nothing = nothing_stays g.D.Disk _ _ stays nothing;
      more = more_stays g.D.Disk _ _ _ contents stays (stays_same g.D.Disk new) reading c.in_ok-see_reached.ensures.more;
      unmarked = λ at is n small h. omega (arith, c.in_ok-see_reached.ensures.low, last.most at is n small (rw stays.reads.seen at h));
    }

pub returns-in_err-see_reached-clause-damaged : goal.returns-in_err-see_reached-clause-damaged
returns-in_err-see_reached-clause-damaged g c place is clean contents reading at last =
    let stays = c.block_here.ensures.stays in
    let (error, told, same) = err_from_is_err_and c.from_residual-in_err-see_reached.result c.from_residual-in_err-see_reached.ensures.1 in
    let both = c.in_err-see_reached.ensures.damaged place (err_moved _ _ (ap Err (sym same) ∙ sym told ∙ is)) in
    let nothing = rw c.in_default.is at c.in_ok-content.ensures.read clean reading.whole in
    let end = stays.end in
    let len = stays.len in
    (both.0 ∙ end, λ others. damage_stands g.D.Disk c.args.self.now contents others reading nothing (λ none more. both.1 (omega (arith, reached_low (g.D.Disk.seen c.args.self.now.disk) c.args.last.0 c.args.last.1 c.args.self.now.end (omega arith) at last none, end)) (omega (arith, more, end, len))))

pub returns-clause-read : goal.returns-clause-read
returns-clause-read g c clean contents reading last =
    let j = c.args.self.now in
    let stays = c.block_here.ensures.stays in
    let after = reading_stays g.D.Disk _ _ contents stays reading in
    let found = c.in-Some.content.items in
    let read = rw c.in-Some.is at c.in_ok-content.ensures.read in
    let block = read clean reading.whole in
    let place : end_of j.end (length found) ≡ c.block_here.new.self.end + (49 + c.len.result) = omega (arith, stays.end, c.len.ensures) in
    let blocks = subst (λ (e : ℕ). AreBlocks j.key (g.D.Disk.seen j.disk) 72 (contents ++ found ∷ []) e) place (blocks_more j.key (g.D.Disk.seen j.disk) 72 contents j.end found reading.blocks block) in
    record {
      small = after.small;
      front = after.front;
      blocks = rw (stays.reads.seen, stays.key) blocks;
      only = after.only;
      whole = after.whole;
    }
