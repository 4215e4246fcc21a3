use Rattle.std.proofs.Common.{◌≡◌, ℕ, ◌+◌, [], ◌∷◌, ◌++◌, length, subst, arith}
use Rattle.dav_journal.specs.Block.{AreBlocks, end_of}
use Rattle.dav_journal.proofs.BlockLemmas.{blocks_more}
use Rattle.dav_journal.proofs.JournalLemmas.{nothing_stays, reading_stays}
use Rattle.dav_journal.proofs.journal.Journal.next_block.Goals as goal

pub returns-in_default-clause-read : goal.returns-in_default-clause-read
returns-in_default-clause-read g c clean contents reading =
    let stays = c.block_here.ensures.stays in
    let nothing = rw c.in_default.is at c.in_ok-content.ensures.read clean reading.whole in
    record { reading = reading_stays g.D.Disk _ _ contents stays reading; nothing = nothing_stays g.D.Disk _ _ stays nothing }

pub returns-clause-read : goal.returns-clause-read
returns-clause-read g c clean contents reading =
    let j = c.args.self.now in
    let stays = c.block_here.ensures.stays in
    let after = reading_stays g.D.Disk _ _ contents stays reading in
    let found = c.in-Some.content.items in
    let read = rw c.in-Some.is at c.in_ok-content.ensures.read in
    let block = read clean reading.whole in
    let place : end_of j.end (length found) ≡ c.block_here.new.self.end + (49 + c.len.result) = omega (arith, stays.end, c.len.ensures) in
    let blocks = subst (λ (e : ℕ). AreBlocks j.key (g.D.Disk.seen j.disk) 72 (contents ++ found ∷ []) e) place (blocks_more j.key (g.D.Disk.seen j.disk) 72 contents j.end found reading.blocks block) in
    record {
      small = after.small;
      front = after.front;
      blocks = rw (stays.reads.seen, stays.key) blocks;
      only = after.only;
      whole = after.whole;
    }
