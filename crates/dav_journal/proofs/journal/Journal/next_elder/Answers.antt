use Rattle.std.proofs.Common.{◌≡◌, ℕ, ◌+◌, [], ◌∷◌, ◌++◌, length, subst, arith}
use Rattle.dav_journal.specs.Elder.{AreElder, elder_end}
use Rattle.dav_journal.proofs.ElderLemmas.{elder_more, elder_stays}
use Rattle.dav_journal.proofs.JournalLemmas.{stays_then}
use Rattle.dav_journal.proofs.journal.Journal.next_elder.Goals as goal

pub returns-in_default-clause-read : goal.returns-in_default-clause-read
returns-in_default-clause-read g c clean contents reading =
    let later = c.see_elder_end.ensures.stays in
    let stays = stays_then g.D.Disk _ _ _ c.elder_here.ensures.stays later in
    let nothing = rw c.in_default.is at c.in_ok-content.ensures.read (later.reads.clean clean) reading.whole in
    record {
      reading = elder_stays g.D.Disk _ _ contents stays reading;
      nothing = rw (stays.reads.seen, stays.key, stays.end) nothing;
    }

pub returns-clause-read : goal.returns-clause-read
returns-clause-read g c clean contents reading =
    let j = c.args.self.now in
    let stays = c.elder_here.ensures.stays in
    let after = elder_stays g.D.Disk _ _ contents stays reading in
    let found = c.in-Some.content.items in
    let read = rw c.in-Some.is at c.in_ok-content.ensures.read in
    let block = read clean reading.whole in
    let place : elder_end j.end (length found) ≡ c.elder_here.new.self.end + (24 + c.len.result) = omega (arith, stays.end, c.len.ensures) in
    let blocks = subst (λ (e : ℕ). AreElder j.key (g.D.Disk.seen j.disk) 16 (contents ++ found ∷ []) e) place (elder_more j.key (g.D.Disk.seen j.disk) 16 contents j.end found reading.blocks block) in
    record {
      small = after.small;
      front = after.front;
      blocks = rw (stays.reads.seen, stays.key) blocks;
      only = after.only;
      whole = after.whole;
    }
