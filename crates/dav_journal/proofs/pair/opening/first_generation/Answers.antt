use Rattle.std.proofs.Common.{IsTrue, Some, sym, ◌∙◌, subst}
use Rattle.dav_journal.specs.Pair.{HasFirst}
use Rattle.dav_journal.proofs.PairLemmas.{first_none, first_some}
use Rattle.dav_journal.proofs.pair.opening.first_generation.Goals as goal

pub returns-in_default-clause-read : goal.returns-in_default-clause-read
returns-in_default-clause-read g c clean reading long =
    let read = rw c.in_default.is at c.in_ok-block.ensures.read in
    let has = read clean _ reading in
    (has.reading, first_none g.D.Disk c.next_block.new.self has (rw c.next_block.ensures.reads.seen long))

pub returns-clause-read : goal.returns-clause-read
returns-clause-read g c clean reading long =
    let before : IsTrue (g.D.Disk.is_clean c.next_block.new.self.disk) = subst (λ d. IsTrue (g.D.Disk.is_clean d)) c.again.ensures.disk clean in
    let read = rw c.in-Some.is at c.in_ok-block.ensures.read in
    let has = read before _ reading in
    let (content, begins) = c.in-Some-generation_in.ensures.begins in (
      c.again.ensures.reading _ has,
      subst (λ j. HasFirst g.D.Disk j (Some c.in-Some-generation_in.generation)) (sym c.again.ensures.stays) (first_some g.D.Disk c.next_block.new.self c.in-Some.block.items c.in-Some-generation_in.generation has c.in-Some-generation_in.ensures.small
          (record { content = content; begins = sym c.deref.ensures.value ∙ begins })),
    )
