use Rattle.std.proofs.Common.{◌≡◌, ◌++◌, ◌∷◌, [], List, ℕ, Err, ap, refl, sym, ◌∙◌, subst}
use Rattle.std.proofs.lemmas.Result.{err_from_is_err_and}
use Rattle.std.specs.Int.{w64, to_be_bytes}
use Rattle.dav_journal.specs.Journal.{IsReading}
use Rattle.dav_journal.proofs.JournalLemmas.{damage_stands, ended_read, err_moved}
use Rattle.dav_journal.proofs.PairLemmas.{first_stands}
use Rattle.dav_journal.proofs.pair.Pair.first.Goals as goal

pub returns-in_err-see_end-clause-damaged : goal.returns-in_err-see_end-clause-damaged
returns-in_err-see_end-clause-damaged g c place is clean mixing reading =
    let p = c.args.self.now in
    let first = rw c.in_default.is at c.in_ok-block.ensures.stays refl in
    let later = c.see_end.ensures.stays in
    let (error, told, same) = err_from_is_err_and c.from_residual-in_err-see_end.result c.from_residual-in_err-see_end.ensures.1 in
    let both = c.in_err-see_end.ensures.damaged place (err_moved _ _ (ap Err (sym same) ∙ sym told ∙ is)) (clean.0) (mixing.0) in
    let read = rw c.in_default.is at c.in_ok-block.ensures.read (later.reads.clean (clean.0)) _ reading.reading in
    let nothing = rw (first.reads.seen, first.key, first.end) at read.nothing in
    let damaged = rw (first.reads.seen, first.end, first.len) at both.1 in (
      both.0 ∙ first.end,
      λ others stands. let (blocks, r) = first_stands g.D.Disk p others c.if-self-ne0.false reading stands in damage_stands g.D.Disk p.counts _ blocks reading.reading nothing damaged r,
    )

pub returns-in_default-clause-read : goal.returns-in_default-clause-read
returns-in_default-clause-read g c clean reading =
    let later = c.see_end.ensures.stays in
    let read = rw c.in_default.is at c.in_ok-block.ensures.read (later.reads.clean (clean.0)) _ reading.reading in
    record {
      small = reading.small;
      read = ended_read g.D.Disk _ _ _ later read c.in_ok-see_end.ensures.more (c.in_ok-see_end.ensures.unmarked (clean.0));
      spare = reading.spare;
      none = λ _. c.if-self-ne0.false;
    }

pub returns-clause-read : goal.returns-clause-read
returns-clause-read g c clean reading =
    let p = c.args.self.now in
    let read = rw c.in-Some.is at c.in_ok-block.ensures.read in
    let found = c.in_ok-from_slice.field-0.items in
    let is : c.in-Some.block.items ≡ to_be_bytes w64 p.generation ++ found =
    sym c.deref.ensures.value ∙ c.in-Some-content_in.ensures ∙ ap (λ (l : List ℕ). to_be_bytes w64 p.generation ++ l) (sym c.in_ok-from_slice.ensures.items) in
    record {
      small = reading.small;
      reading = subst (λ (b : List ℕ). IsReading g.D.Disk c.next_block.new.self (b ∷ [])) is (read (clean.0) _ reading.reading);
      spare = reading.spare;
    }
