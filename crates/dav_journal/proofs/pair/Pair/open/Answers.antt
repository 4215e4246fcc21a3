use Rattle.std.proofs.Common.{ℕ, sym, ◌∙◌, subst, inl, inr}
use Rattle.std.proofs.lemmas.Result.{on_ok_weaker}
use Rattle.dav_journal.specs.declared.pair.Pair.{Pair}
use Rattle.dav_journal.specs.Pair.{IsOfGeneration}
use Rattle.dav_journal.proofs.JournalLemmas.{also_ok}
use Rattle.dav_journal.proofs.PairLemmas.{are_journals, opened_then, pair_left, reads_same, reads_then, spare_read_clean, spare_read_left, spare_read_opened, spare_read_reading, turned_clean, turned_left, turned_opened, turned_spare, turned_stands}
use Rattle.dav_journal.proofs.pair.Pair.open.Goals as goal

pub returns-in_err-open-clause-any_moment : goal.returns-in_err-open-clause-any_moment
returns-in_err-open-clause-any_moment g c clean contents leaves =
    let p = c.args.self.now in
    let (one, other) = are_journals _ _ contents (leaves _ _ (g.met.D.Disk.seen_may_stay p.counts.disk) (g.met.D.Disk.seen_may_stay p.spare.disk)) in
    pair_left g.D.Disk _ _ _ _ contents (c.open.ensures.stands (clean.0) one) (reads_same g.D.Disk p.spare.disk) leaves

pub returns-in_err-open-2-clause-any_moment : goal.returns-in_err-open-2-clause-any_moment
returns-in_err-open-2-clause-any_moment g c clean contents leaves =
    let p = c.args.self.now in
    let (one, other) = are_journals _ _ contents (leaves _ _ (g.met.D.Disk.seen_may_stay p.counts.disk) (g.met.D.Disk.seen_may_stay p.spare.disk)) in
    pair_left g.D.Disk _ _ _ _ contents (c.open.ensures.stands (clean.0) one) (c.open-2.ensures.stands (clean.1) other) leaves

pub returns-in_err-first-clause-any_moment : goal.returns-in_err-first-clause-any_moment
returns-in_err-first-clause-any_moment g c clean contents leaves =
    let p = c.args.self.now in
    let (one, other) = are_journals _ _ contents (leaves _ _ (g.met.D.Disk.seen_may_stay p.counts.disk) (g.met.D.Disk.seen_may_stay p.spare.disk)) in
    let first = c.first_generation.ensures.reads in
    pair_left g.D.Disk _ _ _ _ contents (reads_then g.D.Disk _ _ _ (c.open.ensures.stands (first.clean (clean.0)) one) first) (c.open-2.ensures.stands (clean.1) other) leaves

pub returns-in_err-second-clause-any_moment : goal.returns-in_err-second-clause-any_moment
returns-in_err-second-clause-any_moment g c clean contents leaves =
    let p = c.args.self.now in
    let (one, other) = are_journals _ _ contents (leaves _ _ (g.met.D.Disk.seen_may_stay p.counts.disk) (g.met.D.Disk.seen_may_stay p.spare.disk)) in
    let first = c.first_generation.ensures.reads in
    let second = c.first_generation-2.ensures.reads in
    pair_left g.D.Disk _ _ _ _ contents (reads_then g.D.Disk _ _ _ (c.open.ensures.stands (first.clean (clean.0)) one) first) (reads_then g.D.Disk _ _ _ (c.open-2.ensures.stands (second.clean (clean.1)) other) second) leaves

pub returns-in_err-open-clause-begun : goal.returns-in_err-open-clause-begun
returns-in_err-open-clause-begun g c clean = inl (c.open.ensures.begun (clean.0), inr (reads_same g.D.Disk c.args.self.now.spare.disk))

pub returns-in_err-open-2-clause-begun : goal.returns-in_err-open-2-clause-begun
returns-in_err-open-2-clause-begun g c clean = inl (c.open.ensures.begun (clean.0), c.open-2.ensures.begun (clean.1))

pub returns-in_err-first-clause-begun : goal.returns-in_err-first-clause-begun
returns-in_err-first-clause-begun g c clean =
    let one = c.first_generation.ensures.reads in
    inl (opened_then g.D.Disk _ _ _ _ (c.open.ensures.begun (one.clean (clean.0))) one, c.open-2.ensures.begun (clean.1))

pub returns-in_err-second-clause-begun : goal.returns-in_err-second-clause-begun
returns-in_err-second-clause-begun g c clean =
    let one = c.first_generation.ensures.reads in
    let other = c.first_generation-2.ensures.reads in
    inl (opened_then g.D.Disk _ _ _ _ (c.open.ensures.begun (one.clean (clean.0))) one, opened_then g.D.Disk _ _ _ _ (c.open-2.ensures.begun (other.clean (clean.1))) other)

pub returns-in_err-choose-clause-any_moment : goal.returns-in_err-choose-clause-any_moment
returns-in_err-choose-clause-any_moment g c clean contents leaves =
    let p = c.args.self.now in
    let (one, other) = are_journals _ _ contents (leaves _ _ (g.met.D.Disk.seen_may_stay p.counts.disk) (g.met.D.Disk.seen_may_stay p.spare.disk)) in
    let first = c.first_generation.ensures.reads in
    let second = c.first_generation-2.ensures.reads in
    let mid : Pair g.row.D.Denot = record { counts = c.first_generation.new.journal; spare = c.first_generation-2.new.journal; generation = p.generation } in
    let was = turned_clean g.D.Disk mid c.choose.new.self c.choose.ensures.same clean in
    turned_left g.D.Disk mid c.choose.new.self contents c.choose.ensures.same
    (pair_left g.D.Disk _ _ _ _ contents (reads_then g.D.Disk _ _ _ (c.open.ensures.stands (first.clean (was.0)) one) first) (reads_then g.D.Disk _ _ _ (c.open-2.ensures.stands (second.clean (was.1)) other) second) leaves)

pub returns-clause-any_moment : goal.returns-clause-any_moment
returns-clause-any_moment g c clean contents leaves =
    let p = c.args.self.now in
    let (one, other) = are_journals _ _ contents (leaves _ _ (g.met.D.Disk.seen_may_stay p.counts.disk) (g.met.D.Disk.seen_may_stay p.spare.disk)) in
    let first = c.first_generation.ensures.reads in
    let second = c.first_generation-2.ensures.reads in
    let mid : Pair g.row.D.Denot = record { counts = c.first_generation.new.journal; spare = c.first_generation-2.new.journal; generation = p.generation } in
    let seen = c.see_spare.ensures in
    let was = turned_clean g.D.Disk mid c.choose.new.self c.choose.ensures.same (spare_read_clean g.D.Disk c.choose.new.self c.see_spare.new.self seen.counts seen.spare clean) in
    spare_read_left g.D.Disk c.choose.new.self c.see_spare.new.self contents seen.counts seen.spare (turned_left g.D.Disk mid c.choose.new.self contents c.choose.ensures.same
    (pair_left g.D.Disk _ _ _ _ contents (reads_then g.D.Disk _ _ _ (c.open.ensures.stands (first.clean (was.0)) one) first) (reads_then g.D.Disk _ _ _ (c.open-2.ensures.stands (second.clean (was.1)) other) second) leaves))

pub returns-in_err-choose-clause-begun : goal.returns-in_err-choose-clause-begun
returns-in_err-choose-clause-begun g c clean =
    let p = c.args.self.now in
    let first = c.first_generation.ensures.reads in
    let second = c.first_generation-2.ensures.reads in
    let mid : Pair g.row.D.Denot = record { counts = c.first_generation.new.journal; spare = c.first_generation-2.new.journal; generation = p.generation } in
    let was = turned_clean g.D.Disk mid c.choose.new.self c.choose.ensures.same clean in
    turned_opened g.D.Disk p mid c.choose.new.self c.choose.ensures.same
    (opened_then g.D.Disk _ _ _ _ (c.open.ensures.begun (first.clean (was.0))) first) (opened_then g.D.Disk _ _ _ _ (c.open-2.ensures.begun (second.clean (was.1))) second)

pub returns-clause-begun : goal.returns-clause-begun
returns-clause-begun g c clean =
    let p = c.args.self.now in
    let first = c.first_generation.ensures.reads in
    let second = c.first_generation-2.ensures.reads in
    let mid : Pair g.row.D.Denot = record { counts = c.first_generation.new.journal; spare = c.first_generation-2.new.journal; generation = p.generation } in
    let seen = c.see_spare.ensures in
    let was = turned_clean g.D.Disk mid c.choose.new.self c.choose.ensures.same (spare_read_clean g.D.Disk c.choose.new.self c.see_spare.new.self seen.counts seen.spare clean) in
    spare_read_opened g.D.Disk p c.choose.new.self c.see_spare.new.self seen.counts seen.spare (turned_opened g.D.Disk p mid c.choose.new.self c.choose.ensures.same
    (opened_then g.D.Disk _ _ _ _ (c.open.ensures.begun (first.clean (was.0))) first) (opened_then g.D.Disk _ _ _ _ (c.open-2.ensures.begun (second.clean (was.1))) second))

pub returns-clause-reading : goal.returns-clause-reading
returns-clause-reading g c = also_ok c.see_spare.result (λ clean.
    let first = c.first_generation.ensures.reads in
    let second = c.first_generation-2.ensures.reads in
    let mid : Pair g.row.D.Denot = record { counts = c.first_generation.new.journal; spare = c.first_generation-2.new.journal; generation = c.args.self.now.generation } in
    let seen = c.see_spare.ensures in
    let was = turned_clean g.D.Disk mid c.choose.new.self c.choose.ensures.same (spare_read_clean g.D.Disk c.choose.new.self c.see_spare.new.self seen.counts seen.spare clean) in
    let one = c.in_ok-first.ensures.read (was.0) (c.in_ok-open.ensures.reading (first.clean (was.0))) (c.in_ok-open.ensures.long (first.clean (was.0))) in
    let other = c.in_ok-second.ensures.read (was.1) (c.in_ok-open-2.ensures.reading (second.clean (was.1))) (c.in_ok-open-2.ensures.long (second.clean (was.1))) in
    spare_read_reading g.D.Disk c.choose.new.self c.see_spare.new.self seen.counts seen.spare seen.generation (c.in_ok-choose.ensures.chosen (one.0) (other.0) (one.1) (other.1)))

pub returns-clause-generation : goal.returns-clause-generation
returns-clause-generation g c = also_ok c.see_spare.result (λ clean.
    let first = c.first_generation.ensures.reads in
    let second = c.first_generation-2.ensures.reads in
    let mid : Pair g.row.D.Denot = record { counts = c.first_generation.new.journal; spare = c.first_generation-2.new.journal; generation = c.args.self.now.generation } in
    let seen = c.see_spare.ensures in
    let was = turned_clean g.D.Disk mid c.choose.new.self c.choose.ensures.same (spare_read_clean g.D.Disk c.choose.new.self c.see_spare.new.self seen.counts seen.spare clean) in
    let one = c.in_ok-first.ensures.read (was.0) (c.in_ok-open.ensures.reading (first.clean (was.0))) (c.in_ok-open.ensures.long (first.clean (was.0))) in
    let other = c.in_ok-second.ensures.read (was.1) (c.in_ok-open-2.ensures.reading (second.clean (was.1))) (c.in_ok-open-2.ensures.long (second.clean (was.1))) in
    subst (λ j. IsOfGeneration g.D.Disk j c.see_spare.new.self.generation) (sym seen.counts)
    (subst (λ (n : ℕ). IsOfGeneration g.D.Disk c.choose.new.self.counts n) (sym seen.generation) (c.in_ok-choose.ensures.generation (one.1) (other.1))))

pub returns-clause-damaged : goal.returns-clause-damaged
returns-clause-damaged g c place is clean mixing contents stands =
    let p = c.args.self.now in
    let first = c.first_generation.ensures.reads in
    let second = c.first_generation-2.ensures.reads in
    let mid : Pair g.row.D.Denot = record { counts = c.first_generation.new.journal; spare = c.first_generation-2.new.journal; generation = p.generation } in
    let seen = c.see_spare.ensures in
    let was = turned_clean g.D.Disk mid c.choose.new.self c.choose.ensures.same (spare_read_clean g.D.Disk c.choose.new.self c.see_spare.new.self seen.counts seen.spare clean) in
    let one = c.in_ok-first.ensures.read (was.0) (c.in_ok-open.ensures.reading (first.clean (was.0))) (c.in_ok-open.ensures.long (first.clean (was.0))) in
    let other = c.in_ok-second.ensures.read (was.1) (c.in_ok-open-2.ensures.reading (second.clean (was.1))) (c.in_ok-open-2.ensures.long (second.clean (was.1))) in
    let (is_one, is_other) = are_journals _ _ contents stands in
    let now = turned_stands g.D.Disk p mid c.choose.new.self contents c.choose.ensures.same
    (reads_then g.D.Disk _ _ _ (c.open.ensures.stands (first.clean (was.0)) is_one) first) (reads_then g.D.Disk _ _ _ (c.open-2.ensures.stands (second.clean (was.1)) is_other) second) stands in
    seen.damaged place is clean mixing (c.in_ok-choose.ensures.chosen (one.0) (other.0) (one.1) (other.1)) (turned_spare g.D.Disk mid c.choose.new.self c.choose.ensures.same (one.0) (other.0))
    (c.in_ok-choose.ensures.generation (one.1) (other.1)) contents now

pub returns-clause-unmarked : goal.returns-clause-unmarked
returns-clause-unmarked g c = on_ok_weaker c.see_spare.result (λ unmarked clean is.
    let first = c.first_generation.ensures.reads in
    let second = c.first_generation-2.ensures.reads in
    let mid : Pair g.row.D.Denot = record { counts = c.first_generation.new.journal; spare = c.first_generation-2.new.journal; generation = c.args.self.now.generation } in
    let seen = c.see_spare.ensures in
    let was = turned_clean g.D.Disk mid c.choose.new.self c.choose.ensures.same (spare_read_clean g.D.Disk c.choose.new.self c.see_spare.new.self seen.counts seen.spare clean) in
    let one = c.in_ok-first.ensures.read (was.0) (c.in_ok-open.ensures.reading (first.clean (was.0))) (c.in_ok-open.ensures.long (first.clean (was.0))) in
    let other = c.in_ok-second.ensures.read (was.1) (c.in_ok-open-2.ensures.reading (second.clean (was.1))) (c.in_ok-open-2.ensures.long (second.clean (was.1))) in
    let none = unmarked clean (sym seen.generation ∙ is) (turned_spare g.D.Disk mid c.choose.new.self c.choose.ensures.same (one.0) (other.0)) in
    rw seen.spare.reads.seen none) c.see_spare.ensures.unmarked
