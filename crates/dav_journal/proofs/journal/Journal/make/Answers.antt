use Rattle.std.proofs.Common.{◌≡◌, ◌∙◌, length, sym, subst, inl, rules, arith}
use Rattle.dav_journal.specs.File.{IsBegun}
use Rattle.dav_journal.proofs.JournalLemmas.{whole_held}
use Rattle.dav_journal.proofs.journal.Journal.make.Goals as goal

pub returns-in_err-write_at-clause-begun : goal.returns-in_err-write_at-clause-begun
returns-in_err-write_at-clause-begun g c clean long =
    let size : length c.read_at.new.buf ≡ c.args.len = search rules in
    let room : length c.in-Some.found.now ≡ c.args.len = search rules in
    inl (subst IsBegun (whole_held _ c.read_at.new.buf (size ∙ sym long) (λ some. c.in_ok-read_at.ensures.read (c.write_at.ensures.clean clean) (omega (arith, some, size, room)))) (c.is_begun.ensures.0 (search (rules, c.if-not-is_begun.false))))

pub returns-in_err-sync-clause-begun : goal.returns-in_err-sync-clause-begun
returns-in_err-sync-clause-begun g c clean long =
    let size : length c.read_at.new.buf ≡ c.args.len = search rules in
    let room : length c.in-Some.found.now ≡ c.args.len = search rules in
    inl (subst IsBegun (whole_held _ c.read_at.new.buf (size ∙ sym long) (λ some. c.in_ok-read_at.ensures.read (c.write_at.ensures.clean (c.sync.ensures.clean clean)) (omega (arith, some, size, room)))) (c.is_begun.ensures.0 (search (rules, c.if-not-is_begun.false))))

pub returns-clause-begun : goal.returns-clause-begun
returns-clause-begun g c clean long =
    let size : length c.read_at.new.buf ≡ c.args.len = search rules in
    let room : length c.in-Some.found.now ≡ c.args.len = search rules in
    inl (subst IsBegun (whole_held _ c.read_at.new.buf (size ∙ sym long) (λ some. c.in_ok-read_at.ensures.read (c.write_at.ensures.clean (c.sync.ensures.clean clean)) (omega (arith, some, size, room)))) (c.is_begun.ensures.0 (search (rules, c.if-not-is_begun.false))))
