use Rattle.std.proofs.Common.{◌≡◌, List, ℕ, replicate, subst, rules}
use Rattle.sqlite_disk.specs.Disk.{Holds}
use Rattle.dav_journal.proofs.journal.Journal.has_no_marks.Goals as goal

pub returns-clause-blank : goal.returns-clause-blank
returns-clause-blank g c is clean =
    let none : c.read_at.new.buf ≡ replicate 48 0 = search rules in
    subst (λ (bs : List ℕ). Holds (g.D.Disk.seen c.args.self.now.disk) 24 bs) none (c.in_ok-read_at.ensures.read clean (search rules))
