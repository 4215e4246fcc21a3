use Rattle.std.proofs.Common.{◌≡◌, ◌∙◌, ap, subst, length, sym, rules, arith}
use Rattle.sqlite_disk.specs.Disk.{Holds}
use Rattle.dav_journal.specs.Block.{front_of}
use Rattle.dav_journal.proofs.BlockLemmas.{length-front, same_held}
use Rattle.dav_journal.proofs.FrontLemmas.{recovers_long}
use Rattle.dav_journal.proofs.journal.Journal.open.Goals as goal

pub returns-then-len-le-START-clause-any_moment : goal.returns-then-len-le-START-clause-any_moment
returns-then-len-le-START-clause-any_moment g c clean contents leaves =
    let j = c.args.self.now in
    let r = leaves (g.D.Disk.seen j.disk) (g.met.D.Disk.seen_may_stay j.disk) in
    absurd (omega (arith, recovers_long (g.D.Disk.seen j.disk) contents r, c.in_ok-len.ensures.len (c.make.ensures.clean clean), ap length c.sync.ensures.seen, c.if-len-le-START.true))

pub returns-in_default-clause-any_moment : goal.returns-in_default-clause-any_moment
returns-in_default-clause-any_moment g c clean contents leaves =
    let j = c.args.self.now in
    let r = leaves (g.D.Disk.seen j.disk) (g.met.D.Disk.seen_may_stay j.disk) in
    let size : length c.read_at.new.buf ≡ 24 = search rules in
    let held : Holds (g.D.Disk.seen j.disk) 0 c.read_at.new.buf = subst (λ f. Holds f 0 c.read_at.new.buf) (c.len.ensures.seen ∙ c.sync.ensures.seen) (c.in_ok-read_at.ensures.read (c.make-in_default.ensures.clean clean) (search rules)) in
    absurd (c.in_default.ensures.none r.key r.small (same_held (g.D.Disk.seen j.disk) 0 c.read_at.new.buf (front_of r.key) held r.front (size ∙ sym (length-front r.key))))

pub returns-then-len-le-START-clause-stands : goal.returns-then-len-le-START-clause-stands
returns-then-len-le-START-clause-stands g c clean is =
    let j = c.args.self.now in
    absurd (omega (arith, is.has.more, c.in_ok-len.ensures.len (c.make.ensures.clean clean), ap length c.sync.ensures.seen, c.if-len-le-START.true))

pub returns-in_default-clause-stands : goal.returns-in_default-clause-stands
returns-in_default-clause-stands g c clean is =
    let j = c.args.self.now in
    let size : length c.read_at.new.buf ≡ 24 = search rules in
    let held : Holds (g.D.Disk.seen j.disk) 0 c.read_at.new.buf = subst (λ f. Holds f 0 c.read_at.new.buf) (c.len.ensures.seen ∙ c.sync.ensures.seen) (c.in_ok-read_at.ensures.read (c.make-in_default.ensures.clean clean) (search rules)) in
    absurd (c.in_default.ensures.none is.key is.small (same_held (g.D.Disk.seen j.disk) 0 c.read_at.new.buf (front_of is.key) held is.has.front (size ∙ sym (length-front is.key))))
