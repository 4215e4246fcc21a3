use Rattle.std.proofs.Common.{◌≡◌, [], List, ℕ, length, sym, subst, arith}
use Rattle.dav_journal.specs.File.{Recovers}
use Rattle.dav_journal.proofs.GoingLemmas.{emptied_begun, emptied_is_begun, made_recovers, new_long}
use Rattle.dav_journal.proofs.journal.Journal.make_anew.Goals as goal

pub returns-then-not-may_be_used-clause-any_moment : goal.returns-then-not-may_be_used-clause-any_moment
returns-then-not-may_be_used-clause-any_moment g c mixes only emptied left may = emptied_is_begun left (rw (only left may) emptied)

pub returns-in_err-write_at-clause-any_moment : goal.returns-in_err-write_at-clause-any_moment
returns-in_err-write_at-clause-any_moment g c mixes only emptied left may =
    let j = c.args.self.now in
    let (before, was, step) = c.write_at.ensures.mixed (mixes j.disk) (omega (arith, new_long _ _ c.new_bytes.ensures)) left may in
    emptied_begun _ _ before left c.new_bytes.ensures (rw (only before was) emptied) step

pub returns-in_err-sync-clause-any_moment : goal.returns-in_err-sync-clause-any_moment
returns-in_err-sync-clause-any_moment g c mixes only emptied left may =
    let j = c.args.self.now in
    let (before, was, step) = c.write_at.ensures.mixed (mixes j.disk) (omega (arith, new_long _ _ c.new_bytes.ensures)) left (c.sync.ensures.crash left may) in
    emptied_begun _ _ before left c.new_bytes.ensures (rw (only before was) emptied) step

pub returns-clause-any_moment : goal.returns-clause-any_moment
returns-clause-any_moment g c mixes only emptied left may =
    let j = c.args.self.now in
    let (before, was, step) = c.write_at.ensures.mixed (mixes j.disk) (omega (arith, new_long _ _ c.new_bytes.ensures)) left (c.sync.ensures.crash left may) in
    emptied_begun _ _ before left c.new_bytes.ensures (rw (only before was) emptied) step

pub returns-clause-made : goal.returns-clause-made
returns-clause-made g c emptied =
    let long : length c.new_bytes.result ≡ 73 = new_long _ _ c.new_bytes.ensures in
    subst (λ (f : List ℕ). Recovers f []) (sym c.sync.ensures.seen)
    (made_recovers c.key-key.result c.new_bytes.result _ _ (omega arith) c.new_bytes.ensures emptied c.write_at.ensures.others (c.in_ok-write_at.ensures.written (omega (arith, long))))
