use Rattle.std.proofs.Common.{List, ℕ, sym, subst, arith}
use Rattle.dav_journal.specs.Elder.{IsEmptied, IsLetGo}
use Rattle.dav_journal.proofs.GoingLemmas.{cut_forty, emptied, let_go_kept, torn_forty}
use Rattle.dav_journal.proofs.journal.Journal.shorten.Goals as goal

pub returns-then-not-may_be_used-clause-any_moment : goal.returns-then-not-may_be_used-clause-any_moment
returns-then-not-may_be_used-clause-any_moment g c only former gone left may =
    subst (λ (f : List ℕ). IsLetGo former f) (sym (only left may)) gone

pub returns-in_err-write_at-clause-any_moment : goal.returns-in_err-write_at-clause-any_moment
returns-in_err-write_at-clause-any_moment g c only former gone left may =
    let (before, was, step) = c.write_at.ensures.crash left may in
    let old = subst (λ (f : List ℕ). IsLetGo former f) (sym (only before was)) gone in
    let_go_kept former before left (torn_forty _ before left old.whole step) old

pub returns-in_err-set_len-clause-any_moment : goal.returns-in_err-set_len-clause-any_moment
returns-in_err-set_len-clause-any_moment g c only former gone left may =
    let (mid, had, cut) = c.set_len.ensures.crash left may in
    let (before, was, step) = c.write_at.ensures.crash mid had in
    let old = subst (λ (f : List ℕ). IsLetGo former f) (sym (only before was)) gone in
    let now = let_go_kept former before mid (torn_forty _ before mid old.whole step) old in
    let_go_kept former mid left (cut_forty mid left now.whole cut) now

pub returns-in_err-sync-clause-any_moment : goal.returns-in_err-sync-clause-any_moment
returns-in_err-sync-clause-any_moment g c only former gone left may =
    let (mid, had, cut) = c.set_len.ensures.crash left (c.sync.ensures.crash left may) in
    let (before, was, step) = c.write_at.ensures.crash mid had in
    let old = subst (λ (f : List ℕ). IsLetGo former f) (sym (only before was)) gone in
    let now = let_go_kept former before mid (torn_forty _ before mid old.whole step) old in
    let_go_kept former mid left (cut_forty mid left now.whole cut) now

pub returns-clause-any_moment : goal.returns-clause-any_moment
returns-clause-any_moment g c only former gone left may =
    let (mid, had, cut) = c.set_len.ensures.crash left (c.sync.ensures.crash left may) in
    let (before, was, step) = c.write_at.ensures.crash mid had in
    let old = subst (λ (f : List ℕ). IsLetGo former f) (sym (only before was)) gone in
    let now = let_go_kept former before mid (torn_forty _ before mid old.whole step) old in
    let_go_kept former mid left (cut_forty mid left now.whole cut) now

pub returns-clause-emptied : goal.returns-clause-emptied
returns-clause-emptied g c former gone none =
    subst (λ (f : List ℕ). IsEmptied f) (sym c.sync.ensures.seen)
    (emptied former _ (g.D.Disk.seen c.write_at.new.self) (g.D.Disk.seen c.set_len.new.self) gone none c.write_at.ensures.others (c.in_ok-write_at.ensures.written (omega arith)) c.set_len.ensures.others c.in_ok-set_len.ensures.len)
