use Rattle.std.proofs.Common.{◌++◌, ◌∷◌, [], List, ℕ, subst}
use Rattle.std.proofs.lemmas.List.{append-nil}
use Rattle.std.proofs.lemmas.Result.{on_ok_weaker}
use Rattle.dav_journal.specs.Journal.{IsKept, LeavesAtMost}
use Rattle.dav_journal.proofs.journal.Journal.keep.Goals as goal

pub returns-clause-any_moment : goal.returns-clause-any_moment
returns-clause-any_moment g c contents kept =
    subst (λ (l : List ℕ). LeavesAtMost g.D.Disk c.keep_both.new.self.disk contents l) (append-nil c.args.content.now) (c.keep_both.ensures.any_moment contents kept)

pub returns-clause-kept : goal.returns-clause-kept
returns-clause-kept g c = on_ok_weaker c.keep_both.result (λ more contents kept.
    subst (λ (l : List ℕ). IsKept g.D.Disk c.keep_both.new.self (contents ++ l ∷ [])) (append-nil c.args.content.now) (more contents kept)) c.keep_both.ensures.kept
