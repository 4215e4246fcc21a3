use Rattle.std.proofs.Common.{◌++◌, ◌∷◌, [], List, ℕ, subst}
use Rattle.std.proofs.lemmas.List.{append-nil}
use Rattle.std.proofs.lemmas.Result.{on_ok_weaker}
use Rattle.dav_journal.specs.Pair.{IsKeptPair, PairLeaves}
use Rattle.dav_journal.proofs.LookLemmas.{looks_leaves, pair_looks}
use Rattle.dav_journal.proofs.pair.Pair.keep.Goals as goal

pub returns-in_err-look-clause-any_moment : goal.returns-in_err-look-clause-any_moment
returns-in_err-look-clause-any_moment g c contents kept = looks_leaves g.D.Disk c.args.self.now c.look.new.self contents _ c.look.ensures.looks kept

pub returns-clause-kept : goal.returns-clause-kept
returns-clause-kept g c = on_ok_weaker c.add.result (λ more contents kept.
    subst (λ (l : List ℕ). IsKeptPair g.D.Disk c.add.new.self (contents ++ l ∷ [])) (append-nil c.args.content.now) (more contents (pair_looks g.D.Disk c.args.self.now c.look.new.self contents c.look.ensures.looks kept))) c.add.ensures.kept

pub returns-clause-any_moment : goal.returns-clause-any_moment
returns-clause-any_moment g c contents kept =
    subst (λ (l : List ℕ). PairLeaves g.D.Disk c.add.new.self contents (contents ++ l ∷ [])) (append-nil c.args.content.now)
    (c.add.ensures.any_moment contents (pair_looks g.D.Disk c.args.self.now c.look.new.self contents c.look.ensures.looks kept))
