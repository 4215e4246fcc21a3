use Rattle.std.proofs.lemmas.Result.{on_ok_weaker}
use Rattle.dav_journal.proofs.PairLemmas.{kept_recovers, pair_alone}
use Rattle.dav_journal.proofs.pair.Pair.sync_mark.Goals as goal

pub returns-clause-kept : goal.returns-clause-kept
returns-clause-kept g c = on_ok_weaker c.keep_mark.result (λ marked contents kept. record { small = kept.small; kept = marked _ kept.kept; spare = kept.spare }) c.keep_mark.ensures.kept

pub returns-clause-any_moment : goal.returns-clause-any_moment
returns-clause-any_moment g c contents kept left other may might =
    let p = c.args.self.now in
    pair_alone left other p.generation contents kept.small (c.keep_mark.ensures.any_moment _ kept.kept left may) (kept_recovers g.D.Disk p.spare _ kept.spare other might)
