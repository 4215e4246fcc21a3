use Rattle.std.proofs.lemmas.Result.{on_ok_weaker}
use Rattle.std.proofs.Common.{[]}
use Rattle.dav_journal.proofs.PairLemmas.{beside_cleared, beside_left, counts_left, pair_counts, pair_read, spare_opened}
use Rattle.dav_journal.proofs.pair.Pair.cut_rest.Goals as goal

pub returns-clause-kept : goal.returns-clause-kept
returns-clause-kept g c = on_ok_weaker c.clear.result (λ cleared clean contents read. record {
  small = read.small;
  kept = c.in_ok-keep_mark.ensures.kept _ (c.in_ok-cut.ensures.kept (c.keep_mark.ensures.clean (clean.0)) _ read.read);
  spare = cleared (clean.1) (spare_opened g.D.Disk c.args.self.now.spare _ read.spare);
}) c.clear.ensures.kept

pub returns-in_err-cut-clause-any_moment : goal.returns-in_err-cut-clause-any_moment
returns-in_err-cut-clause-any_moment g c clean contents read leaves left other may might =
    let p = c.args.self.now in
    let r = pair_read g.D.Disk p contents contents read.small read (leaves _ _ (g.met.D.Disk.seen_may_stay p.counts.disk) (g.met.D.Disk.seen_may_stay p.spare.disk)) in
    let counts = c.cut.ensures.any_moment (clean.0) _ read.read (counts_left g.D.Disk p contents read r.counts) left may in
    pair_counts left other p.generation contents read.small counts (beside_left g.D.Disk p.spare p.generation p.generation contents other read.spare r.beside might)

pub returns-in_err-keep_mark-clause-any_moment : goal.returns-in_err-keep_mark-clause-any_moment
returns-in_err-keep_mark-clause-any_moment g c clean contents read leaves left other may might =
    let p = c.args.self.now in
    let r = pair_read g.D.Disk p contents contents read.small read (leaves _ _ (g.met.D.Disk.seen_may_stay p.counts.disk) (g.met.D.Disk.seen_may_stay p.spare.disk)) in
    let counts = c.keep_mark.ensures.any_moment _ (c.in_ok-cut.ensures.kept (c.keep_mark.ensures.clean (clean.0)) _ read.read) left may in
    pair_counts left other p.generation contents read.small counts (beside_left g.D.Disk p.spare p.generation p.generation contents other read.spare r.beside might)

pub returns-clause-any_moment : goal.returns-clause-any_moment
returns-clause-any_moment g c clean contents read leaves left other may might =
    let p = c.args.self.now in
    let r = pair_read g.D.Disk p contents contents read.small read (leaves _ _ (g.met.D.Disk.seen_may_stay p.counts.disk) (g.met.D.Disk.seen_may_stay p.spare.disk)) in
    let counts = c.keep_mark.ensures.any_moment _ (c.in_ok-cut.ensures.kept (c.keep_mark.ensures.clean (clean.0)) _ read.read) left may in
    let opened = spare_opened g.D.Disk p.spare _ read.spare in
    pair_counts left other p.generation contents read.small counts
    (beside_cleared g.D.Disk p.spare c.clear.new.self p.generation p.generation contents read.spare r.beside (c.clear.ensures.any_moment (clean.1) opened []) (c.clear.ensures.behind (clean.1) opened p.generation) other might)
