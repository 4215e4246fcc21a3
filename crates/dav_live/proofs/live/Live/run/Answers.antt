use Rattle.std.proofs.Common.{◌≡◌, ℕ, List, subst, sym}
use Rattle.dav_live.specs.LiveRun.{ServesTo, doing, server_of, turns_of}
use Rattle.dav_live.proofs.StreamLemmas.{none_served}
use Rattle.dav_live.proofs.live.Live.run.Goals as goal

pub returns-clause-served : goal.returns-clause-served
returns-clause-served g c = λ is.
    c.run_on.ensures.served is (g.R.Read.remaining c.args.reader.now) (g.W.Write.contents c.args.writer.now) (server_of c.args.self.now)
    (subst (λ (rest : List ℕ). ServesTo (doing g.D.Disk) (turns_of c.args.self.now).config (g.R.Read.remaining c.args.reader.now) (g.R.Read.remaining c.args.reader.now)
    (g.W.Write.contents c.args.writer.now) (g.W.Write.contents c.args.writer.now) (server_of c.args.self.now) (server_of c.args.self.now) rest) (sym c.in-Ok.ensures)
    (none_served (doing g.D.Disk) (turns_of c.args.self.now).config (g.R.Read.remaining c.args.reader.now) (g.W.Write.contents c.args.writer.now) (server_of c.args.self.now)))
