use Rattle.std.proofs.Common.{◌≡◌, ℕ, List, Option, Err, ap, refl, subst, sym, ◌∙◌}
use Rattle.dav_journal.specs.Pair.{IsCleanPair, IsKeptPair}
use Rattle.dav_http.specs.Saved.{IsSaveable, saved_bytes}
use Rattle.dav_live.specs.Answers.{IsAnswer}
use Rattle.dav_live.specs.Runs.{RunGoesOn}
use Rattle.dav_turns.specs.declared.config.TurnsConfig.{TurnsConfig}
use Rattle.dav_live.specs.LiveRun.{HasServed, ServesTo, doing, kept_in, server_of, turns_of}
use Rattle.dav_live.specs.declared.live.Live.{Live}
use Rattle.dav_live.proofs.StreamLemmas.{all_served}
use Rattle.dav_live.specs.declared.fault.Fault.{Fault}
use Rattle.dav_live.proofs.RunLemmas.{runs_then, same_runs}
use Rattle.dav_live.proofs.live.Live.run_on.Goals as goal

pub loop-init : goal.loop-init
loop-init g c = (
  same_runs IsAnswer saved_bytes IsSaveable (λ j. IsCleanPair g.D.Disk j) (λ j bs. IsKeptPair g.D.Disk j bs) (kept_in c.args.self.now) (kept_in c.args.self.now) refl,
  λ reports before old so_far. so_far,
  refl,
)

pub loop-preserved : goal.loop-preserved
loop-preserved g c =
    let first = c.args.self.now in
    let old = c.loop.self in
    let new = c.serve_once.new.self in
    let inv = c.loop.invariant in
    let done = c.in-Ok.ensures in (
      runs_then IsAnswer saved_bytes IsSaveable (λ j. IsCleanPair g.D.Disk j) (λ j bs. IsKeptPair g.D.Disk j bs) (kept_in first) (kept_in old) (kept_in new) inv.0 done.run,
      λ reports before was so_far.
          subst (λ (config : TurnsConfig). ServesTo (doing g.D.Disk) config reports (g.R.Read.remaining c.serve_once.new.reader)
          before (g.W.Write.contents c.serve_once.new.writer) was (server_of new) c.serve_once.new.pipe) inv.2
          (done.serves reports before was
          (subst (λ (config : TurnsConfig). ServesTo (doing g.D.Disk) config reports (g.R.Read.remaining c.loop.reader)
          before (g.W.Write.contents c.loop.writer) was (server_of old) c.loop.pipe) (sym inv.2) (inv.1 reports before was so_far))),
      done.config ∙ inv.2,
    )

pub returns-in-Err-clause-run : goal.returns-in-Err-clause-run
returns-in-Err-clause-run g c = λ is.
    let ended = c.serve_once.ensures.ended (c.in-Err.is ∙ ap (λ (f : Fault). Err f) is) in
    subst (λ (l : Live g.row.D.Denot). RunGoesOn IsAnswer saved_bytes IsSaveable (λ j. IsCleanPair g.D.Disk j) (λ j bs. IsKeptPair g.D.Disk j bs) (kept_in c.args.self.now) (kept_in l))
    (sym ended.0) c.loop.invariant.0

pub returns-in-Err-clause-served : goal.returns-in-Err-clause-served
returns-in-Err-clause-served g c = λ is reports before was so_far.
    let first = c.args.self.now in
    let ended = c.serve_once.ensures.ended (c.in-Err.is ∙ ap (λ (f : Fault). Err f) is) in
    let written : g.W.Write.contents c.serve_once.new.writer ≡ g.W.Write.contents c.loop.writer = ap g.W.Write.contents ended.1 in
    subst (λ (l : Live g.row.D.Denot). HasServed (doing g.D.Disk) (turns_of first).config reports (g.R.Read.remaining c.serve_once.new.reader)
    before (g.W.Write.contents c.serve_once.new.writer) was (server_of l)) (sym ended.0)
    (subst (λ (all : Option (List ℕ)). HasServed (doing g.D.Disk) (turns_of first).config reports (g.R.Read.remaining c.serve_once.new.reader)
    before all was (server_of c.loop.self)) (sym written)
    (all_served (doing g.D.Disk) (turns_of first).config reports (g.R.Read.remaining c.loop.reader) (g.R.Read.remaining c.serve_once.new.reader)
    before (g.W.Write.contents c.loop.writer) was (server_of c.loop.self) c.loop.pipe
    (c.loop.invariant.1 reports before was so_far) ended.3 ended.2 ended.4))
