use Rattle.std.proofs.Common.{◌≡◌, ◌++◌, ◌∙◌, ℕ, List, Err, ap, drop, refl, rules, subst, sym}
use Rattle.std.proofs.lemmas.Result.{err_from_is_err_and}
use Rattle.dav_live.specs.Serving.{kept_of}
use Rattle.dav_live.specs.declared.service.Service.{Service}
use Rattle.dav_journal.specs.Pair.{IsCleanPair, IsKeptPair}
use Rattle.dav_http.specs.Saved.{IsSaveable, saved_bytes}
use Rattle.dav_journal.specs.declared.pair.Pair.{Pair}
use Rattle.dav_kept.specs.declared.kept.Kept.{Kept}
use Rattle.dav_server.specs.Server.{Server}
use Rattle.dav_live.specs.Answers.{IsAnswer}
use Rattle.dav_live.specs.Runs.{RunGoesOn}
use Rattle.dav_turns.specs.Turns.{Turn, server}
use Rattle.dav_live.specs.LiveRun.{ServesOn, doing, kept_in, server_of, service_of, turns_of}
use Rattle.dav_live.specs.declared.fault.Fault.TheVariants.{Ended}
use Rattle.dav_live.proofs.StreamLemmas.{turn_served}
use Rattle.dav_live.proofs.live.Live.serve_once.Goals as goal

pub returns-clause-run : goal.returns-clause-run
returns-clause-run g c =
    subst (λ (k : Kept Server (Pair g.row.D.Denot)). RunGoesOn IsAnswer saved_bytes IsSaveable (λ j. IsCleanPair g.D.Disk j) (λ j bs. IsKeptPair g.D.Disk j bs) (kept_in c.args.self.now) k) (sym (ap (λ (s : Service Server (Pair g.row.D.Denot)). kept_of s) c.tell.ensures))
    c.in_ok-used.ensures.run

pub returns-in_err-read_more-clause-ended : goal.returns-in_err-read_more-clause-ended
returns-in_err-read_more-clause-ended g c is =
    let p = err_from_is_err_and c.from_residual.result c.from_residual.ensures.1 in
    let failed : c.read_more.result ≡ Err Ended = search rules in
    let ended = c.read_more.ensures.ended failed in
    (refl, refl, ended.0, ended.1, ended.2)

pub returns-clause-serves : goal.returns-clause-serves
returns-clause-serves g c =
    let more = c.in_ok-read_more.ensures.read in
    let turn = c.in_ok-used.ensures.turn in
    let k = doing g.D.Disk in
    let old = c.args.self.now in
    let new = c.turn.new.self in
    let heard : c.unheard.result.now ≡ c.args.pipe.now ++ more.0 = c.unheard.ensures ∙ more.2 in
    let left : c.drop_heard.new.self ≡ drop c.in_ok-used.used (c.args.pipe.now ++ more.0) = c.drop_heard.ensures ∙ ap (λ (b : List ℕ). drop c.in_ok-used.used b) more.2 in
    subst (λ (s : Service Server (Pair g.row.D.Denot)). ServesOn k (turns_of old).config (g.R.Read.remaining c.args.reader.now) (g.R.Read.remaining c.read_more.new.reader)
    (g.W.Write.contents c.args.writer.now) (g.W.Write.contents c.turn.new.writer) (server_of old) (server (turns_of new).slots s) c.args.pipe.now c.drop_heard.new.self) (sym c.tell.ensures)
    (turn_served k (turns_of old) (service_of old) (turns_of new) (service_of new) (g.R.Read.remaining c.args.reader.now) (g.R.Read.remaining c.read_more.new.reader)
    (g.W.Write.contents c.args.writer.now) (g.W.Write.contents c.turn.new.writer) c.args.pipe.now more.0 c.drop_heard.new.self c.in_ok-used.used turn.0 more.1
    (subst (λ (b : List ℕ). Turn k b c.in_ok-used.used (turns_of old) (service_of old) (turns_of new) (service_of new) turn.0) heard turn.1) turn.2 left)
