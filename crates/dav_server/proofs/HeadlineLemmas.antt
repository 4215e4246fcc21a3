-- The headline, from what runs promise.
use Rattle.std.proofs.Common.{◌≡◌, ◌++◌, false, List, [], ◌∷◌, Some, refl, sym, ap, subst, ◌∙◌, arith}
use Rattle.dav_core.specs.Locks.{Lock}
use Rattle.dav_core.specs.World.{empty_from, IsWorld}
use Rattle.dav_core.proofs.Theorems.{empty_is_world}
use Rattle.dav_engine.specs.Alongside.{AsksWithNumbers}
use Rattle.dav_engine.specs.Plan.{Locks, ServerState}
use Rattle.dav_engine.specs.Reply.{Reply}
use Rattle.dav_server.specs.EachRequest.{RunStep}
use Rattle.dav_server.specs.Headline.{empty_server, GrantsFolder, HeadlineHolds, FromAnEmptyServer}
use Rattle.dav_server.specs.Isolation.{AreLoaded, RunsUnder, HolderTurns, MatchesSoloRun, TokensDiffer}
use Rattle.dav_server.specs.Machine.{Settings, Steps}
use Rattle.dav_server.specs.Run.{Turn, begun, Runs}
use Rattle.dav_server.specs.Server.{Server, AnswersAll}
use Rattle.dav_server.specs.TagLaws.{MomentsAreDates}
use Rattle.dav_server.proofs.FromNoneLemmas.{stands_from_none}
use Rattle.dav_server.proofs.GrantedRuns.{is_isolated_from_grants}
use Rattle.dav_server.proofs.StrangerLemmas.{passes_no_lock}
use Rattle.dav_server.proofs.TurnLemmas.{run_tells}

empty_world : IsWorld (empty_from 1)
empty_world = empty_is_world 1 (omega arith) (omega arith)

module _ (s : Settings) (ts : List Turn) (replies : List Reply) (small : MomentsAreDates ts) (loaded : AreLoaded ts) (differ : TokensDiffer ts) where
  -- the locks before a step, by their list
  before_step : (u : RunStep (empty_server s) ts replies) (ls : Locks) → u.was.locks ≡ ls → Runs s u.front (empty_server s).state.store (Some []) u.before u.was.store ls
  before_step u ls is = subst (λ (l : Locks). Runs s u.front (empty_server s).state.store (Some []) u.before u.was.store l) is u.earlier

  step_at : (u : RunStep (empty_server s) ts replies) (ls : Locks) → u.was.locks ≡ ls → Steps s u.turn.asked (begun u.turn.refusals u.was.store) ls u.reply u.now.store u.now.locks
  step_at u ls is = subst (λ (l : Locks). Steps s u.turn.asked (begun u.turn.refusals u.was.store) l u.reply u.now.store u.now.locks) is u.stepped

  isolated_from : (g : RunStep (empty_server s) ts replies) (h : Lock) (later back us : List Turn) (given after : List Reply) (end : ServerState)
      → GrantsFolder g.turn g.was g.now h → g.back ≡ later ++ back → g.after ≡ given ++ after
      → RunsUnder AsksWithNumbers s h later g.now.store g.now.locks given end.store end.locks → end.store.short ≡ false
      → HolderTurns h later us → MatchesSoloRun s h later us g.now.store g.now.locks given end.store
  isolated_from g h later back us given after end grant rest answers under unset alone =
      let js : Locks = Some grant.after in
      let turns : ts ≡ g.front ++ g.turn ∷ (later ++ back) = g.turns_are ∙ ap (λ (l : List Turn). g.front ++ g.turn ∷ l) rest in
      let given_are : replies ≡ g.before ++ g.reply ∷ (given ++ after) = g.replies_are ∙ ap (λ (l : List Reply). g.before ++ g.reply ∷ l) answers in
      let step : Steps s g.turn.asked (begun g.turn.refusals g.was.store) (Some grant.before) g.reply g.now.store js =
      subst (λ (l : Locks). Steps s g.turn.asked (begun g.turn.refusals g.was.store) (Some grant.before) g.reply g.now.store l) grant.are (step_at g (Some grant.before) grant.were) in
      let stretch : RunsUnder AsksWithNumbers s h later g.now.store js given end.store end.locks =
      subst (λ (l : Locks). RunsUnder AsksWithNumbers s h later g.now.store l given end.store end.locks) grant.are under in
      subst (λ (l : Locks). MatchesSoloRun s h later us g.now.store l given end.store) (sym grant.are)
      (is_isolated_from_grants (empty_server s) ts replies small loaded g.front later back us g.turn h g.was.store g.now.store end.store grant.before grant.after end.locks
      g.before given after g.reply turns given_are differ empty_world refl (before_step g (Some grant.before) grant.were) step grant.guard grant.grants grant.folder stretch unset alone)

pub headline_holds : HeadlineHolds
headline_holds s ts replies new small loaded differ ran = record {
  isolated = isolated_from s ts replies small loaded differ;
  machine = ran;
  tags = run_tells ts small ran empty_world;
  passed = passes_no_lock (empty_server s) ts replies small empty_world;
  standing = λ u h. stands_from_none (empty_server s) ts replies differ refl u h;
}

pub from_an_empty_server : (old : Server) (ts : List Turn) (replies : List Reply) (new : Server) → MomentsAreDates ts → AreLoaded ts → AnswersAll old ts replies new → FromAnEmptyServer old ts replies new
from_an_empty_server old ts replies new small loaded ran is differ =
    headline_holds old.settings ts replies new small loaded differ (subst (λ (o : Server). AnswersAll o ts replies new) is ran)
