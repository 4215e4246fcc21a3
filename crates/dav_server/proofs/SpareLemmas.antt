-- A run that ends with a number to spare found each number that it took.
use Rattle.std.proofs.Common.{◌≤◌, ◌<◌, List, [], ◌∷◌, sym, subst, arith}
use Rattle.std.proofs.lemmas.List.Elements.{All-head, All-tail}
use Rattle.dav_core.specs.Asking.{StoreState, Asks}
use Rattle.dav_core.specs.Locks.{Lock}
use Rattle.dav_core.specs.World.{IsWorld, last_moment, last_number}
use Rattle.dav_engine.specs.Alongside.{AsksWithNumbers}
use Rattle.dav_engine.specs.Plan.{Locks}
use Rattle.dav_engine.specs.Reply.{Reply}
use Rattle.dav_engine.proofs.Theorems.{spare_numbers_suffice}
use Rattle.dav_server.specs.Isolation.{RunsUnder, under_none, under_more, RunsFindNumbers, SpareNumbersSufficeInRuns}
use Rattle.dav_server.specs.Machine.{Settings, Exchange, Steps, StepsBy, steps}
use Rattle.dav_server.specs.Run.{Turn, begun, Runs, no_more, one_more}
use Rattle.dav_server.specs.TagLaws.{MomentsAreDates}
use Rattle.dav_server.proofs.MeansWorld.{means_proper, begun_world, turn_keeps, run_keeps}

step_finds : {s : Settings} {x : Exchange} {old new : StoreState} {ls ms : Locks} {reply : Reply} → x.moment ≤ last_moment → IsWorld old.world
    → Steps s x old ls reply new ms → new.world.next < last_number → StepsBy AsksWithNumbers s x old ls reply new ms
step_finds {old = old} {new} {ls} {ms} small world (steps plan outcome means ran) room =
    steps plan outcome means (spare_numbers_suffice plan old new ls ms outcome (means_proper small means) world ran room)

-- a run while a lock stands is a run
pub under_runs : {s : Settings} {h : Lock} {ts : List Turn} {old new : StoreState} {ls ms : Locks} {replies : List Reply} → RunsUnder Asks s h ts old ls replies new ms → Runs s ts old ls replies new ms
under_runs under_none = no_more
under_runs (under_more stands holds step more) = one_more step (under_runs more)

module _ (t : Turn) (ts : List Turn) (small : MomentsAreDates (t ∷ ts)) where
  first_small : t.asked.moment ≤ last_moment
  first_small = All-head (λ (u : Turn). u.asked.moment ≤ last_moment) t ts small

  more_small : MomentsAreDates ts
  more_small = All-tail (λ (u : Turn). u.asked.moment ≤ last_moment) t ts small

  -- a turn before a run that ends with a number to spare
  turn_finds : (old : StoreState) {s : Settings} {mid new : StoreState} {ls ks ms : Locks} {reply : Reply} {replies : List Reply} → IsWorld old.world
      → Steps s t.asked (begun t.refusals old) ls reply mid ks → Runs s ts mid ks replies new ms → new.world.next < last_number
      → StepsBy AsksWithNumbers s t.asked (begun t.refusals old) ls reply mid ks
  turn_finds old world step more room =
      let kept = turn_keeps t old first_small world step in
      let later = run_keeps kept.world more_small more in
      let high = later.next in
      step_finds first_small (subst IsWorld (sym (begun_world t.refusals old)) world) step (omega (arith, high, room))

pub runs_find_numbers : RunsFindNumbers
runs_find_numbers s [] old new ls ms replies world small no_more room = no_more
runs_find_numbers s (t ∷ ts) old new ls ms replies world small (one_more {mid = mid} {ks = ks} {replies = rest} step more) room =
    let kept = turn_keeps t old (first_small t ts small) world step in
    one_more (turn_finds t ts small old world step more room) (runs_find_numbers s ts mid new ks ms rest kept.world (more_small t ts small) more room)

pub spare_numbers_suffice_in_runs : SpareNumbersSufficeInRuns
spare_numbers_suffice_in_runs s h [] old new ls ms replies world small under_none room = under_none
spare_numbers_suffice_in_runs s h (t ∷ ts) old new ls ms replies world small (under_more {mid = mid} {ks = ks} {replies = rest} stands holds step more) room =
    let kept = turn_keeps t old (first_small t ts small) world step in
    under_more stands holds (turn_finds t ts small old world step (under_runs more) room)
    (spare_numbers_suffice_in_runs s h ts mid new ks ms rest kept.world (more_small t ts small) more room)
