-- Steps in which memory runs out.
use Rattle.std.proofs.Common.{◌≡◌, ◌++◌, ◌≤◌, true, ◌∷◌, inl, inr, refl, sym, subst}
use Rattle.std.proofs.lemmas.List.Elements.{All-head}
use Rattle.dav_core.specs.declared.method.DavMethod.{DavMethod}
use Rattle.dav_core.specs.Asking.{StoreState}
use Rattle.dav_core.specs.World.{IsWorld, last_moment}
use Rattle.dav_engine.specs.Plan.{Locks, ServerState}
use Rattle.dav_engine.specs.PlanLaws.{CutsAreLikeRefusals}
use Rattle.dav_engine.specs.Reply.{reply_to}
use Rattle.dav_server.specs.Leaving.{SafeLeaves}
use Rattle.dav_server.specs.Machine.{Exchange, Settings, StepCut, untouched, cut, steps}
use Rattle.dav_server.specs.Run.{Turn, CutsAreLikeSteps}
use Rattle.dav_server.specs.TagLaws.{HasMethod, is_safe, MomentsAreDates, ReadingLeavesCut, RunsKeepWorldsCut}
use Rattle.dav_server.proofs.MeansWorld.{begun_world, all_front, all_back, run_keeps, step_keeps, cut_reads, means_reads}

-- ---- reading

reads_leave : (x : Exchange) (m : DavMethod) {s : Settings} {old new : StoreState} {ls ms : Locks} → HasMethod m x → is_safe m ≡ true → StepCut s x old ls new ms → (new.world ≡ old.world) × (ms ≡ ls)
reads_leave x m asks is untouched = (refl, refl)
reads_leave x m asks is (cut plan means some) = cut_reads (means_reads x m asks is means) some

pub reads_leave_cut : ReadingLeavesCut
reads_leave_cut s x old new ls ms m asks is stops = reads_leave x m asks is stops

pub safe_leaves_cut : (s : Settings) (x : Exchange) (was now : ServerState) → StepCut s x was.store was.locks now.store now.locks → SafeLeaves x was now
safe_leaves_cut s x was now stops (m, asks, is) = reads_leave x m asks is stops

-- ---- as steps with memory enough

module _ (again : CutsAreLikeRefusals) where
  like_steps : CutsAreLikeSteps
  like_steps s x old new ls ms untouched = inl (refl, refl)
  like_steps s x old new ls ms (cut plan means some) =
      let (refusals, a, ks, ran, list) = again plan old new ls ls ms some in
      inr (refusals, reply_to a, ks, steps plan a means ran, list)

  world_kept : (s : Settings) (x : Exchange) {old new : StoreState} {ls ms : Locks} → x.moment ≤ last_moment → IsWorld old.world → StepCut s x old ls new ms → IsWorld new.world
  world_kept s x {old} {new} {ls} {ms} small world stops = elim (like_steps s x old new ls ms stops) [
    | inl same ↦ subst (λ (it : StoreState). IsWorld it.world) (sym same.0) world
    | inr like ↦ let (refusals, reply, ks, step, list) = like in (step_keeps small world step).world
  ]

  runs_keep : RunsKeepWorldsCut
  runs_keep s ts old new ls ms replies world small (front, t, rest, mid, ks, is, ran, stops) =
      let P = λ (u : Turn). u.asked.moment ≤ last_moment in
      let all : MomentsAreDates (front ++ t ∷ rest) = subst MomentsAreDates is small in
      let kept = run_keeps world (all_front P front (t ∷ rest) all) ran in
      let moment = All-head P t rest (all_back P front (t ∷ rest) all) in
      world_kept s t.asked moment (subst IsWorld (sym (begun_world t.refusals mid)) kept.world) stops

pub cuts_are_like_steps : CutsAreLikeRefusals → CutsAreLikeSteps
cuts_are_like_steps again = like_steps again

pub runs_keep_worlds_cut : CutsAreLikeRefusals → RunsKeepWorldsCut
runs_keep_worlds_cut again = runs_keep again
