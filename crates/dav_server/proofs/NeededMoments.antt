-- That moments can be written is needed for a world to stay one: a run at a later moment, which leaves none.
use Rattle.std.proofs.Common.{◌≤◌, [], ◌∷◌, Ok, Err, refl, arith}
use Rattle.dav_core.specs.declared.errors.FsError.TheVariants.{NotFound}
use Rattle.dav_core.specs.declared.method.DavMethod.TheVariants.{MkCol}
use Rattle.dav_core.specs.Asking.{meaning, Asks, Answered, asked, Metadata, CreateDir}
use Rattle.dav_core.specs.World.{World, Node, Folder, with_new, last_moment, IsWorld}
use Rattle.dav_core.proofs.Theorems.{empty_is_world}
use Rattle.dav_engine.specs.declared.request.Body.TheVariants as body
use Rattle.dav_engine.specs.Method.{MethodPlan}
use Rattle.dav_engine.specs.Mkcol.{made, mkcol, is_mkcol}
use Rattle.dav_engine.specs.Plan.{Ran, ran_done, ran_ask, ran_look}
use Rattle.dav_engine.specs.Reply.{Reply}
use Rattle.dav_server.specs.Head.{request_of_head}
use Rattle.dav_server.specs.Machine.{Exchange, caller, Means, known, method, makes, steps}
use Rattle.dav_server.specs.Run.{Runs, no_more, one_more}
use Rattle.dav_server.proofs.WorkedGrant.{none}
use Rattle.dav_server.proofs.WorkedRun.{a, at_a, head_with, stranger, stranger_head, stranger_says, turn_with, settings, no_conditions, target_a, before, holding, missing}

-- the first second of the year 10000, which no date of HTTP shows
abbrev pub too_late : Exchange
too_late = record stranger { moment = 253402300800 }

abbrev pub late_plan : MethodPlan Reply
late_plan = mkcol no_conditions at_a (caller too_late)

late_means : Means settings too_late late_plan
late_means = known (request_of_head (head_with [])) MkCol stranger_head (tt, refl) (method at_a body.None refl target_a refl (makes (is_mkcol no_conditions (stranger_says (a ∷ [])))))

abbrev pub late : World
late = with_new before (a ∷ []) Folder [] 253402300800

makes_late : Answered (CreateDir (a ∷ []) 253402300800) (holding before) (Ok tt) (holding late)
unfolding meaning
makes_late = record { as_asked = refl; refusals = refl; short = refl }

late_ran : Ran Asks late_plan (holding before) none (Ok (made at_a)) (holding late) none
late_ran =
    ran_ask {c = Metadata (a ∷ [])} {answer = Err NotFound} (asked missing)
    (ran_look (ran_look (ran_ask {c = CreateDir (a ∷ []) 253402300800} {answer = Ok tt} (asked makes_late) ran_done)))

abbrev pub late_folder : Node
late_folder = record { made = 1; number = 1; kind = Folder; properties = []; created = 253402300800; modified = 253402300800 }

-- A folder that is made at such a moment has a time that can't be shown, so what is left is no world.
pub writable_moments_are_needed_for_worlds :
    IsWorld before × Runs settings (turn_with too_late ∷ []) (holding before) none (made at_a ∷ []) (holding late) none × ¬ IsWorld late
writable_moments_are_needed_for_worlds = (
  empty_is_world 1 (omega arith) (omega arith),
  one_more (steps late_plan (Ok (made at_a)) late_means late_ran) no_more,
  λ world. let e : 253402300800 ≤ last_moment = (world.sound (a ∷ []) late_folder refl).created in omega (arith, e),
)
