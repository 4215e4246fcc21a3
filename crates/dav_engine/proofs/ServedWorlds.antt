-- What code that carries out a plan does to worlds, also where memory runs out in the midst of it.
use Rattle.std.proofs.Common.{◌≡◌, ◌⊎◌, inl, inr, Result, ◌∙◌, ap}
use Rattle.dav_core.specs.declared.errors.DavError.{DavError}
use Rattle.dav_core.specs.World.{IsWorld}
use Rattle.dav_core.specs.Asking.{StoreState}
use Rattle.dav_engine.specs.Plan.{Locks}
use Rattle.dav_engine.specs.Method.{MethodPlan}
use Rattle.dav_engine.specs.Follows.{Follows, followed, gave_up, FollowsOneOf, served, not_begun}
use Rattle.dav_engine.specs.WorldLaws.{IsReading, IsProperPlan}
use Rattle.dav_engine.proofs.PlanLemmas.{cut_again}
use Rattle.dav_engine.proofs.CallWorlds.{Kept, kept_same}
use Rattle.dav_engine.proofs.WorldPlans.{reading_leaves, proper_keeps}

-- code that follows a plan of calls that a caller may make
pub follows_keeps : {A X : Type 0} {view : X → A} {plan : MethodPlan A} {old new : StoreState} {ls ms : Locks} {r : Result X DavError}
    → IsProperPlan plan → IsWorld old.world → Follows view plan old ls r new ms → Kept old.world new.world
follows_keeps proper world (followed ran) = proper_keeps proper world ran
follows_keeps proper world (gave_up want cut) = let again = cut_again cut in proper_keeps proper world again.ran

either : {ls ms ks : Locks} → (ms ≡ ls) ⊎ (ms ≡ ks) → ks ≡ ls → ms ≡ ls
either (inl same) is = same
either (inr same) is = same ∙ is

-- code that follows a plan that only reads
pub follows_leaves : {A X : Type 0} {view : X → A} {plan : MethodPlan A} {old new : StoreState} {ls ms : Locks} {r : Result X DavError}
    → IsReading plan → Follows view plan old ls r new ms → (new.world ≡ old.world) × (ms ≡ ls)
follows_leaves reads (followed ran) = reading_leaves reads ran
follows_leaves reads (gave_up want cut) =
    let again = cut_again cut in
    let (world, locks) = reading_leaves reads again.ran in
    (world, either again.list locks)

-- code that carries out some plan of a kind, where each plan of the kind makes only calls that a caller may make
pub carries_keeps : {A X : Type 0} {view : X → A} {kind : MethodPlan A → Type 0} {old new : StoreState} {ls ms : Locks} {r : Result X DavError}
    → ((plan : MethodPlan A) → kind plan → IsProperPlan plan) → IsWorld old.world → FollowsOneOf view kind old ls r new ms → Kept old.world new.world
carries_keeps proper world (served plan is follows) = follows_keeps (proper plan is) world follows
carries_keeps {old = old} {new = new} proper world (not_begun want same locks) = kept_same old.world new.world world (ap (λ (s : StoreState). s.world) same)

-- the same where each plan of the kind only reads
pub carries_leaves : {A X : Type 0} {view : X → A} {kind : MethodPlan A → Type 0} {old new : StoreState} {ls ms : Locks} {r : Result X DavError}
    → ((plan : MethodPlan A) → kind plan → IsReading plan) → FollowsOneOf view kind old ls r new ms → (new.world ≡ old.world) × (ms ≡ ls)
carries_leaves reads (served plan is follows) = follows_leaves (reads plan is) follows
carries_leaves reads (not_begun want same locks) = (ap (λ (s : StoreState). s.world) same, locks)
