-- What code leaves that looks at a store.
use Rattle.std.proofs.Common.{◌≡◌, Result}
use Rattle.dav_core.specs.declared.errors.DavError.{DavError}
use Rattle.dav_core.specs.declared.errors.FsError.{FsError}
use Rattle.dav_core.specs.Asking.{StoreState, Answer, Asks, Metadata}
use Rattle.dav_core.specs.Path.{Path}
use Rattle.dav_engine.specs.Follows.{Follows}
use Rattle.dav_engine.specs.Method.{MethodPlan}
use Rattle.dav_engine.specs.Plan.{Locks}
use Rattle.dav_engine.proofs.CallWorlds.{did, did_leave}
use Rattle.dav_engine.proofs.PutWorld.{IsLook, look_reads}
use Rattle.dav_engine.proofs.ServedWorlds.{follows_leaves}
use Rattle.dav_engine.proofs.WorldPlans.{Only, only_reads}

-- one look at a path leaves the files of the store
pub look_keeps_world : {p : Path} {old new : StoreState} {answer : Result (Answer (Metadata p)) FsError} → Asks (Metadata p) old answer new → new.world ≡ old.world
look_keeps_world {p} {old} {new} {answer} asks = did_leave (Metadata p) old.world new.world answer tt (did asks)

-- and so does a plan of looks
pub looks_keep_world : {A X : Type 0} {view : X → A} {plan : MethodPlan A} {old new : StoreState} {ls ms : Locks} {r : Result X DavError}
    → Only IsLook plan → Follows view plan old ls r new ms → new.world ≡ old.world
looks_keep_world looks follows = (follows_leaves (only_reads look_reads looks) follows).0
