-- No exclusive lock is passed by a request that doesn't name its token (RFC 4918, section 7).
use Rattle.std.specs.Prelude.{◌≡◌, ◌≤◌, false}
use Rattle.dav_core.specs.Asking.{StoreState}
use Rattle.dav_core.specs.Locks.{Lock, covers}
use Rattle.dav_core.specs.World.{IsWorld, last_moment}
use Rattle.dav_engine.specs.Guard.{Stands}
use Rattle.dav_engine.specs.Plan.{Locks}
use Rattle.dav_engine.specs.Reply.{Reply}
use Rattle.dav_engine.specs.Sparing.{Spared}
use Rattle.dav_server.specs.Machine.{Exchange, Settings, Steps, StepCut}
use Rattle.dav_server.specs.Naming.{NamesLock}

-- What an exclusive lock covers when a request begins keeps its content, and the folders above it stay folders, unless the request names
-- the lock's token as its principal; whatever else is in the list, and whatever the store refuses (RFC 4918, section 7).
abbrev pub NoLockIsPassed : Type 0
NoLockIsPassed =
    (s : Settings) (x : Exchange) (old new : StoreState) (ls ms : Locks) (reply : Reply) (h : Lock)
    → h.shared ≡ false → Stands h ls → ¬ NamesLock h x → x.moment ≤ last_moment → IsWorld old.world
    → Steps s x old ls reply new ms → Spared (covers h) old.world new.world

-- What an exclusive lock covers keeps its content also in a step in which memory runs out, unless the request names the lock's token as
-- its principal (RFC 4918, section 7).
abbrev pub NoLockIsPassedCut : Type 0
NoLockIsPassedCut =
    (s : Settings) (x : Exchange) (old new : StoreState) (ls ms : Locks) (h : Lock)
    → h.shared ≡ false → Stands h ls → ¬ NamesLock h x → x.moment ≤ last_moment → IsWorld old.world
    → StepCut s x old ls new ms → Spared (covers h) old.world new.world
