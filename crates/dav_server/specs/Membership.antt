-- The list of a locked folder's members is changed by no request that doesn't name the lock's token (RFC 4918, section 7.4).
use Rattle.std.specs.Prelude.{◌≡◌, ◌≤◌, false, true}
use Rattle.dav_core.specs.Asking.{StoreState}
use Rattle.dav_core.specs.Locks.{Lock}
use Rattle.dav_core.specs.World.{IsWorld, is_folder, last_moment}
use Rattle.dav_engine.specs.Guard.{folder_of, Stands}
use Rattle.dav_engine.specs.Members.{SameMembers}
use Rattle.dav_engine.specs.Plan.{Locks}
use Rattle.dav_engine.specs.Reply.{Reply}
use Rattle.dav_server.specs.Machine.{Exchange, Settings, Steps, StepCut}
use Rattle.dav_server.specs.Naming.{NamesLock}

-- While an exclusive lock of either depth is on a folder, a request that doesn't name the lock's token as its principal leaves the folder
-- there, with the same names directly below it, each a folder or a file as before; whatever else is in the list of locks, whatever token
-- the request hands in for a new lock, and whatever the store refuses (RFC 4918, section 7.4).
abbrev pub MembersAreKept : Type 0
MembersAreKept =
    (s : Settings) (x : Exchange) (old new : StoreState) (ls ms : Locks) (reply : Reply) (h : Lock)
    → h.shared ≡ false → Stands h ls → ¬ NamesLock h x → x.moment ≤ last_moment → IsWorld old.world → is_folder old.world (folder_of h) ≡ true
    → Steps s x old ls reply new ms → SameMembers (folder_of h) old.world new.world

-- While an exclusive lock is on a folder, a step in which memory runs out leaves the folder with the same members, unless the request
-- names the lock's token as its principal (RFC 4918, section 7.4).
abbrev pub MembersAreKeptCut : Type 0
MembersAreKeptCut =
    (s : Settings) (x : Exchange) (old new : StoreState) (ls ms : Locks) (h : Lock)
    → h.shared ≡ false → Stands h ls → ¬ NamesLock h x → x.moment ≤ last_moment → IsWorld old.world → is_folder old.world (folder_of h) ≡ true
    → StepCut s x old ls new ms → SameMembers (folder_of h) old.world new.world
