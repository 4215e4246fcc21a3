-- Laws of PROPPATCH (RFC 4918, section 9.2).
use Rattle.std.specs.Prelude.{◌≡◌, Bool, true, false, List, [], ◌∷◌, All, map, Some, Ok, Err}
use Rattle.dav_core.specs.declared.errors.DavError.{DavError}
use Rattle.dav_core.specs.Asking.{StoreState, Asks}
use Rattle.dav_core.specs.Calls.{repatched}
use Rattle.dav_core.specs.Path.{Path, PathText, names}
use Rattle.dav_core.specs.World.{World, adjust}
use Rattle.dav_engine.specs.declared.request.Body.{Body}
use Rattle.dav_engine.specs.Caller.{Caller}
use Rattle.dav_engine.specs.Folder.{closed}
use Rattle.dav_engine.specs.Headers.{Headers}
use Rattle.dav_engine.specs.Method.{MethodPlan}
use Rattle.dav_engine.specs.Plan.{Locks, Ran}
use Rattle.dav_engine.specs.Proppatch.{Change, changes_in, answered_at_once, has_refused, to_store, Told, as_patch, proppatch_reply, IsProppatch}
use Rattle.dav_engine.specs.Reply.{Header, Reply}

-- A PROPPATCH that ends in an error leaves the world and the list of locks, whatever the store refuses (RFC 4918, section 9.2).
abbrev pub RefusedProppatchLeavesAll : Type 0
RefusedProppatchLeavesAll =
    (headers : Headers) (p : PathText) (content : Body) (who : Caller) (plan : MethodPlan Reply)
    (old new : StoreState) (ls ms : Locks) (e : DavError)
    → IsProppatch headers p content who plan → Ran Asks plan old ls (Err e) new ms → (new.world ≡ old.world) × (ms ≡ ls)

-- the world after these changes of the properties at a path
abbrev pub patched_world : Path → List Change → World → World
patched_world p [] w = w
patched_world p (c ∷ cs) w = record w { nodes = adjust p (repatched (map as_patch (c ∷ cs))) w.nodes }

-- Each property is reported with 200.
abbrev pub AreDone : List Told → Type 0
AreDone told = All (λ t. t.0 ≡ 200) told

-- Where no change is refused, all that the store is to make are made, and each property is reported with 200; else none is
-- made, and a property is reported with another status.
abbrev pub AreMade : (refused : Bool) → Path → List Change → List Told → World → World → Type 0
AreMade false p stored told w v = AreDone told × (v ≡ patched_world p stored w)
AreMade true p stored told w v = ¬ AreDone told × (v ≡ w)

-- What a PROPPATCH that is answered did: `AreMade` of the changes in its body. `dir` is whether its path was found to be that
-- of a folder, and `has` whether the store said that it keeps properties.
pub record IsPatched (p : PathText) (content : Body) (r : Reply) (w v : World) : Type 0 where
  pub dir : Bool
  pub has : Bool
  pub location : List Header
  pub changes : List Change
  pub told : List Told
  pub asked : changes_in content ≡ Some changes
  pub reply : r ≡ proppatch_reply location (closed dir p) told
  pub made : AreMade (has_refused (answered_at_once has changes)) (names (closed dir p)) (to_store has changes) told w v

-- A PROPPATCH that is answered makes all of its changes or none, whatever the store refuses, and leaves the list of locks
-- (RFC 4918, section 9.2).
abbrev pub ProppatchMakesAllOrNone : Type 0
ProppatchMakesAllOrNone =
    (headers : Headers) (p : PathText) (content : Body) (who : Caller) (plan : MethodPlan Reply)
    (old new : StoreState) (ls ms : Locks) (r : Reply)
    → IsProppatch headers p content who plan → Ran Asks plan old ls (Ok r) new ms → IsPatched p content r old.world new.world × (ms ≡ ls)
