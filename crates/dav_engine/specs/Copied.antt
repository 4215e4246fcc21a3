-- What contracts say of code that copies, or moves, and adds what wasn't copied to a collector.
use Rattle.std.specs.Prelude.{◌≡◌, Bool, All, List, Option, Result, Ok, Err}
use Rattle.std.specs.declared.alloc.AllocError.{AllocError}
use Rattle.dav_core.specs.declared.errors.FsError.{FsError}
use Rattle.dav_core.specs.declared.errors.DavError.{DavError}
use Rattle.dav_core.specs.declared.errors.DavError.TheVariants as dav
use Rattle.dav_core.specs.Asking.{StoreState}
use Rattle.dav_core.specs.Path.{PathText, IsName, names, path_bytes}
use Rattle.dav_engine.specs.Copying.{CopyFault, copy_report, last_refusal}
use Rattle.dav_engine.specs.CopyView.{result_of}
use Rattle.dav_engine.specs.Follows.{FollowsFrom}
use Rattle.dav_engine.specs.Method.{MethodPlan}
use Rattle.dav_engine.specs.Multistatus.{PathStatus}
use Rattle.dav_engine.specs.Plan.{Locks}
use Rattle.dav_engine.specs.Walked.{Walks}

-- What a copy or a move returns as a method: why the last of the paths wasn't copied, if one wasn't; or that memory ran out.
abbrev pub copy_result : {E : Type 0} → Result (Option FsError) E → Result (Unit {0}) DavError
copy_result (Ok last) = result_of last
copy_result (Err e) = Err dav.Memory

-- A copy or a move was carried out, or memory ran out in it, and the result is `copy_result` of that.
pub record Copies (plan : MethodPlan (List CopyFault)) (old : StoreState) (before after : List PathStatus) (result : Result (Unit {0}) DavError) (new : StoreState) : Type 0 where
  pub last : Result (Option FsError) AllocError
  pub walks : Walks copy_report last_refusal plan old before after last new
  pub result_is : result ≡ copy_result last

-- A part of a request was carried out, perhaps after an earlier part changed the list of locks: whatever list the request began with.
abbrev pub FollowsLater : {A X : Type 0} → (X → A) → MethodPlan A → StoreState → Locks → Result X DavError → StoreState → Locks → Type 0
FollowsLater view plan old ls result new ms = (first : Locks) → FollowsFrom first view plan old ls result new ms

-- The bytes of a path are names, each after a slash, and perhaps a slash at the end.
pub record IsPlain (p : PathText) : Type 0 where
  pub are_names : All IsName (names p)
  pub is_closed : Bool
  pub bytes_are : p.bytes ≡ path_bytes (names p) is_closed
