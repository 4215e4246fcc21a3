-- What a DELETE does to worlds.
use Rattle.std.proofs.Common.{◌≡◌, ℕ, ◌≤◌, zero, suc, Bool, true, false, List, [], ◌∷◌, Some, None, Result, Ok, Err, refl, sym, subst}
use Rattle.std.specs.Prelude.{⊤}
use Rattle.dav_core.specs.declared.errors.FsError.{FsError}
use Rattle.dav_core.specs.declared.errors.DavError.TheVariants as dav
use Rattle.dav_core.specs.declared.fs.DavMetaData.{DavMetaData}
use Rattle.dav_core.specs.declared.method.DavMethod.TheVariants.{Delete}
use Rattle.dav_core.specs.Asking.{Call, Metadata, ReadDir, EntryMetadata, CreateDir, RemoveDir, RemoveFile, Rename, Copy, HaveProps, PatchProps, GetProps, GetProp, GetQuota, SetAccessed, SetModified, Open, Read, Write, Seek, Flush, FileMetadata}
use Rattle.dav_core.specs.CallLaws.{IsProper}
use Rattle.dav_core.specs.Locks.{Lock}
use Rattle.dav_core.specs.Path.{PathText, names}
use Rattle.dav_core.specs.World.{last_moment}
use Rattle.dav_engine.specs.Caller.{Caller, requester}
use Rattle.dav_engine.specs.Conditions.{Conditions, guarded}
use Rattle.dav_engine.specs.Delete.{DeleteHeaders, whole_depth, delete_allowed, drop_if_gone, delete_found, delete, is_delete}
use Rattle.dav_engine.specs.Folder.{closed, child_of, room_at}
use Rattle.dav_engine.specs.Method.{MethodPlan, set_by, change_locks, refused_as}
use Rattle.dav_engine.specs.Plan.{Locks}
use Rattle.dav_engine.specs.Removal.{Fault, Walk, each, remove, removal, remove_member, remove_found, remove_listed, remove_emptied}
use Rattle.dav_engine.specs.WorldLaws.{IsProperPlan, proper_done, proper_ask, proper_look, proper_keep, DeleteIsProper}
use Rattle.dav_engine.proofs.PutWorld.{IsLook, look_proper, only_guarded, only_member}
use Rattle.dav_engine.proofs.WorldPlans.{Only, only_done, only_ask, only_bind, only_proper, proper_then, proper_bind}

-- ---- a removal

-- the calls of a removal at a moment
abbrev pub IsRemoval : ℕ → Call → Type 0
IsRemoval now (ReadDir p) = ⊤
IsRemoval now (EntryMetadata p) = ⊤
IsRemoval now (RemoveDir p moment) = moment ≡ now
IsRemoval now (RemoveFile p moment) = moment ≡ now
IsRemoval now _ = ⊥

pub only_each : {P : Call → Type 0} {X F : Type 0} (f : X → MethodPlan (List F)) (xs : List X) → ((x : X) → Only P (f x)) → Only P (each f xs)
only_each f [] more = only_done
only_each f (x ∷ xs) more = only_bind (f x) _ (more x) (λ told. only_bind (each f xs) _ (only_each f xs more) (λ rest. only_done))

only_emptied : (now : ℕ) (p : PathText) (faults : List Fault) → Only (IsRemoval now) (remove_emptied now p faults)
only_emptied now p [] = only_ask refl (λ answer. only_done)
only_emptied now p (f ∷ faults) = only_done

only_seen : (walk : Walk) (now : ℕ) (p : PathText) (name : List ℕ) (seen : Result DavMetaData FsError)
    → ((q : PathText) (dir : Bool) → Only (IsRemoval now) (walk q dir)) → Only (IsRemoval now) (remove_found walk p name seen)
only_seen walk now p name (Ok m) more = more (child_of p name m.dir) m.dir
only_seen walk now p name (Err e) more = only_done

only_listed : (walk : Walk) (now : ℕ) (p : PathText) (listed : Result (List (List ℕ × Bool)) FsError)
    → ((q : PathText) (dir : Bool) → Only (IsRemoval now) (walk q dir)) → Only (IsRemoval now) (remove_listed walk now p listed)
only_listed walk now p (Err e) more = only_done
only_listed walk now p (Ok entries) more =
    only_bind (each (remove_member walk p) entries) _
    (only_each (remove_member walk p) entries (λ entry. only_ask tt (λ seen. only_seen walk now p entry.0 seen more)))
    (λ faults. only_emptied now p faults)

-- a removal makes such calls alone, and leaves the list of locks
pub only_remove : (room now : ℕ) (p : PathText) (dir : Bool) → Only (IsRemoval now) (remove room now p dir)
only_remove room now p false = only_ask refl (λ answer. only_done)
only_remove zero now p true = only_done
only_remove (suc room) now p true = only_ask tt (λ listed. only_listed (λ q dir. remove room now q dir) now p listed (λ q dir. only_remove room now q dir))

pub only_removal : (deep : Bool) (now : ℕ) (p : PathText) (dir : Bool) → Only (IsRemoval now) (removal deep now p dir)
only_removal true now p dir = only_remove (room_at p) now p dir
only_removal false now p true = only_ask refl (λ answer. only_done)
only_removal false now p false = only_ask refl (λ answer. only_done)

-- ---- the list of locks

proper_set : (f : List Lock → List Lock) (ls : Locks) → IsProperPlan (set_by f ls)
proper_set f None = proper_done
proper_set f (Some ls) = proper_keep proper_done

pub proper_change : (f : List Lock → List Lock) → IsProperPlan (change_locks f)
proper_change f = proper_look (λ ls. proper_set f ls)

-- ---- DELETE

removal_proper : (now : ℕ) → now ≤ last_moment → (c : Call) → IsRemoval now c → IsProper c
removal_proper now small (ReadDir p) is = tt
removal_proper now small (EntryMetadata p) is = tt
removal_proper now small (RemoveDir p moment) is = subst (λ (m : ℕ). m ≤ last_moment) (sym is) small
removal_proper now small (RemoveFile p moment) is = subst (λ (m : ℕ). m ≤ last_moment) (sym is) small
removal_proper now small (Metadata p) is = absurd is
removal_proper now small (CreateDir p moment) is = absurd is
removal_proper now small (Rename from to moment) is = absurd is
removal_proper now small (Copy from to moment) is = absurd is
removal_proper now small (HaveProps p) is = absurd is
removal_proper now small (PatchProps p patches) is = absurd is
removal_proper now small (GetProps p content) is = absurd is
removal_proper now small (GetProp p key) is = absurd is
removal_proper now small GetQuota is = absurd is
removal_proper now small (SetAccessed p time) is = absurd is
removal_proper now small (SetModified p time) is = absurd is
removal_proper now small (Open p how moment) is = absurd is
removal_proper now small (Read file count) is = absurd is
removal_proper now small (Write file bytes moment) is = absurd is
removal_proper now small (Seek file to) is = absurd is
removal_proper now small (Flush file) is = absurd is
removal_proper now small (FileMetadata file) is = absurd is

pub proper_removal : (deep : Bool) (now : ℕ) (p : PathText) (dir : Bool) → now ≤ last_moment → IsProperPlan (removal deep now p dir)
proper_removal deep now p dir small = only_proper (removal_proper now small) (only_removal deep now p dir)

pub only_delete_allowed : (c : Conditions) (p : PathText) (who : Caller) (found : DavMetaData) → Only IsLook (delete_allowed c p who found)
only_delete_allowed c p who found =
    only_bind (guarded dav.Status Delete c (Some found)) _ (only_guarded dav.Status Delete c (Some found)) (λ tokens. only_member true true (requester who tokens) (names p) (dav.Status 423))

proper_dropped : (p : PathText) (faults : List Fault) → IsProperPlan (drop_if_gone p faults)
proper_dropped p [] = proper_change _
proper_dropped p (f ∷ faults) = proper_done

proper_delete_found : (deep : Bool) (c : Conditions) (p : PathText) (who : Caller) (found : DavMetaData) → who.moment ≤ last_moment → IsProperPlan (delete_found deep c p who found)
proper_delete_found deep c p who found small =
    proper_bind (delete_allowed c p who found) _ (only_proper look_proper (only_delete_allowed c p who found)) (λ free.
    proper_bind (removal deep who.moment p found.dir) _ (proper_removal deep who.moment p found.dir small) (λ faults.
    proper_bind (drop_if_gone p faults) _ (proper_dropped p faults) (λ told. proper_done)))

-- DELETE at a moment that can be shown makes calls that a caller may make
pub proper_delete : (h : DeleteHeaders) (p : PathText) (who : Caller) → who.moment ≤ last_moment → IsProperPlan (delete h p who)
proper_delete h p who small =
    proper_then (whole_depth h.depth) _ (λ deep. proper_ask tt (λ answer tells.
    proper_then (refused_as dav.FsError answer) _ (λ found. proper_delete_found deep h.conditions (closed found.dir p) who found small)))

pub delete_is_proper : DeleteIsProper
delete_is_proper headers p who plan small (is_delete h are) = proper_delete h p who small
