-- A stranger's PROPPATCH spares what is locked.
use Rattle.std.proofs.Common.{◌≡◌, ℕ, Bool, true, false, List, [], ◌∷◌, map, Some, None, Result, Ok, Err, refl}
use Rattle.std.specs.Bool.{⊤}
use Rattle.dav_core.specs.declared.errors.FsError.{FsError}
use Rattle.dav_core.specs.declared.errors.DavError.TheVariants as dav
use Rattle.dav_core.specs.declared.fs.DavMetaData.{DavMetaData}
use Rattle.dav_core.specs.declared.method.DavMethod.TheVariants as method
use Rattle.dav_core.specs.Asking.{Metadata, HaveProps, PatchProps}
use Rattle.dav_core.specs.Locks.{Lock, covers, is_free_for}
use Rattle.dav_core.specs.Path.{Path, PathText, names}
use Rattle.dav_core.specs.Property.{Property}
use Rattle.dav_engine.specs.declared.request.Body.{Body}
use Rattle.dav_engine.specs.Caller.{Caller, requester}
use Rattle.dav_engine.specs.Conditions.{Conditions, submitted}
use Rattle.dav_engine.specs.Folder.{closed, location_found}
use Rattle.dav_engine.specs.Guard.{IsListed, Guards, StillGuards}
use Rattle.dav_engine.specs.Method.{required, refused_as}
use Rattle.dav_engine.specs.Plan.{Done}
use Rattle.dav_engine.specs.Proppatch.{Change, changes_in, as_patch, store_changes, change_all, patch_properties, proppatch_found, proppatch, is_proppatch}
use Rattle.dav_engine.specs.Reply.{Header}
use Rattle.dav_engine.specs.Sparing.{Anything, AnyList, Sparing, spares_ok, spares_err, spares_reads, spares_call}
use Rattle.dav_engine.specs.SparingPlans.{ProppatchSpares}
use Rattle.dav_engine.proofs.GuardedFolders.{stands_guarded, free_passes}
use Rattle.dav_engine.proofs.SparingPlans.{At, spare_bind, spare_then, spare_guarded, spare_free}

module _ (covered : Path → Bool) (G E : List Lock → Type 0) where
  spare_answered : (answer : Result (List (ℕ × Property)) FsError) → Sparing covered G E false (At None (λ done. ⊤)) None (Done (refused_as dav.FsError answer))
  spare_answered (Ok done) = spares_ok (refl, tt)
  spare_answered (Err e) = spares_err

  spare_store : (p : PathText) (stored : List Change) → covered (names p) ≡ false → Sparing covered G E false (At None (λ done. ⊤)) None (store_changes p stored)
  spare_store p [] out = spares_ok (refl, tt)
  spare_store p (c ∷ cs) out = spares_call {c = PatchProps (names p) (map as_patch (c ∷ cs))} out spare_answered

  spare_change_all : (p : PathText) (refused : Bool) (answers : List (ℕ × Change)) (stored : List Change) → covered (names p) ≡ false
      → Sparing covered G E false (At None (λ told. ⊤)) None (change_all p refused answers stored)
  spare_change_all p true answers stored out = spares_ok (refl, tt)
  spare_change_all p false answers stored out = spare_bind _ (spare_store p stored out) (λ done _. spares_ok (refl, tt))

  spare_patch : (p : PathText) (location : List Header) (changes : List Change) → covered (names p) ≡ false → Sparing covered G E true Anything None (patch_properties p location changes)
  spare_patch p location changes out =
      spares_reads {c = HaveProps (names p)} tt (λ answer.
      spare_bind _ (spare_change_all p _ _ _ out) (λ told _. spares_ok tt))

  module _ (who : Caller) (c : Conditions) (stranger : (deep : Bool) (x : Path) (ls : List Lock) → G ls → is_free_for deep (requester who (submitted c.lists)) x ls ≡ true → covered x ≡ false) where
    spare_patch_found : (p : PathText) (location : List Header) (content : Body) (found : DavMetaData) → Sparing covered G E true Anything None (proppatch_found c p location content who found)
    spare_patch_found p location content found =
        spare_bind _ (spare_guarded covered G E dav.Status method.PropPatch c (Some found)) (λ tokens same.
        spare_bind _ (spare_free covered G E who c.lists stranger false (names p) (dav.Status 423) tokens same) (λ u out.
        spare_then (required (changes_in content) dav.XmlParseError) _ (λ changes _. spare_patch p location changes out)))

    -- what is free to a stranger isn't covered, and nothing else is changed
    pub spare_proppatch : (p : PathText) (content : Body) → Sparing covered G E true Anything None (proppatch c p content who)
    spare_proppatch p content =
        spares_reads {c = Metadata (names p)} tt (λ answer.
        spare_then (refused_as dav.FsError answer) _ (λ found _. spare_patch_found (closed found.dir p) (location_found (Some found) p) content found))

pub proppatch_spares : ProppatchSpares
proppatch_spares h headers p content who plan exclusive stranger (is_proppatch c are) =
    let unheld = stranger c are in
    let asks = requester who (submitted c.lists) in (
      spare_proppatch (covers h) (IsListed h) AnyList who c (λ deep x ls listed free. free_passes h exclusive asks unheld x deep ls listed free) p content,
      spare_proppatch (covers h) (Guards h) (StillGuards h) who c (λ deep x ls guards free. free_passes h exclusive asks unheld x deep ls (stands_guarded guards) free) p content,
    )
