-- What PUT and PATCH write, and what PROPPATCH sets, is at one path alone.
use Rattle.std.proofs.Common.{◌≡◌, ℕ, Bool, true, false, ◌==◌, if◌then◌else◌, List, [], ◌∷◌, length, map, Option, Some, None, Result, Ok, Err, refl, ◌∙◌}
use Rattle.std.specs.Bool.{⊤}
use Rattle.dav_core.specs.declared.errors.FsError.{FsError}
use Rattle.dav_core.specs.declared.errors.DavError.TheVariants as dav
use Rattle.dav_core.specs.Asking.{FileMetadata, Flush, HaveProps, PatchProps, Write}
use Rattle.dav_core.specs.Handle.{Handle, Opening}
use Rattle.dav_core.specs.Path.{Path, PathText, names}
use Rattle.dav_core.specs.Property.{Property}
use Rattle.dav_engine.specs.Method.{MethodPlan, ask_for, gives, refused_as}
use Rattle.dav_engine.specs.Plan.{Done}
use Rattle.dav_engine.specs.Proppatch.{Change, as_patch, store_changes, change_all, patch_properties}
use Rattle.dav_engine.specs.Put.{sought, store}
use Rattle.dav_engine.specs.Reply.{Header, Reply}
use Rattle.dav_engine.specs.Sparing.{Anything, AnyList, OpenFile, Sparing, spares_ok, spares_err, spares_reads, spares_call, spares_opens, spares_seeks, spares_writes}
use Rattle.dav_engine.proofs.SparingPlans.{At, spare_bind, spare_then}

module _ (covered : Path → Bool) where
  -- a part of a plan, with this file open before it and after it
  abbrev With : {A : Type 0} → Option OpenFile → (A → Type 0) → MethodPlan A → Type 0
  With file P plan = Sparing covered AnyList AnyList false (At file P) file plan

  -- ---- the bytes of a file

  place_spares : (p : Path) (m : ℕ) (place : Option ℕ) (file : Handle) → file.made ≡ m → With (Some (m, p)) (λ j. j.made ≡ m) (sought place file)
  place_spares p m None file is = spares_ok (refl, is)
  place_spares p m (Some k) file is = spares_seeks (λ place j same. spares_ok (refl, same ∙ is)) (λ e. spares_err)

  answer_spares : (p : Path) (m : ℕ) (answer : Result Handle FsError) → With (Some (m, p)) (λ j. ⊤) (Done (refused_as dav.FsError answer))
  answer_spares p m (Ok j) = spares_ok (refl, tt)
  answer_spares p m (Err e) = spares_err

  bytes_spare : (p : Path) (m : ℕ) (b : Bool) (file : Handle) (bytes : List ℕ) (now : ℕ) → covered p ≡ false → file.made ≡ m
      → With (Some (m, p)) (λ j. ⊤) (if b then gives file else ask_for (Write file bytes now))
  bytes_spare p m true file bytes now out is = spares_ok (refl, tt)
  bytes_spare p m false file bytes now out is = spares_writes is out (answer_spares p m)

  pub store_spares : (how : Opening) (place : Option ℕ) (p : Path) (bytes : List ℕ) (now : ℕ) (found : Bool) → covered p ≡ false
      → Sparing covered AnyList AnyList true Anything None (store how place p bytes now found)
  store_spares how place p bytes now found out =
      spares_opens out (λ k.
      spare_bind _ (place_spares p k.made place k refl) (λ j is.
      spare_bind _ (bytes_spare p k.made (length bytes == 0) j bytes now out is) (λ i _.
      spares_reads {c = Flush i} tt (λ answer. spare_then (refused_as dav.FsError answer) _ (λ u _. spares_reads {c = FileMetadata i} tt (λ told. spares_ok tt))))))
      (λ e. spares_err)

  -- ---- dead properties

  outcome_spares : (answer : Result (List (ℕ × Property)) FsError) → With None (λ done. ⊤) (Done (refused_as dav.FsError answer))
  outcome_spares (Ok done) = spares_ok (refl, tt)
  outcome_spares (Err e) = spares_err

  changes_spare : (p : PathText) (stored : List Change) → covered (names p) ≡ false → With None (λ done. ⊤) (store_changes p stored)
  changes_spare p [] out = spares_ok (refl, tt)
  changes_spare p (c ∷ cs) out = spares_call {c = PatchProps (names p) (map as_patch (c ∷ cs))} out outcome_spares

  all_spare : (p : PathText) (refused : Bool) (answers : List (ℕ × Change)) (stored : List Change) → covered (names p) ≡ false
      → With None (λ told. ⊤) (change_all p refused answers stored)
  all_spare p true answers stored out = spares_ok (refl, tt)
  all_spare p false answers stored out = spare_bind _ (changes_spare p stored out) (λ done _. spares_ok (refl, tt))

  pub patch_spares : (p : PathText) (location : List Header) (changes : List Change) → covered (names p) ≡ false
      → Sparing covered AnyList AnyList true Anything None (patch_properties p location changes)
  patch_spares p location changes out =
      spares_reads {c = HaveProps (names p)} tt (λ answer. spare_bind _ (all_spare p _ _ _ out) (λ told _. spares_ok tt))
