-- A COPY or MOVE keeps the locks that its client doesn't hold.
use Rattle.std.proofs.Common.{◌≡◌, not, true≢false, if◌then◌else◌, Bool, true, false, List, [], ◌∷◌, ℕ, Option, Some, Ok, refl, sym}
use Rattle.dav_core.specs.declared.errors.DavError.TheVariants as dav
use Rattle.dav_core.specs.declared.fs.DavMetaData.{DavMetaData}
use Rattle.dav_core.specs.declared.method.DavMethod.{DavMethod}
use Rattle.dav_core.specs.Locks.{Lock, is_held}
use Rattle.dav_core.specs.Path.{PathText, names, is_at_or_under}
use Rattle.dav_engine.specs.Caller.{Caller, requester}
use Rattle.dav_engine.specs.Conditions.{Conditions, submitted}
use Rattle.dav_engine.specs.Copying.{CopyFault, renaming}
use Rattle.dav_engine.specs.CopyMove.{CopyHeaders, is_move, copy_depth, source_free, copy_free, copy_allowed, is_replaced, clearing, drop_if, drop_if_moved, transfer, transfer_if_cleared, copy_found, is_copy_move, changes_members}
use Rattle.dav_engine.specs.Ending.{KeepsLock, keeps_done, keeps_ask, keeps_look, keeps_list, CopyMoveKeepsLocks}
use Rattle.dav_engine.specs.Folder.{closed, room_at, is_folder_found}
use Rattle.dav_engine.specs.Guard.{IsListed}
use Rattle.dav_engine.specs.Method.{MethodPlan, ◌>>=◌, gives, refused_as}
use Rattle.dav_engine.specs.Plan.{Done}
use Rattle.dav_engine.specs.Removal.{Fault, removal}
use Rattle.dav_engine.specs.Sparing.{AnyList}
use Rattle.dav_engine.proofs.CopyMoveLemmas.{AnyCall, only_copy}
use Rattle.dav_engine.proofs.CopyWorld.{only_destination}
use Rattle.dav_engine.proofs.DeleteWorld.{only_removal}
use Rattle.dav_engine.proofs.EndingDelete.{Gives, gives_ok, gives_err, gives_ask, gives_look, gives_bind, gives_only, keeps_given, keeps_only, still_listed, Elsewhere, checked, gives_parent}
use Rattle.dav_engine.proofs.EndingLemmas.{keeps_then, keeps_bind}
use Rattle.dav_engine.proofs.LockPlans.{gives_any}
use Rattle.dav_engine.proofs.PutWorld.{only_guarded}
use Rattle.dav_engine.proofs.SparingPlans.{spare_guarded}
use Rattle.dav_engine.proofs.WorldPlans.{only_require}

module _ (h : Lock) (who : Caller) (c : Conditions) (unheld : is_held (requester who (submitted c.lists)) h ≡ false) (p d : PathText) where
  abbrev Off : PathText → Type 0
  Off q = Elsewhere h who c unheld (names q)

  -- the lock is elsewhere than the destination, and than what is moved
  record BothOff (moves : Bool) : Type 0 where
    source : moves ≡ true → Off p
    place : Off d

  source_off : (moves : Bool) (tokens : List (List ℕ)) → tokens ≡ submitted c.lists → Gives h (λ u. moves ≡ true → Off p) (source_free moves who tokens p)
  source_off true tokens same = gives_as (checked h who c unheld (names p) tokens same) where
    gives_as : {plan : MethodPlan (Unit {0})} → Gives h (λ u. Off p) plan → Gives h (λ u. true ≡ true → Off p) plan
    gives_as (gives_ok off) = gives_ok (λ is. off)
    gives_as gives_err = gives_err
    gives_as (gives_ask next) = gives_ask (λ answer. gives_as (next answer))
    gives_as (gives_look next) = gives_look (λ ls listed. gives_as (next ls listed))
  source_off false tokens same = gives_ok (λ is. absurd (true≢false (sym is)))

  place_off : (moves : Bool) (tokens : List (List ℕ)) → tokens ≡ submitted c.lists → (moves ≡ true → Off p) → {plan : MethodPlan (Unit {0})} → Gives h (λ u. Off d) plan → Gives h (λ u. BothOff moves) plan
  place_off moves tokens same off (gives_ok here) = gives_ok (record { source = off; place = here })
  place_off moves tokens same off gives_err = gives_err
  place_off moves tokens same off (gives_ask next) = gives_ask (λ answer. place_off moves tokens same off (next answer))
  place_off moves tokens same off (gives_look next) = gives_look (λ ls listed. place_off moves tokens same off (next ls listed))

  free : (m : DavMethod) (deep : Bool) (found : DavMetaData) (there : Option DavMetaData) → Gives h (λ u. BothOff (is_move m)) (copy_free m deep c p d who found there)
  free m deep found there =
      gives_bind _ (gives_only {covered = λ q. false} {E = AnyList} (only_guarded dav.Status m c (Some found)) (spare_guarded (λ q. false) (IsListed h) AnyList dav.Status m c (Some found))) (λ tokens same.
      gives_bind _ (gives_bind _ (source_off (is_move m) tokens same) (λ u off. place_off (is_move m) tokens same off (checked h who c unheld (names d) tokens same))) (λ u off.
      gives_bind _ (gives_parent off (is_move m) (requester who tokens) (names p) (dav.Status 423)) (λ v kept.
      gives_parent kept (changes_members (is_move m) deep there) (requester who tokens) (names d) (dav.Status 423))))

  dropped : (b : Bool) → Off d → KeepsLock h (drop_if b d)
  dropped true off = keeps_look (λ ls listed. keeps_list (still_listed h (names d) off ls listed) keeps_done)
  dropped false off = keeps_done

  moved : (faults : List CopyFault) → Off p → KeepsLock h (drop_if_moved p faults)
  moved [] off = keeps_look (λ ls listed. keeps_list (still_listed h (names p) off ls listed) keeps_done)
  moved (f ∷ faults) off = keeps_done

  brings : (moves deep : Bool) (now : ℕ) → BothOff moves → KeepsLock h (transfer moves deep now p d)
  brings true deep now off =
      keeps_bind {plan = renaming now p d} (λ faults. drop_if_moved p faults >>= (λ u. gives faults)) (keeps_ask (λ answer. keeps_done))
      (λ faults. keeps_bind (λ u. gives faults) (moved faults (off.source refl)) (λ u. keeps_done))
  brings false deep now off = keeps_only (only_copy (room_at p) deep now d p d)

  cleared : (deep : Bool) (now : ℕ) (there : Option DavMetaData) → KeepsLock h (clearing deep now d there)
  cleared deep now there = keeps_if (is_replaced deep there) where
    keeps_if : (b : Bool) → KeepsLock h (if b then removal true now d (is_folder_found there) else Done (Ok []))
    keeps_if true = keeps_only (only_removal true now d (is_folder_found there))
    keeps_if false = keeps_done

  if_clear : (moves deep : Bool) (now : ℕ) (there : Option DavMetaData) (faults : List Fault) → BothOff moves → KeepsLock h (transfer_if_cleared moves deep now p d there faults)
  if_clear moves deep now there (f ∷ faults) off = keeps_done
  if_clear moves deep now there [] off = keeps_bind _ (dropped (is_replaced deep there) off.place) (λ u. keeps_bind _ (brings moves deep now off) (λ faults. keeps_done))

module _ (h : Lock) (who : Caller) (k : CopyHeaders) (unheld : is_held (requester who (submitted k.conditions.lists)) h ≡ false) (p d : PathText) where
  allowed : (m : DavMethod) (deep : Bool) (found : DavMetaData) → Gives h (λ there. BothOff h who k.conditions unheld p d (is_move m)) (copy_allowed m deep k p d who found)
  allowed m deep found =
      gives_bind _ (gives_any (only_destination k.overwrite d)) (λ there _.
      gives_bind (λ u. copy_free m deep k.conditions p d who found there >>= (λ v. gives there)) (gives_any {P = AnyCall} (only_require (not (is_at_or_under (names p) (names d))) (dav.Status 403))) (λ u _.
      gives_bind (λ v. gives there) (free h who k.conditions unheld p d m deep found there) (λ v off. gives_ok off)))

  found_keeps : (m : DavMethod) (deep : Bool) (found : DavMetaData) → KeepsLock h (copy_found m deep k p d who found)
  found_keeps m deep found =
      keeps_given _ (allowed m deep found) (λ there off.
      keeps_bind _ (cleared h who k.conditions unheld p d deep who.moment there) (λ faults. if_clear h who k.conditions unheld p d (is_move m) deep who.moment there faults off))

pub copymove_keeps_locks : CopyMoveKeepsLocks
copymove_keeps_locks h m headers p who plan stranger (is_copy_move k are) =
    keeps_then (copy_depth (is_move m) k.depth) _ (λ deep. keeps_then k.destination _ (λ d.
    keeps_ask (λ answer. keeps_then (refused_as dav.FsError answer) _ (λ found.
    found_keeps h who k (stranger k.conditions are.conditions) (closed found.dir p) d m deep found))))
