-- How a COPY or MOVE changes the list of locks.
use Rattle.std.proofs.Common.{if◌then◌else◌, Bool, true, false, List, [], ◌∷◌, ℕ, Option, Ok}
use Rattle.dav_core.specs.declared.errors.DavError.TheVariants as dav
use Rattle.dav_core.specs.declared.fs.DavMetaData.{DavMetaData}
use Rattle.dav_core.specs.declared.method.DavMethod.{DavMethod}
use Rattle.dav_core.specs.Locks.{Lock}
use Rattle.dav_core.specs.Path.{PathText, names}
use Rattle.dav_engine.specs.Caller.{Caller}
use Rattle.dav_engine.specs.Copying.{CopyFault, renaming}
use Rattle.dav_engine.specs.CopyMove.{CopyHeaders, is_move, copy_depth, is_replaced, clearing, drop_if, drop_if_moved, transfer, transfer_if_cleared, copy_found, is_copy_move}
use Rattle.dav_engine.specs.Folder.{closed, room_at, is_folder_found}
use Rattle.dav_engine.specs.ListChanges.{ChangesList, changes_done, changes_ask, changes_look, changes_list, drops, CopyMoveChangesList}
use Rattle.dav_engine.specs.Method.{◌>>=◌, gives, refused_as}
use Rattle.dav_engine.specs.Plan.{Done}
use Rattle.dav_engine.specs.Removal.{Fault, removal}
use Rattle.dav_engine.proofs.CopyMoveLemmas.{only_copy}
use Rattle.dav_engine.proofs.CopyWorld.{only_copy_allowed}
use Rattle.dav_engine.proofs.DeleteWorld.{only_removal}
use Rattle.dav_engine.proofs.ListChangeLemmas.{changes_only, changes_then, changes_bind}

module _ (who : Caller) where
  changes_drop : (ls : List Lock) (b : Bool) (d : PathText) → ChangesList who ls (drop_if b d)
  changes_drop ls true d = changes_look (changes_list (drops (names d)) changes_done)
  changes_drop ls false d = changes_done

  changes_moved : (ls : List Lock) (p : PathText) (faults : List CopyFault) → ChangesList who ls (drop_if_moved p faults)
  changes_moved ls p [] = changes_look (changes_list (drops (names p)) changes_done)
  changes_moved ls p (f ∷ faults) = changes_done

  changes_brought : (ls : List Lock) (moves deep : Bool) (now : ℕ) (p d : PathText) → ChangesList who ls (transfer moves deep now p d)
  changes_brought ls true deep now p d =
      changes_bind {plan = renaming now p d} (λ faults. drop_if_moved p faults >>= (λ u. gives faults)) (changes_ask (λ answer. changes_done))
      (λ ks faults. changes_bind (λ u. gives faults) (changes_moved ks p faults) (λ js u. changes_done))
  changes_brought ls false deep now p d = changes_only (only_copy (room_at p) deep now d p d)

  changes_clearing : (ls : List Lock) (deep : Bool) (now : ℕ) (d : PathText) (there : Option DavMetaData) → ChangesList who ls (clearing deep now d there)
  changes_clearing ls deep now d there = changes_if (is_replaced deep there) where
    changes_if : (b : Bool) → ChangesList who ls (if b then removal true now d (is_folder_found there) else Done (Ok []))
    changes_if true = changes_only (only_removal true now d (is_folder_found there))
    changes_if false = changes_done

  changes_bring : (ls : List Lock) (moves deep : Bool) (now : ℕ) (p d : PathText) (there : Option DavMetaData) (faults : List Fault) → ChangesList who ls (transfer_if_cleared moves deep now p d there faults)
  changes_bring ls moves deep now p d there (f ∷ faults) = changes_done
  changes_bring ls moves deep now p d there [] =
      changes_bind _ (changes_drop ls (is_replaced deep there) d) (λ ks u. changes_bind _ (changes_brought ks moves deep now p d) (λ js faults. changes_done))

  changes_copied : (ls : List Lock) (m : DavMethod) (deep : Bool) (h : CopyHeaders) (p d : PathText) (found : DavMetaData) → ChangesList who ls (copy_found m deep h p d who found)
  changes_copied ls m deep h p d found =
      changes_bind _ (changes_only (only_copy_allowed m deep h p d who found)) (λ ks there.
      changes_bind _ (changes_clearing ks deep who.moment d there) (λ js faults. changes_bring js (is_move m) deep who.moment p d there faults))

pub copymove_changes_list : CopyMoveChangesList
copymove_changes_list m headers p who ls plan (is_copy_move h are) =
    changes_then (copy_depth (is_move m) h.depth) _ (λ deep. changes_then h.destination _ (λ d.
    changes_ask (λ answer. changes_then (refused_as dav.FsError answer) _ (λ found. changes_copied who ls m deep h (closed found.dir p) d found))))
