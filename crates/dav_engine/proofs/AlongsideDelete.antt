-- A holder's DELETE goes side by side with itself.
use Rattle.std.proofs.Common.{◌≡◌, ◌≢◌, ℕ, ◌++◌, zero, suc, Bool, true, false, List, [], ◌∷◌, append_assoc, Some, None, Result, Ok, Err, refl, sym, ap, subst, ◌∙◌}
use Rattle.std.specs.Bool.{⊤}
use Rattle.dav_core.specs.declared.errors.FsError.{FsError}
use Rattle.dav_core.specs.declared.errors.DavError.{DavError}
use Rattle.dav_core.specs.declared.errors.DavError.TheVariants as dav
use Rattle.dav_core.specs.declared.fs.DavMetaData.{DavMetaData}
use Rattle.dav_core.specs.declared.method.DavMethod.TheVariants.{Delete}
use Rattle.dav_core.specs.Asking.{Metadata, ReadDir, EntryMetadata, RemoveDir, RemoveFile}
use Rattle.dav_core.specs.Locks.{Lock, deleted}
use Rattle.dav_core.specs.Path.{Path, PathText, star, names, names_in, is_at_or_under}
use Rattle.dav_core.specs.Status.{fs_status}
use Rattle.dav_engine.specs.Alongside.{SameResult, SameMetadata, Alongside, side_ok, side_err, side_asks, side_look, side_keep, SameAnswers}
use Rattle.dav_engine.specs.IsolatedPlans.{IsIsolatedPlan, DeleteIsIsolated}
use Rattle.dav_engine.specs.Caller.{Caller, requester}
use Rattle.dav_engine.specs.Conditions.{Conditions, Addressed}
use Rattle.dav_engine.specs.Delete.{whole_depth, drop_if_gone, delete_reply, delete_found, deleting, is_delete}
use Rattle.dav_engine.specs.Folder.{closed, child_of, room_at}
use Rattle.dav_engine.specs.Guard.{folder_of, IsGuard, Guards, SubmitOnly}
use Rattle.dav_engine.specs.Method.{MethodPlan, then as followed_by, ◌>>=◌, require_member, gives, ask_for, refused_as}
use Rattle.dav_engine.specs.Plan.{Done}
use Rattle.dav_engine.specs.Removal.{Fault, StaysWhole, StaysWith, Stays, refused_by, emptied_status, Walk, each, remove, removal, remove_member, remove_found, remove_listed, remove_emptied}
use Rattle.dav_engine.proofs.IsolatedPlans.{AtBoth, holders, in_side, only_lists, side_bind, side_then, side_guarded, side_free_member}
use Rattle.dav_engine.proofs.ChildLemmas.{names_closed, closed_is_path, slash_is_path, names_member}
use Rattle.dav_engine.proofs.EndingDelete.{still_listed}
use Rattle.dav_engine.proofs.FaultLemmas.{not_above}
use Rattle.dav_engine.proofs.GuardedFolders.{stands_guarded}
use Rattle.dav_engine.proofs.SparingDelete.{still_guards}

-- ---- the removal

module _ (h : Lock) where
  abbrev pub SidePart : {A : Type 0} → MethodPlan A → MethodPlan A → Type 0
  SidePart plan plan' = Alongside h false (AtBoth None (λ x y. x ≡ y)) None plan plan'

  side_each : {X F : Type 0} (f : X → MethodPlan (List F)) (xs : List X) → ((x : X) → SidePart (f x) (f x)) → SidePart (each f xs) (each f xs)
  side_each f [] more = side_ok (refl, refl)
  side_each f (x ∷ xs) more =
      side_bind _ _ (more x) (λ reports others same. side_bind _ _ (side_each f xs more) (λ rest left alike.
      side_ok (refl, ap (λ s. s ++ rest) same ∙ ap (λ t. others ++ t) alike)))

  -- what a refused removal reports is the same
  side_refused : (fault : FsError → Fault) (a b : Result (Unit {0}) FsError) → SameResult (λ x y. ⊤) a b → SidePart (gives (refused_by fault a)) (gives (refused_by fault b))
  side_refused fault (Ok u) (Ok v) same = side_ok (refl, refl)
  side_refused fault (Err e) (Err f) same = side_ok (refl, ap (λ (d : FsError). fault d ∷ []) same)
  side_refused fault (Ok u) (Err f) same = absurd same
  side_refused fault (Err e) (Ok v) same = absurd same

  abbrev pub IsIn : PathText → Path → Type 0
  IsIn p rest = names p ≡ folder_of h ++ rest

  pub member_in : (p : PathText) (rest : Path) (name : List ℕ) (dir : Bool) → p.bytes ≢ star → IsIn p rest → IsIn (child_of p name dir) (rest ++ names_in name)
  member_in p rest name dir other at = names_member p name dir other ∙ ap (λ ns. ns ++ names_in name) at ∙ append_assoc (folder_of h) rest (names_in name)

  abbrev SideWalk : Walk → Type 0
  SideWalk walk = (q : PathText) (dir : Bool) (rest : Path) → q.bytes ≢ star → IsIn q rest → SidePart (walk q dir) (walk q dir)

  side_found : (walk : Walk) (p : PathText) (rest : Path) (name : List ℕ) (a b : Result DavMetaData FsError) → SideWalk walk → p.bytes ≢ star → IsIn p rest → SameResult SameMetadata a b
      → SidePart (remove_found walk p name a) (remove_found walk p name b)
  side_found walk p rest name (Ok m) (Ok n) more other at same =
      subst (λ (d : Bool). SidePart (walk (child_of p name m.dir) m.dir) (walk (child_of p name d) d)) same.dir
      (more (child_of p name m.dir) m.dir (rest ++ names_in name) (slash_is_path p name m.dir) (member_in p rest name m.dir other at))
  side_found walk p rest name (Err e) (Err f) more other at same = side_ok (refl, ap (λ (d : FsError). StaysWith p name (fs_status d) ∷ []) same)
  side_found walk p rest name (Ok m) (Err f) more other at same = absurd same
  side_found walk p rest name (Err e) (Ok n) more other at same = absurd same

  side_emptied : (now : ℕ) (p : PathText) (rest : Path) (faults : List Fault) → IsIn p rest → SidePart (remove_emptied now p faults) (remove_emptied now p faults)
  side_emptied now p rest (f ∷ faults) at = side_ok (refl, refl)
  side_emptied now p rest [] at = side_asks {c = RemoveDir (names p) now} (rest, at) (side_refused (λ e. Stays p (emptied_status e)))

  side_member : (walk : Walk) (p : PathText) (rest : Path) (entry : List ℕ × Bool) → SideWalk walk → p.bytes ≢ star → IsIn p rest → SidePart (remove_member walk p entry) (remove_member walk p entry)
  side_member walk p rest entry more other at =
      side_asks {c = EntryMetadata (names p ++ entry.0 ∷ [])} (rest ++ entry.0 ∷ [], ap (λ ns. ns ++ entry.0 ∷ []) at ∙ append_assoc (folder_of h) rest (entry.0 ∷ []))
      (λ a b told. side_found walk p rest entry.0 a b more other at told)

  side_listed : (walk : Walk) (now : ℕ) (p : PathText) (rest : Path) (a b : Result (List (List ℕ × Bool)) FsError) → SideWalk walk → p.bytes ≢ star → IsIn p rest → SameResult (λ x y. x ≡ y) a b
      → SidePart (remove_listed walk now p a) (remove_listed walk now p b)
  side_listed walk now p rest (Ok entries) (Ok others) more other at same =
      subst (λ (es : List (List ℕ × Bool)). SidePart (remove_listed walk now p (Ok entries)) (remove_listed walk now p (Ok es))) same
      (side_bind _ _ (side_each (remove_member walk p) entries (λ entry. side_member walk p rest entry more other at)) (λ faults left alike.
      subst (λ (fs : List Fault). SidePart (remove_emptied now p faults) (remove_emptied now p fs)) alike (side_emptied now p rest faults at)))
  side_listed walk now p rest (Err e) (Err f) more other at same = side_ok (refl, ap (λ (d : FsError). StaysWhole p (fs_status d) ∷ []) same)
  side_listed walk now p rest (Ok entries) (Err f) more other at same = absurd same
  side_listed walk now p rest (Err e) (Ok others) more other at same = absurd same

  side_remove : (room now : ℕ) (p : PathText) (dir : Bool) (rest : Path) → p.bytes ≢ star → IsIn p rest → SidePart (remove room now p dir) (remove room now p dir)
  side_remove room now p false rest other at = side_asks {c = RemoveFile (names p) now} (rest, at) (side_refused (λ e. Stays p (fs_status e)))
  side_remove zero now p true rest other at = side_ok (refl, refl)
  side_remove (suc room) now p true rest other at =
      side_asks {c = ReadDir (names p)} (rest, at)
      (λ a b same. side_listed (λ q dir. remove room now q dir) now p rest a b (λ q dir left path within. side_remove room now q dir left path within) other at same)

  pub side_removal : (deep : Bool) (now : ℕ) (p : PathText) (dir : Bool) (rest : Path) → p.bytes ≢ star → IsIn p rest → SidePart (removal deep now p dir) (removal deep now p dir)
  side_removal true now p dir rest other at = side_remove (room_at p) now p dir rest other at
  side_removal false now p true rest other at = side_asks {c = RemoveDir (names p) now} (rest, at) (side_refused (λ e. StaysWhole p (fs_status e)))
  side_removal false now p false rest other at = side_asks {c = RemoveFile (names p) now} (rest, at) (side_refused (λ e. Stays p (fs_status e)))

-- ---- the list of locks

module _ (h : Lock) (p : Path) where
  -- where it is elsewhere, it guards as before
  pub guards_still : (ls : List Lock) → is_at_or_under (folder_of h) p ≡ false → Guards h ls → Guards h (deleted p ls)
  guards_still ls outside g = still_guards h p ls g (still_listed h p outside ls (stands_guarded g))

-- ---- the whole

module _ (h : Lock) (guard : IsGuard h) where
  pub side_reported : (p : PathText) (f : Fault) (faults : List Fault) → Alongside h true (λ file. SameAnswers) None (Done (delete_reply p (f ∷ faults))) (Done (delete_reply p (f ∷ faults)))
  side_reported p f [] = side_ok refl
  side_reported p f (g ∷ faults) = side_ok refl

  side_dropped : (p : PathText) (x : List ℕ) (rest : Path) (faults : List Fault) → IsIn h p (x ∷ rest)
      → Alongside h true (λ file. SameAnswers) None (drop_if_gone p faults >>= (λ done. Done (delete_reply p faults))) (drop_if_gone p faults >>= (λ done. Done (delete_reply p faults)))
  side_dropped p x rest (f ∷ faults) at = side_reported p f faults
  side_dropped p x rest [] at =
      let outside : is_at_or_under (folder_of h) (names p) ≡ false = ap (is_at_or_under (folder_of h)) at ∙ not_above (folder_of h) x rest in
      side_look (λ ls ks g g'. side_keep (guards_still h (names p) ls outside g) (guards_still h (names p) ks outside g') (side_ok refl))

  module _ (who : Caller) {lists : List Addressed} (only : SubmitOnly h lists) where
    side_checked : (p : PathText) (x : List ℕ) (rest : Path) (ts us : List (List ℕ)) → IsIn h p (x ∷ rest) → ts ≡ us
        → SidePart h (require_member true true (requester who ts) (names p) (dav.Status 423)) (require_member true true (requester who us) (names p) (dav.Status 423))
    side_checked p x rest ts us at same =
        subst (λ (q : Path). SidePart h (require_member true true (requester who ts) q (dav.Status 423)) (require_member true true (requester who us) q (dav.Status 423))) (sym at)
        (side_free_member h guard true true true who x rest (dav.Status 423) ts us refl same)

    side_delete_found : (deep : Bool) (p : PathText) (x : List ℕ) (rest : Path) (m n : DavMetaData) → p.bytes ≢ star → IsIn h p (x ∷ rest) → m.dir ≡ n.dir
        → Alongside h true (λ file. SameAnswers) None (delete_found deep (holders lists) p who m) (delete_found deep (holders lists) p who n)
    side_delete_found deep p x rest m n other at same =
        side_bind _ _ (side_bind _ _ (side_guarded h guard dav.Status Delete (Some m) (Some n) only) (λ ts us alike. side_checked p x rest ts us at alike)) (λ u v _.
        side_bind _ _ (subst (λ (d : Bool). SidePart h (removal deep who.moment p m.dir) (removal deep who.moment p d)) same (side_removal h deep who.moment p m.dir (x ∷ rest) other at)) (λ faults left alike.
        subst (λ (fs : List Fault). Alongside h true (λ file. SameAnswers) None (drop_if_gone p faults >>= (λ done. Done (delete_reply p faults))) (drop_if_gone p fs >>= (λ done. Done (delete_reply p fs)))) alike
        (side_dropped p x rest faults at)))

    side_told : (deep : Bool) (p : PathText) (x : List ℕ) (rest : Path) (a b : Result DavMetaData FsError) → p.bytes ≢ star → IsIn h p (x ∷ rest) → SameResult SameMetadata a b
        → Alongside h true (λ file. SameAnswers) None (followed_by (refused_as dav.FsError a) (λ found. delete_found deep (holders lists) (closed found.dir p) who found))
        (followed_by (refused_as dav.FsError b) (λ found. delete_found deep (holders lists) (closed found.dir p) who found))
    side_told deep p x rest (Ok m) (Ok n) other at same =
        subst (λ (d : Bool). Alongside h true (λ file. SameAnswers) None (delete_found deep (holders lists) (closed m.dir p) who m) (delete_found deep (holders lists) (closed d p) who n)) same.dir
        (side_delete_found deep (closed m.dir p) x rest m n (closed_is_path m.dir p other) (names_closed m.dir p other ∙ at) same.dir)
    side_told deep p x rest (Err e) (Err f) other at same = subst (λ (d : FsError). Alongside h true (λ file. SameAnswers) None (Done (Err (dav.FsError e))) (Done (Err (dav.FsError d)))) same side_err
    side_told deep p x rest (Ok m) (Err f) other at same = absurd same
    side_told deep p x rest (Err e) (Ok n) other at same = absurd same

    side_deleting : (depth : Result Bool DavError) (p : PathText) (x : List ℕ) (rest : Path) → p.bytes ≢ star → IsIn h p (x ∷ rest)
        → Alongside h true (λ file. SameAnswers) None (Done depth >>= (λ deep. ask_for (Metadata (names p)) >>= (λ found. delete_found deep (holders lists) (closed found.dir p) who found)))
        (Done depth >>= (λ deep. ask_for (Metadata (names p)) >>= (λ found. delete_found deep (holders lists) (closed found.dir p) who found)))
    side_deleting depth p x rest other at =
        side_then depth depth _ _ refl (λ deep. side_asks {c = Metadata (names p)} (x ∷ rest, at) (λ a b told. side_told deep p x rest a b other at told))

pub delete_goes_along : DeleteIsIsolated
delete_goes_along h headers p who plan guard other within alone (is_delete k are) =
    let (x, rest, at) = in_side h (names p) within in
    subst (λ (c : Conditions). IsIsolatedPlan h (deleting c k.depth p who)) (sym (only_lists alone k.conditions are.conditions))
    (side_deleting h guard who alone.only (whole_depth k.depth) p x rest other at)
