-- What a COPY or MOVE does to worlds.
use Rattle.std.proofs.Common.{◌≡◌, ◌≢◌, ℕ, ◌<◌, ◌≤◌, ◌++◌, ◌||◌, not, zero, suc, if◌then◌else◌, Bool, true, false, List, [], ◌∷◌, All, Option, Some, Result, Ok, Err, refl, sym, subst}
use Rattle.std.proofs.lemmas.List.Elements.{All-head, All-tail, All-push}
use Rattle.std.specs.Option.{unwrap_or}
use Rattle.std.specs.Result.{is_ok, result_ok}
use Rattle.dav_core.specs.declared.errors.FsError.{FsError}
use Rattle.dav_core.specs.declared.errors.DavError.{DavError}
use Rattle.dav_core.specs.declared.errors.DavError.TheVariants as dav
use Rattle.dav_core.specs.declared.fs.DavMetaData.{DavMetaData}
use Rattle.dav_core.specs.declared.method.DavMethod.{DavMethod}
use Rattle.dav_core.specs.Asking.{ReadDir}
use Rattle.dav_core.specs.CallLaws.{IsStorable}
use Rattle.dav_core.specs.Path.{Path, PathText, IsName, names, star, is_at_or_under, are_equal}
use Rattle.dav_core.specs.World.{last_moment}
use Rattle.dav_core.proofs.Theorems.{name_is_segment}
use Rattle.dav_engine.specs.Caller.{Caller, requester}
use Rattle.dav_engine.specs.Conditions.{Conditions, guarded}
use Rattle.dav_engine.specs.Copying.{CopyFault, CopyWalk, copy_seen, copy_members, copy_listed, copy_inside, copy_kind, copy_looked, copy, renaming}
use Rattle.dav_engine.specs.CopyMove.{CopyHeaders, is_move, copy_depth, destination_found, source_free, copy_free, copy_allowed, is_replaced, clearing, drop_if, drop_if_moved, transfer, transfer_if_cleared, copy_found, is_copy_move, paths_free, changes_members}
use Rattle.dav_engine.specs.Folder.{closed, child_of, room_at, is_folder_found}
use Rattle.dav_engine.specs.Method.{MethodPlan, then as followed_by, ◌>>=◌, require, refused_as, gives, require_parent}
use Rattle.dav_engine.specs.Removal.{Fault, removal}
use Rattle.dav_engine.specs.WorldLaws.{MayTell, IsProperPlan, proper_done, proper_ask, CopyMoveIsProper}
use Rattle.dav_engine.proofs.ChildLemmas.{names_child, slash_is_path}
use Rattle.dav_engine.proofs.CopyHeaderLemmas.{place_by, plain_other}
use Rattle.dav_engine.proofs.DeleteWorld.{proper_change, proper_removal}
use Rattle.dav_engine.proofs.PutWorld.{IsLook, looks, look_proper, only_guarded, only_free, only_parent}
use Rattle.dav_engine.proofs.WorldPlans.{Only, only_done, only_ask, only_bind, only_require, only_proper, proper_then, proper_bind}

-- ---- the checks

pub only_destination : (overwrite : Option Bool) (d : PathText) → Only IsLook (destination_found overwrite d)
only_destination overwrite d =
    only_ask looks (λ above. only_bind (require (is_folder_found (result_ok above)) (dav.Status 409)) _ (only_require (is_folder_found (result_ok above)) (dav.Status 409)) (λ u.
    only_ask looks (λ there. only_bind (require (unwrap_or overwrite true || not (is_ok there)) (dav.Status 412)) _ (only_require (unwrap_or overwrite true || not (is_ok there)) (dav.Status 412)) (λ v. only_done))))

only_source : (moves : Bool) (who : Caller) (tokens : List (List ℕ)) (p : PathText) → Only IsLook (source_free moves who tokens p)
only_source true who tokens p = only_free true (requester who tokens) (names p) (dav.Status 423)
only_source false who tokens p = only_done

pub only_copy_free : (m : DavMethod) (deep : Bool) (c : Conditions) (p d : PathText) (who : Caller) (found : DavMetaData) (there : Option DavMetaData) → Only IsLook (copy_free m deep c p d who found there)
only_copy_free m deep c p d who found there =
    only_bind (guarded dav.Status m c (Some found)) _ (only_guarded dav.Status m c (Some found)) (λ tokens.
    only_bind (paths_free (is_move m) who tokens p d) _
    (only_bind (source_free (is_move m) who tokens p) _ (only_source (is_move m) who tokens p) (λ u. only_free true (requester who tokens) (names d) (dav.Status 423))) (λ u.
    only_bind (require_parent (is_move m) (requester who tokens) (names p) (dav.Status 423)) _ (only_parent (is_move m) (requester who tokens) (names p) (dav.Status 423)) (λ v.
    only_parent (changes_members (is_move m) deep there) (requester who tokens) (names d) (dav.Status 423))))

pub only_copy_allowed : (m : DavMethod) (deep : Bool) (h : CopyHeaders) (p d : PathText) (who : Caller) (found : DavMetaData) → Only IsLook (copy_allowed m deep h p d who found)
only_copy_allowed m deep h p d who found =
    only_bind (destination_found h.overwrite d) _ (only_destination h.overwrite d) (λ there.
    only_bind (require (not (is_at_or_under (names p) (names d))) (dav.Status 403)) _ (only_require (not (is_at_or_under (names p) (names d))) (dav.Status 403)) (λ u.
    only_bind (copy_free m deep h.conditions p d who found there) _ (only_copy_free m deep h.conditions p d who found there) (λ v. only_done)))

-- ---- the copy: each path that something is put at is one of names, since listings tell names

record AtPlace (d : PathText) : Type 0 where
  storable : IsStorable (names d)
  other : d.bytes ≢ star

member_storable : (p : Path) (n : List ℕ) → IsStorable p → IsStorable (n ∷ []) → IsStorable (p ++ n ∷ [])
member_storable p n whole one = (
  All-push IsName p n whole.0 (All-head IsName n [] one.0),
  All-push (All (λ b. b < 256)) p n whole.1 (All-head (All (λ b. b < 256)) n [] one.1),
)

child_place : (d : PathText) (n : List ℕ) (dir : Bool) → AtPlace d → IsStorable (n ∷ []) → AtPlace (child_of d n dir)
child_place d n dir at one = record {
  storable = subst IsStorable (sym (names_child d n dir (name_is_segment n (All-head IsName n [] one.0)) at.other)) (member_storable (names d) n at.storable one);
  other = slash_is_path d n dir;
}

module _ (now : ℕ) (small : now ≤ last_moment) where
  abbrev ProperWalk : CopyWalk → Type 0
  ProperWalk walk = (a b : PathText) → AtPlace b → IsProperPlan (walk a b)

  proper_seen : (walk : CopyWalk) (s d : PathText) (name : List ℕ) (rest : MethodPlan (List CopyFault)) (seen : Result DavMetaData FsError) → ProperWalk walk → AtPlace d → IsStorable (name ∷ []) → IsProperPlan rest → IsProperPlan (copy_seen walk s d name rest seen)
  proper_seen walk s d name rest (Err e) more at one left = proper_done
  proper_seen walk s d name rest (Ok m) more at one left =
      proper_bind (walk (child_of s name m.dir) (child_of d name m.dir)) _ (more (child_of s name m.dir) (child_of d name m.dir) (child_place d name m.dir at one)) (λ faults. proper_bind rest _ left (λ others. proper_done))

  proper_members : (walk : CopyWalk) (s d : PathText) (entries : List (List ℕ × Bool)) → ProperWalk walk → AtPlace d → All (λ e. IsStorable (e.0 ∷ [])) entries → IsProperPlan (copy_members walk s d entries)
  proper_members walk s d [] more at tells = proper_done
  proper_members walk s d (entry ∷ entries) more at tells =
      proper_ask tt (λ seen told. proper_seen walk s d entry.0 (copy_members walk s d entries) seen more at (All-head (λ e. IsStorable (e.0 ∷ [])) entry entries tells)
      (proper_members walk s d entries more at (All-tail (λ e. IsStorable (e.0 ∷ [])) entry entries tells)))

  proper_listed : (walk : CopyWalk) (s d : PathText) (listed : Result (List (List ℕ × Bool)) FsError) → ProperWalk walk → AtPlace d → MayTell (ReadDir (names s)) listed → IsProperPlan (copy_listed walk s d listed)
  proper_listed walk s d (Err e) more at tells = proper_done
  proper_listed walk s d (Ok entries) more at tells = proper_members walk s d entries more at tells

  proper_inside : (walk : CopyWalk) (s d : PathText) (made : Result (Unit {0}) FsError) → ProperWalk walk → AtPlace d → IsProperPlan (copy_inside walk s d made)
  proper_inside walk s d (Err e) more at = proper_done
  proper_inside walk s d (Ok u) more at = proper_ask tt (λ listed tells. proper_listed walk s d listed more at tells)

  proper_kind : (deep dir : Bool) (walk : CopyWalk) (s d : PathText) → ProperWalk walk → AtPlace d → IsProperPlan (copy_kind deep dir walk now s d)
  proper_kind true true walk s d more at = proper_ask (at.storable, small) (λ made tells. proper_inside walk s d made more at)
  proper_kind false true walk s d more at = proper_ask (at.storable, small) (λ made tells. proper_done)
  proper_kind deep false walk s d more at = proper_ask (at.storable, small) (λ answer tells. proper_done)

  proper_looked : (deep : Bool) (walk : CopyWalk) (s d : PathText) (found : Result DavMetaData FsError) → ProperWalk walk → AtPlace d → IsProperPlan (copy_looked deep walk now s d found)
  proper_looked deep walk s d (Err e) more at = proper_done
  proper_looked deep walk s d (Ok m) more at = proper_kind deep m.dir walk s d more at

  proper_if : {A : Type 0} (b : Bool) (one other : MethodPlan A) → IsProperPlan one → IsProperPlan other → IsProperPlan (if b then one else other)
  proper_if true one other is also = is
  proper_if false one other is also = also

  proper_copy : (room : ℕ) (deep : Bool) (top s d : PathText) → AtPlace d → IsProperPlan (copy room deep now top s d)
  proper_copy zero deep top s d at = proper_done
  proper_copy (suc room) deep top s d at =
      proper_if (are_equal s top) (gives []) _ proper_done (proper_ask tt (λ found tells. proper_looked deep (λ a b. copy room deep now top a b) s d found (λ a b place. proper_copy room deep top a b place) at))

  -- ---- the whole

  proper_clearing : (deep : Bool) (d : PathText) (there : Option DavMetaData) → IsProperPlan (clearing deep now d there)
  proper_clearing deep d there = proper_if (is_replaced deep there) (removal true now d (is_folder_found there)) (gives []) (proper_removal true now d (is_folder_found there) small) proper_done

  proper_drop : (b : Bool) (d : PathText) → IsProperPlan (drop_if b d)
  proper_drop true d = proper_change _
  proper_drop false d = proper_done

  proper_moved : (p : PathText) (faults : List CopyFault) → IsProperPlan (drop_if_moved p faults)
  proper_moved p [] = proper_change _
  proper_moved p (f ∷ faults) = proper_done

  proper_brought : (moves deep : Bool) (p d : PathText) → AtPlace d → IsProperPlan (transfer moves deep now p d)
  proper_brought true deep p d at =
      proper_bind (renaming now p d) (λ faults. drop_if_moved p faults >>= (λ u. gives faults)) (proper_ask (at.storable, small) (λ moved tells. proper_done))
      (λ faults. proper_bind (drop_if_moved p faults) (λ u. gives faults) (proper_moved p faults) (λ u. proper_done))
  proper_brought false deep p d at = proper_copy (room_at p) deep d p d at

  proper_bring : (moves deep : Bool) (p d : PathText) (there : Option DavMetaData) (faults : List Fault) → AtPlace d → IsProperPlan (transfer_if_cleared moves deep now p d there faults)
  proper_bring moves deep p d there (f ∷ faults) at = proper_done
  proper_bring moves deep p d there [] at =
      proper_bind (drop_if (is_replaced deep there) d) _ (proper_drop (is_replaced deep there) d) (λ u. proper_bind (transfer moves deep now p d) _ (proper_brought moves deep p d at) (λ faults. proper_done))

proper_found : (m : DavMethod) (deep : Bool) (h : CopyHeaders) (p d : PathText) (who : Caller) (found : DavMetaData) → who.moment ≤ last_moment → AtPlace d → IsProperPlan (copy_found m deep h p d who found)
proper_found m deep h p d who found small at =
    proper_bind (copy_allowed m deep h p d who found) _ (only_proper look_proper (only_copy_allowed m deep h p d who found)) (λ there.
    proper_bind (clearing deep who.moment d there) _ (proper_clearing who.moment small deep d there) (λ faults. proper_bring who.moment small (is_move m) deep p d there faults at))

to_place : {B : Type 0} (r : Result PathText DavError) (f : PathText → MethodPlan B) → ((d : PathText) → r ≡ Ok d → IsProperPlan (f d)) → IsProperPlan (followed_by r f)
to_place (Ok d) f more = more d refl
to_place (Err e) f more = proper_done

pub copymove_is_proper : CopyMoveIsProper
copymove_is_proper m headers p who plan small (is_copy_move h are) =
    proper_then (copy_depth (is_move m) h.depth) _ (λ deep. to_place h.destination _ (λ d is.
    let place = place_by d are.destination is in
    proper_ask tt (λ answer tells. proper_then (refused_as dav.FsError answer) _ (λ found.
    proper_found m deep h (closed found.dir p) d who found small (record { storable = place.storable; other = plain_other d place.plain })))))
