-- What a GET or HEAD reads.
use Rattle.std.proofs.Common.{◌≡◌, ℕ, ◌≤◌, ◌==◌, not, if◌then◌else◌, Bool, true, false, List, All, IfSome, codes, Option, Some, None, Result, Ok, Err, refl, subst}
use Rattle.http_header.specs.HeaderMap.{get_all}
use Rattle.dav_core.specs.declared.errors.FsError.{FsError}
use Rattle.dav_core.specs.declared.errors.DavError.{DavError}
use Rattle.dav_core.specs.declared.errors.DavError.TheVariants as dav
use Rattle.dav_core.specs.declared.fs.DavMetaData.{DavMetaData}
use Rattle.dav_core.specs.declared.method.DavMethod.{DavMethod}
use Rattle.dav_core.specs.declared.method.DavMethod.TheVariants.{Head}
use Rattle.dav_core.specs.Asking.{Metadata, Open, Read}
use Rattle.dav_core.specs.CallLaws.{IsStorable}
use Rattle.dav_core.specs.Handle.{Handle}
use Rattle.dav_core.specs.Path.{Path, PathText, names}
use Rattle.dav_core.specs.World.{last_moment}
use Rattle.dav_engine.specs.Conditions.{Addressed, Conditions, SaysLists, if_match}
use Rattle.dav_engine.specs.Headers.{Decodes}
use Rattle.dav_engine.specs.Method.{MethodPlan, then as followed_by, require, refused_as, gives, fails}
use Rattle.dav_engine.specs.Reply.{Reply}
use Rattle.dav_confined.specs.Seen.{ReadsSeen, seen_done, seen_ask, seen_opens, seen_reads}
use Rattle.dav_confined.proofs.SeenLemmas.{ReadsWithout, without_done, without_bind, if_without, seen_bind}
use Rattle.dav_server.specs.Get.{shown, reading, show, show_or_tell, unless_condition_status, not_modified, get, is_get}
use Rattle.dav_confined.specs.SeenSteps.{GetReadsSeen}

module _ (seen : Path → Bool) where
  seen_then : {file : Option ℕ} {A B : Type 0} (r : Result A DavError) (f : A → MethodPlan B) → ((a : A) → ReadsSeen seen file (f a)) → ReadsSeen seen file (followed_by r f)
  seen_then (Ok a) f more = more a
  seen_then (Err e) f more = seen_done

  required : (b : Bool) (e : DavError) → ReadsWithout seen (require b e)
  required true e = without_done
  required false e = without_done

  read : (found : DavMetaData) (made : Option ℕ) (answer : Result (List ℕ × Handle) FsError) → ReadsSeen seen made (followed_by (refused_as dav.FsError answer) (λ bytes. gives (shown found bytes.0)))
  read found made (Ok x) = seen_done
  read found made (Err e) = seen_done

  showing : (p : Path) (now : ℕ) (found : DavMetaData) → seen p ≡ true → IsStorable p → now ≤ last_moment → ReadsSeen seen None (show p now found)
  showing p now found in_sight storable small =
      seen_opens in_sight (refl, refl, refl) (storable, small) (λ k. seen_reads refl (λ answer. read found (Some k.made) answer)) (λ e. seen_done)

  shows : (m : DavMethod) (p : Path) (now : ℕ) (found : DavMetaData) → seen p ≡ true → IsStorable p → now ≤ last_moment → ReadsSeen seen None (show_or_tell m p now found)
  shows Head p now found in_sight storable small = seen_done
  shows _ p now found in_sight storable small = showing p now found in_sight storable small

  statuses : (status : ℕ) (b : Bool) (found : DavMetaData) → ReadsSeen seen None (if b then gives (not_modified found) else fails (dav.Status status))
  statuses status true found = seen_done
  statuses status false found = seen_done

  goes_on : (o : Option ℕ) (found : DavMetaData) (next : MethodPlan Reply) → ReadsSeen seen None next → ReadsSeen seen None (unless_condition_status o found next)
  goes_on None found next is = is
  goes_on (Some status) found next is = statuses status (status == 304) found

  getting : (m : DavMethod) (c : Conditions) (p : Path) (now : ℕ) → seen p ≡ true → IsStorable p → now ≤ last_moment
      → ((lists : List Addressed) → c.lists ≡ Some lists → All (λ l. IfSome l.path (λ q. seen q ≡ true)) lists) → ReadsSeen seen None (get m c p now)
  getting m c p now in_sight storable small known =
      seen_ask {c = Metadata p} in_sight (λ answer. seen_then (refused_as dav.FsError answer) _ (λ found.
      seen_bind _ (required (not found.dir) (dav.Status 405)) (λ u.
      seen_bind _ (without_bind _ (if_without seen c.lists known) (λ holds. without_done)) (λ verdict.
      goes_on verdict found (show_or_tell m p now found) (shows m p now found in_sight storable small)))))

pub get_reads_seen : GetReadsSeen
get_reads_seen seen m headers p now plan storable small in_sight known (is_get c are) =
    getting seen m c (names p) now in_sight storable small (λ lists is. known lists (subst (Decodes (SaysLists p.prefix (names p)) (get_all headers (codes "if"))) is are.lists))
