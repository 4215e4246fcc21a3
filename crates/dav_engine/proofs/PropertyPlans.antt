-- What PROPFIND and PROPPATCH do to worlds, and to the list of locks.
use Rattle.std.proofs.Common.{ℕ, zero, suc, Bool, true, false, ◌&&◌, List, [], ◌∷◌, Some, None, Result, Ok, Err}
use Rattle.dav_core.specs.declared.errors.FsError.{FsError}
use Rattle.dav_core.specs.declared.errors.DavError.TheVariants as dav
use Rattle.dav_core.specs.declared.fs.DavMetaData.{DavMetaData}
use Rattle.dav_core.specs.declared.method.DavMethod.TheVariants as method
use Rattle.dav_core.specs.Asking.{Call, Metadata, ReadDir, EntryMetadata, HaveProps, PatchProps, GetProps, GetProp, GetQuota}
use Rattle.dav_core.specs.CallLaws.{IsProper}
use Rattle.dav_core.specs.Element.{ElementTree}
use Rattle.dav_core.specs.Locks.{Lock}
use Rattle.dav_core.specs.Path.{Path, PathText, names}
use Rattle.dav_core.specs.Property.{PropertyKey, Patch}
use Rattle.dav_engine.specs.declared.request.Body.{Body}
use Rattle.dav_engine.specs.Caller.{Caller, requester}
use Rattle.dav_engine.specs.Conditions.{Conditions, guarded}
use Rattle.dav_engine.specs.Ending.{KeepsLock, keeps_done, keeps_ask, keeps_look, ProppatchKeepsLocks}
use Rattle.dav_engine.specs.Folder.{closed, child_of, location_found, room_at}
use Rattle.dav_engine.specs.Headers.{Headers}
use Rattle.dav_engine.specs.ListChanges.{ProppatchChangesList}
use Rattle.dav_engine.specs.Method.{require_free, required, refused_as}
use Rattle.dav_engine.specs.Plan.{Plan}
use Rattle.dav_engine.specs.Properties.{Telling, Requested, AllProperties, NamesAlone, Outcomes, Others, Writer, writer, Source, Here, Nowhere, AvailableQuota, UsedQuota, InStore, source, QuotaKnown, cached_quota, has_properties, kept_if, kept_property, found_in, found_property, found_properties, stored_properties, all_kept, properties_of}
use Rattle.dav_engine.specs.Propfind.{Below, query_in, tell_member, tell_if_found, tell_members, tell_listed, tell_below, tell_itself, tells_itself, tells_members, is_infinite, is_served_depth, FindHeaders, propfind_found, propfind_if, propfind, is_propfind}
use Rattle.dav_engine.specs.Proppatch.{Change, changes_in, answered_at_once, to_store, has_refused, store_changes, change_all, proppatch_reply, patch_properties, proppatch_found, proppatch, is_proppatch}
use Rattle.dav_engine.specs.Reply.{Header}
use Rattle.dav_engine.specs.WorldLaws.{OnlyReads, PropfindOnlyReads, PropfindIsProper, ProppatchIsProper}
use Rattle.dav_engine.proofs.ListChangeLemmas.{changes_only}
use Rattle.dav_engine.proofs.PutWorld.{IsLook, looks, only_guarded, only_free}
use Rattle.dav_engine.proofs.WorldPlans.{Only, only_done, only_ask, only_look, only_then, only_bind, only_reads, only_proper}

-- ---- PROPFIND

-- the calls of a PROPFIND
pub data IsQuestion : Call → Type 0 where
  of_path : {p : Path} → IsQuestion (Metadata p)
  of_folder : {p : Path} → IsQuestion (ReadDir p)
  of_entry : {p : Path} → IsQuestion (EntryMetadata p)
  of_keeping : {p : Path} → IsQuestion (HaveProps p)
  of_property : {p : Path} {key : PropertyKey} → IsQuestion (GetProp p key)
  of_properties : {p : Path} {content : Bool} → IsQuestion (GetProps p content)
  of_quota : IsQuestion GetQuota

pub question_reads : (c : Call) → IsQuestion c → OnlyReads c
question_reads c of_path = tt
question_reads c of_folder = tt
question_reads c of_entry = tt
question_reads c of_keeping = tt
question_reads c of_property = tt
question_reads c of_properties = tt
question_reads c of_quota = tt

question_proper : (c : Call) → IsQuestion c → IsProper c
question_proper c of_path = tt
question_proper c of_folder = tt
question_proper c of_entry = tt
question_proper c of_keeping = tt
question_proper c of_property = tt
question_proper c of_properties = tt
question_proper c of_quota = tt

only_quota : (known : QuotaKnown) → Only IsQuestion (cached_quota known)
only_quota (Some quota) = only_done
only_quota None = only_ask of_quota (λ answer. only_done)

only_kept_if : (p : PathText) (e : ElementTree) (has : Bool) → Only IsQuestion (kept_if p e has)
only_kept_if p e false = only_done
only_kept_if p e true = only_ask of_property (λ answer. only_done)

only_kept : (telling : Telling) (p : PathText) (e : ElementTree) → Only IsQuestion (kept_property telling p e)
only_kept Requested p e = only_bind (has_properties p) _ (only_ask of_keeping (λ answer. only_done)) (λ has. only_kept_if p e has)
only_kept AllProperties p e = only_done
only_kept NamesAlone p e = only_done
only_kept Outcomes p e = only_done
only_kept Others p e = only_done

only_all_if : (p : PathText) (has : Bool) → Only IsQuestion (stored_properties p has)
only_all_if p false = only_done
only_all_if p true = only_ask of_properties (λ answer. only_done)

pub only_all_kept : (p : PathText) → Only IsQuestion (all_kept p)
only_all_kept p = only_bind (has_properties p) _ (only_ask of_keeping (λ answer. only_done)) (λ has. only_all_if p has)

module _ (w : Writer) where
  only_found_in : (e : ElementTree) (p : PathText) (m : DavMetaData) (known : QuotaKnown) (s : Source) → Only IsQuestion (found_in w e p m known s)
  only_found_in e p m known (Here told) = only_done
  only_found_in e p m known Nowhere = only_done
  only_found_in e p m known AvailableQuota = only_bind (cached_quota known) _ (only_quota known) (λ quota. only_done)
  only_found_in e p m known UsedQuota = only_bind (cached_quota known) _ (only_quota known) (λ quota. only_done)
  only_found_in e p m known InStore = only_bind (kept_property w.telling p e) _ (only_kept w.telling p e) (λ kept. only_done)

  only_found : (p : PathText) (m : DavMetaData) (known : QuotaKnown) (e : ElementTree) → Only IsQuestion (found_property w p m known e)
  only_found p m known e = only_look (λ ls. only_found_in e p m known (source w e p m ls))

  pub only_found_all : (p : PathText) (m : DavMetaData) (known : QuotaKnown) (es : List ElementTree) → Only IsQuestion (found_properties w p m known es)
  only_found_all p m known [] = only_done
  only_found_all p m known (e ∷ es) =
      only_bind (found_property w p m known e) _ (only_found p m known e) (λ one.
      only_bind (found_properties w p m one.1 es) _ (only_found_all p m one.1 es) (λ more. only_done))

  only_properties : (p : PathText) (m : DavMetaData) (known : QuotaKnown) → Only IsQuestion (properties_of w p m known)
  only_properties p m known =
      only_bind (found_properties w p m known w.properties) _ (only_found_all p m known w.properties) (λ found.
      only_bind (all_kept p) _ (only_all_kept p) (λ kept. only_done))

  module _ (below : Below) (more : (q : PathText) (dir : Bool) (known : QuotaKnown) → Only IsQuestion (below q dir known)) where
    only_member : (p : PathText) (m : DavMetaData) (known : QuotaKnown) → Only IsQuestion (tell_member below w p m known)
    only_member p m known =
        only_bind (properties_of w p m known) _ (only_properties p m known) (λ one.
        only_bind (below p m.dir one.1) _ (more p m.dir one.1) (λ rest. only_done))

    only_seen : (p : PathText) (name : List ℕ) (known : QuotaKnown) (seen : Result DavMetaData FsError) → Only IsQuestion (tell_if_found below w p name known seen)
    only_seen p name known (Err e) = only_done
    only_seen p name known (Ok m) = only_member (child_of p name m.dir) m known

    only_members : (p : PathText) (known : QuotaKnown) (entries : List (List ℕ × Bool)) → Only IsQuestion (tell_members below w p known entries)
    only_members p known [] = only_done
    only_members p known (entry ∷ entries) = only_ask of_entry (λ seen.
        only_bind (tell_if_found below w p entry.0 known seen) _ (only_seen p entry.0 known seen) (λ one.
        only_bind (tell_members below w p one.1 entries) _ (only_members p one.1 entries) (λ rest. only_done)))

    only_listed : (p : PathText) (known : QuotaKnown) (listed : Result (List (List ℕ × Bool)) FsError) → Only IsQuestion (tell_listed below w p known listed)
    only_listed p known (Err e) = only_done
    only_listed p known (Ok entries) = only_members p known entries

  pub only_below : (deep : Bool) (room : ℕ) (p : PathText) (dir : Bool) (known : QuotaKnown) → Only IsQuestion (tell_below deep room w p dir known)
  only_below deep room p false known = only_done
  only_below deep zero p true known = only_done
  only_below deep (suc room) p true known =
      only_ask of_folder (λ listed. only_listed (λ q dir now. tell_below deep room w q (dir && deep) now) (λ q dir now. only_below deep room q (dir && deep) now) p known listed)

  only_itself : (told : Bool) (p : PathText) (m : DavMetaData) → Only IsQuestion (tell_itself told w p m)
  only_itself false p m = only_done
  only_itself true p m = only_bind (properties_of w p m None) _ (only_properties p m None) (λ one. only_done)

module _ (h : FindHeaders) (headers : Headers) (content : Body) (who : Caller) where
  only_find_found : (p : PathText) (location : List Header) (m : DavMetaData) → Only IsQuestion (propfind_found h headers p location content who m)
  only_find_found p location m =
      only_then (required (query_in content) dav.XmlParseError) _ (λ query.
      only_bind (tell_itself (tells_itself h.depth) (writer query.0 headers who.principal query.1) p m) _ (only_itself (writer query.0 headers who.principal query.1) (tells_itself h.depth) p m) (λ itself.
      only_bind (tell_below (is_infinite h.depth) (room_at p) (writer query.0 headers who.principal query.1) p (m.dir && tells_members h.depth) itself.1) _
      (only_below (writer query.0 headers who.principal query.1) (is_infinite h.depth) (room_at p) p (m.dir && tells_members h.depth) itself.1) (λ below. only_done)))

  only_propfind_if : (p : PathText) (served : Bool) → Only IsQuestion (propfind_if served h headers p content who)
  only_propfind_if p false = only_done
  only_propfind_if p true = only_ask of_path (λ answer.
      only_then (refused_as dav.FsError answer) _ (λ found. only_find_found (closed found.dir p) (location_found (Some found) p) found))

  -- a PROPFIND makes such calls alone
  pub only_propfind : (p : PathText) → Only IsQuestion (propfind h headers p content who)
  only_propfind p = only_propfind_if p (is_served_depth h)

pub propfind_only_reads : PropfindOnlyReads
propfind_only_reads headers p content who plan (is_propfind h are) = only_reads question_reads (only_propfind h headers content who p)

pub propfind_is_proper : PropfindIsProper
propfind_is_proper headers p content who plan (is_propfind h are) = only_proper question_proper (only_propfind h headers content who p)

-- ---- PROPPATCH

-- the calls of a PROPPATCH
pub data IsPatching : Call → Type 0 where
  asks_path : {p : Path} → IsPatching (Metadata p)
  asks_keeping : {p : Path} → IsPatching (HaveProps p)
  patches : {p : Path} {changes : List Patch} → IsPatching (PatchProps p changes)

patching_proper : (c : Call) → IsPatching c → IsProper c
patching_proper c asks_path = tt
patching_proper c asks_keeping = tt
patching_proper c patches = tt

-- a look at what is there is such a call
only_patching : {A : Type 0} {plan : Plan A} → Only IsLook plan → Only IsPatching plan
only_patching only_done = only_done
only_patching (only_ask looks more) = only_ask asks_path (λ answer. only_patching (more answer))
only_patching (only_look more) = only_look (λ ls. only_patching (more ls))

only_store : (p : PathText) (stored : List Change) → Only IsPatching (store_changes p stored)
only_store p [] = only_done
only_store p (c ∷ cs) = only_ask patches (λ answer. only_done)

only_change_all : (p : PathText) (refused : Bool) (answers : List (ℕ × Change)) (stored : List Change) → Only IsPatching (change_all p refused answers stored)
only_change_all p true answers stored = only_done
only_change_all p false answers stored = only_bind (store_changes p stored) _ (only_store p stored) (λ done. only_done)

only_patch : (p : PathText) (location : List Header) (changes : List Change) → Only IsPatching (patch_properties p location changes)
only_patch p location changes =
    only_bind (has_properties p) _ (only_ask asks_keeping (λ answer. only_done)) (λ has.
    only_bind (change_all p (has_refused (answered_at_once has changes)) (answered_at_once has changes) (to_store has changes)) _
    (only_change_all p (has_refused (answered_at_once has changes)) (answered_at_once has changes) (to_store has changes)) (λ told. only_done {a = Ok (proppatch_reply location p told)}))

only_patch_found : (c : Conditions) (p : PathText) (location : List Header) (content : Body) (who : Caller) (found : DavMetaData) → Only IsPatching (proppatch_found c p location content who found)
only_patch_found c p location content who found =
    only_bind (guarded dav.Status method.PropPatch c (Some found)) _ (only_patching (only_guarded dav.Status method.PropPatch c (Some found))) (λ tokens.
    only_bind (require_free false (requester who tokens) (names p) (dav.Status 423)) _ (only_patching (only_free false (requester who tokens) (names p) (dav.Status 423))) (λ free.
    only_then (required (changes_in content) dav.XmlParseError) _ (λ changes. only_patch p location changes)))

-- a PROPPATCH makes such calls alone
pub only_proppatch : (c : Conditions) (p : PathText) (content : Body) (who : Caller) → Only IsPatching (proppatch c p content who)
only_proppatch c p content who = only_ask asks_path (λ answer.
    only_then (refused_as dav.FsError answer) _ (λ found. only_patch_found c (closed found.dir p) (location_found (Some found) p) content who found))

pub proppatch_is_proper : ProppatchIsProper
proppatch_is_proper headers p content who plan (is_proppatch c are) = only_proper patching_proper (only_proppatch c p content who)

-- a plan that sets no list keeps every lock
keeps_only : {h : Lock} {P : Call → Type 0} {A : Type 0} {plan : Plan A} → Only P plan → KeepsLock h plan
keeps_only only_done = keeps_done
keeps_only (only_ask {c = c} is more) = keeps_ask (λ answer. keeps_only (more answer))
keeps_only (only_look more) = keeps_look (λ ls listed. keeps_only (more (Some ls)))

pub proppatch_keeps_locks : ProppatchKeepsLocks
proppatch_keeps_locks h headers p content who plan (is_proppatch c are) = keeps_only (only_proppatch c p content who)

pub proppatch_changes_list : ProppatchChangesList
proppatch_changes_list headers p content who ls plan (is_proppatch c are) = changes_only (only_proppatch c p content who)
