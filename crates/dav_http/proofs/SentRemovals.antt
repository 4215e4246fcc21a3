-- The replies to DELETE, COPY and MOVE may be sent.
use Rattle.std.proofs.Common.{◌≡◌, ℕ, zero, suc, Bool, true, false, cond, List, [], ◌∷◌, ◌++◌, map, Option, Result, Ok, Err}
use Rattle.std.specs.Prelude.{IfOk}
use Rattle.std.specs.List.{AllByRecursion}
use Rattle.dav_core.specs.declared.errors.FsError.{FsError}
use Rattle.dav_core.specs.declared.errors.FsError.TheVariants as fs
use Rattle.dav_core.specs.declared.errors.DavError.TheVariants as dav
use Rattle.dav_core.specs.declared.fs.DavMetaData.{DavMetaData}
use Rattle.dav_core.specs.declared.method.DavMethod.{DavMethod}
use Rattle.dav_core.specs.Asking.{Metadata, ReadDir, EntryMetadata, CreateDir, RemoveDir, RemoveFile, Rename, Copy}
use Rattle.dav_core.specs.Path.{PathText, names, are_equal}
use Rattle.dav_core.specs.Status.{fs_status}
use Rattle.dav_engine.specs.Caller.{Caller}
use Rattle.dav_engine.specs.Conditions.{Conditions}
use Rattle.dav_engine.specs.Copying.{CopyFault, CopyWalk, copy_report, refused_at, faults_at_depth_0, copy_seen, copy_members, copy_listed, copy_inside, copy_kind, copy_looked, copy}
use Rattle.dav_engine.specs.CopyMove.{CopyHeaders, is_move, copy_depth, is_replaced, clearing, drop_if, drop_if_moved, transfer, copied_status, copy_reply, transfer_if_cleared, copy_found, copy_or_move}
use Rattle.dav_engine.specs.Delete.{DeleteHeaders, whole_depth, drop_if_gone, delete_reply, delete_found, delete}
use Rattle.dav_engine.specs.Folder.{closed, child_of, room_at, is_folder_found}
use Rattle.dav_engine.specs.Method.{MethodPlan, gives, refused_as}
use Rattle.dav_engine.specs.Multistatus.{PathStatus, status_reply, multistatus_reply, multi_reply}
use Rattle.dav_engine.specs.Removal.{Fault, Stays, StaysWhole, StaysWith, Walk, fault_path, report_of, refused_by, emptied_status, each, remove_emptied, remove_found, remove_member, remove_listed, remove, removal}
use Rattle.dav_engine.specs.Reply.{Reply}
use Rattle.dav_engine.proofs.CopyWorld.{only_copy_allowed}
use Rattle.dav_engine.proofs.DeleteWorld.{only_delete_allowed}
use Rattle.dav_http.proofs.Each.{each_append, each_map}
use Rattle.dav_http.proofs.SentFinds.{IsSent}
use Rattle.dav_http.proofs.SentLocks.{Any, drop_sends}
use Rattle.dav_http.proofs.SentNames.{HasPath, closed_path, child_path}
use Rattle.dav_http.proofs.SentParts.{HasBytes, statuses_sendable}
use Rattle.dav_http.proofs.SentPlans.{Sends, sends_ok, sends_ask, sends_outcome, sends_then, sends_bind, sends_looked, sends_either}

-- ---- replies

either_sent : (b : Bool) (r s : Reply) → IsSent r → IsSent s → IsSent (cond b r s)
either_sent true r s h k = h
either_sent false r s h k = k

multi_sent : (p : PathText) (items : List PathStatus) → AllByRecursion HasBytes items → IfOk (multi_reply p items) IsSent
multi_sent p [] all = tt
multi_sent p (item ∷ []) all = either_sent (are_equal item.0 p) (status_reply item.1) (multistatus_reply (item ∷ [])) tt (statuses_sendable (item ∷ []) all)
multi_sent p (item ∷ other ∷ more) all = statuses_sendable (item ∷ other ∷ more) all

-- ---- a removal

abbrev Names : Fault → Type 0
Names f = HasPath (fault_path f)

abbrev AllNames : List Fault → Type 0
AllNames faults = AllByRecursion Names faults

refused_names : {A : Type 0} (fault : FsError → Fault) (r : Result A FsError) → ((e : FsError) → Names (fault e)) → AllNames (refused_by fault r)
refused_names fault (Ok a) all = tt
refused_names fault (Err e) all = (all e, tt)

module _ (walk : Walk) (walks : (q : PathText) (dir : Bool) → HasPath q → Sends AllNames (walk q dir)) where
  found_sends : (p : PathText) (name : List ℕ) (seen : Result DavMetaData FsError) → HasPath p → Sends AllNames (remove_found walk p name seen)
  found_sends p name (Ok m) some = walks (child_of p name m.dir) m.dir (child_path p name m.dir)
  found_sends p name (Err e) some = sends_ok (some, tt)

  members_send : (p : PathText) (entries : List (List ℕ × Bool)) → HasPath p → Sends AllNames (each (remove_member walk p) entries)
  members_send p [] some = sends_ok tt
  members_send p (entry ∷ entries) some =
      sends_ask {c = EntryMetadata (names p ++ entry.0 ∷ [])} tt (λ seen says.
      sends_bind _ (found_sends p entry.0 seen some) (λ faults are.
      sends_bind _ (members_send p entries some) (λ others too. sends_ok (each_append Names faults others are too))))

  emptied_sends : (now : ℕ) (p : PathText) (faults : List Fault) → HasPath p → AllNames faults → Sends AllNames (remove_emptied now p faults)
  emptied_sends now p [] some are = sends_ask {c = RemoveDir (names p) now} tt (λ answer says. sends_ok (refused_names (λ e. Stays p (emptied_status e)) answer (λ e. some)))
  emptied_sends now p (f ∷ faults) some are = sends_ok are

  listed_sends : (now : ℕ) (p : PathText) (listed : Result (List (List ℕ × Bool)) FsError) → HasPath p → Sends AllNames (remove_listed walk now p listed)
  listed_sends now p (Err e) some = sends_ok (some, tt)
  listed_sends now p (Ok entries) some = sends_bind _ (members_send p entries some) (λ faults are. emptied_sends now p faults some are)

remove_sends : (room now : ℕ) (p : PathText) (dir : Bool) → HasPath p → Sends AllNames (remove room now p dir)
remove_sends room now p false some = sends_ask {c = RemoveFile (names p) now} tt (λ answer says. sends_ok (refused_names (λ e. Stays p (fs_status e)) answer (λ e. some)))
remove_sends zero now p true some = sends_ok (some, tt)
remove_sends (suc room) now p true some =
    sends_ask {c = ReadDir (names p)} tt (λ listed says. listed_sends (λ q dir. remove room now q dir) (λ q dir there. remove_sends room now q dir there) now p listed some)

removal_sends : (deep : Bool) (now : ℕ) (p : PathText) (dir : Bool) → HasPath p → Sends AllNames (removal deep now p dir)
removal_sends true now p dir some = remove_sends (room_at p) now p dir some
removal_sends false now p true some = sends_ask {c = RemoveDir (names p) now} tt (λ answer says. sends_ok (refused_names (λ e. StaysWhole p (fs_status e)) answer (λ e. some)))
removal_sends false now p false some = sends_ask {c = RemoveFile (names p) now} tt (λ answer says. sends_ok (refused_names (λ e. Stays p (fs_status e)) answer (λ e. some)))

reported : (f : Fault) → Names f → HasBytes (report_of f)
reported (Stays p status) some = some
reported (StaysWhole p status) some = some
reported (StaysWith p name status) some = some

-- ---- DELETE

gone_sends : (p : PathText) (faults : List Fault) → Sends Any (drop_if_gone p faults)
gone_sends p [] = drop_sends (names p)
gone_sends p (f ∷ faults) = sends_ok tt

delete_sent : (p : PathText) (faults : List Fault) → AllNames faults → IfOk (delete_reply p faults) IsSent
delete_sent p [] are = tt
delete_sent p (f ∷ faults) are = multi_sent p (map report_of (f ∷ faults)) (each_map Names HasBytes report_of reported (f ∷ faults) are)

delete_found_sends : (deep : Bool) (c : Conditions) (p : PathText) (who : Caller) (found : DavMetaData) → HasPath p → Sends IsSent (delete_found deep c p who found)
delete_found_sends deep c p who found some =
    sends_looked _ (only_delete_allowed c p who found) (λ free.
    sends_bind _ (removal_sends deep who.moment p found.dir some) (λ faults are.
    sends_bind _ (gone_sends p faults) (λ u v. sends_outcome (delete_reply p faults) (delete_sent p faults are))))

pub delete_sends : (h : DeleteHeaders) (p : PathText) (who : Caller) → HasPath p → Sends IsSent (delete h p who)
delete_sends h p who some =
    sends_then (whole_depth h.depth) _ (λ deep is.
    sends_ask {c = Metadata (names p)} tt (λ answer says.
    sends_then (refused_as dav.FsError answer) _ (λ found is. delete_found_sends deep h.conditions (closed found.dir p) who found (closed_path found.dir p some))))

-- ---- a copy

abbrev Concerns : CopyFault → Type 0
Concerns f = HasPath f.0

abbrev AllConcern : List CopyFault → Type 0
AllConcern faults = AllByRecursion Concerns faults

refused_concerns : {A : Type 0} (q : PathText) (r : Result A FsError) → HasPath q → AllConcern (refused_at q r)
refused_concerns q (Ok a) some = tt
refused_concerns q (Err e) some = (some, tt)

alone_concerns : (q : PathText) (r : Result (Unit {0}) FsError) → HasPath q → AllConcern (faults_at_depth_0 q r)
alone_concerns q (Ok made) some = tt
alone_concerns q (Err fs.Exists) some = tt
alone_concerns q (Err fs.NotImplemented) some = (some, tt)
alone_concerns q (Err fs.GeneralFailure) some = (some, tt)
alone_concerns q (Err fs.NotFound) some = (some, tt)
alone_concerns q (Err fs.Forbidden) some = (some, tt)
alone_concerns q (Err fs.InsufficientStorage) some = (some, tt)
alone_concerns q (Err fs.LoopDetected) some = (some, tt)
alone_concerns q (Err fs.PathTooLong) some = (some, tt)
alone_concerns q (Err fs.TooLarge) some = (some, tt)
alone_concerns q (Err fs.IsRemote) some = (some, tt)

module _ (walk : CopyWalk) (walks : (a b : PathText) → HasPath a → HasPath b → Sends AllConcern (walk a b)) where
  copy_seen_sends : (s d : PathText) (name : List ℕ) (rest : MethodPlan (List CopyFault)) (seen : Result DavMetaData FsError) → HasPath s → Sends AllConcern rest → Sends AllConcern (copy_seen walk s d name rest seen)
  copy_seen_sends s d name rest (Err e) from more = sends_ok (from, tt)
  copy_seen_sends s d name rest (Ok m) from more =
      sends_bind _ (walks (child_of s name m.dir) (child_of d name m.dir) (child_path s name m.dir) (child_path d name m.dir)) (λ faults are.
      sends_bind _ more (λ others too. sends_ok (each_append Concerns faults others are too)))

  copy_members_send : (s d : PathText) (entries : List (List ℕ × Bool)) → HasPath s → Sends AllConcern (copy_members walk s d entries)
  copy_members_send s d [] from = sends_ok tt
  copy_members_send s d (entry ∷ entries) from =
      sends_ask {c = EntryMetadata (names s ++ entry.0 ∷ [])} tt (λ seen says. copy_seen_sends s d entry.0 (copy_members walk s d entries) seen from (copy_members_send s d entries from))

  copy_listed_sends : (s d : PathText) (listed : Result (List (List ℕ × Bool)) FsError) → HasPath s → Sends AllConcern (copy_listed walk s d listed)
  copy_listed_sends s d (Err e) from = sends_ok (from, tt)
  copy_listed_sends s d (Ok entries) from = copy_members_send s d entries from

  copy_inside_sends : (s d : PathText) (made : Result (Unit {0}) FsError) → HasPath s → HasPath d → Sends AllConcern (copy_inside walk s d made)
  copy_inside_sends s d (Err e) from to = sends_ok (to, tt)
  copy_inside_sends s d (Ok made) from to = sends_ask {c = ReadDir (names s)} tt (λ listed says. copy_listed_sends s d listed from)

  copy_kind_sends : (deep dir : Bool) (now : ℕ) (s d : PathText) → HasPath s → HasPath d → Sends AllConcern (copy_kind deep dir walk now s d)
  copy_kind_sends true true now s d from to = sends_ask {c = CreateDir (names d) now} tt (λ made says. copy_inside_sends s d made from to)
  copy_kind_sends false true now s d from to = sends_ask {c = CreateDir (names d) now} tt (λ made says. sends_ok (alone_concerns d made to))
  copy_kind_sends deep false now s d from to = sends_ask {c = Copy (names s) (names d) now} tt (λ copied says. sends_ok (refused_concerns s copied from))

  copy_looked_sends : (deep : Bool) (now : ℕ) (s d : PathText) (found : Result DavMetaData FsError) → HasPath s → HasPath d → Sends AllConcern (copy_looked deep walk now s d found)
  copy_looked_sends deep now s d (Err e) from to = sends_ok (from, tt)
  copy_looked_sends deep now s d (Ok m) from to = copy_kind_sends deep m.dir now s d from to

copy_sends : (room : ℕ) (deep : Bool) (now : ℕ) (target s d : PathText) → HasPath s → HasPath d → Sends AllConcern (copy room deep now target s d)
copy_sends zero deep now target s d from to = sends_ok (from, tt)
copy_sends (suc room) deep now target s d from to =
    sends_either (are_equal s target) _ _ (sends_ok tt)
    (sends_ask {c = Metadata (names s)} tt (λ found says. copy_looked_sends (λ a b. copy room deep now target a b) (λ a b here there. copy_sends room deep now target a b here there) deep now s d found from to))

-- ---- COPY and MOVE

copy_sent : (p : PathText) (status : ℕ) (faults : List CopyFault) → AllConcern faults → IfOk (copy_reply p status faults) IsSent
copy_sent p status [] are = tt
copy_sent p status (f ∷ faults) are = multi_sent p (map copy_report (f ∷ faults)) (each_map Concerns HasBytes copy_report (λ g some. some) (f ∷ faults) are)

moved_sends : (p : PathText) (faults : List CopyFault) → Sends Any (drop_if_moved p faults)
moved_sends p [] = drop_sends (names p)
moved_sends p (f ∷ faults) = sends_ok tt

brought_sends : (by_moving deep : Bool) (now : ℕ) (p d : PathText) → HasPath p → HasPath d → Sends AllConcern (transfer by_moving deep now p d)
brought_sends true deep now p d from to =
    sends_ask {c = Rename (names p) (names d) now} tt (λ moved says.
    sends_bind (λ u. gives (refused_at p moved)) (moved_sends p (refused_at p moved)) (λ u v. sends_ok (refused_concerns p moved from)))
brought_sends false deep now p d from to = copy_sends (room_at p) deep now d p d from to

clearing_sends : (deep : Bool) (now : ℕ) (d : PathText) (there : Option DavMetaData) → HasPath d → Sends AllNames (clearing deep now d there)
clearing_sends deep now d there to = sends_either (is_replaced deep there) _ _ (removal_sends true now d (is_folder_found there) to) (sends_ok tt)

dropped_sends : (b : Bool) (d : PathText) → Sends Any (drop_if b d)
dropped_sends true d = drop_sends (names d)
dropped_sends false d = sends_ok tt

bring_sends : (by_moving deep : Bool) (now : ℕ) (p d : PathText) (there : Option DavMetaData) (faults : List Fault) → HasPath p → HasPath d → AllNames faults → Sends IsSent (transfer_if_cleared by_moving deep now p d there faults)
bring_sends by_moving deep now p d there (f ∷ faults) from to are = sends_outcome (multi_reply p (map report_of (f ∷ faults))) (multi_sent p (map report_of (f ∷ faults)) (each_map Names HasBytes report_of reported (f ∷ faults) are))
bring_sends by_moving deep now p d there [] from to are =
    sends_bind _ (dropped_sends (is_replaced deep there) d) (λ u v.
    sends_bind _ (brought_sends by_moving deep now p d from to) (λ faults concern. sends_outcome (copy_reply p (copied_status there) faults) (copy_sent p (copied_status there) faults concern)))

copy_found_sends : (m : DavMethod) (deep : Bool) (h : CopyHeaders) (p d : PathText) (who : Caller) (found : DavMetaData) → HasPath p → HasPath d → Sends IsSent (copy_found m deep h p d who found)
copy_found_sends m deep h p d who found from to =
    sends_looked _ (only_copy_allowed m deep h p d who found) (λ there.
    sends_bind _ (clearing_sends deep who.moment d there to) (λ faults are. bring_sends (is_move m) deep who.moment p d there faults from to are))

pub copymove_sends : (m : DavMethod) (h : CopyHeaders) (p : PathText) (who : Caller) → HasPath p → ((d : PathText) → h.destination ≡ Ok d → HasPath d) → Sends IsSent (copy_or_move m h p who)
copymove_sends m h p who from place =
    sends_then (copy_depth (is_move m) h.depth) _ (λ deep is.
    sends_then h.destination _ (λ d is.
    sends_ask {c = Metadata (names p)} tt (λ answer says.
    sends_then (refused_as dav.FsError answer) _ (λ found there. copy_found_sends m deep h (closed found.dir p) d who found (closed_path found.dir p from) (place d is)))))
