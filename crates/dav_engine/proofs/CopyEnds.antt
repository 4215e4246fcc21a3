-- A COPY or MOVE that an error ends leaves all as it was.
use Rattle.std.proofs.Common.{◌≡◌, ℕ, zero, suc, if◌then◌else◌, Bool, true, false, List, [], ◌∷◌, map, Option, Some, None, Result, Ok, Err, ap, ◌∙◌}
use Rattle.std.specs.Prelude.{⊤}
use Rattle.dav_core.specs.declared.errors.FsError.{FsError}
use Rattle.dav_core.specs.declared.errors.DavError.{DavError}
use Rattle.dav_core.specs.declared.errors.DavError.TheVariants as dav
use Rattle.dav_core.specs.declared.fs.DavMetaData.{DavMetaData}
use Rattle.dav_core.specs.declared.method.DavMethod.{DavMethod}
use Rattle.dav_core.specs.Asking.{Metadata, StoreState, Asks}
use Rattle.dav_core.specs.Locks.{deleted}
use Rattle.dav_core.specs.Path.{Path, PathText, names, are_equal}
use Rattle.dav_core.specs.World.{World}
use Rattle.dav_engine.specs.Caller.{Caller}
use Rattle.dav_engine.specs.Copying.{CopyFault, CopyWalk, copy_report, copy, copy_looked, copy_kind, copy_inside, copy_listed, copy_members, copy_seen, renaming}
use Rattle.dav_engine.specs.CopyLaws.{RefusedCopyMoveLeavesAll}
use Rattle.dav_engine.specs.CopyMove.{CopyHeaders, is_move, copy_depth, copy_allowed, is_replaced, clearing, drop_if, drop_if_moved, transfer, copied_status, copy_reply, transfer_if_cleared, copy_found}
use Rattle.dav_engine.specs.Folder.{closed, child_of, room_at, is_folder_found}
use Rattle.dav_engine.specs.Method.{MethodPlan, then as followed_by, ◌>>=◌, refused_as, ask_for, gives, set_by}
use Rattle.dav_engine.specs.Multistatus.{PathStatus, multi_reply}
use Rattle.dav_engine.specs.Plan.{Done, Locks, Ran}
use Rattle.dav_engine.specs.Removal.{Fault, report_of, removal}
use Rattle.dav_engine.proofs.CallWorlds.{did, did_leave}
use Rattle.dav_engine.proofs.CopyWorld.{only_copy_allowed}
use Rattle.dav_engine.proofs.DeletedWorlds.{gives_errors}
use Rattle.dav_engine.proofs.PutWorld.{look_reads}
use Rattle.dav_engine.proofs.RemovalReports.{Gives, gives_done, gives_ask, gives_look, gives_keep, gives_bind, never_errs}
use Rattle.dav_engine.proofs.RunLemmas.{first, finish}
use Rattle.dav_engine.proofs.WorldPlans.{only_reads, reading_leaves, ran_split}

-- a plan that no error ends
abbrev Ends : {A : Type 0} → MethodPlan A → Type 0
Ends plan = Gives (λ a. ⊤) plan

ends_bind : {A B : Type 0} (plan : MethodPlan A) (f : A → MethodPlan B) → Ends plan → ((a : A) → Ends (f a)) → Ends (plan >>= f)
ends_bind plan f one more = gives_bind plan f one (λ a t. more a)

ends_if : {A : Type 0} (b : Bool) (one other : MethodPlan A) → Ends one → Ends other → Ends (if b then one else other)
ends_if true one other is also = is
ends_if false one other is also = also

abbrev GoesWell : CopyWalk → Type 0
GoesWell walk = (s d : PathText) → Ends (walk s d)

seen_ends : (walk : CopyWalk) (s d : PathText) (name : List ℕ) (rest : MethodPlan (List CopyFault)) (seen : Result DavMetaData FsError) → GoesWell walk → Ends rest → Ends (copy_seen walk s d name rest seen)
seen_ends walk s d name rest (Err e) well more = gives_done tt
seen_ends walk s d name rest (Ok m) well more =
    ends_bind (walk (child_of s name m.dir) (child_of d name m.dir)) _ (well (child_of s name m.dir) (child_of d name m.dir)) (λ faults. ends_bind rest _ more (λ others. gives_done tt))

members_end : (walk : CopyWalk) (s d : PathText) (entries : List (List ℕ × Bool)) → GoesWell walk → Ends (copy_members walk s d entries)
members_end walk s d [] well = gives_done tt
members_end walk s d (e ∷ es) well = gives_ask (λ seen. seen_ends walk s d e.0 (copy_members walk s d es) seen well (members_end walk s d es well))

listed_ends : (walk : CopyWalk) (s d : PathText) (listed : Result (List (List ℕ × Bool)) FsError) → GoesWell walk → Ends (copy_listed walk s d listed)
listed_ends walk s d (Err e) well = gives_done tt
listed_ends walk s d (Ok entries) well = members_end walk s d entries well

inside_ends : (walk : CopyWalk) (s d : PathText) (made : Result (Unit {0}) FsError) → GoesWell walk → Ends (copy_inside walk s d made)
inside_ends walk s d (Err e) well = gives_done tt
inside_ends walk s d (Ok made) well = gives_ask (λ listed. listed_ends walk s d listed well)

kind_ends : (deep dir : Bool) (walk : CopyWalk) (now : ℕ) (s d : PathText) → GoesWell walk → Ends (copy_kind deep dir walk now s d)
kind_ends true true walk now s d well = gives_ask (λ made. inside_ends walk s d made well)
kind_ends false true walk now s d well = gives_ask (λ made. gives_done tt)
kind_ends deep false walk now s d well = gives_ask (λ copied. gives_done tt)

looked_ends : (deep : Bool) (walk : CopyWalk) (now : ℕ) (s d : PathText) (found : Result DavMetaData FsError) → GoesWell walk → Ends (copy_looked deep walk now s d found)
looked_ends deep walk now s d (Err e) well = gives_done tt
looked_ends deep walk now s d (Ok m) well = kind_ends deep m.dir walk now s d well

copy_ends : (room : ℕ) (deep : Bool) (now : ℕ) (top s d : PathText) → Ends (copy room deep now top s d)
copy_ends zero deep now top s d = gives_done tt
copy_ends (suc room) deep now top s d =
    ends_if (are_equal s top) (gives []) _ (gives_done tt)
    (gives_ask (λ found. looked_ends deep (λ a b. copy room deep now top a b) now s d found (λ a b. copy_ends room deep now top a b)))

-- ---- what comes after the checks

list_ends : (p : Path) (ls : Locks) → Ends (set_by (deleted p) ls)
list_ends p None = gives_done tt
list_ends p (Some ls) = gives_keep (gives_done tt)

drop_ends : (b : Bool) (d : PathText) → Ends (drop_if b d)
drop_ends true d = gives_look (λ ls. list_ends (names d) ls)
drop_ends false d = gives_done tt

moved_ends : (p : PathText) (faults : List CopyFault) → Ends (drop_if_moved p faults)
moved_ends p [] = gives_look (λ ls. list_ends (names p) ls)
moved_ends p (f ∷ faults) = gives_done tt

brought_ends : (moves deep : Bool) (now : ℕ) (p d : PathText) → Ends (transfer moves deep now p d)
brought_ends true deep now p d =
    ends_bind (renaming now p d) (λ faults. drop_if_moved p faults >>= (λ u. gives faults)) (gives_ask (λ moved. gives_done tt))
    (λ faults. ends_bind (drop_if_moved p faults) (λ u. gives faults) (moved_ends p faults) (λ u. gives_done tt))
brought_ends false deep now p d = copy_ends (room_at p) deep now d p d

multi_ends : (p : PathText) (t : PathStatus) (more : List PathStatus) → Ends (Done (multi_reply p (t ∷ more)))
multi_ends p t [] = gives_done tt
multi_ends p t (u ∷ more) = gives_done tt

reply_ends : (p : PathText) (status : ℕ) (faults : List CopyFault) → Ends (Done (copy_reply p status faults))
reply_ends p status [] = gives_done tt
reply_ends p status (f ∷ faults) = multi_ends p (copy_report f) (map copy_report faults)

bring_ends : (moves deep : Bool) (now : ℕ) (p d : PathText) (there : Option DavMetaData) (faults : List Fault) → Ends (transfer_if_cleared moves deep now p d there faults)
bring_ends moves deep now p d there (f ∷ faults) = multi_ends p (report_of f) (map report_of faults)
bring_ends moves deep now p d there [] =
    ends_bind (drop_if (is_replaced deep there) d) _ (drop_ends (is_replaced deep there) d) (λ u.
    ends_bind (transfer moves deep now p d) _ (brought_ends moves deep now p d) (λ faults. reply_ends p (copied_status there) faults))

removal_ends : (now : ℕ) (d : PathText) (dir : Bool) → Ends (removal true now d dir)
removal_ends now d dir = gives_weaker (gives_errors true now d dir) where
  gives_weaker : {A : Type 0} {P : A → Type 0} {plan : MethodPlan A} → Gives P plan → Ends plan
  gives_weaker (gives_done p) = gives_done tt
  gives_weaker (gives_ask more) = gives_ask (λ answer. gives_weaker (more answer))
  gives_weaker (gives_look more) = gives_look (λ ls. gives_weaker (more ls))
  gives_weaker (gives_keep rest) = gives_keep (gives_weaker rest)

clearing_ends : (deep : Bool) (now : ℕ) (d : PathText) (there : Option DavMetaData) → Ends (clearing deep now d there)
clearing_ends deep now d there = ends_if (is_replaced deep there) (removal true now d (is_folder_found there)) (gives []) (removal_ends now d (is_folder_found there)) (gives_done tt)

-- ---- the whole

after_allowed : (moves deep : Bool) (now : ℕ) (p d : PathText) (o : Result (Option DavMetaData) DavError) (w : World) {mid new : StoreState} {ls ks ms : Locks} {e : DavError}
    → (mid.world ≡ w) × (ks ≡ ls)
    → Ran Asks (followed_by o (λ there. clearing deep now d there >>= (λ faults. transfer_if_cleared moves deep now p d there faults))) mid ks (Err e) new ms
    → (new.world ≡ w) × (ms ≡ ls)
after_allowed moves deep now p d (Err x) w left ran = let ends = finish ran in (ap (λ (s : StoreState). s.world) ends.1 ∙ left.0, ends.2 ∙ left.1)
after_allowed moves deep now p d (Ok there) w left ran =
    absurd (never_errs (ends_bind (clearing deep now d there) _ (clearing_ends deep now d there) (λ faults. bring_ends moves deep now p d there faults)) ran)

after_answer : (m : DavMethod) (deep : Bool) (h : CopyHeaders) (p d : PathText) (who : Caller) (answer : Result DavMetaData FsError) (w : World) {mid new : StoreState} {ls ms : Locks} {e : DavError} → mid.world ≡ w
    → Ran Asks (followed_by (refused_as dav.FsError answer) (λ found. copy_found m deep h (closed found.dir p) d who found)) mid ls (Err e) new ms
    → (new.world ≡ w) × (ms ≡ ls)
after_answer m deep h p d who (Err x) w same ran = let ends = finish ran in (ap (λ (s : StoreState). s.world) ends.1 ∙ same, ends.2)
after_answer m deep h p d who (Ok found) w same ran =
    let q : PathText = closed found.dir p in
    let s = ran_split (copy_allowed m deep h q d who found) _ ran in
    let (world, locks) = reading_leaves (only_reads look_reads (only_copy_allowed m deep h q d who found)) s.first in
    after_allowed (is_move m) deep who.moment q d s.outcome w (world ∙ same, locks) s.rest

after_place : (m : DavMethod) (deep : Bool) (h : CopyHeaders) (p : PathText) (who : Caller) (place : Result PathText DavError) {old new : StoreState} {ls ms : Locks} {e : DavError}
    → Ran Asks (followed_by place (λ d. ask_for (Metadata (names p)) >>= (λ found. copy_found m deep h (closed found.dir p) d who found))) old ls (Err e) new ms
    → (new.world ≡ old.world) × (ms ≡ ls)
after_place m deep h p who (Err x) ran = let ends = finish ran in (ap (λ (s : StoreState). s.world) ends.1, ends.2)
after_place m deep h p who (Ok d) {old} ran =
    let f = first ran in
    after_answer m deep h p d who f.answer old.world (did_leave (Metadata (names p)) old.world f.mid.world f.answer tt (did f.one)) f.more

after_depth : (m : DavMethod) (deep : Result Bool DavError) (h : CopyHeaders) (p : PathText) (who : Caller) {old new : StoreState} {ls ms : Locks} {e : DavError}
    → Ran Asks (followed_by deep (λ b. Done h.destination >>= (λ d. ask_for (Metadata (names p)) >>= (λ found. copy_found m b h (closed found.dir p) d who found)))) old ls (Err e) new ms
    → (new.world ≡ old.world) × (ms ≡ ls)
after_depth m (Err x) h p who ran = let ends = finish ran in (ap (λ (s : StoreState). s.world) ends.1, ends.2)
after_depth m (Ok b) h p who ran = after_place m b h p who h.destination ran

pub refused_copymove_leaves_all : RefusedCopyMoveLeavesAll
refused_copymove_leaves_all m h p who old new ls ms e ran = after_depth m (copy_depth (is_move m) h.depth) h p who ran
