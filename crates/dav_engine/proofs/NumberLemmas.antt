-- A plan that ends with numbers to spare found each number that it took.
use Rattle.std.proofs.Common.{◌≡◌, ◌<◌, ◌+◌, ◌==◌, ◌||◌, nat_lt, length, ℕ, Bool, true, false, not, if◌then◌else◌, List, [], Option, Some, None, Ok, Err, refl, sym, ap, ◌∙◌, arith}
use Rattle.std.proofs.lemmas.Bool.{eqb-true}
use Rattle.dav_core.specs.declared.errors.FsError.{FsError}
use Rattle.dav_core.specs.declared.errors.FsError.TheVariants.{GeneralFailure, Exists, NotFound, Forbidden, TooLarge}
use Rattle.dav_core.specs.Asking.{Call, meaning, StoreState, Asks, Metadata, ReadDir, EntryMetadata, CreateDir, RemoveDir, RemoveFile, Rename, Copy, HaveProps, PatchProps, GetProps, GetProp, GetQuota, SetAccessed, SetModified, Open, Read, Write, Seek, Flush, FileMetadata}
use Rattle.dav_core.specs.Calls.{create_dir, copy, with_copy, open_at, emptied, write_bytes, written}
use Rattle.dav_core.specs.Handle.{Handle, Opening, opened, write_place}
use Rattle.dav_core.specs.Meaning.{Meaning, refuse_if, at_node}
use Rattle.dav_core.specs.Path.{Path, is_same_path, is_nonempty, parent_of}
use Rattle.dav_core.specs.World.{World, Node, Folder, File, node_at, is_missing, is_folder, is_folder_kind, with_new, adjust, change_node, is_file_made_with, file_made_with, bytes_of, max_file_len, IsWorld, last_number}
use Rattle.dav_engine.specs.Plan.{Plan, Locks, Ran, ran_done, ran_ask, ran_look, ran_keep}
use Rattle.dav_engine.specs.WorldLaws.{IsProperPlan, proper_done, proper_ask, proper_look, proper_keep}
use Rattle.dav_engine.proofs.CallWorlds.{asks_keep, asks_tell}
use Rattle.dav_engine.proofs.WorldPlans.{proper_keeps}
use Rattle.dav_engine.specs.Alongside.{FindsNoNumber, AsksWithNumbers, SpareNumbersSuffice}

-- where each call that finds no number finds the last one, a plan that ends below it met none
pub ran_in_time : ((c : Call) (w : World) → IsWorld w → FindsNoNumber c w → w.next ≡ last_number) → {A : Type 0} {plan : Plan A} {old new : StoreState} {ls ms : Locks} {a : A}
    → IsProperPlan plan → IsWorld old.world → Ran Asks plan old ls a new ms → new.world.next < last_number → Ran AsksWithNumbers plan old ls a new ms
ran_in_time only proper_done world ran_done room = ran_done
ran_in_time only (proper_ask proper next) world (ran_ask {c = c} {old = old} {mid = mid} {new = new} {answer = answer} one rest) room =
    let kept = asks_keep proper world one in
    let more = proper_keeps (next answer (asks_tell world one)) kept.world rest in
    let low = kept.next in
    let high = more.next in
    ran_ask (one, λ ready finds. let last = only c old.world world finds in absurd (omega (arith, low, high, room, last))) (ran_in_time only (next answer (asks_tell world one)) kept.world rest room)
ran_in_time only (proper_look next) world (ran_look {ls = ls} rest) room = ran_look (ran_in_time only (next ls) world rest room)
ran_in_time only (proper_keep next) world (ran_keep rest) room = ran_keep (ran_in_time only next world rest room)

-- ---- a call that finds no number finds the last one

abbrev copying : World → Path → Path → ℕ → Node → Meaning (Unit {0})
copying w from to now source =
    refuse_if (is_folder_kind source.kind) Forbidden
    (refuse_if (is_same_path from to) Forbidden
    (refuse_if (is_folder w to) Forbidden
    (refuse_if (not (is_folder w (parent_of to))) NotFound
    (refuse_if (w.next == last_number) GeneralFailure (Ok (tt, with_copy w to source (node_at w to) now))))))

abbrev writing : World → Handle → List ℕ → ℕ → Node → Meaning Handle
writing w k bytes now n =
    refuse_if (not k.writes) Forbidden
    (refuse_if (nat_lt max_file_len (write_place k (bytes_of n.kind) + length bytes)) TooLarge
    (if is_nonempty bytes
    then refuse_if (w.next == last_number) GeneralFailure (Ok (record k { position = write_place k (bytes_of n.kind) + length bytes }, record { nodes = change_node (is_file_made_with k.made) (written (write_place k (bytes_of n.kind)) bytes w.next now) w.nodes; next = w.next + 1 }))
    else Ok (k, w)))

went_past : {A : Type 0} (b : Bool) (e : FsError) (m : Meaning A) → ¬ (e ≡ GeneralFailure) → refuse_if b e m ≡ Err GeneralFailure → m ≡ Err GeneralFailure
went_past {A} true e m other h = absurd (other (let same : ◌≡◌ {A = Meaning A} (Err e) (Err GeneralFailure) = h in let is : e ≡ GeneralFailure = cc in is))
went_past false e m other h = h

last_by : {A : Type 0} (w : World) (r : A × World) (b : Bool) → (w.next == last_number) ≡ b → ◌≡◌ {A = Meaning A} (refuse_if b GeneralFailure (Ok r)) (Err GeneralFailure) → w.next ≡ last_number
last_by w r true is h = eqb-true w.next last_number is
last_by w r false is h = cc

last_in : {A : Type 0} (w : World) (r : A × World) → ◌≡◌ {A = Meaning A} (refuse_if (w.next == last_number) GeneralFailure (Ok r)) (Err GeneralFailure) → w.next ≡ last_number
last_in w r h = last_by w r (w.next == last_number) refl h

in_create : (w : World) (p : Path) (now : ℕ) → create_dir w p now ≡ Err GeneralFailure → w.next ≡ last_number
in_create w p now h = last_in w (tt, with_new w p Folder [] now) (went_past (not (is_folder w (parent_of p))) NotFound _ (λ e. cc) (went_past (not (is_missing w p)) Exists _ (λ e. cc) h))

in_copy : (w : World) (from to : Path) (now : ℕ) (o : Option Node) → node_at w from ≡ o → copy w from to now ≡ Err GeneralFailure → w.next ≡ last_number
in_copy w from to now None is h = let clash : ◌≡◌ {A = Meaning (Unit {0})} (Err NotFound) (Err GeneralFailure) = sym (ap (λ o. at_node o (copying w from to now)) is) ∙ h in cc
in_copy w from to now (Some source) is h =
    let h1 : copying w from to now source ≡ Err GeneralFailure = sym (ap (λ o. at_node o (copying w from to now)) is) ∙ h in
    last_in w (tt, with_copy w to source (node_at w to) now)
    (went_past (not (is_folder w (parent_of to))) NotFound _ (λ e. cc) (went_past (is_folder w to) Forbidden _ (λ e. cc)
    (went_past (is_same_path from to) Forbidden _ (λ e. cc) (went_past (is_folder_kind source.kind) Forbidden _ (λ e. cc) h1))))

emptied_by : (w : World) (r s : Handle × World) (b : Bool) → ◌≡◌ {A = Meaning Handle} (if b then refuse_if (w.next == last_number) GeneralFailure (Ok r) else Ok s) (Err GeneralFailure) → w.next ≡ last_number
emptied_by w r s true h = last_in w r h
emptied_by w r s false h = cc

in_open : (w : World) (p : Path) (how : Opening) (now : ℕ) (o : Option Node) → open_at w p how now o ≡ Err GeneralFailure → w.next ≡ last_number
in_open w p how now None h =
    last_in w (opened w.next how, with_new w p (File []) [] now)
    (went_past (not (is_folder w (parent_of p))) NotFound _ (λ e. cc) (went_past (not (how.create || how.create_new)) NotFound _ (λ e. cc) h))
in_open w p how now (Some n) h =
    emptied_by w (opened n.made how, record { nodes = adjust p (emptied w.next now) w.nodes; next = w.next + 1 }) (opened n.made how, w) how.truncate
    (went_past how.create_new Exists _ (λ e. cc) (went_past (is_folder_kind n.kind) Forbidden _ (λ e. cc) h))

in_write : (w : World) (k : Handle) (bytes : List ℕ) (now : ℕ) (o : Option Node) → file_made_with k.made w.nodes ≡ o → write_bytes w k bytes now ≡ Err GeneralFailure → w.next ≡ last_number
in_write w k bytes now None is h = let clash : ◌≡◌ {A = Meaning Handle} (Err NotFound) (Err GeneralFailure) = sym (ap (λ o. at_node o (writing w k bytes now)) is) ∙ h in cc
in_write w k bytes now (Some n) is h =
    let h1 : writing w k bytes now n ≡ Err GeneralFailure = sym (ap (λ o. at_node o (writing w k bytes now)) is) ∙ h in
    let place = write_place k (bytes_of n.kind) in
    emptied_by w (record k { position = place + length bytes }, record { nodes = change_node (is_file_made_with k.made) (written place bytes w.next now) w.nodes; next = w.next + 1 }) (k, w) (is_nonempty bytes)
    (went_past (nat_lt max_file_len (place + length bytes)) TooLarge _ (λ e. cc) (went_past (not k.writes) Forbidden _ (λ e. cc) h1))

pub finds_last : (c : Call) (w : World) → IsWorld w → FindsNoNumber c w → w.next ≡ last_number
unfolding meaning
finds_last (CreateDir p now) w world finds = in_create w p now finds.1
finds_last (Copy from to now) w world finds = in_copy w from to now (node_at w from) refl finds.1
finds_last (Open p how now) w world finds = in_open w p how now (node_at w p) finds.1
finds_last (Write k bytes now) w world finds = in_write w k bytes now (file_made_with k.made w.nodes) refl finds.1
finds_last (Metadata p) w world finds = absurd finds.0
finds_last (ReadDir p) w world finds = absurd finds.0
finds_last (EntryMetadata p) w world finds = absurd finds.0
finds_last (RemoveDir p now) w world finds = absurd finds.0
finds_last (RemoveFile p now) w world finds = absurd finds.0
finds_last (Rename from to now) w world finds = absurd finds.0
finds_last (HaveProps p) w world finds = absurd finds.0
finds_last (PatchProps p patches) w world finds = absurd finds.0
finds_last (GetProps p content) w world finds = absurd finds.0
finds_last (GetProp p key) w world finds = absurd finds.0
finds_last GetQuota w world finds = absurd finds.0
finds_last (SetAccessed p now) w world finds = absurd finds.0
finds_last (SetModified p now) w world finds = absurd finds.0
finds_last (Read k count) w world finds = absurd finds.0
finds_last (Seek k to) w world finds = absurd finds.0
finds_last (Flush k) w world finds = absurd finds.0
finds_last (FileMetadata k) w world finds = absurd finds.0

pub spare_numbers_suffice : SpareNumbersSuffice
spare_numbers_suffice plan old new ls ms a proper world ran room = ran_in_time finds_last proper world ran room
