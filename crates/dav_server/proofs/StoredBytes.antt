-- What the tag in the reply to a PUT says: the file that it stored has these bytes, and that number.
use Rattle.std.proofs.Common.{◌≡◌, ℕ, zero, suc, ◌+◌, ◌≤◌, ◌==◌, ◌||◌, inl, inr, Bool, true, false, true≢false, not, cond, if◌then◌else◌, nat_lt, List, [], ◌∷◌, ◌++◌, length, Contains, codes, Option, Some, None, Result, Ok, Err, refl, sym, ap, subst, ◌∙◌, arith}
use Rattle.std.proofs.lemmas.Bool.{eqb-true}
use Rattle.std.proofs.lemmas.List.{append-nil, drop_all}
use Rattle.std.specs.Option.{option_map, is_none}
use Rattle.std.specs.Result.{is_ok, result_ok}
use Rattle.std.specs.FinMap.{find, put}
use Rattle.dav_core.specs.declared.errors.FsError.{FsError}
use Rattle.dav_core.specs.declared.errors.FsError.TheVariants.{GeneralFailure, Exists, NotFound, Forbidden, TooLarge}
use Rattle.dav_core.specs.declared.errors.DavError.{DavError}
use Rattle.dav_core.specs.declared.errors.DavError.TheVariants as dav
use Rattle.dav_core.specs.declared.fs.DavMetaData.{DavMetaData}
use Rattle.dav_core.specs.declared.method.DavMethod.TheVariants.{Put}
use Rattle.dav_core.specs.Asking.{Open, Write, Flush, FileMetadata, meaning, StoreState, Asks as Asking}
use Rattle.dav_core.specs.CallLaws.{IsStorable}
use Rattle.dav_core.specs.Calls.{metadata_of, emptied, open_at, written as written_at}
use Rattle.dav_core.specs.Handle.{Handle, Opening, opened, write_place}
use Rattle.dav_core.specs.Meaning.{Meaning, refuse_if}
use Rattle.dav_core.specs.Metadata.{tag_of}
use Rattle.dav_core.specs.Path.{Path, path_cmp, is_same_path, parent_of}
use Rattle.dav_core.specs.World.{World, Node, Nodes, File, node_at, bytes_of, is_folder, is_folder_kind, file_made_with, is_file_made_with, fresh, modified_at, adjust, change_node, with_new, splice, max_file_len, last_moment, last_number, IsWorld}
use Rattle.dav_core.proofs.Theorems.{went_on, went_if, found, find-adjust, find-put_node, path-itself, change_made, made_stands_there, calls_keep_worlds}
use Rattle.dav_engine.specs.declared.methods.put.headers.Bounds.TheVariants.{Whole}
use Rattle.dav_engine.specs.declared.methods.put.headers.Writing.{Writing}
use Rattle.dav_engine.specs.Caller.{Caller, requester}
use Rattle.dav_engine.specs.Conditions.{guarded}
use Rattle.dav_engine.specs.Method.{◌>>=◌, gives, require, refused_as, answer_of, ask_for, require_member}
use Rattle.dav_engine.specs.Plan.{Locks, Ran, ran_ask}
use Rattle.dav_engine.specs.Put.{PutHeaders, written_by, bounded_by, writing_of, put_opening, open_error, written, is_announced, stored, store, put_allowed, put_body}
use Rattle.dav_engine.specs.Reply.{Reply, Header, etag, last_modified, content_length}
use Rattle.dav_engine.specs.WorldLaws.{reads_done}
use Rattle.dav_engine.proofs.Theorems.{Did, stays, means, did, did_leave, ran_outcome, reading_leaves, only_reads, look_reads, only_put_allowed}
use Rattle.dav_server.proofs.GetWorld.{Stands, answered_by, gone_on}
use Rattle.dav_server.proofs.HeldConditions.{ok_same, went}

some_same : {A : Type 0} {a b : A} → ◌≡◌ {A = Option A} (Some a) (Some b) → a ≡ b
some_same same = cc

-- ---- a file is emptied, or made

-- at the path there is a file without bytes, which was just opened
record Emptied (w : World) (p : Path) (how : Opening) (file : Handle) : Type 0 where
  pub node : Node
  pub there : node_at w p ≡ Some node
  pub kind : node.kind ≡ File []
  pub handle : file ≡ opened node.made how

module _ (w : World) (p : Path) (how : Opening) (now : ℕ) where
  abbrev New : Node
  New = fresh w.next (File []) now

  abbrev WithNew : Nodes
  WithNew = put path_cmp p New w.nodes

  put_there : find path_cmp p WithNew ≡ Some New
  put_there = find-put_node p p New w.nodes ∙ ap (λ b. cond b (Some New) (find path_cmp p w.nodes)) (path-itself p)

  -- the parent is touched, which may be the path itself as far as this goes
  made_by : (b : Bool) → is_same_path (parent_of p) p ≡ b → Emptied (with_new w p (File []) [] now) p how (opened w.next how)
  made_by true is = record {
    node = modified_at now New;
    there = find-adjust (parent_of p) (modified_at now) p WithNew ∙ ap (λ b. cond b (option_map (modified_at now) (find path_cmp p WithNew)) (find path_cmp p WithNew)) is ∙ ap (option_map (modified_at now)) put_there;
    kind = refl;
    handle = refl;
  }
  made_by false is = record {
    node = New;
    there = find-adjust (parent_of p) (modified_at now) p WithNew ∙ ap (λ b. cond b (option_map (modified_at now) (find path_cmp p WithNew)) (find path_cmp p WithNew)) is ∙ put_there;
    kind = refl;
    handle = refl;
  }

  emptied_by : (n : Node) (r : Handle × World) → node_at w p ≡ Some n
      → ◌≡◌ {A = Meaning Handle} (Ok (opened n.made how, record { nodes = adjust p (emptied w.next now) w.nodes; next = w.next + 1 })) (Ok r) → Emptied r.1 p how r.0
  emptied_by n r stood h =
      subst (λ (x : Handle × World). Emptied x.1 p how x.0) (ok_same h) (record {
        node = emptied w.next now n;
        there = find-adjust p (emptied w.next now) p w.nodes ∙ ap (λ b. cond b (option_map (emptied w.next now) (node_at w p)) (node_at w p)) (path-itself p) ∙ ap (option_map (emptied w.next now)) stood;
        kind = refl;
        handle = refl;
      })

  opened_by : (o : Option Node) (r : Handle × World) → node_at w p ≡ o → how.truncate ≡ true → open_at w p how now o ≡ Ok r → Emptied r.1 p how r.0
  opened_by None r stood whole h =
      let (makes, h1) = went_on (not (how.create || how.create_new)) NotFound _ r h in
      let (folder, h2) = went_on (not (is_folder w (parent_of p))) NotFound _ r h1 in
      let (room, h3) = went_on (w.next == last_number) GeneralFailure _ r h2 in
      subst (λ (x : Handle × World). Emptied x.1 p how x.0) (ok_same h3) (made_by (is_same_path (parent_of p) p) refl)
  opened_by (Some n) r stood whole h =
      let (file, h1) = went_on (is_folder_kind n.kind) Forbidden _ r h in
      let (there, h2) = went_on how.create_new Exists _ r h1 in
      elim (went_if how.truncate _ _ r h2) [
        | inl (empties, h3) ↦ emptied_by n r stood (went_on (w.next == last_number) GeneralFailure _ r h3).1
        | inr (keeps, h3) ↦ absurd (true≢false (sym whole ∙ keeps))
      ]

-- ---- the bytes are written

-- the open file stands somewhere, with these bytes
record Holds (w : World) (file : Handle) (bytes : List ℕ) : Type 0 where
  pub path : Path
  pub node : Node
  pub there : node_at w path ≡ Some node
  pub kind : node.kind ≡ File bytes
  pub made : node.made ≡ file.made

plain : (n : Node) (bytes : List ℕ) → n.kind ≡ File bytes → is_folder_kind n.kind ≡ false
plain n bytes is = ap is_folder_kind is

-- the file that an open file refers to is the one that stands there
refers : (w : World) (file : Handle) (bytes : List ℕ) (holds : Holds w file bytes) → IsWorld w → file_made_with file.made w.nodes ≡ Some holds.node
refers w file bytes holds world = (made_stands_there w file.made holds.node world).1 (holds.path, holds.there, holds.made, plain holds.node bytes holds.kind)

-- writing over no bytes, from the start on
all_written : (bytes : List ℕ) → splice [] 0 bytes ≡ bytes
all_written [] = refl
all_written (b ∷ bytes) = ap (λ rest. (b ∷ bytes) ++ rest) (drop_all (0 + suc (length bytes)) [] (omega arith)) ∙ append-nil (b ∷ bytes)

start : (how : Opening) (made : ℕ) → how.append ≡ false → write_place (opened made how) [] ≡ 0
start how made from = ap (λ b. if b then 0 else 0) from

-- the file after bytes were written to it from its start on
abbrev after_write : World → Opening → Node → Node → List ℕ → ℕ → Handle × World
after_write w how n k bytes now = (
  record (opened n.made how) { position = write_place (opened n.made how) (bytes_of k.kind) + length bytes },
  record { nodes = change_node (is_file_made_with n.made) (written_at (write_place (opened n.made how) (bytes_of k.kind)) bytes w.next now) w.nodes; next = w.next + 1 },
)

write_ends : (w : World) (how : Opening) (n k : Node) (bytes : List ℕ) (now : ℕ) (r : Handle × World)
    → IsWorld w → n ≡ k → file_made_with n.made w.nodes ≡ Some n → n.kind ≡ File [] → how.append ≡ false → ◌≡◌ {A = Meaning Handle} (Ok (after_write w how n k bytes now)) (Ok r) → Holds r.1 r.0 bytes
write_ends w how n k bytes now r world same made empty from h =
    let place = write_place (opened n.made how) (bytes_of k.kind) in
    let change = written_at place bytes w.next now in
    let (q, stood, changed) = change_made n.made change w.nodes world.tree.sorted n made in
    let bare : bytes_of k.kind ≡ [] = ap (λ (x : Node). bytes_of x.kind) (sym same) ∙ ap bytes_of empty in
    let kind : splice (bytes_of n.kind) place bytes ≡ bytes =
    ap (λ x. splice x place bytes) (ap bytes_of empty) ∙ ap (λ x. splice [] x bytes) (ap (write_place (opened n.made how)) bare ∙ start how n.made from) ∙ all_written bytes in
    subst (λ (x : Handle × World). Holds x.1 x.0 bytes) (ok_same h) (record {
      path = q;
      node = change n;
      there = ap (find path_cmp q) changed ∙ find-adjust q change q w.nodes ∙ ap (λ b. cond b (option_map change (node_at w q)) (node_at w q)) (path-itself q) ∙ ap (option_map change) stood;
      kind = ap File kind;
      made = refl;
    })

-- what was written to an open file without bytes
write_holds : (w : World) (p : Path) (how : Opening) (file : Handle) (b : ℕ) (rest : List ℕ) (now : ℕ) (r : Handle × World)
    → IsWorld w → (empty : Emptied w p how file) → how.append ≡ false → meaning (Write file (b ∷ rest) now) w ≡ Ok r → Holds r.1 r.0 (b ∷ rest)
unfolding meaning
write_holds w p how file b rest now r world empty from h =
    let n = empty.node in
    let f = opened n.made how in
    let made : file_made_with n.made w.nodes ≡ Some n = (made_stands_there w n.made n world).1 (p, empty.there, refl, plain n [] empty.kind) in
    let (k, is, h1) = found (file_made_with n.made w.nodes) _ r (subst (λ (x : Handle). meaning (Write x (b ∷ rest) now) w ≡ Ok r) empty.handle h) in
    let (writes, h2) = went_on (not f.writes) Forbidden _ r h1 in
    let (small, h3) = went_on (nat_lt max_file_len (write_place f (bytes_of k.kind) + length (b ∷ rest))) TooLarge _ r h2 in
    let numbers : refuse_if (w.next == last_number) GeneralFailure (Ok (after_write w how n k (b ∷ rest) now)) ≡ Ok r = h3 in
    write_ends w how n k (b ∷ rest) now r world (some_same (sym made ∙ is)) made empty.kind from (went_on (w.next == last_number) GeneralFailure _ r numbers).1

bare_holds : (w : World) (p : Path) (how : Opening) (file : Handle) → Emptied w p how file → Holds w file []
bare_holds w p how file empty = record { path = p; node = empty.node; there = empty.there; kind = empty.kind; made = sym (ap (λ (f : Handle). f.made) empty.handle) }

-- ---- the parts of a PUT that stores the whole file

-- the world is one, and the open file holds these bytes
abbrev WorldHolds : World → Handle → List ℕ → Type 0
WorldHolds w file bytes = IsWorld w × Holds w file bytes

given : {A : Type 0} (g : FsError → DavError) (answer : Result A FsError) (a : A) → ◌≡◌ {A = Result A DavError} (Ok a) (refused_as g answer) → answer ≡ Ok a
given g (Ok b) a same = ap Ok (sym (ok_same same))
given g (Err e) a same = cc

opened_empty : (w new : World) (p : Path) (how : Opening) (now : ℕ) (answer : Result Handle FsError) (file : Handle) → IsWorld w → IsStorable p → now ≤ last_moment → how.truncate ≡ true
    → Did (meaning (Open p how now) w) w answer new → answer ≡ Ok file → IsWorld new × Emptied new p how file
unfolding meaning
opened_empty w new p how now answer file world storable small whole (stays e is same) ok = let clash = sym is ∙ ok in cc
opened_empty w new p how now answer file world storable small whole (means r h is after) ok =
    let handle : r.0 ≡ file = ok_same (sym is ∙ ok) in (
      subst IsWorld (sym after) (calls_keep_worlds (Open p how now) w r (storable, small) world h),
      subst (λ (v : World). Emptied v p how file) (sym after) (subst (Emptied r.1 p how) handle (opened_by w p how now (node_at w p) r refl whole h)),
    )

wrote : (w new : World) (p : Path) (how : Opening) (file after : Handle) (b : ℕ) (rest : List ℕ) (now : ℕ) (answer : Result Handle FsError) → IsWorld w → Emptied w p how file → how.append ≡ false → now ≤ last_moment
    → Did (meaning (Write file (b ∷ rest) now) w) w answer new → answer ≡ Ok after → WorldHolds new after (b ∷ rest)
wrote w new p how file after b rest now answer world empty from small (stays e is same) ok = let clash = sym is ∙ ok in cc
wrote w new p how file after b rest now answer world empty from small (means r h is left) ok =
    let handle : r.0 ≡ after = ok_same (sym is ∙ ok) in (
      subst IsWorld (sym left) (calls_keep_worlds (Write file (b ∷ rest) now) w r small world h),
      subst (λ (v : World). Holds v after (b ∷ rest)) (sym left) (subst (λ (f : Handle). Holds r.1 f (b ∷ rest)) handle (write_holds w p how file b rest now r world empty from h)),
    )

no_bytes : (bytes : List ℕ) → (length bytes == 0) ≡ true → bytes ≡ []
no_bytes [] is = refl
no_bytes (b ∷ rest) is = let none = eqb-true (suc (length rest)) 0 is in absurd (omega (arith, none))

-- by whether there are bytes
written_by_length : (p : Path) (how : Opening) (file after : Handle) (bytes : List ℕ) (now : ℕ) (none : Bool) {old new : StoreState} {ls ms : Locks} → (length bytes == 0) ≡ none
    → IsWorld old.world → Emptied old.world p how file → how.append ≡ false → now ≤ last_moment
    → Ran Asking (if none then gives file else ask_for (Write file bytes now)) old ls (Ok after) new ms → WorldHolds new.world after bytes
written_by_length p how file after bytes now true {old} {new} is world empty from small ran =
    let same : new.world ≡ old.world = (reading_leaves reads_done ran).0 in
    let handle : after ≡ file = ok_same (ran_outcome ran) in (
      subst IsWorld (sym same) world,
      subst (Holds new.world after) (sym (no_bytes bytes is)) (subst (λ (v : World). Holds v after []) (sym same) (subst (λ (f : Handle). Holds old.world f []) (sym handle) (bare_holds old.world p how file empty))),
    )
written_by_length p how file after [] now false is world empty from small ran = absurd (true≢false is)
written_by_length p how file after (b ∷ rest) now false is world empty from small (ran_ask {old = old} {mid = mid} {answer = answer} one more) =
    let told = given dav.FsError answer after (ran_outcome more) in
    let left = (reading_leaves reads_done more).0 in
    let (kept, holds) = wrote old.world mid.world p how file after b rest now answer world empty from small (did one) told in
    (subst IsWorld (sym left) kept, subst (λ (v : World). Holds v after (b ∷ rest)) (sym left) holds)

written_holds : (p : Path) (how : Opening) (file after : Handle) (bytes : List ℕ) (now : ℕ) {old new : StoreState} {ls ms : Locks} → IsWorld old.world → Emptied old.world p how file → how.append ≡ false → now ≤ last_moment
    → Ran Asking (written file bytes now) old ls (Ok after) new ms → WorldHolds new.world after bytes
written_holds p how file after bytes now world empty from small ran = written_by_length p how file after bytes now (length bytes == 0) refl world empty from small ran

-- ---- the tag

name_length : (a b : Header) → a ≡ b → length a.0 ≡ length b.0
name_length a b same = ap (λ (h : Header). length h.0) same

-- the tag among the headers of a stored file is that of its number
tag_stored : (found : Bool) (number modified : ℕ) (tag : List ℕ)
    → Contains ((codes "accept-ranges", codes "bytes") ∷ ((if found then [] else content_length 0 ∷ []) ++ etag number ∷ last_modified modified ∷ [])) (codes "etag", tag) → tag ≡ tag_of number
tag_stored found number modified tag (zero, within, is) = let clash = name_length (codes "accept-ranges", codes "bytes") (codes "etag", tag) is in absurd (omega (arith, clash))
tag_stored true number modified tag (suc zero, within, is) = sym (ap (λ (h : Header). h.1) is)
tag_stored true number modified tag (suc (suc zero), within, is) = let clash = name_length (last_modified modified) (codes "etag", tag) is in absurd (omega (arith, clash))
tag_stored true number modified tag (suc (suc (suc k)), within, is) = absurd (omega (arith, within))
tag_stored false number modified tag (suc zero, within, is) = let clash = name_length (content_length 0) (codes "etag", tag) is in absurd (omega (arith, clash))
tag_stored false number modified tag (suc (suc zero), within, is) = sym (ap (λ (h : Header). h.1) is)
tag_stored false number modified tag (suc (suc (suc zero)), within, is) = let clash = name_length (last_modified modified) (codes "etag", tag) is in absurd (omega (arith, clash))
tag_stored false number modified tag (suc (suc (suc (suc k))), within, is) = absurd (omega (arith, within))

-- where the store didn't report the file there is none
none_stored : {A : Type 0} (found : Bool) (tag : List ℕ) → Contains ((codes "accept-ranges", codes "bytes") ∷ ((if found then [] else content_length 0 ∷ []) ++ [])) (codes "etag", tag) → A
none_stored found tag (zero, within, is) = let clash = name_length (codes "accept-ranges", codes "bytes") (codes "etag", tag) is in absurd (omega (arith, clash))
none_stored true tag (suc k, within, is) = absurd (omega (arith, within))
none_stored false tag (suc zero, within, is) = let clash = name_length (content_length 0) (codes "etag", tag) is in absurd (omega (arith, clash))
none_stored false tag (suc (suc k), within, is) = absurd (omega (arith, within))

-- somewhere there is a file of these bytes, with the number that the tag holds
abbrev pub StandsAnywhere : World → List ℕ → List ℕ → Type 0
StandsAnywhere w tag bytes = (p : Path) × Stands w p tag bytes

tag_told : (w new : World) (file : Handle) (bytes tag : List ℕ) (found : Bool) (answer : Result DavMetaData FsError) → WorldHolds w file bytes → Did (meaning (FileMetadata file) w) w answer new
    → Contains (stored found (result_ok answer)).headers (codes "etag", tag) → StandsAnywhere w tag bytes
unfolding meaning
tag_told w new file bytes tag found_before answer (world, holds) (stays e is same) among =
    none_stored found_before tag (subst (λ (a : Result DavMetaData FsError). Contains (stored found_before (result_ok a)).headers (codes "etag", tag)) is among)
tag_told w new file bytes tag found_before answer (world, holds) (means r h is left) among =
    let (k, made, end) = found (file_made_with file.made w.nodes) _ r h in
    let same : k ≡ holds.node = some_same (sym made ∙ refers w file bytes holds world) in
    let told : answer ≡ Ok (metadata_of holds.node) = is ∙ ap Ok (sym (ap (λ (x : DavMetaData × World). x.0) (ok_same end)) ∙ ap metadata_of same) in (
      holds.path,
      record {
        node = holds.node;
        there = holds.there;
        kind = holds.kind;
        tag_is = tag_stored found_before holds.node.number holds.node.modified tag (subst (λ (a : Result DavMetaData FsError). Contains (stored found_before (result_ok a)).headers (codes "etag", tag)) told among);
      },
    )

-- ---- the whole PUT

-- the reply tells the tag of the open file
told_stands : (file : Handle) (bytes tag : List ℕ) (found : Bool) (w : World) {old new : StoreState} {ls ms : Locks} {r : Reply} → old.world ≡ w → WorldHolds w file bytes
    → Ran Asking (answer_of (FileMetadata file) >>= (λ after. gives (stored found (result_ok after)))) old ls (Ok r) new ms → Contains r.headers (codes "etag", tag) → StandsAnywhere new.world tag bytes
told_stands file bytes tag found w {ms = ms} {r = r} same holds (ran_ask {old = old} {mid = mid} {new = new} {answer = answer} one rest) among =
    let reply : r ≡ stored found (result_ok answer) = ok_same (ran_outcome rest) in
    let asked : mid.world ≡ old.world = did_leave (FileMetadata file) old.world mid.world answer tt (did one) in
    let left : new.world ≡ w = (reading_leaves reads_done rest).0 ∙ asked ∙ same in
    subst (λ (v : World). StandsAnywhere v tag bytes) (sym left)
    (tag_told w mid.world file bytes tag found answer holds (subst (λ (v : World). Did (meaning (FileMetadata file) v) v answer mid.world) same (did one))
    (subst (λ (x : Reply). Contains x.headers (codes "etag", tag)) reply among))

flushed_stands : (file : Handle) (bytes tag : List ℕ) (found : Bool) {old new : StoreState} {ls ms : Locks} {r : Reply} → WorldHolds old.world file bytes
    → Ran Asking (ask_for (Flush file) >>= (λ u. answer_of (FileMetadata file) >>= (λ after. gives (stored found (result_ok after))))) old ls (Ok r) new ms → Contains r.headers (codes "etag", tag) → StandsAnywhere new.world tag bytes
flushed_stands file bytes tag found holds (ran_ask {old = old} {mid = mid} {answer = answer} one rest) among =
    let (u, is, more) = answered_by dav.FsError answer _ rest in
    told_stands file bytes tag found old.world (did_leave (Flush file) old.world mid.world answer tt (did one)) holds more among

store_stands : (how : Opening) (p : Path) (bytes tag : List ℕ) (now : ℕ) (found : Bool) {old new : StoreState} {ls ms : Locks} {r : Reply} → IsWorld old.world → IsStorable p → now ≤ last_moment → how.truncate ≡ true → how.append ≡ false
    → Ran Asking (store how None p bytes now found) old ls (Ok r) new ms → Contains r.headers (codes "etag", tag) → StandsAnywhere new.world tag bytes
store_stands how p bytes tag now found world storable small whole from (ran_ask {old = old} {mid = mid} {answer = answer} one rest) among =
    let (file, is, more) = answered_by (open_error how) answer _ rest in
    let (kept, empty) = opened_empty old.world mid.world p how now answer file world storable small whole (did one) is in
    let wrote = went (written file bytes now) _ more in
    flushed_stands wrote.value bytes tag found (written_holds p how file wrote.value bytes now kept empty from small wrote.first) wrote.rest among

-- a PUT without Content-Range writes the whole file
writes_whole : (h : PutHeaders) (found : Option DavMetaData) (w : Writing) → h.range ≡ Whole → writing_of Put h found ≡ Ok w → (w.from ≡ None) × (w.appends ≡ false)
writes_whole h found w whole is =
    let same : record { from = None; appends = false; announced = h.announced } ≡ w = ok_same (sym (ap (λ range. bounded_by range (written_by Put h found)) whole) ∙ is) in
    (sym (ap (λ (x : Writing). x.from) same), sym (ap (λ (x : Writing). x.appends) same))

allowed_whole : (h : PutHeaders) (p : Path) (who : Caller) (bytes : List ℕ) {old new : StoreState} {ls ms : Locks} {allowed : Writing × Bool} → h.range ≡ Whole
    → Ran Asking (put_allowed Put h p who bytes) old ls (Ok allowed) new ms → (allowed.0.from ≡ None) × (allowed.0.appends ≡ false)
allowed_whole h p who bytes {allowed = allowed} whole (ran_ask {answer = answer} one ran) =
    let (w, is, more) = gone_on (writing_of Put h (result_ok answer)) _ ran in
    let guard = went (guarded dav.StatusClose Put h.conditions (result_ok answer)) _ more in
    let free = went (require_member false (not (is_ok answer)) (requester who guard.value) p (dav.StatusClose 423)) _ guard.rest in
    let long = went (require (is_announced w.announced bytes) (dav.StatusClose 400)) _ free.rest in
    let same : allowed ≡ (w, is_ok answer) = ok_same (ran_outcome long.rest) in
    let (from, appends) = writes_whole h (result_ok answer) w whole is in
    (ap (λ (a : Writing × Bool). a.0.from) same ∙ from, ap (λ (a : Writing × Bool). a.0.appends) same ∙ appends)

-- where the reply to a PUT of a whole file has a tag, there is a file of these bytes with its number
pub put_stands : (h : PutHeaders) (p : Path) (who : Caller) (bytes tag : List ℕ) {old new : StoreState} {ls ms : Locks} {r : Reply} → IsWorld old.world → IsStorable p → who.moment ≤ last_moment → h.range ≡ Whole
    → Ran Asking (put_body Put h p who (Some bytes)) old ls (Ok r) new ms → Contains r.headers (codes "etag", tag) → StandsAnywhere new.world tag bytes
put_stands h p who bytes tag {old} {new} {ms = ms} {r} world storable small whole ran among =
    let checks = went (put_allowed Put h p who bytes) _ ran in
    let same : checks.mid.world ≡ old.world = (reading_leaves (only_reads look_reads (only_put_allowed Put h p who bytes)) checks.first).0 in
    let (from, appends) = allowed_whole h p who bytes whole checks.first in
    store_stands (put_opening h checks.value.0) p bytes tag who.moment checks.value.1 (subst IsWorld (sym same) world) storable small (ap is_none from) appends
    (subst (λ (place : Option ℕ). Ran Asking (store (put_opening h checks.value.0) place p bytes who.moment checks.value.1) checks.mid checks.ks (Ok r) new ms) from checks.rest) among
