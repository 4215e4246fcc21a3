-- What each call does to a world, whatever it is answered.
use Rattle.std.proofs.Common.{◌≡◌, ℕ, ◌<◌, ◌≤◌, Bool, true, false, if◌then◌else◌, List, [], ◌∷◌, ◌++◌, Option, Some, None, Result, Ok, Err, refl, sym, ap, subst, ◌∙◌, arith}
use Rattle.dav_core.specs.declared.errors.FsError.{FsError}
use Rattle.dav_core.specs.declared.errors.FsError.TheVariants.{NotFound, Forbidden, Exists}
use Rattle.dav_core.specs.Element.{ElementTree}
use Rattle.dav_core.specs.Path.{Path, IsName}
use Rattle.dav_core.specs.World.{World, Node, File, node_at, is_missing, is_file, members, file_made_with, is_folder_kind, IsWorld}
use Rattle.dav_core.specs.Handle.{Handle, Opening, opened}
use Rattle.dav_core.specs.Meaning.{Meaning, refuse_if, at_node}
use Rattle.dav_core.specs.Calls.{read_dir, open_at, sought, stored_tree}
use Rattle.dav_core.specs.Asking.{Call, Metadata, ReadDir, EntryMetadata, CreateDir, RemoveDir, RemoveFile, Rename, Copy, HaveProps, PatchProps, GetProps, GetProp, GetQuota, SetAccessed, SetModified, Open, Read, Write, Seek, Flush, FileMetadata, Answer, meaning, StoreState, Asks, asked, ran_short, ask, answered}
use Rattle.dav_core.specs.CallLaws.{IsProper, IsStorable}
use Rattle.dav_core.proofs.Theorems.{went_on, found, calls_keep_worlds, numbers_rise, numbers_look_back, lists_what_stands}
use Rattle.std.specs.List.{Contains, All}
use Rattle.std.proofs.lemmas.List.Elements.{All-weaker, All-contains_itself, All-cons, All-nil, All-contains, Contains-push}
use Rattle.dav_engine.specs.WorldLaws.{OnlyReads, Remembers, MayTell}

world_after : {A : Type 0} → World → Meaning A → World
world_after w (Ok r) = r.1
world_after w (Err e) = w

-- the world that an answer comes with
left : {A : Type 0} (a : A) (w : World) (r : A × World) → ◌≡◌ {A = Meaning A} (Ok (a, w)) (Ok r) → r.1 ≡ w
unfolding world_after
left a w r h = sym (ap (world_after w) h)

told_left : {A : Type 0} (w : World) (o : Option Node) (f : Node → A) (r : A × World) → at_node o (λ n. Ok (f n, w)) ≡ Ok r → r.1 ≡ w
told_left w None f r h = cc
told_left w (Some n) f r h = left (f n) w r h

listed_left : (w : World) (p : Path) (r : List (List ℕ × Bool) × World) → read_dir w p ≡ Ok r → r.1 ≡ w
listed_left w p r h =
    let (some, more) = went_on (is_missing w p) NotFound _ r h in
    let (folder, end) = went_on (is_file w p) Forbidden _ r more in
    left (members p w.nodes) w r end

tree_left : (o : Option (Option ElementTree)) (w : World) (r : ElementTree × World) → stored_tree o w ≡ Ok r → r.1 ≡ w
tree_left None w r h = cc
tree_left (Some None) w r h = cc
tree_left (Some (Some tree)) w r h = left tree w r h

place_left : (file : Handle) (o : Option ℕ) (w : World) (r : (ℕ × Handle) × World) → sought file o w ≡ Ok r → r.1 ≡ w
place_left file None w r h = cc
place_left file (Some k) w r h = left _ w r h

refused_left : {A : Type 0} (b : Bool) (e : FsError) (a : A) (w : World) (r : A × World) → refuse_if b e (Ok (a, w)) ≡ Ok r → r.1 ≡ w
refused_left true e a w r h = cc
refused_left false e a w r h = left a w r h

if_left : {A : Type 0} (b : Bool) (m : Meaning A) (a : A) (w : World) (r : A × World) → b ≡ false → (if b then m else Ok (a, w)) ≡ Ok r → r.1 ≡ w
if_left true m a w r is h = cc
if_left false m a w r is h = left a w r h

-- opening a file that is neither made nor emptied leaves the world
open_left : (w : World) (p : Path) (how : Opening) (now : ℕ) (o : Option Node) (r : Handle × World)
    → how.truncate ≡ false → how.create ≡ false → how.create_new ≡ false → open_at w p how now o ≡ Ok r → r.1 ≡ w
open_left w p how now None r whole make only h = cc
open_left w p how now (Some n) r whole make only h =
    let (file, more) = went_on (is_folder_kind n.kind) Forbidden _ r h in
    let (there, end) = went_on how.create_new Exists _ r more in
    if_left how.truncate _ (opened n.made how) w r whole end

-- a call that only reads leaves the world
pub reads_leave : (c : Call) (w : World) (r : Answer c × World) → OnlyReads c → meaning c w ≡ Ok r → r.1 ≡ w
unfolding meaning
reads_leave (Metadata p) w r only h = told_left w (node_at w p) _ r h
reads_leave (EntryMetadata p) w r only h = told_left w (node_at w p) _ r h
reads_leave (ReadDir p) w r only h = listed_left w p r h
reads_leave (CreateDir p now) w r only h = absurd only
reads_leave (RemoveDir p now) w r only h = absurd only
reads_leave (RemoveFile p now) w r only h = absurd only
reads_leave (Rename from to now) w r only h = absurd only
reads_leave (Copy from to now) w r only h = absurd only
reads_leave (HaveProps p) w r only h = left true w r h
reads_leave (PatchProps p patches) w r only h = absurd only
reads_leave (GetProps p content) w r only h = told_left w (node_at w p) _ r h
reads_leave (GetProp p key) w r only h =
    let (n, there, end) = found (node_at w p) _ r h in
    tree_left _ w r end
reads_leave GetQuota w r only h = cc
reads_leave (SetAccessed p time) w r only h = cc
reads_leave (SetModified p time) w r only h = cc
reads_leave (Open p how now) w r only h = open_left w p how now (node_at w p) r only.0 only.1 only.2 h
reads_leave (Read file count) w r only h =
    let (n, there, end) = found (file_made_with file.made w.nodes) _ r h in
    refused_left _ Forbidden _ w r end
reads_leave (Write file bytes now) w r only h = absurd only
reads_leave (Seek file to) w r only h =
    let (n, there, end) = found (file_made_with file.made w.nodes) _ r h in
    place_left file _ w r end
reads_leave (Flush file) w r only h = told_left w (file_made_with file.made w.nodes) _ r h
reads_leave (FileMetadata file) w r only h = told_left w (file_made_with file.made w.nodes) _ r h

-- What a call did to a world: it failed, and the world stays; or it was answered as it means.
pub data Did {A : Type 0} (m : Meaning A) (w : World) (answer : Result A FsError) (new : World) : Type 0 where
  stays : (e : FsError) → answer ≡ Err e → new ≡ w → Did m w answer new
  means : (r : A × World) → m ≡ Ok r → answer ≡ Ok r.0 → new ≡ r.1 → Did m w answer new

did_answered : {A : Type 0} (m : Meaning A) (w new : World) (answer : Result A FsError) → (answer, new) ≡ answered w m → Did m w answer new
did_answered (Ok (a, after)) w new answer h = means (a, after) refl (ap (λ x. x.0) h) (ap (λ x. x.1) h)
did_answered (Err e) w new answer h = stays e (ap (λ x. x.0) h) (ap (λ x. x.1) h)

did_asked : (c : Call) (w new : World) (refusals : List (Option FsError)) (answer : Result (Answer c) FsError) → (answer, new) ≡ ask c w refusals → Did (meaning c w) w answer new
did_asked c w new [] answer h = did_answered (meaning c w) w new answer h
did_asked c w new (None ∷ rs) answer h = did_answered (meaning c w) w new answer h
did_asked c w new (Some e ∷ rs) answer h = stays e (ap (λ x. x.0) h) (ap (λ x. x.1) h)

pub did : {c : Call} {old new : StoreState} {answer : Result (Answer c) FsError} → Asks c old answer new → Did (meaning c old.world) old.world answer new.world
did {c} {old} {new} {answer} (asked h) = did_asked c old.world new.world old.refusals answer h.as_asked
did (ran_short h) = stays _ h.answer_is h.world

pub did_leave : (c : Call) (w new : World) (answer : Result (Answer c) FsError) → OnlyReads c → Did (meaning c w) w answer new → new ≡ w
did_leave c w new answer only (stays e is same) = same
did_leave c w new answer only (means r h is after) = after ∙ reads_leave c w r only h

-- what a step keeps of worlds
pub record Kept (w new : World) : Type 0 where
  pub world : IsWorld new
  pub next : w.next ≤ new.next
  pub remembered : (number : ℕ) (bytes : List ℕ) → Remembers number bytes w → Remembers number bytes new

pub kept_same : (w new : World) → IsWorld w → new ≡ w → Kept w new
kept_same w new world same = record {
  world = subst IsWorld (sym same) world;
  next = subst (λ (x : World). w.next ≤ x.next) (sym same) (omega arith);
  remembered = λ number bytes known. subst (Remembers number bytes) (sym same) known;
}

pub kept_on : (a b c : World) → Kept a b → Kept b c → Kept a c
kept_on a b c one two =
    let low = one.next in
    let high = two.next in
    record {
      world = two.world;
      next = omega (arith, low, high);
      remembered = λ number bytes known. two.remembered number bytes (one.remembered number bytes known);
    }

look_back : (c : Call) (w : World) (r : Answer c × World) → IsProper c → IsWorld w → meaning c w ≡ Ok r → (number : ℕ) (bytes : List ℕ) → Remembers number bytes w
    → (p : Path) (n : Node) → node_at r.1 p ≡ Some n → n.number ≡ number → n.kind ≡ File bytes
look_back c w r proper world h number bytes known p n there same =
    let low : number < w.next = known.below in
    let older : n.number < w.next = subst (λ (k : ℕ). k < w.next) (sym same) low in
    let (q, m, before, numbers, made, kinds) = numbers_look_back c w r p n proper world h there older in
    kinds ∙ known.bytes_are q m before (sym numbers ∙ same)

kept_call : (c : Call) (w : World) (r : Answer c × World) → IsProper c → IsWorld w → meaning c w ≡ Ok r → Kept w r.1
kept_call c w r proper world h =
    let high = numbers_rise c w r h in
    record {
      world = calls_keep_worlds c w r proper world h;
      next = high;
      remembered = λ number bytes known. record {
        below = (let low = known.below in omega (arith, low, high));
        bytes_are = look_back c w r proper world h number bytes known;
      };
    }

did_keep : (c : Call) (w new : World) (answer : Result (Answer c) FsError) → IsProper c → IsWorld w → Did (meaning c w) w answer new → Kept w new
did_keep c w new answer proper world (stays e is same) = kept_same w new world same
did_keep c w new answer proper world (means r h is after) = subst (Kept w) (sym after) (kept_call c w r proper world h)

-- a call that a caller may make keeps worlds, whatever its answer
pub asks_keep : {c : Call} {old new : StoreState} {answer : Result (Answer c) FsError} → IsProper c → IsWorld old.world → Asks c old answer new → Kept old.world new.world
asks_keep {c} {old} {new} {answer} proper world one = did_keep c old.world new.world answer proper world (did one)

-- ---- what a call may answer

stored_name : (p : Path) (name : List ℕ) → IsStorable (p ++ name ∷ []) → IsStorable (name ∷ [])
stored_name p name storable =
    let last = Contains-push p name in (
      All-cons IsName name [] (All-contains IsName (p ++ name ∷ []) name storable.0 last) (All-nil IsName),
      All-cons (All (λ b. b < 256)) name [] (All-contains (All (λ b. b < 256)) (p ++ name ∷ []) name storable.1 last) (All-nil (All (λ b. b < 256))),
    )

listed_name : (p : Path) (w : World) → IsWorld w → (e : List ℕ × Bool) → Contains (members p w.nodes) e → IsStorable (e.0 ∷ [])
listed_name p w world (name, dir) there =
    let (n, stands, kind) = (lists_what_stands p name dir w world).0 there in
    let sound = world.sound (p ++ name ∷ []) n stands in
    stored_name p name (sound.names, sound.bytes)

pub all_listed : (p : Path) (w : World) → IsWorld w → All (λ e. IsStorable (e.0 ∷ [])) (members p w.nodes)
all_listed p w world = All-weaker (Contains (members p w.nodes)) (λ e. IsStorable (e.0 ∷ [])) (listed_name p w world) (members p w.nodes) (All-contains_itself (members p w.nodes))

answer_is : {A : Type 0} (a : A) (w : World) (r : A × World) → ◌≡◌ {A = Meaning A} (Ok (a, w)) (Ok r) → r.0 ≡ a
answer_is a w r h = let same : (a, w) ≡ r = cc in sym (ap (λ x. x.0) same)

tell_listed : (p : Path) (w new : World) (answer : Result (List (List ℕ × Bool)) FsError) → IsWorld w → Did (meaning (ReadDir p) w) w answer new → MayTell (ReadDir p) answer
unfolding meaning
tell_listed p w new answer world (stays e is same) = subst (MayTell (ReadDir p)) (sym is) tt
tell_listed p w new answer world (means r h is after) =
    let (some, more) = went_on (is_missing w p) NotFound _ r h in
    let (folder, end) = went_on (is_file w p) Forbidden _ r more in
    subst (MayTell (ReadDir p)) (sym is) (subst (All (λ e. IsStorable (e.0 ∷ []))) (sym (answer_is (members p w.nodes) w r end)) (all_listed p w world))

did_tell : (c : Call) (w new : World) (answer : Result (Answer c) FsError) → IsWorld w → Did (meaning c w) w answer new → MayTell c answer
did_tell (ReadDir p) w new answer world one = tell_listed p w new answer world one
did_tell (Metadata p) w new answer world one = tt
did_tell (EntryMetadata p) w new answer world one = tt
did_tell (CreateDir p now) w new answer world one = tt
did_tell (RemoveDir p now) w new answer world one = tt
did_tell (RemoveFile p now) w new answer world one = tt
did_tell (Rename from to now) w new answer world one = tt
did_tell (Copy from to now) w new answer world one = tt
did_tell (HaveProps p) w new answer world one = tt
did_tell (PatchProps p patches) w new answer world one = tt
did_tell (GetProps p content) w new answer world one = tt
did_tell (GetProp p key) w new answer world one = tt
did_tell GetQuota w new answer world one = tt
did_tell (SetAccessed p time) w new answer world one = tt
did_tell (SetModified p time) w new answer world one = tt
did_tell (Open p how now) w new answer world one = tt
did_tell (Read file count) w new answer world one = tt
did_tell (Write file bytes now) w new answer world one = tt
did_tell (Seek file to) w new answer world one = tt
did_tell (Flush file) w new answer world one = tt
did_tell (FileMetadata file) w new answer world one = tt

-- a store that holds a world answers what it may answer
pub asks_tell : {c : Call} {old new : StoreState} {answer : Result (Answer c) FsError} → IsWorld old.world → Asks c old answer new → MayTell c answer
asks_tell {c} {old} {new} {answer} world one = did_tell c old.world new.world answer world (did one)
