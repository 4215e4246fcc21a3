-- How code follows a removal.
use Rattle.std.proofs.Common.{◌≡◌, ◌≢◌, ℕ, ◌<◌, ◌-◌, ◌+◌, ◌*◌, ◌≤◌, ◌^◌, ◌&&◌, arith, drop, get_or, suc, Bool, true, false, List, [], ◌∷◌, ◌++◌, map, length, Result, Ok, Err, refl, sym, ap, subst, ◌∙◌, append_assoc}
use Rattle.std.proofs.lemmas.List.{append-nil}
use Rattle.std.specs.Prelude.{OnErr, IfOk}
use Rattle.std.proofs.lemmas.List.{drop_all}
use Rattle.dav_headers.proofs.Theorems.{drop_turn}
use Rattle.dav_core.specs.declared.errors.FsError.{FsError}
use Rattle.dav_core.specs.declared.fs.DavMetaData.{DavMetaData}
use Rattle.dav_core.specs.Asking.{Call, Answer, StoreState, Asks, ReadDir, EntryMetadata, RemoveDir, RemoveFile}
use Rattle.dav_core.specs.Lists.{is_empty}
use Rattle.dav_core.specs.Path.{PathText, IsSegment, star, names}
use Rattle.dav_core.specs.Status.{fs_status}
use Rattle.dav_engine.specs.Folder.{child_of, room_at}
use Rattle.dav_engine.specs.Method.{MethodPlan}
use Rattle.dav_engine.specs.Multistatus.{PathStatus}
use Rattle.dav_engine.specs.Plan.{Done, Ask, Locks, Ran, ran_done, ran_ask}
use Rattle.dav_engine.proofs.CutWalks.{cut_behind, cut_later, cut_inside, cut_clean, cut_in_first, cut_in_second, nothing_begins, begins_anyway, walks_later}
use Rattle.dav_engine.specs.Removal.{Fault, Stays, StaysWhole, StaysWith, report_of, refused_by, each, remove, remove_member, remove_found, remove_listed, remove_emptied, emptied_status}
use Rattle.dav_engine.specs.Walked.{Walked, walked, Walks, AlwaysGives, gives_such, BeginWith, CutShort}
use Rattle.dav_engine.specs.WalkView.{below}
use Rattle.dav_engine.proofs.ChildLemmas.{slash_is_path}
use Rattle.dav_engine.proofs.Following.{ran_bind}
use Rattle.dav_engine.proofs.RoomLemmas.{room_step, room_child}

-- the last call of a walk
pub call_ok : {c : Call} (fault : FsError → Fault) {a : Answer c} {old new : StoreState} {before after : List PathStatus}
    → Asks c old (Ok a) new → after ≡ before → Walked report_of is_empty (Ask c (λ x. Done (Ok (refused_by fault x)))) old before after true new
call_ok fault {before = before} one same = walked [] (λ ls. ran_ask one ran_done) (same ∙ sym (append-nil before)) refl

pub call_err : {c : Call} (fault : FsError → Fault) {e : FsError} {old new : StoreState} {before after : List PathStatus}
    → Asks c old (Err e) new → after ≡ before ++ report_of (fault e) ∷ [] → Walked report_of is_empty (Ask c (λ x. Done (Ok (refused_by fault x)))) old before after false new
call_err fault {e} one is = walked (fault e ∷ []) (λ ls. ran_ask one ran_done) is refl

-- ---- a folder

abbrev Folder : ℕ → PathText → MethodPlan (List Fault)
Folder now p = Ask (ReadDir (names p)) (λ listed. remove_listed (below now p) now p listed)

by_room : (now : ℕ) (p : PathText) (room : ℕ) {old new : StoreState} {before after : List PathStatus} {clean : Bool} → room ≡ suc (room_at p - 1)
    → Walked report_of is_empty (Folder now p) old before after clean new → Walked report_of is_empty (remove room now p true) old before after clean new
by_room now p room {old} {new} {before} {after} {clean} is one = subst (λ k. Walked report_of is_empty (remove k now p true) old before after clean new) (sym is) one

stopped_by_room : (now : ℕ) (p : PathText) (room : ℕ) {old new : StoreState} {before after : List PathStatus} → room ≡ suc (room_at p - 1)
    → CutShort report_of (Folder now p) old before after new → CutShort report_of (remove room now p true) old before after new
stopped_by_room now p room {old} {new} {before} {after} is one = subst (λ k. CutShort report_of (remove k now p true) old before after new) (sym is) one

pub listing_refused : (now : ℕ) (p : PathText) {e : FsError} {old new : StoreState} {before after : List PathStatus} → length p.bytes < 2 ^ 64
    → Asks (ReadDir (names p)) old (Err e) new → after ≡ before ++ (p, fs_status e) ∷ [] → Walked report_of is_empty (remove (room_at p) now p true) old before after false new
listing_refused now p {e} small one is = by_room now p (room_at p) (room_step p small) (walked (StaysWhole p (fs_status e) ∷ []) (λ ls. ran_ask one ran_done) is refl)

pub listing_stopped : (now : ℕ) (p : PathText) {answer : Result (List (List ℕ × Bool)) FsError} {old new : StoreState} {before after : List PathStatus} → length p.bytes < 2 ^ 64
    → Asks (ReadDir (names p)) old answer new → after ≡ before → CutShort report_of (remove (room_at p) now p true) old before after new
listing_stopped now p small one same = stopped_by_room now p (room_at p) (room_step p small) (cut_behind one same)

left_by : (now : ℕ) (p : PathText) {entries : List (List ℕ × Bool)} {old mid new : StoreState} {before after : List PathStatus} (faults : List Fault)
    → Asks (ReadDir (names p)) old (Ok entries) mid → ((ls : Locks) → Ran Asks (each (remove_member (below now p) p) entries) mid ls (Ok faults) new ls)
    → after ≡ before ++ map report_of faults → false ≡ is_empty faults → Walked report_of is_empty (Folder now p) old before after false new
left_by now p [] one run is dirty = absurd (cc)
left_by now p (f ∷ faults) one run is dirty = walked (f ∷ faults) (λ ls. ran_ask one (ran_bind _ (run ls) ran_done)) is refl

-- a member stayed
pub folder_left : (now : ℕ) (p : PathText) {entries : List (List ℕ × Bool)} {old mid new : StoreState} {before after : List PathStatus} → length p.bytes < 2 ^ 64
    → Asks (ReadDir (names p)) old (Ok entries) mid → Walked report_of is_empty (each (remove_member (below now p) p) entries) mid before after false new
    → Walked report_of is_empty (remove (room_at p) now p true) old before after false new
folder_left now p small one (walked faults run is dirty) = by_room now p (room_at p) (room_step p small) (left_by now p faults one run is dirty)

gone_by : (now : ℕ) (p : PathText) {entries : List (List ℕ × Bool)} {old mid mid' new : StoreState} {before after : List PathStatus} (faults : List Fault)
    → Asks (ReadDir (names p)) old (Ok entries) mid → ((ls : Locks) → Ran Asks (each (remove_member (below now p) p) entries) mid ls (Ok faults) mid' ls)
    → after ≡ before ++ map report_of faults → true ≡ is_empty faults → Asks (RemoveDir (names p) now) mid' (Ok tt) new → Walked report_of is_empty (Folder now p) old before after true new
gone_by now p [] one run is clean last = walked [] (λ ls. ran_ask one (ran_bind _ (run ls) (ran_ask last ran_done))) is refl
gone_by now p (f ∷ faults) one run is clean last = absurd (cc)

pub folder_gone : (now : ℕ) (p : PathText) {entries : List (List ℕ × Bool)} {old mid mid' new : StoreState} {before after : List PathStatus} → length p.bytes < 2 ^ 64
    → Asks (ReadDir (names p)) old (Ok entries) mid → Walked report_of is_empty (each (remove_member (below now p) p) entries) mid before after true mid' → Asks (RemoveDir (names p) now) mid' (Ok tt) new
    → Walked report_of is_empty (remove (room_at p) now p true) old before after true new
folder_gone now p small one (walked faults run is clean) last = by_room now p (room_at p) (room_step p small) (gone_by now p faults one run is clean last)

refused_by_it : (now : ℕ) (p : PathText) {entries : List (List ℕ × Bool)} {e : FsError} {old mid mid' new : StoreState} {before after last_told : List PathStatus} (faults : List Fault)
    → Asks (ReadDir (names p)) old (Ok entries) mid → ((ls : Locks) → Ran Asks (each (remove_member (below now p) p) entries) mid ls (Ok faults) mid' ls)
    → after ≡ before ++ map report_of faults → true ≡ is_empty faults → Asks (RemoveDir (names p) now) mid' (Err e) new → last_told ≡ after ++ (p, emptied_status e) ∷ []
    → Walked report_of is_empty (Folder now p) old before last_told false new
refused_by_it now p {e = e} {before = before} [] one run is clean last told =
    walked (Stays p (emptied_status e) ∷ []) (λ ls. ran_ask one (ran_bind _ (run ls) (ran_ask last ran_done))) (told ∙ ap (λ l. l ++ (p, emptied_status e) ∷ []) (is ∙ append-nil before)) refl
refused_by_it now p (f ∷ faults) one run is clean last told = absurd (cc)

pub folder_refused : (now : ℕ) (p : PathText) {entries : List (List ℕ × Bool)} {e : FsError} {old mid mid' new : StoreState} {before after last_told : List PathStatus} → length p.bytes < 2 ^ 64
    → Asks (ReadDir (names p)) old (Ok entries) mid → Walked report_of is_empty (each (remove_member (below now p) p) entries) mid before after true mid' → Asks (RemoveDir (names p) now) mid' (Err e) new
    → last_told ≡ after ++ (p, emptied_status e) ∷ [] → Walked report_of is_empty (remove (room_at p) now p true) old before last_told false new
folder_refused now p small one (walked faults run is clean) last told = by_room now p (room_at p) (room_step p small) (refused_by_it now p faults one run is clean last told)

-- memory ran out in the members
emptied_keeps : (now : ℕ) (p : PathText) (reports : List PathStatus) (faults : List Fault) → BeginWith report_of reports faults → AlwaysGives (BeginWith report_of reports) (remove_emptied now p faults)
emptied_keeps now p reports (f ∷ faults) begins = gives_such begins
emptied_keeps now p reports [] begins = subst (λ (rs : List PathStatus). AlwaysGives (BeginWith report_of rs) (remove_emptied now p [])) (sym (nothing_begins report_of reports begins)) (begins_anyway report_of (remove_emptied now p []))

pub folder_stopped : (now : ℕ) (p : PathText) {entries : List (List ℕ × Bool)} {old mid new : StoreState} {before after : List PathStatus} → length p.bytes < 2 ^ 64
    → Asks (ReadDir (names p)) old (Ok entries) mid → CutShort report_of (each (remove_member (below now p) p) entries) mid before after new → CutShort report_of (remove (room_at p) now p true) old before after new
folder_stopped now p small one stop = stopped_by_room now p (room_at p) (room_step p small) (cut_later one (cut_inside (remove_emptied now p) stop (emptied_keeps now p)))

emptied_by : (now : ℕ) (p : PathText) {entries : List (List ℕ × Bool)} {answer : Result (Unit {0}) FsError} {old mid mid' new : StoreState} {before among after : List PathStatus} (faults : List Fault)
    → Asks (ReadDir (names p)) old (Ok entries) mid → ((ls : Locks) → Ran Asks (each (remove_member (below now p) p) entries) mid ls (Ok faults) mid' ls)
    → among ≡ before ++ map report_of faults → true ≡ is_empty faults → Asks (RemoveDir (names p) now) mid' answer new → after ≡ among → CutShort report_of (Folder now p) old before after new
emptied_by now p {before = before} [] one run is clean last same = cut_later one (cut_clean (remove_emptied now p) [] run (cut_behind last (same ∙ is ∙ append-nil before)))
emptied_by now p (f ∷ faults) one run is clean last same = absurd (cc)

-- or behind the folder's own removal
pub emptied_stopped : (now : ℕ) (p : PathText) {entries : List (List ℕ × Bool)} {answer : Result (Unit {0}) FsError} {old mid mid' new : StoreState} {before among after : List PathStatus} → length p.bytes < 2 ^ 64
    → Asks (ReadDir (names p)) old (Ok entries) mid → Walked report_of is_empty (each (remove_member (below now p) p) entries) mid before among true mid' → Asks (RemoveDir (names p) now) mid' answer new → after ≡ among
    → CutShort report_of (remove (room_at p) now p true) old before after new
emptied_stopped now p small one (walked faults run is clean) last same = stopped_by_room now p (room_at p) (room_step p small) (emptied_by now p faults one run is clean last same)

-- ---- a member

pub member_refused : (now : ℕ) (p : PathText) (entry : List ℕ × Bool) {e : FsError} {old new : StoreState} {before after : List PathStatus}
    → Asks (EntryMetadata (names p ++ entry.0 ∷ [])) old (Err e) new → after ≡ before ++ (p, fs_status e) ∷ [] → Walked report_of is_empty (remove_member (below now p) p entry) old before after false new
member_refused now p entry {e} one is = walked (StaysWith p entry.0 (fs_status e) ∷ []) (λ ls. ran_ask one ran_done) is refl

-- a member that was walked, by its path
pub member_walks : {E : Type 0} (now : ℕ) (p child : PathText) (entry : List ℕ × Bool) (name : List ℕ) {m : DavMetaData} (r : Result Bool E) (new : StoreState) (before after : List PathStatus) {old mid : StoreState} → p.bytes ≢ star
    → IsSegment name → name ≡ entry.0 → child ≡ child_of p name m.dir → Asks (EntryMetadata (names p ++ entry.0 ∷ [])) old (Ok m) mid
    → Walks report_of is_empty (remove (room_at child) now child m.dir) mid before after r new → Walks report_of is_empty (remove_member (below now p) p entry) old before after r new
member_walks now p child entry name {m} r new before after {mid = mid} other segment is path one more =
    let whole : child ≡ child_of p entry.0 m.dir = path ∙ ap (λ n. child_of p n m.dir) is in
    let room : room_at (child_of p entry.0 m.dir) ≡ room_at p - 1 = room_child p entry.0 m.dir (subst IsSegment is segment) other in
    walks_later report_of is_empty (λ found. remove_found (below now p) p entry.0 found) r new before after one
    (subst (λ k. Walks report_of is_empty (remove k now (child_of p entry.0 m.dir) m.dir) mid before after r new) room
    (subst (λ (q : PathText). Walks report_of is_empty (remove (room_at q) now q m.dir) mid before after r new) whole more))

-- ---- members

map_both : (fs gs : List Fault) → map report_of (fs ++ gs) ≡ map report_of fs ++ map report_of gs
map_both [] gs = refl
map_both (f ∷ fs) gs = ap (λ l. report_of f ∷ l) (map_both fs gs)

clean_both : (fs gs : List Fault) → is_empty (fs ++ gs) ≡ (is_empty fs && is_empty gs)
clean_both [] gs = refl
clean_both (f ∷ fs) gs = refl

and_is : {a b c d : Bool} → a ≡ c → b ≡ d → (a && b) ≡ (c && d)
and_is p q = λ i. p i && q i

pub none_walked : {X : Type 0} (f : X → MethodPlan (List Fault)) {s : StoreState} {before : List PathStatus} → Walked report_of is_empty (each f []) s before before true s
none_walked f {before = before} = walked [] (λ ls. ran_done) (sym (append-nil before)) refl

pub one_walked : {X : Type 0} (f : X → MethodPlan (List Fault)) (x : X) (xs : List X) {old mid new : StoreState} {before among after : List PathStatus} {clean rest : Bool}
    → Walked report_of is_empty (f x) old before among clean mid → Walked report_of is_empty (each f xs) mid among after rest new → Walked report_of is_empty (each f (x ∷ xs)) old before after (clean && rest) new
one_walked f x xs {before = before} (walked fs run is c) (walked gs more is' c') =
    walked (fs ++ gs) (λ ls. ran_bind _ (run ls) (ran_bind _ (more ls) ran_done))
    (is' ∙ ap (λ l. l ++ map report_of gs) is ∙ append_assoc before (map report_of fs) (map report_of gs) ∙ ap (λ l. before ++ l) (sym (map_both fs gs)))
    (and_is c c' ∙ sym (clean_both fs gs))

pub one_stopped : {X : Type 0} (f : X → MethodPlan (List Fault)) (x : X) (xs : List X) {old new : StoreState} {before after : List PathStatus}
    → CutShort report_of (f x) old before after new → CutShort report_of (each f (x ∷ xs)) old before after new
one_stopped f x xs stop = cut_in_first (each f xs) stop

pub more_stopped : {X : Type 0} (f : X → MethodPlan (List Fault)) (x : X) (xs : List X) {old mid new : StoreState} {before among after : List PathStatus} {clean : Bool}
    → Walked report_of is_empty (f x) old before among clean mid → CutShort report_of (each f xs) mid among after new → CutShort report_of (each f (x ∷ xs)) old before after new
more_stopped f x xs (walked fs run is c) stop = cut_in_second fs run is stop

and_more : (a b c : Bool) → (a && (b && c)) ≡ ((a && b) && c)
and_more true b c = refl
and_more false b c = refl

-- the loop over the members: however the rest goes, so all go
pub each_more : {X : Type 0} (f : X → MethodPlan (List Fault)) (x : X) (xs left all : List X) (clean clean' : Bool) {begin old mid : StoreState} {first before among : List PathStatus} {inside : Bool}
    → left ≡ x ∷ xs → clean' ≡ (clean && inside)
    → ((after : List PathStatus) (rest : Bool) (end : StoreState) → Walked report_of is_empty (each f left) old before after rest end → Walked report_of is_empty (each f all) begin first after (clean && rest) end)
    → Walked report_of is_empty (f x) old before among inside mid
    → (after : List PathStatus) (rest : Bool) (end : StoreState) → Walked report_of is_empty (each f xs) mid among after rest end → Walked report_of is_empty (each f all) begin first after (clean' && rest) end
each_more f x xs left all clean clean' {begin} {old} {first = first} {before = before} {inside = inside} at both whole one after rest end more =
    subst (λ b. Walked report_of is_empty (each f all) begin first after b end) (and_more clean inside rest ∙ ap (λ b. b && rest) (sym both))
    (whole after (inside && rest) end (subst (λ l. Walked report_of is_empty (each f l) old before after (inside && rest) end) (sym at) (one_walked f x xs one more)))

pub each_part : {X : Type 0} (f : X → MethodPlan (List Fault)) (x : X) (xs left all : List X) {begin old mid : StoreState} {first before among : List PathStatus} {inside : Bool}
    → left ≡ x ∷ xs → ((after : List PathStatus) (end : StoreState) → CutShort report_of (each f left) old before after end → CutShort report_of (each f all) begin first after end) → Walked report_of is_empty (f x) old before among inside mid
    → (after : List PathStatus) (end : StoreState) → CutShort report_of (each f xs) mid among after end → CutShort report_of (each f all) begin first after end
each_part f x xs left all {old = old} {before = before} at part one after end stop = part after end (subst (λ l. CutShort report_of (each f l) old before after end) (sym at) (more_stopped f x xs one stop))

-- ---- a file

pub file_gone : (room now : ℕ) (p : PathText) {old new : StoreState} {before : List PathStatus} → Asks (RemoveFile (names p) now) old (Ok tt) new → Walked report_of is_empty (remove room now p false) old before before true new
file_gone room now p one = call_ok (λ e. Stays p (fs_status e)) one refl

pub file_refused : (room now : ℕ) (p : PathText) {e : FsError} {old new : StoreState} {before after : List PathStatus}
    → Asks (RemoveFile (names p) now) old (Err e) new → after ≡ before ++ (p, fs_status e) ∷ [] → Walked report_of is_empty (remove room now p false) old before after false new
file_refused room now p one is = call_err (λ e. Stays p (fs_status e)) one is

pub file_stopped : (room now : ℕ) (p : PathText) {answer : Result (Unit {0}) FsError} {old new : StoreState} {before after : List PathStatus}
    → Asks (RemoveFile (names p) now) old answer new → after ≡ before → CutShort report_of (remove room now p false) old before after new
file_stopped room now p one same = cut_behind one same

-- what was told, by the status that it is
pub told_as : (p : PathText) {s s' : ℕ} (before : List PathStatus) {after : List PathStatus} → after ≡ before ++ (p, s) ∷ [] → s ≡ s' → after ≡ before ++ (p, s') ∷ []
told_as p before is same = is ∙ ap (λ t. before ++ (p, t) ∷ []) same

pub any_err : {A E P : Type 0} (r : Result A E) → P → OnErr r P
any_err (Ok a) p = tt
any_err (Err e) p = p

pub err_by : {A E P Q : Type 0} (r : Result A E) → (P → Q) → OnErr r P → OnErr r Q
err_by (Ok a) f p = tt
err_by (Err e) f p = f p

pub ok_by : {A E : Type 0} {P Q : A → Type 0} (r : Result A E) → ((a : A) → P a → Q a) → IfOk r P → IfOk r Q
ok_by (Ok a) f p = f a p
ok_by (Err e) f p = tt

-- behind the look at a member
pub looked : (now : ℕ) (p : PathText) (entry : List ℕ × Bool) {answer : Result DavMetaData FsError} {old new : StoreState} {before after : List PathStatus}
    → Asks (EntryMetadata (names p ++ entry.0 ∷ [])) old answer new → after ≡ before → CutShort report_of (remove_member (below now p) p entry) old before after new
looked now p entry one same = cut_behind one same

-- the measure falls from a folder to its members
pub child_smaller : (p child : PathText) (name : List ℕ) (dir : Bool) → length p.bytes < 2 ^ 64 → IsSegment name → p.bytes ≢ star → child ≡ child_of p name dir
    → 3 * room_at child + 2 < 3 * room_at p
child_smaller p child name dir small segment other path =
    let up = room_step p small in
    let down : room_at child ≡ room_at p - 1 = ap room_at path ∙ room_child p name dir segment other in
    omega (arith, up, down)

-- the members from a place on
pub from_place : {E : Type 0} (view : E → List ℕ × Bool) (es : List E) (i : ℕ) (e : E) → i < length es → e ≡ get_or es i e → map view (drop i es) ≡ view e ∷ map view (drop (i + 1) es)
from_place view es i e lt is = ap (map view) (drop_turn es i e lt is)

pub from_end : {E : Type 0} (view : E → List ℕ × Bool) (es : List E) (i : ℕ) → length es ≤ i → map view (drop i es) ≡ []
from_end view es i le = ap (map view) (drop_all i es le)

pub all_ended : {X : Type 0} (f : X → MethodPlan (List Fault)) (left all : List X) {begin old : StoreState} {first before : List PathStatus} (clean : Bool) → left ≡ []
    → ((after : List PathStatus) (rest : Bool) (end : StoreState) → Walked report_of is_empty (each f left) old before after rest end → Walked report_of is_empty (each f all) begin first after (clean && rest) end)
    → Walked report_of is_empty (each f all) begin first before clean old
all_ended f left all {begin} {old} {first} {before} clean none whole =
    subst (λ b. Walked report_of is_empty (each f all) begin first before b old) (and_true clean) (whole before true old (subst (λ l. Walked report_of is_empty (each f l) old before before true old) (sym none) (none_walked f))) where
      and_true : (b : Bool) → (b && true) ≡ b
      and_true true = refl
      and_true false = refl

pub child_path : (p child : PathText) (name : List ℕ) (dir : Bool) → child ≡ child_of p name dir → child.bytes ≢ star
child_path p child name dir path = subst (λ (q : PathText). q.bytes ≢ star) (sym path) (slash_is_path p name dir)
