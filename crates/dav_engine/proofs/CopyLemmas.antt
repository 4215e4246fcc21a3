-- How code follows a copy.
use Rattle.std.proofs.Common.{◌≡◌, ◌≢◌, ℕ, ◌<◌, ◌-◌, ◌+◌, ◌*◌, ◌^◌, arith, not, Bool, true, false, List, [], ◌∷◌, ◌++◌, map, length, Option, Some, None, Result, Ok, Err, refl, sym, ap, subst, ◌∙◌, append_assoc, if◌then◌else◌}
use Rattle.std.specs.Prelude.{IfOk, OnErr}
use Rattle.std.proofs.lemmas.List.{append-nil}
use Rattle.std.specs.List.{last_or}
use Rattle.std.specs.Option.{option_map, option_or}
use Rattle.dav_core.specs.declared.errors.FsError.{FsError}
use Rattle.dav_core.specs.declared.errors.FsError.TheVariants as fs
use Rattle.dav_core.specs.declared.fs.DavMetaData.{DavMetaData}
use Rattle.dav_core.specs.Asking.{Call, Answer, StoreState, Asks, Metadata, ReadDir, EntryMetadata, CreateDir, Copy, Rename}
use Rattle.dav_core.specs.Path.{PathText, IsSegment, star, names, are_equal}
use Rattle.dav_engine.specs.Copying.{CopyFault, copy_report, last_refusal, refused_at, copy_file, CopyWalk, copy_members, faults_at_depth_0, copy_alone, copy_folder, copy_kind, copy_looked, copy, copying, renaming}
use Rattle.dav_engine.specs.CopyView.{copy_below}
use Rattle.dav_engine.specs.Folder.{child_of, room_at}
use Rattle.dav_engine.specs.Method.{MethodPlan, gives}
use Rattle.dav_engine.specs.Multistatus.{PathStatus}
use Rattle.dav_engine.specs.Plan.{Done, Ask, ran_done, ran_ask}
use Rattle.dav_engine.specs.Walked.{Walked, walked, Walks, CutShort}
use Rattle.dav_engine.proofs.CutWalks.{cut_at_once, cut_behind, cut_later, cut_in_first, cut_in_second, walks_later}
use Rattle.dav_engine.proofs.Following.{ran_bind}
use Rattle.dav_engine.proofs.RoomLemmas.{room_step, room_child}

-- what code returns that reports a path which wasn't copied
abbrev pub Told : PathText → FsError → List PathStatus → List PathStatus → Option FsError → Type 0
Told p e before after last = (last ≡ Some e) × (after ≡ before ++ copy_report (p, e) ∷ [])

-- the last call of a part was answered, and that is no fault
pub call_clean : {c : Call} (go : Result (Answer c) FsError → List CopyFault) {answer : Result (Answer c) FsError} {old new : StoreState} {before : List PathStatus}
    → Asks c old answer new → go answer ≡ [] → Walked copy_report last_refusal (Ask c (λ x. Done (Ok (go x)))) old before before None new
call_clean go {answer} {before = before} one none =
    walked (go answer) (λ ls. ran_ask one ran_done) (sym (append-nil before) ∙ ap (λ faults. before ++ map copy_report faults) (sym none)) (ap last_refusal (sym none))

-- or it is one, which was reported, or memory ran out before that
pub call_told : {c : Call} {E : Type 0} (go : Result (Answer c) FsError → List CopyFault) (p : PathText) (e : FsError) (r : Result (Option FsError) E) (before after : List PathStatus) {answer : Result (Answer c) FsError} {old new : StoreState}
    → Asks c old answer new → go answer ≡ (p, e) ∷ [] → IfOk r (Told p e before after) → OnErr r (after ≡ before) → Walks copy_report last_refusal (Ask c (λ x. Done (Ok (go x)))) old before after r new
call_told go p e (Ok last) before after {answer} one some (why, is) none =
    walked (go answer) (λ ls. ran_ask one ran_done) (is ∙ ap (λ faults. before ++ map copy_report faults) (sym some)) (why ∙ ap last_refusal (sym some))
call_told go p e (Err x) before after one some none same = cut_behind one same

-- memory ran out before a part began
pub none_made : (plan : MethodPlan (List CopyFault)) {s : StoreState} {before : List PathStatus} → CutShort copy_report plan s before before s
none_made plan = cut_at_once refl

pub is_file : (dir : Bool) → not dir ≡ true → dir ≡ false
is_file true h = cc
is_file false h = refl

pub is_dir : (dir : Bool) → not dir ≡ false → dir ≡ true
is_dir true h = refl
is_dir false h = cc

-- ---- a file, a folder alone, and a move

pub file_copied : (now : ℕ) (s d : PathText) {old new : StoreState} {before : List PathStatus}
    → Asks (Copy (names s) (names d) now) old (Ok tt) new → Walked copy_report last_refusal (copy_file now s d) old before before None new
file_copied now s d one = call_clean (refused_at s) one refl

pub file_told : {E : Type 0} (now : ℕ) (s d : PathText) {e : FsError} (r : Result (Option FsError) E) (before after : List PathStatus) {old new : StoreState}
    → Asks (Copy (names s) (names d) now) old (Err e) new → IfOk r (Told s e before after) → OnErr r (after ≡ before) → Walks copy_report last_refusal (copy_file now s d) old before after r new
file_told now s d {e} r before after one told same = call_told (refused_at s) s e r before after one refl told same

pub alone_made : (now : ℕ) (d : PathText) {old new : StoreState} {before : List PathStatus} → Asks (CreateDir (names d) now) old (Ok tt) new → Walked copy_report last_refusal (copy_alone now d) old before before None new
alone_made now d one = call_clean (faults_at_depth_0 d) one refl

pub alone_there : (now : ℕ) (d : PathText) (e : FsError) {old new : StoreState} {before : List PathStatus}
    → e ≡ fs.Exists → Asks (CreateDir (names d) now) old (Err e) new → Walked copy_report last_refusal (copy_alone now d) old before before None new
alone_there now d e is one = call_clean (faults_at_depth_0 d) one (ap (λ (x : FsError). faults_at_depth_0 d (Err x)) is)

other_fault : (d : PathText) (e : FsError) → e ≢ fs.Exists → faults_at_depth_0 d (Err e) ≡ (d, e) ∷ []
other_fault d fs.NotImplemented other = refl
other_fault d fs.GeneralFailure other = refl
other_fault d fs.Exists other = absurd (other refl)
other_fault d fs.NotFound other = refl
other_fault d fs.Forbidden other = refl
other_fault d fs.InsufficientStorage other = refl
other_fault d fs.LoopDetected other = refl
other_fault d fs.PathTooLong other = refl
other_fault d fs.TooLarge other = refl
other_fault d fs.IsRemote other = refl

pub alone_told : {E : Type 0} (now : ℕ) (d : PathText) (e : FsError) (r : Result (Option FsError) E) (before after : List PathStatus) {old new : StoreState}
    → e ≢ fs.Exists → Asks (CreateDir (names d) now) old (Err e) new → IfOk r (Told d e before after) → OnErr r (after ≡ before) → Walks copy_report last_refusal (copy_alone now d) old before after r new
alone_told now d e r before after other one told same = call_told (faults_at_depth_0 d) d e r before after one (other_fault d e other) told same

pub renamed : (now : ℕ) (s d : PathText) {old new : StoreState} {before : List PathStatus}
    → Asks (Rename (names s) (names d) now) old (Ok tt) new → Walked copy_report last_refusal (renaming now s d) old before before None new
renamed now s d one = call_clean (refused_at s) one refl

pub rename_refused : (now : ℕ) (s d : PathText) {e : FsError} {old new : StoreState} {before after : List PathStatus} {last : Option FsError}
    → Asks (Rename (names s) (names d) now) old (Err e) new → Told s e before after last → Walked copy_report last_refusal (renaming now s d) old before after last new
rename_refused now s d {e} one (why, is) = walked ((s, e) ∷ []) (λ ls. ran_ask one ran_done) is why

-- ---- what is at a path

module _ (deep : Bool) (now : ℕ) (top s d : PathText) (small : length s.bytes < 2 ^ 64) where
  -- what follows the look at it
  abbrev Looked : Result DavMetaData FsError → MethodPlan (List CopyFault)
  Looked found = copy_looked deep (λ a b. copy (room_at s - 1) deep now top a b) now s d found

  abbrev Tested : Bool → MethodPlan (List CopyFault)
  Tested b = if b then gives [] else Ask (Metadata (names s)) Looked

  by_test : {E : Type 0} (r : Result (Option FsError) E) (old new : StoreState) (before after : List PathStatus) (b : Bool)
      → are_equal s top ≡ b → Walks copy_report last_refusal (Tested b) old before after r new → Walks copy_report last_refusal (copying deep now top s d) old before after r new
  by_test r old new before after b is one =
      subst (λ k. Walks copy_report last_refusal (copy k deep now top s d) old before after r new) (sym (room_step s small))
      (subst (λ (t : Bool). Walks copy_report last_refusal (Tested t) old before after r new) (sym is) one)

  pub top_skipped : {old : StoreState} {before : List PathStatus} → are_equal s top ≡ true → Walked copy_report last_refusal (copying deep now top s d) old before before None old
  top_skipped {old} {before} is = by_test {E = Unit {0}} (Ok None) old old before before true is (walked [] (λ ls. ran_done) (sym (append-nil before)) refl)

  module _ (other : are_equal s top ≡ false) where
    pub look_told : {E : Type 0} {e : FsError} (r : Result (Option FsError) E) (before after : List PathStatus) {old new : StoreState}
        → Asks (Metadata (names s)) old (Err e) new → IfOk r (Told s e before after) → OnErr r (after ≡ before) → Walks copy_report last_refusal (copying deep now top s d) old before after r new
    look_told {E} {e} (Ok last) before after {old} {new} one (why, is) none = by_test {E = E} (Ok last) old new before after false other (walked ((s, e) ∷ []) (λ ls. ran_ask one ran_done) is why)
    look_told {E} (Err x) before after {old} {new} one none same = by_test {E = E} (Err x) old new before after false other (cut_behind one same)

    -- what was found is copied, by its kind
    module _ {m : DavMetaData} {old mid : StoreState} (one : Asks (Metadata (names s)) old (Ok m) mid) where
      abbrev Kind : Bool → MethodPlan (List CopyFault)
      Kind dir = copy_kind deep dir (λ a b. copy (room_at s - 1) deep now top a b) now s d

      pub kind_walks : {E : Type 0} (r : Result (Option FsError) E) (new : StoreState) (before after : List PathStatus) (dir : Bool)
          → m.dir ≡ dir → Walks copy_report last_refusal (Kind dir) mid before after r new → Walks copy_report last_refusal (copying deep now top s d) old before after r new
      kind_walks r new before after dir is more =
          by_test r old new before after false other (walks_later copy_report last_refusal Looked r new before after one (subst (λ (b : Bool). Walks copy_report last_refusal (Kind b) mid before after r new) (sym is) more))

-- a folder alone, at Depth 0
pub alone_walks : {E : Type 0} (deep : Bool) (walk : CopyWalk) (now : ℕ) (s d : PathText) (r : Result (Option FsError) E) (old new : StoreState) (before after : List PathStatus)
    → deep ≡ false → Walks copy_report last_refusal (copy_alone now d) old before after r new → Walks copy_report last_refusal (copy_kind deep true walk now s d) old before after r new
alone_walks deep walk now s d r old new before after is one = subst (λ b. Walks copy_report last_refusal (copy_kind b true walk now s d) old before after r new) (sym is) one

-- a folder with all that is in it
pub deep_walks : {E : Type 0} (deep : Bool) (now : ℕ) (top s d : PathText) (r : Result (Option FsError) E) (old new : StoreState) (before after : List PathStatus)
    → deep ≡ true → Walks copy_report last_refusal (copy_folder true (copy_below now top s) now s d) old before after r new
    → Walks copy_report last_refusal (copy_kind deep true (λ a b. copy (room_at s - 1) deep now top a b) now s d) old before after r new
deep_walks deep now top s d r old new before after is one =
    subst (λ (x : Bool). Walks copy_report last_refusal (copy_kind x true (λ a b. copy (room_at s - 1) x now top a b) now s d) old before after r new) (sym is) one

-- ---- a folder

module _ (walk : CopyWalk) (now : ℕ) (s d : PathText) where
  pub folder_told : {E : Type 0} {e : FsError} (r : Result (Option FsError) E) (before after : List PathStatus) {old new : StoreState}
      → Asks (CreateDir (names d) now) old (Err e) new → IfOk r (Told d e before after) → OnErr r (after ≡ before) → Walks copy_report last_refusal (copy_folder true walk now s d) old before after r new
  folder_told {e = e} (Ok last) before after one (why, is) none = walked ((d, e) ∷ []) (λ ls. ran_ask one ran_done) is why
  folder_told (Err x) before after one none same = cut_behind one same

  module _ {old mid : StoreState} (made : Asks (CreateDir (names d) now) old (Ok tt) mid) where
    pub list_told : {E : Type 0} {e : FsError} (r : Result (Option FsError) E) (before after : List PathStatus) {new : StoreState}
        → Asks (ReadDir (names s)) mid (Err e) new → IfOk r (Told s e before after) → OnErr r (after ≡ before) → Walks copy_report last_refusal (copy_folder true walk now s d) old before after r new
    list_told {e = e} (Ok last) before after one (why, is) none = walked ((s, e) ∷ []) (λ ls. ran_ask made (ran_ask one ran_done)) is why
    list_told (Err x) before after one none same = cut_later made (cut_behind one same)

    pub inside_walks : {E : Type 0} {entries : List (List ℕ × Bool)} (r : Result (Option FsError) E) (new : StoreState) (before after : List PathStatus) {after_list : StoreState}
        → Asks (ReadDir (names s)) mid (Ok entries) after_list → Walks copy_report last_refusal (copy_members walk s d entries) after_list before after r new → Walks copy_report last_refusal (copy_folder true walk now s d) old before after r new
    inside_walks (Ok last) new before after one (walked faults run is why) = walked faults (λ ls. ran_ask made (ran_ask one (run ls))) is why
    inside_walks (Err x) new before after one stop = cut_later made (cut_later one stop)

-- ---- the members of a folder

map_both : (fs gs : List CopyFault) → map copy_report (fs ++ gs) ≡ map copy_report fs ++ map copy_report gs
map_both [] gs = refl
map_both (f ∷ fs) gs = ap (λ l. copy_report f ∷ l) (map_both fs gs)

last_either : {X : Type 0} (o : Option X) (xs : List X) → last_or o xs ≡ option_or (last_or None xs) o
last_either o [] = refl
last_either o (x ∷ xs) = last_either (Some x) xs ∙ or_some (last_or None xs) x o ∙ ap (λ r. option_or r o) (sym (last_either (Some x) xs)) where
  or_some : {Y : Type 0} (r : Option Y) (y : Y) (o : Option Y) → option_or r (Some y) ≡ option_or (option_or r (Some y)) o
  or_some None y o = refl
  or_some (Some z) y o = refl

last_both : {X : Type 0} (o : Option X) (xs ys : List X) → last_or o (xs ++ ys) ≡ last_or (last_or o xs) ys
last_both o [] ys = refl
last_both o (x ∷ xs) ys = last_both (Some x) xs ys

map_or : {X Y : Type 0} (f : X → Y) (a b : Option X) → option_map f (option_or a b) ≡ option_or (option_map f a) (option_map f b)
map_or f None b = refl
map_or f (Some a) b = refl

-- the last refusal of two parts is that of the second, or else that of the first
refusal_both : (fs gs : List CopyFault) → last_refusal (fs ++ gs) ≡ option_or (last_refusal gs) (last_refusal fs)
refusal_both fs gs = ap (option_map (λ f. f.1)) (last_both None fs gs ∙ last_either (last_or None fs) gs) ∙ map_or (λ f. f.1) (last_or None gs) (last_or None fs)

pub or_none : {X : Type 0} (o : Option X) → option_or o None ≡ o
or_none None = refl
or_none (Some x) = refl

or_more : {X : Type 0} (a b c : Option X) → option_or (option_or a b) c ≡ option_or a (option_or b c)
or_more None b c = refl
or_more (Some a) b c = refl

or_is : {X : Type 0} {a b c d : Option X} → a ≡ c → b ≡ d → option_or a b ≡ option_or c d
or_is p q = λ i. option_or (p i) (q i)

module _ (walk : CopyWalk) (s d : PathText) where
  abbrev pub Members : List (List ℕ × Bool) → MethodPlan (List CopyFault)
  Members entries = copy_members walk s d entries

  pub none_left : {st : StoreState} {before : List PathStatus} → Walked copy_report last_refusal (Members []) st before before None st
  none_left {before = before} = walked [] (λ ls. ran_done) (sym (append-nil before)) refl

  unseen : (entry : List ℕ × Bool) (entries : List (List ℕ × Bool)) {e : FsError} {old new : StoreState} {before after : List PathStatus} {last : Option FsError}
      → Asks (EntryMetadata (names s ++ entry.0 ∷ [])) old (Err e) new → (last ≡ Some e) × (after ≡ before ++ copy_report (s, e) ∷ []) → Walked copy_report last_refusal (Members (entry ∷ entries)) old before after last new
  unseen entry entries {e} one (why, is) = walked ((s, e) ∷ []) (λ ls. ran_ask one ran_done) is why

  module _ (entry : List ℕ × Bool) (entries : List (List ℕ × Bool)) {m : DavMetaData} {old mid : StoreState} (one : Asks (EntryMetadata (names s ++ entry.0 ∷ [])) old (Ok m) mid) where
    abbrev Member : MethodPlan (List CopyFault)
    Member = walk (child_of s entry.0 m.dir) (child_of d entry.0 m.dir)

    and_more : {mid' new : StoreState} {before among after : List PathStatus} {inside rest : Option FsError}
        → Walked copy_report last_refusal Member mid before among inside mid' → Walked copy_report last_refusal (Members entries) mid' among after rest new → Walked copy_report last_refusal (Members (entry ∷ entries)) old before after (option_or rest inside) new
    and_more {before = before} (walked fs run is why) (walked gs more is' why') =
        walked (fs ++ gs) (λ ls. ran_ask one (ran_bind _ (run ls) (ran_bind _ (more ls) ran_done)))
        (is' ∙ ap (λ l. l ++ map copy_report gs) is ∙ append_assoc before (map copy_report fs) (map copy_report gs) ∙ ap (λ l. before ++ l) (sym (map_both fs gs)))
        (or_is why' why ∙ sym (refusal_both fs gs))

    member_stops : {new : StoreState} {before after : List PathStatus} → CutShort copy_report Member mid before after new → CutShort copy_report (Members (entry ∷ entries)) old before after new
    member_stops stop = cut_later one (cut_in_first (Members entries) stop)

    rest_stops : {mid' new : StoreState} {before among after : List PathStatus} {inside : Option FsError}
        → Walked copy_report last_refusal Member mid before among inside mid' → CutShort copy_report (Members entries) mid' among after new → CutShort copy_report (Members (entry ∷ entries)) old before after new
    rest_stops (walked fs run is why) stop = cut_later one (cut_in_second fs run is stop)

  -- ---- the loop over the members: however the rest goes, so all go

  abbrev pub Whole : List (List ℕ × Bool) → List (List ℕ × Bool) → StoreState → List PathStatus → StoreState → List PathStatus → Option FsError → Type 0
  Whole left all begin first old before last =
      (after : List PathStatus) (rest : Option FsError) (end : StoreState) → Walked copy_report last_refusal (Members left) old before after rest end → Walked copy_report last_refusal (Members all) begin first after (option_or rest last) end

  abbrev pub Part : List (List ℕ × Bool) → List (List ℕ × Bool) → StoreState → List PathStatus → StoreState → List PathStatus → Type 0
  Part left all begin first old before =
      (after : List PathStatus) (end : StoreState) → CutShort copy_report (Members left) old before after end → CutShort copy_report (Members all) begin first after end

  pub whole_first : (all : List (List ℕ × Bool)) (begin : StoreState) (first : List PathStatus) → Whole all all begin first begin first None
  whole_first all begin first after rest end one = subst (λ r. Walked copy_report last_refusal (Members all) begin first after r end) (sym (or_none rest)) one

  module _ (entry : List ℕ × Bool) (entries left all : List (List ℕ × Bool)) (at : left ≡ entry ∷ entries) where
    whole_unseen : {e : FsError} {begin old new : StoreState} {first before after : List PathStatus} {earlier last : Option FsError} → Whole left all begin first old before earlier
        → Asks (EntryMetadata (names s ++ entry.0 ∷ [])) old (Err e) new → (last ≡ Some e) × (after ≡ before ++ copy_report (s, e) ∷ []) → Walked copy_report last_refusal (Members all) begin first after last new
    whole_unseen {e} {begin} {old} {new} {first} {before} {after} {earlier} {last} whole one (why, is) =
        subst (λ r. Walked copy_report last_refusal (Members all) begin first after r new) (sym why)
        (whole after (Some e) new (subst (λ l. Walked copy_report last_refusal (Members l) old before after (Some e) new) (sym at) (unseen entry entries one (refl, is))))

    part_unseen : {answer : Result DavMetaData FsError} {begin old new : StoreState} {first before after : List PathStatus} → Part left all begin first old before
        → Asks (EntryMetadata (names s ++ entry.0 ∷ [])) old answer new → after ≡ before → CutShort copy_report (Members all) begin first after new
    part_unseen {old = old} {new} {before = before} {after} part one same = part after new (subst (λ l. CutShort copy_report (Members l) old before after new) (sym at) (cut_behind one same))

    -- the store doesn't report a member
    pub unseen_told : {E : Type 0} {e : FsError} (r : Result (Option FsError) E) (after : List PathStatus) {begin old new : StoreState} {first before : List PathStatus} {earlier : Option FsError} → Whole left all begin first old before earlier → Part left all begin first old before
        → Asks (EntryMetadata (names s ++ entry.0 ∷ [])) old (Err e) new → IfOk r (Told s e before after) → OnErr r (after ≡ before) → Walks copy_report last_refusal (Members all) begin first after r new
    unseen_told (Ok last) after whole part one told none = whole_unseen whole one told
    unseen_told (Err x) after whole part one none same = part_unseen part one same

    module _ {m : DavMetaData} {begin old mid : StoreState} (one : Asks (EntryMetadata (names s ++ entry.0 ∷ [])) old (Ok m) mid) where
      pub part_member : {new : StoreState} {first before after : List PathStatus} → Part left all begin first old before
          → CutShort copy_report (walk (child_of s entry.0 m.dir) (child_of d entry.0 m.dir)) mid before after new → CutShort copy_report (Members all) begin first after new
      part_member {new} {before = before} {after} part stop = part after new (subst (λ l. CutShort copy_report (Members l) old before after new) (sym at) (member_stops entry entries one stop))

      module _ {mid' : StoreState} {before among : List PathStatus} {inside : Option FsError} (done : Walked copy_report last_refusal (walk (child_of s entry.0 m.dir) (child_of d entry.0 m.dir)) mid before among inside mid') where
        pub whole_more : {first : List PathStatus} {earlier last : Option FsError} → last ≡ option_or inside earlier → Whole left all begin first old before earlier → Whole entries all begin first mid' among last
        whole_more {first} {earlier} {last} is whole after rest end more =
            subst (λ r. Walked copy_report last_refusal (Members all) begin first after r end) (or_more rest inside earlier ∙ ap (option_or rest) (sym is))
            (whole after (option_or rest inside) end (subst (λ l. Walked copy_report last_refusal (Members l) old before after (option_or rest inside) end) (sym at) (and_more entry entries one done more)))

        pub part_more : {first : List PathStatus} → Part left all begin first old before → Part entries all begin first mid' among
        part_more part after end stop = part after end (subst (λ l. CutShort copy_report (Members l) old before after end) (sym at) (rest_stops entry entries one done stop))

  pub whole_ended : (left all : List (List ℕ × Bool)) {begin old : StoreState} {first before : List PathStatus} {last : Option FsError} → left ≡ [] → Whole left all begin first old before last → Walked copy_report last_refusal (Members all) begin first before last old
  whole_ended left all {old = old} {before = before} none whole = whole before None old (subst (λ l. Walked copy_report last_refusal (Members l) old before before None old) (sym none) none_left)

-- ---- a member

module _ (now : ℕ) (top s d from to : PathText) (name given : List ℕ) (dir : Bool) (other : s.bytes ≢ star) (segment : IsSegment name) (is : name ≡ given) (source : from ≡ child_of s name dir) (place : to ≡ child_of d name dir) where
  source_is : from ≡ child_of s given dir
  source_is = source ∙ ap (λ n. child_of s n dir) is

  place_is : to ≡ child_of d given dir
  place_is = place ∙ ap (λ n. child_of d n dir) is

  room_is : room_at from ≡ room_at s - 1
  room_is = ap room_at source ∙ room_child s name dir segment other

  pub entry_walks : {E : Type 0} (r : Result (Option FsError) E) (old new : StoreState) (before after : List PathStatus)
      → Walks copy_report last_refusal (copying true now top from to) old before after r new → Walks copy_report last_refusal (copy_below now top s (child_of s given dir) (child_of d given dir)) old before after r new
  entry_walks r old new before after one =
      subst (λ (b : PathText). Walks copy_report last_refusal (copy (room_at s - 1) true now top (child_of s given dir) b) old before after r new) place_is
      (subst (λ (a : PathText). Walks copy_report last_refusal (copy (room_at s - 1) true now top a to) old before after r new) source_is
      (subst (λ k. Walks copy_report last_refusal (copy k true now top from to) old before after r new) room_is one))

-- the measure falls from a folder to its members
pub source_smaller : (s from : PathText) (name : List ℕ) (dir : Bool) → length s.bytes < 2 ^ 64 → IsSegment name → s.bytes ≢ star → from ≡ child_of s name dir → 4 * room_at from + 3 < 4 * room_at s
source_smaller s from name dir small segment other path =
    let up = room_step s small in
    let down : room_at from ≡ room_at s - 1 = ap room_at path ∙ room_child s name dir segment other in
    omega (arith, up, down)
