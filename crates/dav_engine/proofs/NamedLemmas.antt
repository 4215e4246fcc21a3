-- What a removal reports is there, before it and after it.
use Rattle.std.proofs.Common.{◌≡◌, ◌≢◌, ℕ, ◌||◌, zero, suc, Bool, true, false, List, [], ◌∷◌, ◌++◌, All, Option, Some, None, Result, Ok, Err, refl, sym, ap, subst, ◌∙◌}
use Rattle.std.specs.Option.{option_map}
use Rattle.std.proofs.lemmas.List.Elements.{All-append, All-cons, All-head, All-nil, All-tail, All-weaker}
use Rattle.dav_core.specs.declared.errors.FsError.{FsError}
use Rattle.dav_core.specs.declared.errors.FsError.TheVariants as fs
use Rattle.dav_core.specs.declared.fs.DavMetaData.{DavMetaData}
use Rattle.dav_core.specs.Asking.{StoreState, Asks, meaning, ReadDir, EntryMetadata}
use Rattle.dav_core.specs.CallLaws.{IsStorable}
use Rattle.dav_core.specs.Path.{Path, PathText, IsName, IsSegment, names, star, is_at_or_under}
use Rattle.dav_core.specs.Status.{fs_status}
use Rattle.dav_core.specs.World.{World, Node, node_at, is_folder}
use Rattle.dav_core.proofs.Theorems.{name_is_segment, found}
use Rattle.dav_engine.specs.Folder.{child_of, room_at}
use Rattle.dav_engine.specs.Plan.{Locks, Ran}
use Rattle.dav_engine.specs.Removal.{Fault, Stays, StaysWhole, StaysWith, Walk, fault_path, refused_by, survives, is_named_by, is_withheld_by, each, remove, removal, remove_emptied, remove_found, remove_member, remove_listed, emptied_status}
use Rattle.dav_engine.specs.RemovalLaws.{timeless, timeless_at, LeavesSurvivors, ReportedAreThere}
use Rattle.dav_engine.proofs.CallWorlds.{all_listed}
use Rattle.dav_engine.proofs.ChildLemmas.{names_child, slash_is_path}
use Rattle.dav_engine.proofs.FaultLemmas.{left, first_holds, second_holds, not_above}
use Rattle.dav_engine.proofs.RunLemmas.{first, gave, parts}
use Rattle.dav_engine.proofs.SurvivorLemmas.{Timed, timed_itself, timed_same, members_timed, Cleared, Clears, answered, looked, listed, seen_cleared, cleared, at_itself, survivors}

abbrev IsThere : World → Fault → Type 0
IsThere w f = timeless_at w (names (fault_path f)) ≢ None

abbrev AreThere : World → List Fault → Type 0
AreThere w faults = All (IsThere w) faults

one_there : (w : World) (f : Fault) → IsThere w f → AreThere w (f ∷ [])
one_there w f is = All-cons (IsThere w) f [] is (All-nil (IsThere w))

refused_there : {A : Type 0} (w : World) (fault : FsError → Fault) (r : Result A FsError) → ((e : FsError) → IsThere w (fault e)) → AreThere w (refused_by fault r)
refused_there w fault (Ok a) is = All-nil (IsThere w)
refused_there w fault (Err e) is = one_there w (fault e) (is e)

there_in : (w : World) {f g : List Fault} → g ≡ f → AreThere w f → AreThere w g
there_in w same is = subst (AreThere w) (sym same) is

-- ---- what was looked at is there

some_timeless : (o : Option Node) (n : Node) → o ≡ Some n → option_map timeless o ≢ None
some_timeless o n is none = let clash : option_map timeless (Some n) ≡ None = ap (option_map timeless) (sym is) ∙ none in cc

looked_there : {p : Path} {old new : StoreState} {m : DavMetaData} → Asks (EntryMetadata p) old (Ok m) new → timeless_at old.world p ≢ None
unfolding meaning
looked_there {p} {old} one =
    let (r, h, is, after) = answered one in
    let (n, stood, told) = found (node_at old.world p) _ r h in
    some_timeless (node_at old.world p) n stood

-- ---- parts of a removal

left_none : (z s : Bool) (o : Option Node) → o ≡ None → left z s o ≡ None
left_none true true o is = is
left_none true false o is = refl
left_none false s o is = is

-- what is there after a part was there before it
there_before : {zone : Path → Bool} {above : Path} {told : List Fault} (old mid : World) → Cleared zone above told old mid → (faults : List Fault) → AreThere mid faults → AreThere old faults
there_before {zone} {told = told} old mid c faults all =
    All-weaker (IsThere mid) (IsThere old) (λ f is none. is (c.after (names (fault_path f)) ∙ left_none (zone (names (fault_path f))) (survives told (names (fault_path f))) (timeless_at old (names (fault_path f))) none)) faults all

abbrev Names : Walk → Type 0
Names walk =
    (p : PathText) (dir : Bool) (old new : StoreState) (ls ms : Locks) (faults : List Fault)
    → Timed old.world → p.bytes ≢ star → dir ≡ is_folder old.world (names p) → timeless_at old.world (names p) ≢ None → Ran Asks (walk p dir) old ls (Ok faults) new ms → AreThere old.world faults

seen_there : (walk : Walk) (p : PathText) (n : List ℕ) (seen : Result DavMetaData FsError) {old mid new : StoreState} {ls ms : Locks} {faults : List Fault}
    → Names walk → p.bytes ≢ star → IsSegment n → Timed old.world → timeless_at old.world (names p) ≢ None → Asks (EntryMetadata (names p ++ n ∷ [])) old seen mid
    → Ran Asks (remove_found walk p n seen) mid ls (Ok faults) new ms → AreThere old.world faults
seen_there walk p n (Err e) {old} more other segment t here one ran = there_in old.world (gave ran).0 (one_there old.world (StaysWith p n (fs_status e)) here)
seen_there walk p n (Ok m) {old} {mid} {new} {ls} {ms} {faults} more other segment t here one ran =
    let (dir, same) = looked one in
    let path : names (child_of p n m.dir) ≡ names p ++ n ∷ [] = names_child p n m.dir segment other in
    let told : m.dir ≡ is_folder mid.world (names (child_of p n m.dir)) = dir ∙ ap (λ (w : World). is_folder w (names p ++ n ∷ [])) (sym same) ∙ ap (is_folder mid.world) (sym path) in
    let stands : timeless_at mid.world (names (child_of p n m.dir)) ≢ None =
    λ none. looked_there one (ap (λ (w : World). timeless_at w (names p ++ n ∷ [])) (sym same) ∙ ap (timeless_at mid.world) (sym path) ∙ none) in
    subst (λ (w : World). AreThere w faults) same (more (child_of p n m.dir) m.dir mid new ls ms faults (timed_same same t) (slash_is_path p n m.dir) told stands ran)

each_there : (walk : Walk) (p : PathText) → Clears walk → Names walk → p.bytes ≢ star → (entries : List (List ℕ × Bool)) → All (λ e. IsStorable (e.0 ∷ [])) entries
    → {old new : StoreState} {ls ms : Locks} {faults : List Fault} → Timed old.world → timeless_at old.world (names p) ≢ None → Ran Asks (each (remove_member walk p) entries) old ls (Ok faults) new ms
    → AreThere old.world faults
each_there walk p clears more other [] storable {old} t here ran = there_in old.world (gave ran).0 (All-nil (IsThere old.world))
each_there walk p clears more other (e ∷ es) storable {old} {new} t here ran =
    let a = parts (remove_member walk p e) _ ran in
    let b = parts (each (remove_member walk p) es) _ a.more in
    let f = first a.one in
    let name = (All-head (λ x. IsStorable (x.0 ∷ [])) e es storable).0 in
    let segment = name_is_segment e.0 (All-head IsName e.0 [] name) in
    let one = seen_cleared walk p e.0 f.answer clears other segment t f.one f.more in
    let stands : timeless_at a.mid.world (names p) ≢ None =
    λ none. here (sym (one.after (names p) ∙ ap (λ z. left z (survives a.value (names p)) (timeless_at old.world (names p))) (not_above (names p) e.0 [])) ∙ none) in
    let told = seen_there walk p e.0 f.answer more other segment t here f.one f.more in
    let rest = each_there walk p clears more other es (All-tail (λ x. IsStorable (x.0 ∷ [])) e es storable) one.timed stands b.one in
    there_in old.world (gave b.more).0 (All-append (IsThere old.world) a.value b.value told (there_before old.world a.mid.world one b.value rest))

emptied_there : (now : ℕ) (p : PathText) (told : List Fault) (w : World) {mid new : StoreState} {ls ms : Locks} {faults : List Fault}
    → timeless_at w (names p) ≢ None → AreThere w told → Ran Asks (remove_emptied now p told) mid ls (Ok faults) new ms → AreThere w faults
emptied_there now p [] w here all ran = let f = first ran in there_in w (gave f.more).0 (refused_there w (λ e. Stays p (emptied_status e)) f.answer (λ e. here))
emptied_there now p (f ∷ fs) w here all ran = there_in w (gave ran).0 all

listed_there : (walk : Walk) (now : ℕ) (p : PathText) (answer : Result (List (List ℕ × Bool)) FsError) {old mid new : StoreState} {ls ms : Locks} {faults : List Fault}
    → Clears walk → Names walk → p.bytes ≢ star → Timed old.world → timeless_at old.world (names p) ≢ None → Asks (ReadDir (names p)) old answer mid
    → Ran Asks (remove_listed walk now p answer) mid ls (Ok faults) new ms → AreThere old.world faults
listed_there walk now p (Err e) {old} clears more other t here one ran = there_in old.world (gave ran).0 (one_there old.world (StaysWhole p (fs_status e)) here)
listed_there walk now p (Ok entries) {old} {mid} clears more other t here one ran =
    let (is, same) = listed one in
    let a = parts (each (remove_member walk p) entries) _ ran in
    let storable : All (λ e. IsStorable (e.0 ∷ [])) entries = subst (All (λ e. IsStorable (e.0 ∷ []))) (sym (is ∙ members_timed old.world t (names p))) (all_listed (names p) t.model t.world) in
    let stands : timeless_at mid.world (names p) ≢ None = λ none. here (ap (λ (w : World). timeless_at w (names p)) (sym same) ∙ none) in
    let inside = each_there walk p clears more other entries storable (timed_same same t) stands a.one in
    emptied_there now p a.value old.world here (subst (λ (w : World). AreThere w a.value) same inside) a.more

walks_there : (room now : ℕ) → Names (λ q dir. remove room now q dir)
walks_there room now p false old new ls ms faults t other is here ran = let f = first ran in there_in old.world (gave f.more).0 (refused_there old.world (λ e. Stays p (fs_status e)) f.answer (λ e. here))
walks_there zero now p true old new ls ms faults t other is here ran = there_in old.world (gave ran).0 (one_there old.world (StaysWhole p (fs_status fs.PathTooLong)) here)
walks_there (suc room) now p true old new ls ms faults t other is here ran =
    let f = first ran in
    listed_there (λ q dir. remove room now q dir) now p f.answer
    (λ q dir a b ks ns told w s d r. cleared room now q dir a b ks ns told w s d r)
    (λ q dir a b ks ns told w s d h r. walks_there room now q dir a b ks ns told w s d h r) other t here f.one f.more

removal_there : (deep : Bool) (now : ℕ) → Names (λ q dir. removal deep now q dir)
removal_there true now p dir old new ls ms faults t other is here ran = walks_there (room_at p) now p dir old new ls ms faults t other is here ran
removal_there false now p true old new ls ms faults t other is here ran = let f = first ran in there_in old.world (gave f.more).0 (refused_there old.world (λ e. StaysWhole p (fs_status e)) f.answer (λ e. here))
removal_there false now p false old new ls ms faults t other is here ran = let f = first ran in there_in old.world (gave f.more).0 (refused_there old.world (λ e. Stays p (fs_status e)) f.answer (λ e. here))

-- ---- and it is there afterwards

abbrev Survives : List Fault → Fault → Type 0
Survives faults f = survives faults (names (fault_path f)) ≡ true

survive_all : (faults : List Fault) → All (Survives faults) faults
survive_all [] = All-nil (Survives [])
survive_all (f ∷ fs) =
    let here : Fault → Path = λ g. names (fault_path g) in
    All-cons (Survives (f ∷ fs)) f fs
    (first_holds (is_named_by (here f) f || is_withheld_by (here f) f) (survives fs (here f)) (first_holds (is_named_by (here f) f) (is_withheld_by (here f) f) (at_itself (here f))))
    (All-weaker (Survives fs) (Survives (f ∷ fs)) (λ g is. second_holds (is_named_by (here g) f || is_withheld_by (here g) f) (survives fs (here g)) is) fs (survive_all fs))

left_kept_by : (z s : Bool) (o : Option Node) → s ≡ true → left z s o ≡ o
left_kept_by true true o is = refl
left_kept_by false true o is = refl
left_kept_by z false o is = cc

missing_not : (o : Option Node) → option_map timeless o ≢ None → o ≢ None
missing_not o is none = is (ap (option_map timeless) none)

there_after : {p : Path} {faults : List Fault} {old new : World} → LeavesSurvivors p faults old new → (f : Fault) → Survives faults f → IsThere old f → node_at new (names (fault_path f)) ≢ None
there_after {p} {faults} {old} {new} c f stays is none =
    let q = names (fault_path f) in
    is (sym (c.after q ∙ left_kept_by (is_at_or_under q p) (survives faults q) (timeless_at old q) stays) ∙ ap (option_map timeless) none)

both_all : {P Q R : Fault → Type 0} (fs : List Fault) → ((f : Fault) → P f → Q f → R f) → All P fs → All Q fs → All R fs
both_all {R = R} [] k a b = All-nil R
both_all {P} {Q} {R} (f ∷ fs) k a b = All-cons R f fs (k f (All-head P f fs a) (All-head Q f fs b)) (both_all fs k (All-tail P f fs a) (All-tail Q f fs b))

timeless_of : (o : Option Node) → o ≢ None → option_map timeless o ≢ None
timeless_of None some none = some refl
timeless_of (Some n) some none = cc

pub reported_are_there : ReportedAreThere
reported_are_there deep now p old new ls ms faults world other here ran =
    let c = survivors deep now p old new ls ms faults world other ran in
    both_all faults (λ f stays is. there_after c f stays is) (survive_all faults)
    (removal_there deep now p (is_folder old.world (names p)) old new ls ms faults (timed_itself old.world world) other refl (timeless_of (node_at old.world (names p)) here) ran)
