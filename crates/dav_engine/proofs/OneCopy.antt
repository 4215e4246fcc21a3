-- What a COPY at Depth 0 leaves.
use Rattle.std.proofs.Common.{◌≡◌, ◌≢◌, ℕ, zero, suc, ◌≤◌, ◌&&◌, not, if◌then◌else◌, Bool, true, false, List, [], ◌∷◌, map, Option, Some, None, Result, Ok, Err, ◌⊎◌, inl, inr, refl, sym, ap, subst, ◌∙◌, arith}
use Rattle.std.specs.Option.{option_map}
use Rattle.dav_core.specs.declared.errors.FsError.{FsError}
use Rattle.dav_core.specs.declared.errors.FsError.TheVariants as fs
use Rattle.dav_core.specs.declared.fs.DavMetaData.{DavMetaData}
use Rattle.dav_core.specs.Asking.{Metadata, CreateDir, Copy, StoreState, Asks}
use Rattle.dav_core.specs.Locks.{deleted}
use Rattle.dav_core.specs.Path.{Path, PathText, names, is_at_or_under, are_equal}
use Rattle.dav_core.specs.Property.{Properties}
use Rattle.dav_core.specs.World.{World, Node, Kind, Folder, node_at, is_folder_kind, is_folder_node, is_folder, is_missing, last_moment, IsWorld}
use Rattle.dav_core.proofs.Theorems.{errors_leave_worlds}
use Rattle.dav_headers.specs.declared.depth.Depth.{Depth}
use Rattle.dav_headers.specs.declared.depth.Depth.TheVariants.{Zero, One, Default, Infinity}
use Rattle.dav_engine.specs.Copied.{IsPlain}
use Rattle.dav_engine.specs.Copying.{CopyFault, CopyWalk, copy_report, refused_at, faults_at_depth_0, copy_kind, copy_looked, copy, copying}
use Rattle.dav_engine.specs.CopyLaws.{copied_properties, IsCopied, IsWithout, IsFoundAt, locks_without, CopyLeavesOne, file_stays, one_copied, folder_there, not_copied, CopyLeavesOneCopy}
use Rattle.dav_engine.specs.CopyMove.{copy_depth, clearing, drop_if, copy_reply, transfer_reply, transfer_if_cleared}
use Rattle.dav_engine.specs.Folder.{closed, room_at}
use Rattle.dav_engine.specs.Method.{◌>>=◌, gives}
use Rattle.dav_engine.specs.Multistatus.{multi_reply}
use Rattle.dav_engine.specs.Plan.{Ask, Done, Locks, Ran}
use Rattle.dav_engine.specs.Removal.{Fault, report_of, removal}
use Rattle.dav_engine.specs.RemovalLaws.{timeless, timeless_at, LeavesSurvivors}
use Rattle.dav_engine.specs.Reply.{Reply}
use Rattle.dav_engine.proofs.ChildLemmas.{names_closed}
use Rattle.dav_engine.proofs.CopiedLemmas.{at_itself, clash}
use Rattle.dav_engine.proofs.CopiedWorlds.{Told, started}
use Rattle.dav_engine.proofs.CopyEffects.{found_did, Put, folder_did, copy_did, there_by}
use Rattle.dav_engine.proofs.CopyHeaderLemmas.{plain_other}
use Rattle.dav_engine.proofs.CopyMoveLemmas.{only_copy}
use Rattle.dav_engine.proofs.DeletedWorlds.{dropped}
use Rattle.dav_engine.proofs.DeleteWorld.{only_removal, proper_removal}
use Rattle.dav_engine.proofs.PlainLemmas.{closed_plain, closed_prefix, equal_names}
use Rattle.dav_engine.proofs.RunLemmas.{first, finish, gave, parts, only_list}
use Rattle.dav_engine.proofs.SurvivorLemmas.{survivors_by}
use Rattle.dav_engine.proofs.WorldPlans.{proper_keeps}

-- ---- the walk, which goes one step

-- a copy of what was at s was put at d
record Put1 (s d : Path) (old new : World) : Type 0 where
  source : Node
  was : node_at old s ≡ Some source
  copy : Node
  there : node_at new d ≡ Some copy
  copied : IsCopied old source copy
  elsewhere : (q : Path) → q ≢ d → timeless_at new q ≡ timeless_at old q

-- What a copy of s alone to d comes to.
data Alone (s d : PathText) (faults : List CopyFault) (old new : World) : Type 0 where
  was_put : faults ≡ [] → Put1 (names s) (names d) old new → Alone s d faults old new
  was_there : faults ≡ [] → is_folder old (names s) ≡ true → new ≡ old → Alone s d faults old new
  was_refused : (f : CopyFault) → faults ≡ f ∷ [] → (f.0 ≡ s) ⊎ (f.0 ≡ d) → new ≡ old → Alone s d faults old new

elsewhere_by : {w new : World} {d : Path} {kind : Kind} {properties : Properties} → Put w d kind properties new → (q : Path) (o : Option Node) → q ≢ d → timeless_at new q ≡ o → timeless_at new q ≡ timeless_at w q
elsewhere_by put q None other is = is ∙ sym (put.kept q is)
elsewhere_by {w} {new} put q (Some m) other is = elim (put.came q m is) as (λ _. timeless_at new q ≡ timeless_at w q) [
  | inl a ↦ is ∙ sym a
  | inr (e, same) ↦ absurd (other e)
]

put_alone : (s d : Path) (w new : World) (kind : Kind) (properties : Properties) (source : Node) → Put w d kind properties new → node_at w s ≡ Some source
    → kind ≡ source.kind → properties ≡ copied_properties source → Put1 s d w new
put_alone s d w new kind properties source put was like same =
    let (m, is, shown) = there_by (node_at new d) put.node put.here in
    record {
      source = source;
      was = was;
      copy = m;
      there = is;
      copied = record {
        kind = ap (λ (k : Node). k.kind) shown ∙ put.kind_is ∙ like;
        properties = ap (λ (k : Node). k.properties) shown ∙ put.properties_are ∙ same;
        number = subst (λ (k : Node). w.next ≤ k.number) (sym shown) put.number;
      };
      elsewhere = λ q other. elsewhere_by put q (timeless_at new q) other refl;
    }

-- that something is at the place of a folder is no fault
there_or_fault : (d : PathText) (e : FsError) → (faults_at_depth_0 d (Err e) ≡ []) ⊎ (faults_at_depth_0 d (Err e) ≡ (d, e) ∷ [])
there_or_fault d fs.Exists = inl refl
there_or_fault d fs.NotImplemented = inr refl
there_or_fault d fs.GeneralFailure = inr refl
there_or_fault d fs.NotFound = inr refl
there_or_fault d fs.Forbidden = inr refl
there_or_fault d fs.InsufficientStorage = inr refl
there_or_fault d fs.LoopDetected = inr refl
there_or_fault d fs.PathTooLong = inr refl
there_or_fault d fs.TooLarge = inr refl
there_or_fault d fs.IsRemote = inr refl

module _ (now : ℕ) (s d : PathText) where
  folder_by : (source : Node) (old mid new : StoreState) (ls ms : Locks) (faults : List CopyFault) (made : Result (Unit {0}) FsError) → node_at old.world (names s) ≡ Some source → is_folder_kind source.kind ≡ true
      → Asks (CreateDir (names d) now) old made mid → Ran Asks (gives (faults_at_depth_0 d made)) mid ls (Ok faults) new ms → Alone s d faults old.world new.world
  folder_by source old mid new ls ms faults (Ok u) was folder one ran =
      let ends = gave ran in
      was_put ends.0 (subst (λ (st : StoreState). Put1 (names s) (names d) old.world st.world) (sym ends.1)
      (put_alone (names s) (names d) old.world mid.world Folder [] source (folder_did one) was (a_folder source.kind folder) (sym (ap (λ b. if b then [] else source.properties) folder))))
    where
      a_folder : (k : Kind) → is_folder_kind k ≡ true → Folder ≡ k
      a_folder Folder h = refl
      a_folder _ h = cc
  folder_by source old mid new ls ms faults (Err e) was folder one ran =
      let ends = gave ran in
      let same : new.world ≡ old.world = ap (λ (st : StoreState). st.world) ends.1 ∙ errors_leave_worlds (CreateDir (names d) now) old e mid one in
      elim (there_or_fault d e) as (λ _. Alone s d faults old.world new.world) [
        | inl none ↦ was_there (ends.0 ∙ none) (ap is_folder_node was ∙ folder) same
        | inr some ↦ was_refused (d, e) (ends.0 ∙ some) (inr refl) same
      ]

  file_by : (source : Node) (old mid new : StoreState) (ls ms : Locks) (faults : List CopyFault) (made : Result (Unit {0}) FsError)
      → Asks (Copy (names s) (names d) now) old made mid → Ran Asks (gives (refused_at s made)) mid ls (Ok faults) new ms → Alone s d faults old.world new.world
  file_by source old mid new ls ms faults (Ok u) one ran =
      let ends = gave ran in
      let did = copy_did one in
      was_put ends.0 (subst (λ (st : StoreState). Put1 (names s) (names d) old.world st.world) (sym ends.1)
      (put_alone (names s) (names d) old.world mid.world did.source.kind did.source.properties did.source did.put did.there refl (sym (ap (λ b. if b then [] else did.source.properties) did.file))))
  file_by source old mid new ls ms faults (Err e) one ran =
      let ends = gave ran in
      was_refused (s, e) ends.0 (inl refl) (ap (λ (st : StoreState). st.world) ends.1 ∙ errors_leave_worlds (Copy (names s) (names d) now) old e mid one)

  kind_by : (walk : CopyWalk) (dir : Bool) (source : Node) (old new : StoreState) (ls ms : Locks) (faults : List CopyFault) → node_at old.world (names s) ≡ Some source → dir ≡ is_folder_kind source.kind
      → Ran Asks (copy_kind false dir walk now s d) old ls (Ok faults) new ms → Alone s d faults old.world new.world
  kind_by walk true source old new ls ms faults was is ran =
      let f = first {c = CreateDir (names d) now} {go = λ made. gives (faults_at_depth_0 d made)} ran in
      folder_by source old f.mid new ls ms faults f.answer was (sym is) f.one f.more
  kind_by walk false source old new ls ms faults was is ran =
      let f = first {c = Copy (names s) (names d) now} {go = λ made. gives (refused_at s made)} ran in
      file_by source old f.mid new ls ms faults f.answer f.one f.more

  looked_by : (walk : CopyWalk) (old mid new : StoreState) (ls ms : Locks) (faults : List CopyFault) (answer : Result DavMetaData FsError) → Asks (Metadata (names s)) old answer mid
      → Ran Asks (copy_looked false walk now s d answer) mid ls (Ok faults) new ms → Alone s d faults old.world new.world
  looked_by walk old mid new ls ms faults (Err e) one ran =
      let ends = gave ran in
      was_refused (s, e) ends.0 (inl refl) (ap (λ (st : StoreState). st.world) ends.1 ∙ errors_leave_worlds (Metadata (names s)) old e mid one)
  looked_by walk old mid new ls ms faults (Ok m) one ran =
      let found = found_did one in
      subst (λ (w : World). Alone s d faults w new.world) found.same
      (kind_by walk m.dir found.node mid new ls ms faults (ap (λ (w : World). node_at w (names s)) found.same ∙ found.there) found.dir ran)

  tested : (walk : CopyWalk) (old new : StoreState) (ls ms : Locks) (faults : List CopyFault) (b : Bool) → s.prefix ≡ d.prefix → IsPlain s → IsPlain d → is_at_or_under (names s) (names d) ≡ false → are_equal s d ≡ b
      → Ran Asks (if b then gives [] else Ask (Metadata (names s)) (λ found. copy_looked false walk now s d found)) old ls (Ok faults) new ms → Alone s d faults old.world new.world
  tested walk old new ls ms faults true prefix plain place off is ran =
      clash (is_at_or_under (names s) (names d)) off (ap (λ (p : Path). is_at_or_under p (names d)) (equal_names s d prefix plain place is) ∙ at_itself (names d))
  tested walk old new ls ms faults false prefix plain place off is ran =
      let f = first {c = Metadata (names s)} {go = λ found. copy_looked false walk now s d found} ran in
      looked_by walk old f.mid new ls ms faults f.answer f.one f.more

  alone_by : (room : ℕ) (old new : StoreState) (ls ms : Locks) (faults : List CopyFault) → s.prefix ≡ d.prefix → IsPlain s → IsPlain d → is_at_or_under (names s) (names d) ≡ false
      → Ran Asks (copy room false now d s d) old ls (Ok faults) new ms → Alone s d faults old.world new.world
  alone_by zero old new ls ms faults prefix plain place off ran =
      let ends = gave ran in
      was_refused (s, fs.PathTooLong) ends.0 (inl refl) (ap (λ (st : StoreState). st.world) ends.1)
  alone_by (suc room) old new ls ms faults prefix plain place off ran =
      tested (λ a b. copy room false now d a b) old new ls ms faults (are_equal s d) prefix plain place off refl ran

-- ---- the destination is cleared

-- what comes after a file at the destination was removed, or nothing was
data Cleared1 (now : ℕ) (p d : PathText) (w : World) (ls : Locks) (r : Reply) (new : StoreState) (ms : Locks) : Type 0 where
  a_file_stays : (f : Fault) (faults : List Fault) → LeavesSurvivors (names d) (f ∷ faults) w new.world
      → Ok r ≡ multi_reply p (map report_of (f ∷ faults)) → ms ≡ ls → Cleared1 now p d w ls r new ms
  is_clear : (found removed : Bool) (mid : StoreState) (ks : Locks) → IsFoundAt (names d) w found removed → ((q : Path) → IsWithout removed (names d) w mid.world q) → w.next ≤ mid.world.next
      → ks ≡ locks_without removed (names d) ls → Ran Asks (transfer_reply false false now p d (if found then 204 else 201)) mid ks (Ok r) new ms → Cleared1 now p d w ls r new ms

module _ (now : ℕ) (p d : PathText) (there : DavMetaData) (old new : StoreState) (ls ms : Locks) (r : Reply) where
  emptied_by : (b : Bool) (faults : List Fault) {mid : StoreState} {ks : Locks} → not there.dir ≡ true → IsWorld mid.world → old.world.next ≤ mid.world.next → is_missing old.world (names d) ≡ false → is_folder old.world (names d) ≡ false → ks ≡ ls
      → LeavesSurvivors (names d) faults old.world mid.world → Ran Asks (transfer_if_cleared false false now p d (Some there) faults) mid ks (Ok r) new ms → Cleared1 now p d old.world ls r new ms
  emptied_by b (f ∷ faults) is world next was file locks left ran =
      let ends = finish ran in
      a_file_stays f faults (subst (λ (s : StoreState). LeavesSurvivors (names d) (f ∷ faults) old.world s.world) (sym ends.1) left) ends.0 (ends.2 ∙ locks)
  emptied_by b [] {mid} {ks} is world next was file locks left ran =
      let run : Ran Asks (drop_if true d >>= (λ u. transfer_reply false false now p d 204)) mid ks (Ok r) new ms = subst (λ x. Ran Asks (drop_if x d >>= (λ u. transfer_reply false false now p d 204)) mid ks (Ok r) new ms) is ran in
      let a = parts (drop_if true d) (λ u. transfer_reply false false now p d 204) run in
      let drop = dropped d [] a.one in
      is_clear true true a.mid a.ks (record { there = λ h. was; file = λ h. (refl, file) })
      (λ q. ap (λ (s : StoreState). timeless_at s.world q) drop.same ∙ left.after q ∙ any_by (is_at_or_under q (names d)) (timeless_at old.world q))
      (subst (λ (s : StoreState). old.world.next ≤ s.world.next) (sym drop.same) next)
      (drop.locks ∙ ap (option_map (deleted (names d))) locks) a.more
    where
      any_by : (x : Bool) (o : Option Node) → (if x && true then None else o) ≡ (if true && x then None else o)
      any_by true o = refl
      any_by false o = refl

  found_clear : (b : Bool) → not there.dir ≡ b → IsWorld old.world → now ≤ last_moment → IsPlain d → Told old.world (names d) (Some there)
      → Ran Asks ((if b then removal true now d there.dir else gives []) >>= (λ faults. transfer_if_cleared false false now p d (Some there) faults)) old ls (Ok r) new ms → Cleared1 now p d old.world ls r new ms
  found_clear true is world small plain told ran =
      let a = parts (removal true now d there.dir) (λ faults. transfer_if_cleared false false now p d (Some there) faults) ran in
      let kept = proper_keeps (proper_removal true now d there.dir small) world a.one in
      emptied_by true a.value is kept.world kept.next told.1 (sym told.0 ∙ no_folder there.dir is) (only_list (only_removal true now d there.dir) a.one)
      (survivors_by true now d there.dir world (plain_other d plain) told.0 a.one) a.more
    where
      no_folder : (x : Bool) → not x ≡ true → x ≡ false
      no_folder true h = cc
      no_folder false h = refl
  found_clear false is world small plain told ran =
      let a = parts (gives []) (λ faults. transfer_if_cleared false false now p d (Some there) faults) ran in
      let ends = finish a.one in
      let run : Ran Asks (drop_if false d >>= (λ u. transfer_reply false false now p d 204)) a.mid a.ks (Ok r) new ms = subst (λ x. Ran Asks (drop_if x d >>= (λ u. transfer_reply false false now p d 204)) a.mid a.ks (Ok r) new ms) is
      (subst (λ (faults : List Fault). Ran Asks (transfer_if_cleared false false now p d (Some there) faults) a.mid a.ks (Ok r) new ms) (gave a.one).0 a.more) in
      is_clear true false a.mid a.ks (record { there = λ h. told.1; file = λ h. cc }) (λ q. ap (λ (s : StoreState). timeless_at s.world q) ends.1)
      (subst (λ (s : StoreState). old.world.next ≤ s.world.next) (sym ends.1) (omega arith)) ends.2 run

clears_one : (now : ℕ) (p d : PathText) (there : Option DavMetaData) {old new : StoreState} {ls ms : Locks} {r : Reply}
    → IsWorld old.world → now ≤ last_moment → IsPlain d → Told old.world (names d) there
    → Ran Asks (clearing false now d there >>= (λ faults. transfer_if_cleared false false now p d there faults)) old ls (Ok r) new ms → Cleared1 now p d old.world ls r new ms
clears_one now p d None {old} {ls = ls} world small plain told ran =
    is_clear false false old ls (record { there = λ h. cc; file = λ h. cc }) (λ q. refl) (omega arith) refl ran
clears_one now p d (Some there) world small plain told ran = found_clear now p d there _ _ _ _ _ (not there.dir) refl world small plain told ran

-- ---- the whole

module _ (p q d : PathText) (found removed : Bool) (old mid new : StoreState) (ls ms : Locks) (r : Reply) (path : names q ≡ names p) (closes : q ≡ closed (is_folder old.world (names p)) p)
    (was : IsFoundAt (names d) old.world found removed) (clear : (x : Path) → IsWithout removed (names d) old.world mid.world x) (next : old.world.next ≤ mid.world.next)
    (off : is_at_or_under (names p) (names d) ≡ false) (locks : ms ≡ locks_without removed (names d) ls) where
  not_under : (x : Path) (b : Bool) → is_at_or_under x (names d) ≡ false → removed ≡ b → timeless_at mid.world x ≡ timeless_at old.world x
  not_under x true out is = clear x ∙ ap (λ b. if b && is_at_or_under x (names d) then None else timeless_at old.world x) is ∙ ap (λ b. if true && b then None else timeless_at old.world x) out
  not_under x false out is = clear x ∙ ap (λ b. if b && is_at_or_under x (names d) then None else timeless_at old.world x) is

  was_folder : (a b : Option Node) → option_map timeless a ≡ option_map timeless b → is_folder_node a ≡ true → is_folder_node b ≡ true
  was_folder None b h is = cc
  was_folder (Some n) None h is = cc
  was_folder (Some n) (Some k) h is = let e : timeless n ≡ timeless k = cc in ap (λ (x : Node). is_folder_kind x.kind) (sym e) ∙ is

  ends_by : (faults : List CopyFault) → Ok r ≡ copy_reply q (if found then 204 else 201) faults → Alone q d faults mid.world new.world → CopyLeavesOne p d old new ls ms r
  ends_by faults told (was_put none put) =
      let (n, there, same) = there_by (node_at old.world (names p)) (timeless put.source) (sym (not_under (names p) removed off refl) ∙ ap (λ (x : Path). timeless_at mid.world x) (sym path) ∙ ap (option_map timeless) put.was) in
      let done : Ok r ≡ copy_reply q (if found then 204 else 201) [] = told ∙ ap (copy_reply q (if found then 204 else 201)) none in
      let low = put.copied.number in
      one_copied found removed n put.copy was there put.there
      (record { kind = put.copied.kind ∙ ap (λ (x : Node). x.kind) (sym same); properties = put.copied.properties ∙ ap copied_properties (sym same); number = omega (arith, low, next) })
      (λ x other. put.elsewhere x other ∙ clear x) (let e = done in cc) locks
  ends_by faults told (was_there none folder same) =
      let done : Ok r ≡ copy_reply q (if found then 204 else 201) [] = told ∙ ap (copy_reply q (if found then 204 else 201)) none in
      folder_there found removed was (was_folder (node_at mid.world (names p)) (node_at old.world (names p)) (not_under (names p) removed off refl) (ap (λ (x : Path). is_folder mid.world x) (sym path) ∙ folder))
      (λ x. ap (λ (w : World). timeless_at w x) same ∙ clear x) (let e = done in cc) locks
  ends_by faults told (was_refused f one where_ same) =
      not_copied found removed f was
      (elim where_ as (λ _. (f.0 ≡ closed (is_folder old.world (names p)) p) ⊎ (f.0 ≡ d)) [ inl a ↦ inl (a ∙ closes) | inr b ↦ inr b ])
      (λ x. ap (λ (w : World). timeless_at w x) same ∙ clear x)
      (told ∙ ap (copy_reply q (if found then 204 else 201)) one ∙ ap (λ (x : PathText). multi_reply x (copy_report f ∷ [])) closes) locks

brings_one : (now : ℕ) (dir : Bool) (p d : PathText) {old new : StoreState} {ls ms : Locks} {r : Reply} → IsPlain p → IsPlain d → p.prefix ≡ d.prefix
    → is_at_or_under (names (closed dir p)) (names d) ≡ false → dir ≡ is_folder old.world (names p) → Cleared1 now (closed dir p) d old.world ls r new ms → CopyLeavesOne p d old new ls ms r
brings_one now dir p d plain place prefix off is (a_file_stays f faults left told locks) =
    file_stays f faults left (told ∙ ap (λ b. multi_reply (closed b p) (map report_of (f ∷ faults))) is) locks
brings_one now dir p d {old} {new} {ls} {ms} {r} plain place prefix off is (is_clear found removed mid ks was clear next locks ran) =
    let q : PathText = closed dir p in
    let path : names q ≡ names p = names_closed dir p (plain_other p plain) in
    let a = parts (copying false now d q d) (λ faults. Done (copy_reply q (if found then 204 else 201) faults)) ran in
    let ends = finish a.more in
    let left : Alone q d a.value mid.world new.world = subst (λ (s : StoreState). Alone q d a.value mid.world s.world) (sym ends.1)
    (alone_by now q d (room_at q) mid a.mid ks a.ks a.value (closed_prefix dir p ∙ prefix) (closed_plain dir p plain) place off a.one) in
    ends_by p q d found removed old mid new ls ms r path (ap (λ b. closed b p) is) was clear next (ap (λ (x : Path). is_at_or_under x (names d)) (sym path) ∙ off)
    (ends.2 ∙ only_list (only_copy (room_at q) false now d q d) a.one ∙ locks) a.value ends.0 left

zero_depth : (depth : Option Depth) (deep : Bool) → depth ≡ Some Zero → copy_depth false depth ≡ Ok deep → deep ≡ false
zero_depth (Some Zero) deep is h = cc
zero_depth None deep is h = cc
zero_depth (Some Default) deep is h = cc
zero_depth (Some One) deep is h = cc
zero_depth (Some Infinity) deep is h = cc

pub copy_leaves_one : CopyLeavesOneCopy
copy_leaves_one m h p d who old new ls ms r world small copy depth is plain place prefix ran =
    let b = started m h p d who false (λ deep h'. zero_depth h.depth deep depth (ap (λ x. copy_depth x h.depth) (sym copy) ∙ h')) is ran in
    brings_one who.moment b.dir p d plain place prefix b.off b.is
    (subst (λ (w : World). Cleared1 who.moment (closed b.dir p) d w ls r new ms) b.same
    (clears_one who.moment (closed b.dir p) d b.there (subst IsWorld (sym b.same) world) small place (subst (λ (w : World). Told w (names d) b.there) (sym b.same) b.told)
    (subst (λ x. Ran Asks (clearing false who.moment d b.there >>= (λ faults. transfer_if_cleared x false who.moment (closed b.dir p) d b.there faults)) b.mid ls (Ok r) new ms) copy b.rest)))
