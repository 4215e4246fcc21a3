-- A plan that reads at some paths alone comes to the same where these agree.
use Rattle.std.proofs.Common.{◌≡◌, ◌++◌, ◌==◌, ◌&&◌, ◌||◌, append-nil, map, not, codes, All, IfSome, ℕ, Bool, true, false, true≢false, List, [], ◌∷◌, Option, Some, None, Result, Ok, Err, refl, sym, ap, subst, ◌∙◌, ◌+◌, if◌then◌else◌, length, take, drop}
use Rattle.std.specs.Option.{option_map, is_none}
use Rattle.dav_core.specs.declared.errors.FsError.{FsError}
use Rattle.dav_core.specs.declared.errors.FsError.TheVariants.{NotFound, Forbidden, Exists}
use Rattle.dav_core.specs.declared.errors.DavError.{DavError}
use Rattle.dav_core.specs.Asking.{Call, Answer, StoreState, Asks, asked, ran_short, ask, answered, meaning, rest_of, Metadata, ReadDir, EntryMetadata, CreateDir, RemoveDir, RemoveFile, Rename, Copy, HaveProps, PatchProps, GetProps, GetProp, GetQuota, SetAccessed, SetModified, Open, Read, Write, Seek, Flush, FileMetadata}
use Rattle.dav_core.specs.Calls.{metadata_of, stored_tree, open_at}
use Rattle.dav_core.specs.CallLaws.{IsProper}
use Rattle.dav_core.specs.Handle.{Handle, Opening, opened}
use Rattle.dav_core.specs.Element.{ElementTree}
use Rattle.dav_core.specs.Lists.{is_empty}
use Rattle.dav_core.specs.Locks.{Lock, is_held, requester_of}
use Rattle.std.specs.FinMap.{find}
use Rattle.std.specs.List.{list_any, list_all, starts_with}
use Rattle.std.proofs.lemmas.List.Elements.{All-head, All-tail}
use Rattle.dav_core.specs.Meaning.{Meaning, refuse_if, at_node}
use Rattle.dav_core.specs.Property.{PropertyKey, key_cmp, shown_property}
use Rattle.dav_core.specs.Path.{Path, names}
use Rattle.dav_core.specs.World.{file_made_with, bytes_of, World, Node, node_at, members, is_missing, is_file, is_file_node, is_folder_kind, IsWorld}
use Rattle.dav_core.proofs.Theorems.{members_same, opened_stands}
use Rattle.dav_headers.specs.If.{Item, state_token, entity_tag, Condition}
use Rattle.dav_engine.specs.Conditions.{Addressed, item_holds, and_then, or_else, all_hold, some_holds, if_holds}
use Rattle.dav_engine.specs.Method.{MethodPlan, ◌>>=◌, gives}
use Rattle.dav_engine.specs.Plan.{Done, Ask, Look, Locks, Ran, ran_done, ran_ask, ran_look}
use Rattle.dav_engine.specs.Reply.{Reply}
use Rattle.dav_confined.specs.Seen.{AgreeAt, CoverAlike, AllUnder, IsSeen, ReadsSeen, seen_done, seen_ask, seen_look, seen_opens, seen_reads, ReadersAgree, OptionsReadsSeen, IfReadsSeen}
use Rattle.dav_engine.specs.WorldLaws.{OnlyReads}
use Rattle.dav_engine.proofs.CallWorlds.{Did, stays, means, did, did_leave}
use Rattle.dav_engine.proofs.FaultLemmas.{at_path}
use Rattle.dav_engine.proofs.PlanLemmas.{ran_unset}

-- what a call answers, without the world that it leaves
abbrev told : {A : Type 0} → Meaning A → Result A FsError
told (Ok r) = Ok r.0
told (Err e) = Err e

told_answered : {A : Type 0} (w : World) (m : Meaning A) → (answered w m).0 ≡ told m
told_answered w (Ok (a, after)) = refl
told_answered w (Err e) = refl

-- the answer under a list of refusals
told_asked : (c : Call) (w v : World) (refusals : List (Option FsError)) → told (meaning c w) ≡ told (meaning c v) → (ask c w refusals).0 ≡ (ask c v refusals).0
told_asked c w v [] same = told_answered w (meaning c w) ∙ same ∙ sym (told_answered v (meaning c v))
told_asked c w v (None ∷ rs) same = told_answered w (meaning c w) ∙ same ∙ sym (told_answered v (meaning c v))
told_asked c w v (Some e ∷ rs) same = refl

-- ---- what the calls answer

-- each answer by what is at its path
metadata_by : (o : Option Node) (w v : World) → told (at_node o (λ n. Ok (metadata_of n, w))) ≡ told (at_node o (λ n. Ok (metadata_of n, v)))
metadata_by None w v = refl
metadata_by (Some n) w v = refl

props_by : (content : Bool) (o : Option Node) (w v : World) → told (at_node o (λ n. Ok (map (shown_property content) n.properties, w))) ≡ told (at_node o (λ n. Ok (map (shown_property content) n.properties, v)))
props_by content None w v = refl
props_by content (Some n) w v = refl

tree_by : (t : Option (Option ElementTree)) (w v : World) → told (stored_tree t w) ≡ told (stored_tree t v)
tree_by None w v = refl
tree_by (Some None) w v = refl
tree_by (Some (Some tree)) w v = refl

prop_by : (key : PropertyKey) (o : Option Node) (w v : World) → told (at_node o (λ n. stored_tree (find key_cmp key n.properties) w)) ≡ told (at_node o (λ n. stored_tree (find key_cmp key n.properties) v))
prop_by key None w v = refl
prop_by key (Some n) w v = tree_by (find key_cmp key n.properties) w v

listed_by : (missing file : Bool) (names : List (List ℕ × Bool)) (w v : World) → told (refuse_if missing NotFound (refuse_if file Forbidden (Ok (names, w)))) ≡ told (refuse_if missing NotFound (refuse_if file Forbidden (Ok (names, v))))
listed_by true file names w v = refl
listed_by false true names w v = refl
listed_by false false names w v = refl

missing_told : (c n : Bool) (m : Meaning Handle) → c ≡ false → n ≡ false → told (refuse_if (not (c || n)) NotFound m) ≡ Err NotFound
missing_told false false m one two = refl
missing_told true n m one two = cc
missing_told false true m one two = cc

found_told : (folder fresh empties : Bool) (m n : Meaning Handle) (h : Handle) (w v : World) → fresh ≡ false → empties ≡ false
    → told (refuse_if folder Forbidden (refuse_if fresh Exists (if empties then m else Ok (h, w)))) ≡ told (refuse_if folder Forbidden (refuse_if fresh Exists (if empties then n else Ok (h, v))))
found_told true fresh empties m n h w v one two = refl
found_told false false false m n h w v one two = refl
found_told false true empties m n h w v one two = cc
found_told false false true m n h w v one two = cc

opened_by : (p : Path) (how : Opening) (now : ℕ) (o : Option Node) (w v : World) → OnlyReads (Open p how now) → told (open_at w p how now o) ≡ told (open_at v p how now o)
opened_by p how now None w v only = missing_told how.create how.create_new _ only.1 only.2 ∙ sym (missing_told how.create how.create_new _ only.1 only.2)
opened_by p how now (Some n) w v only = found_told (is_folder_kind n.kind) how.create_new how.truncate _ _ (opened n.made how) w v only.2 only.0

refused_told : {A : Type 0} (b : Bool) (a : A) (w v : World) → told (refuse_if b Forbidden (Ok (a, w))) ≡ told (refuse_if b Forbidden (Ok (a, v)))
refused_told true a w v = refl
refused_told false a w v = refl

module _ (k : Handle) (count : ℕ) where
  abbrev chunk : Node → List ℕ
  chunk n = take count (drop k.position (bytes_of n.kind))

  abbrev reads_node : World → Node → Meaning (List ℕ × Handle)
  reads_node w n = refuse_if (not k.reads) Forbidden (Ok ((chunk n, record k { position = k.position + length (chunk n) }), w))

  same_read : (n : Node) (w v : World) → file_made_with k.made w.nodes ≡ Some n → file_made_with k.made v.nodes ≡ Some n → told (meaning (Read k count) w) ≡ told (meaning (Read k count) v)
  unfolding meaning
  same_read n w v one two =
      ap (λ (o : Option Node). told (at_node o (reads_node w))) one ∙ refused_told (not k.reads) (chunk n, record k { position = k.position + length (chunk n) }) w v
      ∙ sym (ap (λ (o : Option Node). told (at_node o (reads_node v))) two)

same_opened : (p : Path) (how : Opening) (now : ℕ) (w v : World) → OnlyReads (Open p how now) → node_at w p ≡ node_at v p → told (meaning (Open p how now) w) ≡ told (meaning (Open p how now) v)
unfolding meaning
same_opened p how now w v only same = ap (λ (o : Option Node). told (open_at w p how now o)) same ∙ opened_by p how now (node_at v p) w v only

-- the file that was opened
opened_is : (p : Path) (how : Opening) (now : ℕ) (w v : World) (k : Handle) → IsProper (Open p how now) → IsWorld w → Did (meaning (Open p how now) w) w (Ok k) v
    → (n : Node) × (file_made_with k.made v.nodes ≡ Some n) × (node_at v p ≡ Some n)
opened_is p how now w v k proper world (stays e failed is) = cc
opened_is p how now w v k proper world (means r h gave is) =
    let (n, on) = opened_stands p how now w r proper world h in
    let same : r.0 ≡ k = let both : ◌≡◌ {A = Result Handle FsError} (Ok r.0) (Ok k) = sym gave in cc in
    (n, ap (λ (x : World). file_made_with k.made x.nodes) is ∙ ap (λ (j : Handle). file_made_with j.made r.1.nodes) (sym same) ∙ on.0, ap (λ (x : World). node_at x p) is ∙ on.1)

-- the file that is open is the same in both
abbrev IsOpenInBoth : Option ℕ → World → World → Type 0
IsOpenInBoth None w v = Unit {0}
IsOpenInBoth (Some made) w v = (n : Node) × (file_made_with made w.nodes ≡ Some n) × (file_made_with made v.nodes ≡ Some n)

module _ (seen : Path → Bool) (w v : World) (world : IsWorld w) (other : IsWorld v) (agree : AgreeAt seen w v) where
  itself : (p : Path) → AllUnder seen p → seen p ≡ true
  itself p all = all p (at_path p p [] (sym (append-nil p)))

  same_members : (p : Path) → AllUnder seen p → members p w.nodes ≡ members p v.nodes
  same_members p all = members_same p p w v world other (λ x. ap (option_map (λ n. is_folder_kind n.kind)) (agree (p ++ x ∷ []) (all (p ++ x ∷ []) (at_path p (p ++ x ∷ []) (x ∷ []) refl))))

  same_told : (c : Call) → IsSeen seen c → told (meaning c w) ≡ told (meaning c v)
  unfolding meaning
  same_told (Metadata p) in_sight = ap (λ o. told (at_node o (λ n. Ok (metadata_of n, w)))) (agree p in_sight) ∙ metadata_by (node_at v p) w v
  same_told (EntryMetadata p) in_sight = ap (λ o. told (at_node o (λ n. Ok (metadata_of n, w)))) (agree p in_sight) ∙ metadata_by (node_at v p) w v
  same_told (ReadDir p) all =
      ap (λ (o : Option Node). told (refuse_if (is_none o) NotFound (refuse_if (is_file_node o) Forbidden (Ok (members p w.nodes, w))))) (agree p (itself p all))
      ∙ ap (λ names. told (refuse_if (is_missing v p) NotFound (refuse_if (is_file v p) Forbidden (Ok (names, w))))) (same_members p all)
      ∙ listed_by (is_missing v p) (is_file v p) (members p v.nodes) w v
  same_told (HaveProps p) in_sight = refl
  same_told (GetProps p content) in_sight = ap (λ o. told (at_node o (λ n. Ok (map (shown_property content) n.properties, w)))) (agree p in_sight) ∙ props_by content (node_at v p) w v
  same_told (GetProp p key) in_sight = ap (λ o. told (at_node o (λ n. stored_tree (find key_cmp key n.properties) w))) (agree p in_sight) ∙ prop_by key (node_at v p) w v
  same_told GetQuota in_sight = refl
  same_told (CreateDir p now) in_sight = absurd in_sight
  same_told (RemoveDir p now) in_sight = absurd in_sight
  same_told (RemoveFile p now) in_sight = absurd in_sight
  same_told (Rename from to now) in_sight = absurd in_sight
  same_told (Copy from to now) in_sight = absurd in_sight
  same_told (PatchProps p patches) in_sight = absurd in_sight
  same_told (SetAccessed p now) in_sight = absurd in_sight
  same_told (SetModified p now) in_sight = absurd in_sight
  same_told (Open p how now) in_sight = absurd in_sight
  same_told (Read file count) in_sight = absurd in_sight
  same_told (Write file bytes now) in_sight = absurd in_sight
  same_told (Seek file to) in_sight = absurd in_sight
  same_told (Flush file) in_sight = absurd in_sight
  same_told (FileMetadata file) in_sight = absurd in_sight

-- such a call only reads
only_reads : (seen : Path → Bool) (c : Call) → IsSeen seen c → OnlyReads c
only_reads seen (Metadata p) is = tt
only_reads seen (EntryMetadata p) is = tt
only_reads seen (ReadDir p) is = tt
only_reads seen (HaveProps p) is = tt
only_reads seen (GetProps p content) is = tt
only_reads seen (GetProp p key) is = tt
only_reads seen GetQuota is = tt
only_reads seen (CreateDir p now) is = absurd is
only_reads seen (RemoveDir p now) is = absurd is
only_reads seen (RemoveFile p now) is = absurd is
only_reads seen (Rename from to now) is = absurd is
only_reads seen (Copy from to now) is = absurd is
only_reads seen (PatchProps p patches) is = absurd is
only_reads seen (SetAccessed p now) is = absurd is
only_reads seen (SetModified p now) is = absurd is
only_reads seen (Open p how now) is = absurd is
only_reads seen (Read file count) is = absurd is
only_reads seen (Write file bytes now) is = absurd is
only_reads seen (Seek file to) is = absurd is
only_reads seen (Flush file) is = absurd is
only_reads seen (FileMetadata file) is = absurd is

-- ---- the law

same_asked : {c : Call} {old mid old' mid' : StoreState} {a b : Result (Answer c) FsError} → told (meaning c old.world) ≡ told (meaning c old'.world) → Asks c old a mid → Asks c old' b mid'
    → mid.short ≡ false → mid'.short ≡ false → old.refusals ≡ old'.refusals → (a ≡ b) × (mid.refusals ≡ mid'.refusals)
same_asked {c} {old} {mid} {old'} {mid'} {a} {b} tells (asked one) (asked other) u u' same = (
  ap (λ x. x.0) one.as_asked ∙ told_asked c old.world old'.world old.refusals tells ∙ ap (λ rs. (ask c old'.world rs).0) same ∙ sym (ap (λ x. x.0) other.as_asked),
  one.refusals ∙ ap rest_of same ∙ sym other.refusals,
)
same_asked tells (ran_short one) other u u' same = absurd (true≢false (sym one.short ∙ u))
same_asked tells (asked one) (ran_short other) u u' same = absurd (true≢false (sym other.short ∙ u'))

-- two stores that agree at some paths, with the same refusals, and with the same file open
record BothSee (seen : Path → Bool) (file : Option ℕ) (s t : StoreState) : Type 0 where
  same : s.refusals ≡ t.refusals
  world : IsWorld s.world
  world' : IsWorld t.world
  agree : AgreeAt seen s.world t.world
  file_is : IsOpenInBoth file s.world t.world

module _ (seen : Path → Bool) where
  on_both : {file : Option ℕ} {s t s' t' : StoreState} → s'.world ≡ s.world → t'.world ≡ t.world → s'.refusals ≡ t'.refusals → BothSee seen file s t → BothSee seen file s' t'
  on_both {file} {s} {t} {s'} {t'} left right same both = record {
    same = same;
    world = subst IsWorld (sym left) both.world;
    world' = subst IsWorld (sym right) both.world';
    agree = subst (λ (m : World). AgreeAt seen m t'.world) (sym left) (subst (λ (m : World). AgreeAt seen s.world m) (sym right) both.agree);
    file_is = subst (λ (m : World). IsOpenInBoth file m t'.world) (sym left) (subst (λ (m : World). IsOpenInBoth file s.world m) (sym right) both.file_is);
  }

  open_both : {p : Path} {how : Opening} {now : ℕ} {s t s' t' : StoreState} (k : Handle) → seen p ≡ true → OnlyReads (Open p how now) → IsProper (Open p how now) → BothSee seen None s t
      → Asks (Open p how now) s (Ok k) s' → Asks (Open p how now) t (Ok k) t' → s'.refusals ≡ t'.refusals → BothSee seen (Some k.made) s' t'
  open_both {p} {how} {now} {s} {t} {s'} {t'} k in_sight only proper both one two same =
      let left : s'.world ≡ s.world = did_leave (Open p how now) s.world s'.world (Ok k) only (did one) in
      let right : t'.world ≡ t.world = did_leave (Open p how now) t.world t'.world (Ok k) only (did two) in
      let moved : BothSee seen None s' t' = on_both left right same both in
      let (n, made, at) = opened_is p how now s.world s'.world k proper both.world (did one) in
      let (m, made', at') = opened_is p how now t.world t'.world k proper both.world' (did two) in
      let alike : ◌≡◌ {A = Option Node} (Some m) (Some n) = sym at' ∙ sym (moved.agree p in_sight) ∙ at in
      record { same = same; world = moved.world; world' = moved.world'; agree = moved.agree; file_is = (n, made, made' ∙ alike) }

  readers : {file : Option ℕ} {plan : MethodPlan Reply} {old new old' new' : StoreState} {ls ks : List Lock} {ms ns : Locks} {a b : Result Reply DavError}
      → ReadsSeen seen file plan → Ran Asks plan old (Some ls) a new ms → Ran Asks plan old' (Some ks) b new' ns → new.short ≡ false → new'.short ≡ false → BothSee seen file old old' → CoverAlike seen ls ks → a ≡ b
  readers seen_done ran_done ran_done u u' both alike = refl
  readers {ks = ks} (seen_ask {c = c} {go} is more) (ran_ask {old} {mid} {new} {answer = x} one rest) (ran_ask {old = old'} {mid = mid'} {new = new'} {ms = ns} {answer = y} {a = b} two others) u u' both alike =
      let step = same_asked (same_told seen old.world old'.world both.world both.world' both.agree c is) one two (ran_unset rest u) (ran_unset others u') both.same in
      let left : mid.world ≡ old.world = did_leave c old.world mid.world x (only_reads seen c is) (did one) in
      let right : mid'.world ≡ old'.world = did_leave c old'.world mid'.world y (only_reads seen c is) (did two) in
      readers (more x) rest (subst (λ z. Ran Asks (go z) mid' (Some ks) b new' ns) (sym step.0) others) u u' (on_both left right step.1 both) alike
  readers (seen_look {go = go} depends more) (ran_look {ls = Some ls} rest) (ran_look {old = old'} {new = new'} {ls = Some ks} {ms = ns} {a = b} others) u u' both alike =
      readers (more ls) rest (subst (λ (q : MethodPlan Reply). Ran Asks q old' (Some ks) b new' ns) (sym (depends ls ks alike)) others) u u' both alike
  readers {ks = ks} (seen_opens {p} {how} {now} {go} in_sight only proper more failed) (ran_ask {old} {mid} {new} {answer = Ok k} one rest) (ran_ask {old = old'} {mid = mid'} {new = new'} {ms = ns} {answer = y} {a = b} two others) u u' both alike =
      let step = same_asked (same_opened p how now old.world old'.world only (both.agree p in_sight)) one two (ran_unset rest u) (ran_unset others u') both.same in
      readers (more k) rest (subst (λ z. Ran Asks (go z) mid' (Some ks) b new' ns) (sym step.0) others) u u'
      (open_both k in_sight only proper both one (subst (λ z. Asks (Open p how now) old' z mid') (sym step.0) two) step.1) alike
  readers {ks = ks} (seen_opens {p} {how} {now} {go} in_sight only proper more failed) (ran_ask {old} {mid} {new} {answer = Err e} one rest) (ran_ask {old = old'} {mid = mid'} {new = new'} {ms = ns} {answer = y} {a = b} two others) u u' both alike =
      let step = same_asked (same_opened p how now old.world old'.world only (both.agree p in_sight)) one two (ran_unset rest u) (ran_unset others u') both.same in
      let left : mid.world ≡ old.world = did_leave (Open p how now) old.world mid.world (Err e) only (did one) in
      let right : mid'.world ≡ old'.world = did_leave (Open p how now) old'.world mid'.world y only (did two) in
      readers (failed e) rest (subst (λ z. Ran Asks (go z) mid' (Some ks) b new' ns) (sym step.0) others) u u' (on_both left right step.1 both) alike
  readers {ks = ks} (seen_reads {made} {k} {count} {go} is more) (ran_ask {old} {mid} {new} {answer = x} one rest) (ran_ask {old = old'} {mid = mid'} {new = new'} {ms = ns} {answer = y} {a = b} two others) u u' both alike =
      let (n, here, there) = both.file_is in
      let step = same_asked (same_read k count n old.world old'.world (ap (λ (i : ℕ). file_made_with i old.world.nodes) is ∙ here) (ap (λ (i : ℕ). file_made_with i old'.world.nodes) is ∙ there)) one two (ran_unset rest u) (ran_unset others u') both.same in
      let left : mid.world ≡ old.world = did_leave (Read k count) old.world mid.world x tt (did one) in
      let right : mid'.world ≡ old'.world = did_leave (Read k count) old'.world mid'.world y tt (did two) in
      readers (more x) rest (subst (λ z. Ran Asks (go z) mid' (Some ks) b new' ns) (sym step.0) others) u u' (on_both left right step.1 both) alike

pub readers_agree : ReadersAgree
readers_agree seen plan old new old' new' ls ks ms ns a b reads one two u u' same world world' agree alike = readers seen reads one two u u' (record { same = same; world = world; world' = world'; agree = agree; file_is = tt }) alike

-- ---- plans that read at some paths alone

-- a part that opens no file
pub data ReadsWithout (seen : Path → Bool) {A : Type 0} : MethodPlan A → Type 0 where
  without_done : {a : Result A DavError} → ReadsWithout seen (Done a)
  without_ask : {c : Call} {go : Result (Answer c) FsError → MethodPlan A} → IsSeen seen c → ((answer : Result (Answer c) FsError) → ReadsWithout seen (go answer)) → ReadsWithout seen (Ask c go)
  without_look : {go : Locks → MethodPlan A} → ((ls ks : List Lock) → CoverAlike seen ls ks → go (Some ls) ≡ go (Some ks)) → ((ls : List Lock) → ReadsWithout seen (go (Some ls))) → ReadsWithout seen (Look go)

pub seen_without : {seen : Path → Bool} {A : Type 0} {plan : MethodPlan A} → ReadsWithout seen plan → ReadsSeen seen None plan
seen_without without_done = seen_done
seen_without (without_ask {c = c} is more) = seen_ask {c = c} is (λ answer. seen_without (more answer))
seen_without (without_look depends more) = seen_look depends (λ ls. seen_without (more ls))

-- such a part, and what follows it
pub seen_bind : {seen : Path → Bool} {A B : Type 0} {plan : MethodPlan A} (f : A → MethodPlan B) → ReadsWithout seen plan → ((a : A) → ReadsSeen seen None (f a)) → ReadsSeen seen None (plan >>= f)
seen_bind f (without_done {a = Ok a}) more = more a
seen_bind f (without_done {a = Err e}) more = seen_done
seen_bind f (without_ask {c = c} is next) more = seen_ask {c = c} is (λ answer. seen_bind f (next answer) more)
seen_bind f (without_look depends next) more = seen_look (λ ls ks alike. ap (λ plan. plan >>= f) (depends ls ks alike)) (λ ls. seen_bind f (next ls) more)

pub without_bind : {seen : Path → Bool} {A B : Type 0} {plan : MethodPlan A} (f : A → MethodPlan B) → ReadsWithout seen plan → ((a : A) → ReadsWithout seen (f a)) → ReadsWithout seen (plan >>= f)
without_bind f (without_done {a = Ok a}) more = more a
without_bind f (without_done {a = Err e}) more = without_done
without_bind f (without_ask {c = c} is next) more = without_ask {c = c} is (λ answer. without_bind f (next answer) more)
without_bind f (without_look depends next) more = without_look (λ ls ks alike. ap (λ plan. plan >>= f) (depends ls ks alike)) (λ ls. without_bind f (next ls) more)

pub options_reads_seen : OptionsReadsSeen
options_reads_seen seen allowed p in_sight = seen_ask {c = Metadata (names p)} in_sight (λ found. seen_look (λ ls ks alike. refl) (λ ls. seen_done))

module _ (seen : Path → Bool) where
  seen_item : (p : Option Path) (i : Item) → IfSome p (λ q. seen q ≡ true) → ReadsWithout seen (item_holds p i)
  seen_item None i known = without_done
  seen_item (Some p) (state_token t) known =
      without_look (λ ls ks alike. ap (λ (cs : List Lock). gives (not (starts_with ◌==◌ t (codes "DAV:")) && (list_all (λ l. is_held (requester_of (t ∷ []) true None) l || l.shared) cs
      && (list_any (is_held (requester_of (t ∷ []) true None)) cs || is_empty cs)))) (alike p known))
      (λ ls. without_done)
  seen_item (Some p) (entity_tag e) known = without_ask {c = Metadata p} known (λ found. without_done)

  seen_and : (b : Bool) (next : MethodPlan Bool) → ReadsWithout seen next → ReadsWithout seen (and_then b next)
  seen_and true next is = is
  seen_and false next is = without_done

  seen_or : (b : Bool) (next : MethodPlan Bool) → ReadsWithout seen next → ReadsWithout seen (or_else b next)
  seen_or true next is = without_done
  seen_or false next is = is

  seen_all : (p : Option Path) (cs : List Condition) → IfSome p (λ q. seen q ≡ true) → ReadsWithout seen (all_hold p cs)
  seen_all p [] known = without_done
  seen_all p (c ∷ cs) known = without_bind _ (seen_item p c.item known) (λ holds. seen_and _ _ (seen_all p cs known))

  seen_some : (lists : List Addressed) → All (λ l. IfSome l.path (λ q. seen q ≡ true)) lists → ReadsWithout seen (some_holds lists)
  seen_some [] known = without_done
  seen_some (l ∷ ls) known =
      without_bind _ (seen_all l.path l.conditions (All-head (λ l. IfSome l.path (λ q. seen q ≡ true)) l ls known)) (λ holds. seen_or _ _ (seen_some ls (All-tail (λ l. IfSome l.path (λ q. seen q ≡ true)) l ls known)))

  pub if_without : (o : Option (List Addressed)) → ((lists : List Addressed) → o ≡ Some lists → All (λ l. IfSome l.path (λ q. seen q ≡ true)) lists) → ReadsWithout seen (if_holds o)
  if_without None known = without_done
  if_without (Some lists) known = seen_some lists (known lists refl)

pub if_reads_seen : IfReadsSeen
if_reads_seen seen o known = seen_without (if_without seen o known)
