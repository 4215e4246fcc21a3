-- A plan that leaves the list of a folder's members leaves it.
use Rattle.std.proofs.Common.{◌≡◌, ◌++◌, ◌&&◌, ◌||◌, inl, inr, append-nil, ℕ, Bool, true, false, not, true≢false, List, [], ◌∷◌, Option, Some, None, Result, Ok, Err, refl, sym, ap, subst, ◌∙◌}
use Rattle.std.specs.Bool.{⊤}
use Rattle.std.specs.Option.{option_map}
use Rattle.dav_core.specs.declared.errors.FsError.{FsError}
use Rattle.dav_core.specs.declared.errors.DavError.{DavError}
use Rattle.dav_core.specs.declared.fs.DavMetaData.{DavMetaData}
use Rattle.dav_core.specs.Asking.{Call, Answer, StoreState, Asks, meaning, Metadata, ReadDir, EntryMetadata, CreateDir, RemoveDir, RemoveFile, Rename, Copy, HaveProps, PatchProps, GetProps, GetProp, GetQuota, SetAccessed, SetModified, Open, Read, Write, Seek, Flush, FileMetadata}
use Rattle.dav_core.specs.CallLaws.{IsProper, IsSameNode}
use Rattle.dav_core.specs.Handle.{Handle}
use Rattle.dav_core.specs.Locks.{Lock, Requester, is_held, is_free_parent, covers}
use Rattle.dav_core.specs.Path.{Path, is_root, is_same_path, is_at_or_under, parent_of}
use Rattle.dav_core.specs.Property.{Property, Patch}
use Rattle.dav_core.specs.World.{World, Node, node_at, is_folder, is_folder_node, is_folder_kind, file_made_with, IsWorld}
use Rattle.dav_core.proofs.Theorems.{same_path, path-itself, parent-append, members_same, nodes_stay, found, made_stands}
use Rattle.dav_engine.specs.Guard.{folder_of, IsListed, Stands}
use Rattle.dav_engine.specs.Inside.{content_of}
use Rattle.dav_engine.specs.Members.{is_member, is_folder_or_member, BringsNoMember, LeavesMembers, MembersStay, stay_ok, stay_err, stay_reads, stay_found, stay_seeks, stay_call, stay_look, stay_keep, stay_last, PlansLeaveMembers, PlansLeaveMembersCut, ParentFreeIsNoMember}
use Rattle.dav_engine.specs.Method.{MethodPlan}
use Rattle.dav_engine.specs.Plan.{Locks, Ran, ran_done, ran_ask, ran_look, ran_keep}
use Rattle.dav_engine.specs.PlanLaws.{ample}
use Rattle.dav_engine.specs.Reply.{Reply}
use Rattle.dav_engine.specs.Sparing.{NoneUnder}
use Rattle.dav_engine.specs.WorldLaws.{IsProperPlan, proper_done, proper_ask, proper_look, proper_keep}
use Rattle.dav_engine.proofs.CallWorlds.{Did, stays, means, did, did_leave, asks_keep, asks_tell}
use Rattle.dav_engine.proofs.FaultLemmas.{rest, at_path}
use Rattle.dav_engine.proofs.GuardedFolders.{free_passes, not_root}
use Rattle.dav_engine.proofs.PlanAnswers.{cuts_are_like_refusals}
use Rattle.dav_engine.proofs.SparingCalls.{spared_all, opened_all_same, written_all_same}
use Rattle.dav_engine.proofs.SparingLaw.{seek_same}

-- ---- members

or_left : (a b : Bool) → (a || b) ≡ false → a ≡ false
or_left true b h = cc
or_left false b h = refl

pub or_right : (a b : Bool) → (a || b) ≡ false → b ≡ false
or_right true b h = cc
or_right false b h = h

-- a name directly below a folder is one of its members
member_here : (f : Path) (x : List ℕ) → is_member f (f ++ x ∷ []) ≡ true
member_here f x =
    ap (λ b. not b && is_same_path (parent_of (f ++ x ∷ [])) f) (not_root f x [])
    ∙ ap (λ (q : Path). is_same_path q f) (parent-append f x [] ∙ append-nil f) ∙ path-itself f

or_true : (a : Bool) → (a || true) ≡ true
or_true true = refl
or_true false = refl

member_within : (f : Path) (x : List ℕ) → is_folder_or_member f (f ++ x ∷ []) ≡ true
member_within f x = ap (λ b. is_same_path f (f ++ x ∷ []) || b) (member_here f x) ∙ or_true (is_same_path f (f ++ x ∷ []))

folder_within : (f : Path) → is_folder_or_member f f ≡ true
folder_within f = ap (λ b. b || is_member f f) (path-itself f)

-- ---- what is outside

module _ (f p : Path) (outside : is_at_or_under f p ≡ false) where
  other_path : (q : Path) (b : Bool) → is_same_path f q ≡ b → is_at_or_under q p ≡ true → b ≡ false
  other_path q true is below = absurd (true≢false (sym below ∙ ap (λ (x : Path). is_at_or_under x p) (sym (same_path f q is)) ∙ outside))
  other_path q false is below = refl

  other_parent : (q : Path) (b : Bool) → is_same_path q f ≡ b → is_at_or_under q p ≡ true → b ≡ false
  other_parent q true is below = absurd (true≢false (sym below ∙ ap (λ (x : Path). is_at_or_under x p) (same_path q f is) ∙ outside))
  other_parent q false is below = refl

  not_member_by : (r q : Path) → q ≡ p ++ r → is_member f p ≡ false → is_member f q ≡ false
  not_member_by [] q at unlisted = ap (is_member f) (at ∙ append-nil p) ∙ unlisted
  not_member_by (y ∷ s) q at unlisted =
      let up : parent_of q ≡ p ++ parent_of (y ∷ s) = ap parent_of at ∙ parent-append p y s in
      ap (λ b. not b && is_same_path (parent_of q) f) (ap is_root at ∙ not_root p y s)
      ∙ other_parent (parent_of q) (is_same_path (parent_of q) f) refl (at_path p (parent_of q) (parent_of (y ∷ s)) up)

  -- what is neither the folder, nor above it, nor a member, has neither below it
  pub none_listed : is_member f p ≡ false → NoneUnder (is_folder_or_member f) p
  none_listed unlisted q below =
      let (r, at) = rest p q below in
      ap (λ b. b || is_member f q) (other_path q (is_same_path f q) refl below) ∙ not_member_by r q at unlisted

pub no_member_by : (h : Lock) (who : Requester) (p : Path) (ls : List Lock) → h.shared ≡ false → is_held who h ≡ false → IsListed h ls → is_free_parent who p ls ≡ true → is_member (folder_of h) p ≡ false
no_member_by h who [] ls exclusive unheld listed free = refl
no_member_by h who (y ∷ s) ls exclusive unheld listed free =
    let off : covers h (parent_of (y ∷ s)) ≡ false = free_passes h exclusive who unheld (parent_of (y ∷ s)) false ls listed free in
    other_way (or_left (is_same_path (folder_of h) (parent_of (y ∷ s))) _ off) (is_same_path (parent_of (y ∷ s)) (folder_of h)) refl
  where
    other_way : is_same_path (folder_of h) (parent_of (y ∷ s)) ≡ false → (b : Bool) → is_same_path (parent_of (y ∷ s)) (folder_of h) ≡ b → b ≡ false
    other_way off true is = absurd (true≢false (sym (path-itself (folder_of h)) ∙ ap (λ (q : Path). is_same_path (folder_of h) q) (sym (same_path (parent_of (y ∷ s)) (folder_of h) is)) ∙ off))
    other_way off false is = refl

pub parent_free_is_no_member : ParentFreeIsNoMember
parent_free_is_no_member h who p ls exclusive unheld listed free = no_member_by h who p ls exclusive unheld listed free

-- what an exclusive lock doesn't cover, and isn't a member, is neither the folder nor a member
pub apart_listed : (h : Lock) (p : Path) → covers h p ≡ false → is_member (folder_of h) p ≡ false → is_folder_or_member (folder_of h) p ≡ false
apart_listed h p off unlisted = ap (λ b. b || is_member (folder_of h) p) (or_left (is_same_path (folder_of h) p) _ off) ∙ unlisted

-- ---- kinds of nodes

abbrev kind_in : Option Node → Option Bool
kind_in o = option_map (λ (n : Node). is_folder_kind n.kind) o

-- at the folder and directly below it is what was there: a folder, a file, or nothing
abbrev SameKinds : Path → World → World → Type 0
SameKinds f w v = (q : Path) → is_folder_or_member f q ≡ true → kind_in (node_at w q) ≡ kind_in (node_at v q)

kinds_of : (o o' : Option Node) → option_map content_of o ≡ option_map content_of o' → kind_in o ≡ kind_in o'
kinds_of None None same = refl
kinds_of None (Some m) same = cc
kinds_of (Some n) None same = cc
kinds_of (Some n) (Some m) same = let both : content_of n ≡ content_of m = cc in ap (λ c. Some (is_folder_kind c.0)) both

folder_kind : (o o' : Option Node) → kind_in o ≡ kind_in o' → is_folder_node o ≡ true → is_folder_node o' ≡ true
folder_kind None o' same is = cc
folder_kind (Some n) None same is = cc
folder_kind (Some n) (Some m) same is = let both : is_folder_kind n.kind ≡ is_folder_kind m.kind = cc in sym both ∙ is

folder_is_there : (o : Option Node) → o ≡ None → is_folder_node o ≡ true → ⊥
folder_is_there None none is = cc
folder_is_there (Some n) none is = cc

-- ---- one call

-- something is at the path that is known
abbrev pub KnownThere : Option Path → World → Type 0
KnownThere None w = Unit {0}
KnownThere (Some p) w = (n : Node) × (node_at w p ≡ Some n)

known_same : (known : Option Path) (w v : World) → v ≡ w → KnownThere known w → KnownThere known v
known_same known w v is there = subst (KnownThere known) (sym is) there

module _ (f : Path) (known : Option Path) (w : World) (world : IsWorld w) (folder : is_folder w f ≡ true) (there : KnownThere known w) where
  -- what isn't there, at the folder or as a member, isn't where something may be put
  elsewhere_by : (p q : Path) → is_folder_or_member f q ≡ true → node_at w q ≡ None → BringsNoMember f known p → (b : Bool) → is_same_path p q ≡ b → b ≡ false
  elsewhere_by p q within none brings false is = refl
  elsewhere_by p q within none (inl unlisted) true is =
      let same : p ≡ q = same_path p q is in
      let other : is_member f q ≡ false = ap (is_member f) (sym same) ∙ unlisted in
      absurd (not_folder (is_same_path f q) refl (sym (or_false (is_same_path f q) other) ∙ within))
    where
      or_false : (a : Bool) → is_member f q ≡ false → (a || is_member f q) ≡ a
      or_false true other = refl
      or_false false other = other

      not_folder : (b : Bool) → is_same_path f q ≡ b → b ≡ true → ⊥
      not_folder true is yes' = folder_is_there (node_at w f) (ap (node_at w) (same_path f q is) ∙ none) folder
      not_folder false is yes' = cc
  elsewhere_by p q within none (inr at) true is =
      let (n, stands) = subst (λ (k : Option Path). KnownThere k w) at there in
      let clash : None ≡ Some n = sym none ∙ ap (node_at w) (sym (same_path p q is)) ∙ stands in
      cc

  elsewhere : (p q : Path) → is_folder_or_member f q ≡ true → node_at w q ≡ None → BringsNoMember f known p → is_same_path p q ≡ false
  elsewhere p q within none brings = elsewhere_by p q within none brings (is_same_path p q) refl

  -- what is there stays, and where nothing is nothing comes
  kind_by : (v : World) (q : Path) → ((n : Node) → node_at w q ≡ Some n → (m : Node) × (node_at v q ≡ Some m) × IsSameNode n m)
      → (node_at w q ≡ None → option_map content_of (node_at w q) ≡ option_map content_of (node_at v q))
      → (o : Option Node) → node_at w q ≡ o → kind_in (node_at w q) ≡ kind_in (node_at v q)
  kind_by v q kept comes (Some n) is =
      let (m, at, still) = kept n is in
      ap kind_in is ∙ ap Some (sym still.1) ∙ sym (ap kind_in at)
  kind_by v q kept comes None is = kinds_of (node_at w q) (node_at v q) (comes is)

  -- the one path q, as the paths that a call spares
  abbrev only : Path → Path → Bool
  only q x = is_same_path x q

  patched_elsewhere : (p q : Path) (patches : List Patch) (r : List (ℕ × Property) × World) → meaning (PatchProps p patches) w ≡ Ok r → node_at w q ≡ None → (b : Bool) → is_same_path p q ≡ b → b ≡ false
  unfolding meaning
  patched_elsewhere p q patches r h none true is =
      let (n, stood, h1) = found (node_at w p) _ r h in
      let clash : None ≡ Some n = sym none ∙ ap (node_at w) (sym (same_path p q is)) ∙ stood in
      cc
  patched_elsewhere p q patches r h none false is = refl

  -- the file to which is written is there
  written_elsewhere : (k : Handle) (bytes : List ℕ) (now : ℕ) (q : Path) (r : Handle × World) → meaning (Write k bytes now) w ≡ Ok r → node_at w q ≡ None
      → option_map content_of (node_at w q) ≡ option_map content_of (node_at r.1 q)
  unfolding meaning
  written_elsewhere k bytes now q r h none =
      let (n, stood, h1) = found (file_made_with k.made w.nodes) _ r h in
      let (p, at, made, file) = made_stands k.made w.nodes world.tree.sorted n stood in
      written_all_same (only q) (k.made, p) k bytes now w r world (n, at, made) refl (apart p at (is_same_path p q) refl) h q (path-itself q)
    where
      apart : (p : Path) {n : Node} → node_at w p ≡ Some n → (b : Bool) → is_same_path p q ≡ b → b ≡ false
      apart p {n} at true is = let clash : None ≡ Some n = sym none ∙ ap (node_at w) (sym (same_path p q is)) ∙ at in cc
      apart p at false is = refl

  pub kinds_left : (c : Call) (r : Answer c × World) → LeavesMembers f known c → IsProper c → meaning c w ≡ Ok r → SameKinds f w r.1
  kinds_left (CreateDir p now) r out proper h q within =
      kind_by r.1 q (λ n is. nodes_stay (CreateDir p now) w r q n proper world h is (λ t. t))
      (λ none. (spared_all (only q) (CreateDir p now) w r (elsewhere p q within none out) proper world h).same q (path-itself q)) (node_at w q) refl
  kinds_left (Open p how now) r out proper h q within =
      kind_by r.1 q (λ n is. nodes_stay (Open p how now) w r q n proper world h is (λ t. t))
      (λ none. opened_all_same (only q) p how now w r (elsewhere p q within none out) h q (path-itself q)) (node_at w q) refl
  kinds_left (Copy from to now) r out proper h q within =
      kind_by r.1 q (λ n is. nodes_stay (Copy from to now) w r q n proper world h is (λ t. t))
      (λ none. (spared_all (only q) (Copy from to now) w r (elsewhere to q within none out) proper world h).same q (path-itself q)) (node_at w q) refl
  kinds_left (PatchProps p patches) r out proper h q within =
      kind_by r.1 q (λ n is. nodes_stay (PatchProps p patches) w r q n proper world h is (λ t. t))
      (λ none. (spared_all (only q) (PatchProps p patches) w r (patched_elsewhere p q patches r h none (is_same_path p q) refl) proper world h).same q (path-itself q)) (node_at w q) refl
  kinds_left (Write k bytes now) r out proper h q within =
      kind_by r.1 q (λ n is. nodes_stay (Write k bytes now) w r q n proper world h is (λ t. t)) (written_elsewhere k bytes now q r h) (node_at w q) refl
  kinds_left (RemoveDir p now) r out proper h q within = kinds_of (node_at w q) (node_at r.1 q) ((spared_all (is_folder_or_member f) (RemoveDir p now) w r out proper world h).same q within)
  kinds_left (RemoveFile p now) r out proper h q within = kinds_of (node_at w q) (node_at r.1 q) ((spared_all (is_folder_or_member f) (RemoveFile p now) w r out proper world h).same q within)
  kinds_left (Rename from to now) r out proper h q within = kinds_of (node_at w q) (node_at r.1 q) ((spared_all (is_folder_or_member f) (Rename from to now) w r out proper world h).same q within)
  kinds_left (Metadata p) r out proper h q within = absurd out
  kinds_left (ReadDir p) r out proper h q within = absurd out
  kinds_left (EntryMetadata p) r out proper h q within = absurd out
  kinds_left (HaveProps p) r out proper h q within = absurd out
  kinds_left (GetProps p content) r out proper h q within = absurd out
  kinds_left (GetProp p key) r out proper h q within = absurd out
  kinds_left GetQuota r out proper h q within = absurd out
  kinds_left (SetAccessed p now) r out proper h q within = absurd out
  kinds_left (SetModified p now) r out proper h q within = absurd out
  kinds_left (Read k count) r out proper h q within = absurd out
  kinds_left (Seek k to) r out proper h q within = absurd out
  kinds_left (Flush k) r out proper h q within = absurd out
  kinds_left (FileMetadata k) r out proper h q within = absurd out

  kinds_did : (c : Call) (v : World) (answer : Result (Answer c) FsError) → LeavesMembers f known c → IsProper c → Did (meaning c w) w answer v → SameKinds f w v
  kinds_did c v answer out proper (stays e failed is) = subst (SameKinds f w) (sym is) (λ q within. refl)
  kinds_did c v answer out proper (means r h gave is) = subst (SameKinds f w) (sym is) (kinds_left c r out proper h)

-- what the store reports is there
reported : (p : Path) (w v : World) (m : DavMetaData) → Did (meaning (Metadata p) w) w (Ok m) v → KnownThere (Some p) w
unfolding meaning
reported p w v m (stays e failed is) = cc
reported p w v m (means r h gave is) = let (n, stood, h1) = found (node_at w p) _ r h in (n, stood)

-- ---- the law

record Leaves (f : Path) (w v : World) : Type 0 where
  kinds : SameKinds f w v
  world : IsWorld v

module _ (h : Lock) (whole : Bool) {A : Type 0} (P : Option Path → A → Type 0) where
  abbrev F : Path
  F = folder_of h

  abbrev IsThere : World → Type 0
  IsThere w = is_folder w F ≡ true

  still_there : (w m : World) → SameKinds F w m → IsThere w → IsThere m
  still_there w m same is = folder_kind (node_at w F) (node_at m F) (same F (folder_within F)) is

  on : (w m v : World) → SameKinds F w m → Leaves F m v → Leaves F w v
  on w m v same rest = record { kinds = λ q within. same q within ∙ rest.kinds q within; world = rest.world }

  same_world : (w m : World) → m ≡ w → SameKinds F w m
  same_world w m is = subst (SameKinds F w) (sym is) (λ q within. refl)

  leaves : {known : Option Path} {plan : MethodPlan A} {old new : StoreState} {ls ms : Locks} {a : Result A DavError}
      → MembersStay h whole P known plan → IsProperPlan plan → Ran Asks plan old ls a new ms → Stands h ls → IsWorld old.world → KnownThere known old.world → IsThere old.world → Leaves F old.world new.world
  leaves (stay_ok is) proper_done ran_done stands world there folder = record { kinds = λ q within. refl; world = world }
  leaves stay_err proper_done ran_done stands world there folder = record { kinds = λ q within. refl; world = world }
  leaves {known} (stay_reads {c = c} only more) (proper_ask proper next) (ran_ask {old} {mid} {new} {answer = answer} one rest) stands world there folder =
      let same : mid.world ≡ old.world = did_leave c old.world mid.world answer only (did one) in
      let kinds = same_world old.world mid.world same in
      on old.world mid.world new.world kinds
      (leaves (more answer) (next answer (asks_tell world one)) rest stands (asks_keep proper world one).world (known_same known old.world mid.world same there) (still_there old.world mid.world kinds folder))
  leaves (stay_found {p = p} more failed) (proper_ask proper next) (ran_ask {old} {mid} {new} {answer = Ok m} one rest) stands world there folder =
      let same : mid.world ≡ old.world = did_leave (Metadata p) old.world mid.world (Ok m) tt (did one) in
      let kinds = same_world old.world mid.world same in
      on old.world mid.world new.world kinds
      (leaves (more m) (next (Ok m) (asks_tell world one)) rest stands (asks_keep proper world one).world (known_same (Some p) old.world mid.world same (reported p old.world mid.world m (did one)))
      (still_there old.world mid.world kinds folder))
  leaves {known} (stay_found {p = p} more failed) (proper_ask proper next) (ran_ask {old} {mid} {new} {answer = Err e} one rest) stands world there folder =
      let same : mid.world ≡ old.world = did_leave (Metadata p) old.world mid.world (Err e) tt (did one) in
      let kinds = same_world old.world mid.world same in
      on old.world mid.world new.world kinds
      (leaves (failed e) (next (Err e) (asks_tell world one)) rest stands (asks_keep proper world one).world (known_same known old.world mid.world same there) (still_there old.world mid.world kinds folder))
  leaves {known} (stay_seeks {k = k} {to} more failed) (proper_ask proper next) (ran_ask {old} {mid} {new} {answer = Ok (place, j)} one rest) stands world there folder =
      let same : mid.world ≡ old.world = did_leave (Seek k to) old.world mid.world (Ok (place, j)) tt (did one) in
      let kinds = same_world old.world mid.world same in
      on old.world mid.world new.world kinds
      (leaves (more place j (seek_same k to old.world mid.world place j (did one))) (next (Ok (place, j)) (asks_tell world one)) rest stands (asks_keep proper world one).world
      (known_same known old.world mid.world same there) (still_there old.world mid.world kinds folder))
  leaves {known} (stay_seeks {k = k} {to} more failed) (proper_ask proper next) (ran_ask {old} {mid} {new} {answer = Err e} one rest) stands world there folder =
      let same : mid.world ≡ old.world = did_leave (Seek k to) old.world mid.world (Err e) tt (did one) in
      let kinds = same_world old.world mid.world same in
      on old.world mid.world new.world kinds
      (leaves (failed e) (next (Err e) (asks_tell world one)) rest stands (asks_keep proper world one).world (known_same known old.world mid.world same there) (still_there old.world mid.world kinds folder))
  leaves {known} (stay_call {c = c} out more) (proper_ask proper next) (ran_ask {old} {mid} {new} {answer = answer} one rest) stands world there folder =
      let kinds = kinds_did F known old.world world folder there c mid.world answer out proper (did one) in
      on old.world mid.world new.world kinds
      (leaves (more answer) (next answer (asks_tell world one)) rest stands (asks_keep proper world one).world tt (still_there old.world mid.world kinds folder))
  leaves (stay_look more) (proper_look next) (ran_look {ls = Some ls} rest) stands world there folder = leaves (more ls stands) (next (Some ls)) rest stands world there folder
  leaves (stay_look more) (proper_look next) (ran_look {ls = None} rest) stands world there folder = absurd stands
  leaves (stay_keep listed more) (proper_keep next) (ran_keep {ls = Some ls} rest) stands world there folder = leaves more next rest listed world there folder
  leaves (stay_keep listed more) (proper_keep next) (ran_keep {ls = None} rest) stands world there folder = absurd stands
  leaves (stay_last is) (proper_keep next) (ran_keep ran_done) stands world there folder = record { kinds = λ q within. refl; world = world }

pub plans_leave_members : PlansLeaveMembers
plans_leave_members h plan old new ls ms a stay proper ran stands world folder =
    let left = leaves h true (λ known a. ⊤) stay proper ran stands world tt folder in
    record {
      folder = still_there h true {A = Reply} (λ known a. ⊤) old.world new.world left.kinds folder;
      listed = members_same (folder_of h) (folder_of h) new.world old.world left.world world (λ x. sym (left.kinds (folder_of h ++ x ∷ []) (member_within (folder_of h) x)));
    }

-- a plan in which memory runs out leaves the store as it does where some of its calls are refused
pub plans_leave_members_cut : PlansLeaveMembersCut
plans_leave_members_cut h plan old new ls ms stay proper cut stands world folder =
    let (refusals, a, ks, ran, list) = cuts_are_like_refusals plan old new ls ls ms cut in
    plans_leave_members h plan (ample old.world refusals) (ample new.world []) ls ks a stay proper ran stands world folder
