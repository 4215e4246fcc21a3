-- The law of plans that go side by side.
use Rattle.std.proofs.Common.{◌≡◌, ℕ, ◌++◌, inl, inr, Bool, true, false, true≢false, List, [], ◌∷◌, append-nil, append_assoc, Option, Some, None, Result, Ok, Err, refl, sym, ap, subst, ◌∙◌}
use Rattle.std.specs.Bool.{⊤}
use Rattle.std.specs.Option.{option_map, unwrap_or}
use Rattle.std.specs.declared.io.traits.SeekFrom.{SeekFrom}
use Rattle.dav_core.specs.declared.errors.FsError.{FsError}
use Rattle.dav_core.specs.declared.errors.FsError.TheVariants.{GeneralFailure, NotImplemented}
use Rattle.dav_core.specs.declared.errors.DavError.{DavError}
use Rattle.dav_core.specs.Asking.{Call, Answer, StoreState, Asks, asked, ran_short, ask, answered, next_refusal, rest_of, meaning, Metadata, ReadDir, EntryMetadata, CreateDir, RemoveDir, RemoveFile, Rename, Copy, HaveProps, PatchProps, GetProps, GetProp, GetQuota, SetAccessed, SetModified, Open, Read, Write, Seek, Flush, FileMetadata}
use Rattle.dav_core.specs.CallLaws.{IsProper, TakesAway, brought}
use Rattle.dav_core.specs.Handle.{Handle, Opening}
use Rattle.dav_core.specs.Locks.{Lock}
use Rattle.dav_core.specs.Meaning.{Meaning}
use Rattle.dav_core.specs.Path.{Path, rest_after, has_names, is_under}
use Rattle.dav_core.specs.World.{World, node_at, IsWorld}
use Rattle.dav_core.proofs.Theorems.{from_rest, nodes_stay, opened_stands, calls_keep_worlds, made_stands, rest_after-append}
use Rattle.dav_engine.specs.Method.{MethodPlan}
use Rattle.dav_engine.specs.Plan.{Plan, Locks, Ran, ran_done, ran_ask, ran_look, ran_keep}
use Rattle.dav_engine.specs.WorldLaws.{IsProperPlan, proper_done, proper_ask, proper_look, proper_keep}
use Rattle.dav_engine.proofs.CallWorlds.{Did, stays, means, did, asks_keep, asks_tell}
use Rattle.dav_engine.proofs.PlanLemmas.{ran_unset}
use Rattle.dav_engine.specs.Guard.{folder_of, Guarded}
use Rattle.dav_engine.specs.Inside.{HasFoldersAbove}
use Rattle.dav_engine.specs.Alongside.{TakesNumber, FindsNoNumber, AsksWithNumbers, SameResult, SameMetadata, BothOpen, SameHandle, AreOpen, IsCallInside, SameAnswer, Alongside, side_ok, side_err, side_asks, side_opens, side_reads, side_writes, side_seeks, side_flushes, side_tells, side_look, side_keep, side_last, IsFileAt, AreBothThere, AreAlike, Agrees, SameAnswers, AlongsideAgree}
use Rattle.dav_engine.proofs.BesideLemmas.{Beside, beside_err, beside_ok, used_up, Like, metadata_beside, copy_beside, rename_beside, patch_beside, get_props_beside, get_prop_beside, read_dir_beside, create_beside, remove_dir_beside, remove_file_beside, open_beside, flush_beside, tells_beside, seek_beside, read_beside, write_beside}
use Rattle.dav_engine.proofs.FaultLemmas.{not_above, strictly}
use Rattle.dav_engine.proofs.SparingCalls.{folder_stays}

-- ---- two calls side by side under the same refusals

record Pair {A B : Type 0} (R : A → B → Type 0) (S : World → World → Type 0) (a : Result A FsError) (b : Result B FsError) (w v : World) : Type 0 where
  outcomes : SameResult R a b
  worlds : S w v

paired : {A B : Type 0} {R : A → B → Type 0} {S : World → World → Type 0} (a a' : Result A FsError) (b b' : Result B FsError) (w w' v v' : World) → a ≡ a' → w ≡ w' → b ≡ b' → v ≡ v' → SameResult R a' b' → S w' v' → Pair R S a b w v
paired {R = R} {S} a a' b b' w w' v v' is world is' world' outcomes worlds = record {
  outcomes = subst (λ x. SameResult R x b) (sym is) (subst (λ y. SameResult R a' y) (sym is') outcomes);
  worlds = subst (λ (x : World). S x v) (sym world) (subst (λ (y : World). S w' y) (sym world') worlds);
}

module _ {A B : Type 0} {U : Type 0} {R : A → B → Type 0} {S : World → World → Type 0} where
  pair_answered : {m : Meaning A} {n : Meaning B} (w v w1 v1 : World) (a : Result A FsError) (b : Result B FsError) → Beside U R S m n → (U → ¬ (m ≡ Err GeneralFailure)) → S w v
      → (a, w1) ≡ answered w m → (b, v1) ≡ answered v n → Pair R S a b w1 v1
  pair_answered w v w1 v1 a b (beside_err e) room like is is' =
      paired a (Err e) b (Err e) w1 w v1 v (ap (λ x. x.0) is) (ap (λ x. x.1) is) (ap (λ x. x.0) is') (ap (λ x. x.1) is') refl like
  pair_answered w v w1 v1 a b (beside_ok {a = x} {b = y} {v = w2} {u = v2} r s) room like is is' =
      paired a (Ok x) b (Ok y) w1 w2 v1 v2 (ap (λ x. x.0) is) (ap (λ x. x.1) is) (ap (λ x. x.0) is') (ap (λ x. x.1) is') r s
  pair_answered w v w1 v1 a b (used_up u) room like is is' = absurd (room u refl)

module _ (c c' : Call) {R : Answer c → Answer c' → Type 0} {S : World → World → Type 0} where
  pair_asked : (w v w1 v1 : World) (refusals : List (Option FsError)) (a : Result (Answer c) FsError) (b : Result (Answer c') FsError)
      → Beside (TakesNumber c) R S (meaning c w) (meaning c' v) → (next_refusal refusals ≡ None → ¬ FindsNoNumber c w) → S w v
      → (a, w1) ≡ ask c w refusals → (b, v1) ≡ ask c' v refusals → Pair R S a b w1 v1
  pair_asked w v w1 v1 [] a b beside room like is is' = pair_answered w v w1 v1 a b beside (λ u none. room refl (u, none)) like is is'
  pair_asked w v w1 v1 (None ∷ rs) a b beside room like is is' = pair_answered w v w1 v1 a b beside (λ u none. room refl (u, none)) like is is'
  pair_asked w v w1 v1 (Some e ∷ rs) a b beside room like is is' =
      paired a (Err e) b (Err e) w1 w v1 v (ap (λ x. x.0) is) (ap (λ x. x.1) is) (ap (λ x. x.0) is') (ap (λ x. x.1) is') refl like

  pair : {old mid old' mid' : StoreState} {a : Result (Answer c) FsError} {b : Result (Answer c') FsError}
      → AsksWithNumbers c old a mid → Asks c' old' b mid' → mid.short ≡ false → mid'.short ≡ false → old.refusals ≡ old'.refusals
      → Beside (TakesNumber c) R S (meaning c old.world) (meaning c' old'.world) → S old.world old'.world → Pair R S a b mid.world mid'.world × (mid.refusals ≡ mid'.refusals)
  pair {old} {mid} {old'} {mid'} {a} {b} (asked one, room) (asked other) u u' same beside like =
      let also : (b, mid'.world) ≡ ask c' old'.world old.refusals = other.as_asked ∙ ap (ask c' old'.world) (sym same) in
      (pair_asked old.world old'.world mid.world mid'.world old.refusals a b beside room like one.as_asked also, one.refusals ∙ ap rest_of same ∙ sym other.refusals)
  pair (ran_short one, room) other u u' same beside like = absurd (true≢false (sym one.short ∙ u))
  pair (asked one, room) (ran_short other) u u' same beside like = absurd (true≢false (sym other.short ∙ u'))

-- ---- what stays

-- a call that takes away neither a folder above this one nor the file that is open, and brings nothing elsewhere
SparesFile : Path → Option BothOpen → Call → Type 0
SparesFile folder None c = ⊤
SparesFile folder (Some file) c = ¬ TakesAway c (folder ++ file.at) × (brought c (folder ++ file.at) ≡ folder ++ file.at)

Calmly : Path → Option BothOpen → Call → Type 0
Calmly folder file c = ((p : Path) → is_under folder p ≡ true → ¬ TakesAway c p) × ((p : Path) → is_under folder p ≡ true → brought c p ≡ p) × SparesFile folder file c

above_after : (folder : Path) (file : Option BothOpen) (c : Call) (w v : World) (a : Result (Answer c) FsError) → Calmly folder file c → IsProper c → IsWorld w → Did (meaning c w) w a v → HasFoldersAbove folder w → HasFoldersAbove folder v
unfolding Calmly
above_after folder file c w v a calm proper world (stays e failed is) above = subst (HasFoldersAbove folder) (sym is) above
above_after folder file c w v a calm proper world (means r h gave is) above = subst (HasFoldersAbove folder) (sym is) (λ p up. folder_stays c w r p proper world h (calm.0 p up) (calm.1 p up) (above p up))

file_after : (p : Path) (made : ℕ) (c : Call) (w v : World) (a : Result (Answer c) FsError) → ¬ TakesAway c p → brought c p ≡ p → IsProper c → IsWorld w → Did (meaning c w) w a v → IsFileAt w p made → IsFileAt v p made
file_after p made c w v a spared still proper world (stays e failed is) there = subst (λ (x : World). IsFileAt x p made) (sym is) there
file_after p made c w v a spared still proper world (means r h gave is) (n, at, same, file) =
    let (m, stood, alike) = nodes_stay c w r p n proper world h at spared in
    subst (λ (x : World). IsFileAt x p made) (sym is) (m, ap (λ (q : Path). node_at r.1 q) (sym still) ∙ stood, alike.0 ∙ same, alike.1 ∙ file)

there_after : (folder : Path) (file : Option BothOpen) (c c' : Call) (w v w' v' : World) (a : Result (Answer c) FsError) (b : Result (Answer c') FsError) → Calmly folder file c → Calmly folder file c' → IsProper c → IsProper c' → IsWorld w → IsWorld w'
    → Did (meaning c w) w a v → Did (meaning c' w') w' b v' → AreBothThere folder file w w' → AreBothThere folder file v v'
unfolding Calmly SparesFile
there_after folder None c c' w v w' v' a b calm calm' proper proper' world world' d d' there = tt
there_after folder (Some file) c c' w v w' v' a b calm calm' proper proper' world world' d d' there = (
  file_after (folder ++ file.at) file.here c w v a calm.2.0 calm.2.1 proper world d there.0,
  file_after (folder ++ file.at) file.alone c' w' v' b calm'.2.0 calm'.2.1 proper' world' d' there.1,
)

record Stepped {A B : Type 0} (R : A → B → Type 0) (folder : Path) (file : Option BothOpen) (a : Result A FsError) (b : Result B FsError) (mid mid' : StoreState) : Type 0 where
  outcomes : SameResult R a b
  alike : AreAlike folder file mid.world mid'.world
  refusals : mid.refusals ≡ mid'.refusals

-- two calls side by side, and what they leave
stepped : (folder : Path) (file : Option BothOpen) (c c' : Call) {R : Answer c → Answer c' → Type 0} {old mid old' mid' : StoreState} {a : Result (Answer c) FsError} {b : Result (Answer c') FsError}
    → Calmly folder file c → Calmly folder file c' → IsProper c → IsProper c' → AsksWithNumbers c old a mid → Asks c' old' b mid' → mid.short ≡ false → mid'.short ≡ false → old.refusals ≡ old'.refusals
    → AreAlike folder file old.world old'.world → Beside (TakesNumber c) R (Like folder) (meaning c old.world) (meaning c' old'.world) → Stepped R folder file a b mid mid'
stepped folder file c c' {R} {old} {mid} {old'} {mid'} {a} {b} calm calm' proper proper' one one' u u' same alike beside =
    let (p, rest) = pair c c' {S = Like folder} one one' u u' same beside (alike.same, alike.next) in
    let kept = asks_keep proper alike.world one.0 in
    let kept' = asks_keep proper' alike.world_alone one' in
    record {
      outcomes = p.outcomes;
      refusals = rest;
      alike = record {
        same = p.worlds.0;
        next = p.worlds.1;
        above = above_after folder file c old.world mid.world a calm proper alike.world (did one.0) alike.above;
        above_alone = above_after folder file c' old'.world mid'.world b calm' proper' alike.world_alone (did one') alike.above_alone;
        world = kept.world;
        world_alone = kept'.world;
        there = there_after folder file c c' old.world mid.world old'.world mid'.world a b calm calm' proper proper' alike.world alike.world_alone (did one.0) (did one') alike.there;
      };
    }

-- ---- the calls

module _ (folder : Path) {file : Option BothOpen} (w v : World) (alike : AreAlike folder file w v) where
  inside_means : (c : Call) → IsCallInside folder c → Beside (TakesNumber c) (SameAnswer c) (Like folder) (meaning c w) (meaning c v)
  unfolding meaning
  inside_means (Metadata p) (rest, is) =
      subst (λ (q : Path). Beside ⊥ SameMetadata (Like folder) (meaning (Metadata q) w) (meaning (Metadata q) v)) (sym is)
      (metadata_beside folder w v alike.same alike.next alike.above alike.above_alone alike.world rest)
  inside_means (CreateDir p now) (rest, is) =
      subst (λ (q : Path). Beside ⊤ (λ a b. ⊤) (Like folder) (meaning (CreateDir q now) w) (meaning (CreateDir q now) v)) (sym is)
      (create_beside folder w v alike.same alike.next alike.above alike.above_alone alike.world ⊤ tt rest now)
  inside_means (ReadDir p) (rest, is) =
      subst (λ (q : Path). Beside ⊥ (λ a b. a ≡ b) (Like folder) (meaning (ReadDir q) w) (meaning (ReadDir q) v)) (sym is)
      (read_dir_beside folder w v alike.same alike.next alike.above alike.above_alone alike.world alike.world_alone rest)
  inside_means (EntryMetadata p) (rest, is) =
      subst (λ (q : Path). Beside ⊥ SameMetadata (Like folder) (meaning (EntryMetadata q) w) (meaning (EntryMetadata q) v)) (sym is)
      (metadata_beside folder w v alike.same alike.next alike.above alike.above_alone alike.world rest)
  inside_means (RemoveDir p now) (rest, is) =
      subst (λ (q : Path). Beside ⊥ (λ a b. ⊤) (Like folder) (meaning (RemoveDir q now) w) (meaning (RemoveDir q now) v)) (sym is)
      (remove_dir_beside folder w v alike.same alike.next alike.above alike.above_alone alike.world alike.world_alone rest now)
  inside_means (RemoveFile p now) (rest, is) =
      subst (λ (q : Path). Beside ⊥ (λ a b. ⊤) (Like folder) (meaning (RemoveFile q now) w) (meaning (RemoveFile q now) v)) (sym is)
      (remove_file_beside folder w v alike.same alike.next alike.above alike.above_alone alike.world rest now)
  inside_means (Rename from to now) ((rest, is), (place, at)) =
      subst (λ (q : Path). Beside ⊥ (λ a b. ⊤) (Like folder) (meaning (Rename from q now) w) (meaning (Rename from q now) v)) (sym at)
      (subst (λ (p : Path). Beside ⊥ (λ a b. ⊤) (Like folder) (meaning (Rename p (folder ++ place) now) w) (meaning (Rename p (folder ++ place) now) v)) (sym is)
      (rename_beside folder w v alike.same alike.next alike.above alike.above_alone alike.world alike.world_alone rest place now))
  inside_means (Copy from to now) ((rest, is), (place, at)) =
      subst (λ (q : Path). Beside ⊤ (λ a b. ⊤) (Like folder) (meaning (Copy from q now) w) (meaning (Copy from q now) v)) (sym at)
      (subst (λ (p : Path). Beside ⊤ (λ a b. ⊤) (Like folder) (meaning (Copy p (folder ++ place) now) w) (meaning (Copy p (folder ++ place) now) v)) (sym is)
      (copy_beside folder w v alike.same alike.next alike.above alike.above_alone alike.world ⊤ tt rest place now))
  inside_means (HaveProps p) inside = beside_ok refl (alike.same, alike.next)
  inside_means (PatchProps p patches) (rest, is) =
      subst (λ (q : Path). Beside ⊥ (λ a b. a ≡ b) (Like folder) (meaning (PatchProps q patches) w) (meaning (PatchProps q patches) v)) (sym is)
      (patch_beside folder w v alike.same alike.next alike.above alike.above_alone alike.world rest patches)
  inside_means (GetProps p content) (rest, is) =
      subst (λ (q : Path). Beside ⊥ (λ a b. a ≡ b) (Like folder) (meaning (GetProps q content) w) (meaning (GetProps q content) v)) (sym is)
      (get_props_beside folder w v alike.same alike.next alike.above alike.above_alone alike.world rest content)
  inside_means (GetProp p key) (rest, is) =
      subst (λ (q : Path). Beside ⊥ (λ a b. a ≡ b) (Like folder) (meaning (GetProp q key) w) (meaning (GetProp q key) v)) (sym is)
      (get_prop_beside folder w v alike.same alike.next alike.above alike.above_alone alike.world rest key)
  inside_means GetQuota inside = beside_err NotImplemented
  inside_means (SetAccessed p now) inside = absurd inside
  inside_means (SetModified p now) inside = absurd inside
  inside_means (Open p how now) inside = absurd inside
  inside_means (Read j count) inside = absurd inside
  inside_means (Write j bytes now) inside = absurd inside
  inside_means (Seek j to) inside = absurd inside
  inside_means (Flush j) inside = absurd inside
  inside_means (FileMetadata j) inside = absurd inside

  open_means : (rest : Path) (how : Opening) (now : ℕ) → Beside ⊤ SameHandle (Like folder) (meaning (Open (folder ++ rest) how now) w) (meaning (Open (folder ++ rest) how now) v)
  unfolding meaning
  open_means rest how now = open_beside folder w v alike.same alike.next alike.above alike.above_alone alike.world ⊤ tt rest how now

-- nothing in a folder is above it
not_above_itself : (folder rest : Path) → is_under folder (folder ++ rest) ≡ true → ⊥
not_above_itself folder [] up =
    let none : rest_after folder folder ≡ Some [] = ap (rest_after folder) (sym (append-nil folder)) ∙ rest_after-append folder [] in
    true≢false (sym up ∙ ap (λ (p : Path). has_names (rest_after p folder)) (append-nil folder) ∙ ap has_names none)
not_above_itself folder (x ∷ r) up = true≢false (sym (strictly (folder ++ x ∷ r) folder up) ∙ not_above folder x r)

spares_above : (folder rest p q : Path) → p ≡ folder ++ rest → is_under folder q ≡ true → p ≡ q → ⊥
spares_above folder rest p q is up same = not_above_itself folder rest (ap (is_under folder) (sym is ∙ same) ∙ up)

-- what is above a folder isn't moved with what is in it
unmoved : (folder rest from to p : Path) → from ≡ folder ++ rest → is_under folder p ≡ true → (o : Option Path) → rest_after from p ≡ o → unwrap_or (option_map (λ r. to ++ r) o) p ≡ p
unmoved folder rest from to p is up None none = refl
unmoved folder rest from to p is up (Some r) some =
    let whole : p ≡ folder ++ (rest ++ r) = from_rest from p r some ∙ ap (λ (x : Path). x ++ r) is ∙ append_assoc folder rest r in
    absurd (not_above_itself folder (rest ++ r) (ap (is_under folder) (sym whole) ∙ up))

inside_calm : (folder : Path) (c : Call) → IsCallInside folder c → Calmly folder None c
unfolding Calmly SparesFile
inside_calm folder (Metadata p) inside = (λ q up t. t, λ q up. refl, tt)
inside_calm folder (CreateDir p now) inside = (λ q up t. t, λ q up. refl, tt)
inside_calm folder (ReadDir p) inside = (λ q up t. t, λ q up. refl, tt)
inside_calm folder (EntryMetadata p) inside = (λ q up t. t, λ q up. refl, tt)
inside_calm folder (RemoveDir p now) (rest, is) = (λ q up same. spares_above folder rest p q is up same, λ q up. refl, tt)
inside_calm folder (RemoveFile p now) (rest, is) = (λ q up same. spares_above folder rest p q is up same, λ q up. refl, tt)
inside_calm folder (Rename from to now) ((rest, is), (place, at)) = (λ q up t. spares_above folder place to q at up t.1, λ q up. unmoved folder rest from to q is up (rest_after from q) refl, tt)
inside_calm folder (Copy from to now) inside = (λ q up t. t, λ q up. refl, tt)
inside_calm folder (HaveProps p) inside = (λ q up t. t, λ q up. refl, tt)
inside_calm folder (PatchProps p patches) inside = (λ q up t. t, λ q up. refl, tt)
inside_calm folder (GetProps p content) inside = (λ q up t. t, λ q up. refl, tt)
inside_calm folder (GetProp p key) inside = (λ q up t. t, λ q up. refl, tt)
inside_calm folder GetQuota inside = (λ q up t. t, λ q up. refl, tt)
inside_calm folder (SetAccessed p now) inside = absurd inside
inside_calm folder (SetModified p now) inside = absurd inside
inside_calm folder (Open p how now) inside = absurd inside
inside_calm folder (Read j count) inside = absurd inside
inside_calm folder (Write j bytes now) inside = absurd inside
inside_calm folder (Seek j to) inside = absurd inside
inside_calm folder (Flush j) inside = absurd inside
inside_calm folder (FileMetadata j) inside = absurd inside

module _ (folder : Path) (file : BothOpen) (w v : World) (alike : AreAlike folder (Some file) w v) (j k : Handle) (are : AreOpen file j k) where
  abbrev AreMoved : {X : Type 0} → X × Handle → X × Handle → Type 0
  AreMoved x y = (x.0 ≡ y.0) × AreOpen file x.1 y.1

  read_means : (count : ℕ) → Beside ⊥ AreMoved (Like folder) (meaning (Read j count) w) (meaning (Read k count) v)
  unfolding meaning
  read_means count = subst (λ (i : Handle). Beside ⊥ AreMoved (Like folder) (meaning (Read j count) w) (meaning (Read i count) v)) (sym are.same)
      (read_beside folder w v alike.same alike.next alike.above alike.above_alone alike.world file alike.there.0 alike.there.1 alike.world_alone j k.made count are.here are.alone)

  seek_means : (to : SeekFrom) → Beside ⊥ AreMoved (Like folder) (meaning (Seek j to) w) (meaning (Seek k to) v)
  unfolding meaning
  seek_means to = subst (λ (i : Handle). Beside ⊥ AreMoved (Like folder) (meaning (Seek j to) w) (meaning (Seek i to) v)) (sym are.same)
      (seek_beside folder w v alike.same alike.next alike.above alike.above_alone alike.world file alike.there.0 alike.there.1 alike.world_alone j k.made to are.here are.alone)

  flush_means : Beside ⊥ (λ x y. Unit {0}) (Like folder) (meaning (Flush j) w) (meaning (Flush k) v)
  unfolding meaning
  flush_means = subst (λ (i : Handle). Beside ⊥ (λ x y. Unit {0}) (Like folder) (meaning (Flush j) w) (meaning (Flush i) v)) (sym are.same)
      (flush_beside folder w v alike.same alike.next alike.above alike.above_alone alike.world file alike.there.0 alike.there.1 alike.world_alone j k.made are.here are.alone)

  tells_means : Beside ⊥ SameMetadata (Like folder) (meaning (FileMetadata j) w) (meaning (FileMetadata k) v)
  unfolding meaning
  tells_means = subst (λ (i : Handle). Beside ⊥ SameMetadata (Like folder) (meaning (FileMetadata j) w) (meaning (FileMetadata i) v)) (sym are.same)
      (tells_beside folder w v alike.same alike.next alike.above alike.above_alone alike.world file alike.there.0 alike.there.1 alike.world_alone j k.made are.here are.alone)

  write_means : (bytes : List ℕ) (now : ℕ) → Beside ⊤ (AreOpen file) (Like folder) (meaning (Write j bytes now) w) (meaning (Write k bytes now) v)
  unfolding meaning
  write_means bytes now = subst (λ (i : Handle). Beside ⊤ (AreOpen file) (Like folder) (meaning (Write j bytes now) w) (meaning (Write i bytes now) v)) (sym are.same)
      (write_beside folder w v alike.same alike.next alike.above alike.above_alone alike.world file alike.there.0 alike.there.1 alike.world_alone ⊤ tt j k.made bytes now are.here are.alone)

-- a file that was opened stands at its path
opened_there : (p : Path) (how : Opening) (now : ℕ) (w v : World) (k : Handle) → IsProper (Open p how now) → IsWorld w → Did (meaning (Open p how now) w) w (Ok k) v → IsFileAt v p k.made
opened_there p how now w v k proper world (stays e failed is) = cc
opened_there p how now w v k proper world (means r h gave is) =
    let (n, stands) = opened_stands p how now w r proper world h in
    let (q, at, made, file) = made_stands r.0.made r.1.nodes (calls_keep_worlds (Open p how now) w r proper world h).tree.sorted n stands.0 in
    let same : k ≡ r.0 = cc in
    subst (λ (x : World). IsFileAt x p k.made) (sym is) (n, stands.1, made ∙ ap (λ (x : Handle). x.made) (sym same), file)

-- ---- the law

pub ran_plain : {A : Type 0} {plan : Plan A} {old new : StoreState} {ls ms : Locks} {a : A} → Ran AsksWithNumbers plan old ls a new ms → Ran Asks plan old ls a new ms
ran_plain ran_done = ran_done
ran_plain (ran_ask one rest) = ran_ask one.0 (ran_plain rest)
ran_plain (ran_look rest) = ran_look (ran_plain rest)
ran_plain (ran_keep rest) = ran_keep (ran_plain rest)

closed : {folder : Path} {file : Option BothOpen} {w v : World} → AreAlike folder file w v → AreAlike folder None w v
closed alike = record { same = alike.same; next = alike.next; above = alike.above; above_alone = alike.above_alone; world = alike.world; world_alone = alike.world_alone; there = tt }

with_file : {folder : Path} {w v : World} (file : BothOpen) → AreAlike folder None w v → IsFileAt w (folder ++ file.at) file.here → IsFileAt v (folder ++ file.at) file.alone → AreAlike folder (Some file) w v
with_file file alike here alone = record { same = alike.same; next = alike.next; above = alike.above; above_alone = alike.above_alone; world = alike.world; world_alone = alike.world_alone; there = (here, alone) }

module _ {A : Type 0} (h : Lock) (whole : Bool) (R : Option BothOpen → A → A → Type 0) where
  abbrev F : Path
  F = folder_of h

  abbrev Ends : A → A → Type 0
  Ends x y = (file : Option BothOpen) × R file x y

  agree : {file : Option BothOpen} {plan plan' : MethodPlan A} {old new old' new' : StoreState} {ls ms ls' ms' : Locks} {a b : Result A DavError}
      → Alongside h whole R file plan plan' → IsProperPlan plan → IsProperPlan plan'
      → Ran AsksWithNumbers plan old ls a new ms → Ran Asks plan' old' ls' b new' ms' → new.short ≡ false → new'.short ≡ false → old.refusals ≡ old'.refusals
      → Guarded h ls → Guarded h ls' → AreAlike F file old.world old'.world → Agrees Ends h a b new.world new'.world ms ms'
  unfolding Calmly SparesFile
  agree {file} (side_ok r) proper_done proper_done ran_done ran_done u u' same g g' alike = record { outcomes = (file, r); alike = closed alike; locks = inl (g, g') }
  agree side_err proper_done proper_done ran_done ran_done u u' same g g' alike = record { outcomes = refl; alike = closed alike; locks = inl (g, g') }
  agree (side_asks {c} inside more) (proper_ask proper next) (proper_ask proper' next') (ran_ask {old} {mid} {answer = x} one rest) (ran_ask {old = old'} {mid = mid'} {answer = y} one' rest') u u' same g g' alike =
      let s = stepped F None c c {R = SameAnswer c} (inside_calm F c inside) (inside_calm F c inside) proper proper' one one' (ran_unset (ran_plain rest) u) (ran_unset rest' u') same alike (inside_means F old.world old'.world alike c inside) in
      agree (more x y s.outcomes) (next x (asks_tell alike.world one.0)) (next' y (asks_tell alike.world_alone one')) rest rest' u u' s.refusals g g' s.alike
  agree (side_reads {file} {j} {k} {count} are more) (proper_ask proper next) (proper_ask proper' next') (ran_ask {old} {mid} {answer = x} one rest) (ran_ask {old = old'} {mid = mid'} {answer = y} one' rest') u u' same g g' alike =
      let s = stepped F (Some file) (Read j count) (Read k count) (λ q up t. t, λ q up. refl, (λ t. t, refl)) (λ q up t. t, λ q up. refl, (λ t. t, refl)) proper proper' one one' (ran_unset (ran_plain rest) u) (ran_unset rest' u') same alike (read_means F file old.world old'.world alike j k are count) in
      agree (more x y s.outcomes) (next x (asks_tell alike.world one.0)) (next' y (asks_tell alike.world_alone one')) rest rest' u u' s.refusals g g' s.alike
  agree (side_writes {file} {j} {k} {bytes} {now} are more) (proper_ask proper next) (proper_ask proper' next') (ran_ask {old} {mid} {answer = x} one rest) (ran_ask {old = old'} {mid = mid'} {answer = y} one' rest') u u' same g g' alike =
      let s = stepped F (Some file) (Write j bytes now) (Write k bytes now) (λ q up t. t, λ q up. refl, (λ t. t, refl)) (λ q up t. t, λ q up. refl, (λ t. t, refl)) proper proper' one one' (ran_unset (ran_plain rest) u) (ran_unset rest' u') same alike (write_means F file old.world old'.world alike j k are bytes now) in
      agree (more x y s.outcomes) (next x (asks_tell alike.world one.0)) (next' y (asks_tell alike.world_alone one')) rest rest' u u' s.refusals g g' s.alike
  agree (side_seeks {file} {j} {k} {to} are more) (proper_ask proper next) (proper_ask proper' next') (ran_ask {old} {mid} {answer = x} one rest) (ran_ask {old = old'} {mid = mid'} {answer = y} one' rest') u u' same g g' alike =
      let s = stepped F (Some file) (Seek j to) (Seek k to) (λ q up t. t, λ q up. refl, (λ t. t, refl)) (λ q up t. t, λ q up. refl, (λ t. t, refl)) proper proper' one one' (ran_unset (ran_plain rest) u) (ran_unset rest' u') same alike (seek_means F file old.world old'.world alike j k are to) in
      agree (more x y s.outcomes) (next x (asks_tell alike.world one.0)) (next' y (asks_tell alike.world_alone one')) rest rest' u u' s.refusals g g' s.alike
  agree (side_flushes {file} {j} {k} are more) (proper_ask proper next) (proper_ask proper' next') (ran_ask {old} {mid} {answer = x} one rest) (ran_ask {old = old'} {mid = mid'} {answer = y} one' rest') u u' same g g' alike =
      let s = stepped F (Some file) (Flush j) (Flush k) (λ q up t. t, λ q up. refl, (λ t. t, refl)) (λ q up t. t, λ q up. refl, (λ t. t, refl)) proper proper' one one' (ran_unset (ran_plain rest) u) (ran_unset rest' u') same alike (flush_means F file old.world old'.world alike j k are) in
      agree (more x y s.outcomes) (next x (asks_tell alike.world one.0)) (next' y (asks_tell alike.world_alone one')) rest rest' u u' s.refusals g g' s.alike
  agree (side_tells {file} {j} {k} are more) (proper_ask proper next) (proper_ask proper' next') (ran_ask {old} {mid} {answer = x} one rest) (ran_ask {old = old'} {mid = mid'} {answer = y} one' rest') u u' same g g' alike =
      let s = stepped F (Some file) (FileMetadata j) (FileMetadata k) (λ q up t. t, λ q up. refl, (λ t. t, refl)) (λ q up t. t, λ q up. refl, (λ t. t, refl)) proper proper' one one' (ran_unset (ran_plain rest) u) (ran_unset rest' u') same alike (tells_means F file old.world old'.world alike j k are) in
      agree (more x y s.outcomes) (next x (asks_tell alike.world one.0)) (next' y (asks_tell alike.world_alone one')) rest rest' u u' s.refusals g g' s.alike
  agree (side_opens {how} {now} {go' = go'} r more failed) (proper_ask proper next) (proper_ask proper' next') (ran_ask {old} {mid} {answer = Ok j} one rest) (ran_ask {old = old'} {mid = mid'} {new = new'} {ls = ls'} {ms = ms'} {answer = Ok k} {a = b} one' rest') u u' same g g' alike =
      let s = stepped F None (Open (F ++ r) how now) (Open (F ++ r) how now) {R = SameHandle} (λ q up t. t, λ q up. refl, tt) (λ q up t. t, λ q up. refl, tt) proper proper' one one' (ran_unset (ran_plain rest) u) (ran_unset rest' u') same alike (open_means F old.world old'.world alike r how now) in
      agree (more j k s.outcomes) (next (Ok j) tt) (next' (Ok k) tt) rest rest' u u' s.refusals g g'
      (with_file (record { at = r; here = j.made; alone = k.made }) s.alike (opened_there (F ++ r) how now old.world mid.world j proper alike.world (did one.0)) (opened_there (F ++ r) how now old'.world mid'.world k proper' alike.world_alone (did one')))
  agree (side_opens {how} {now} {go' = go'} r more failed) (proper_ask proper next) (proper_ask proper' next') (ran_ask {old} {mid} {answer = Err e} one rest) (ran_ask {old = old'} {mid = mid'} {new = new'} {ls = ls'} {ms = ms'} {answer = Err f} {a = b} one' rest') u u' same g g' alike =
      let s = stepped F None (Open (F ++ r) how now) (Open (F ++ r) how now) {R = SameHandle} (λ q up t. t, λ q up. refl, tt) (λ q up t. t, λ q up. refl, tt) proper proper' one one' (ran_unset (ran_plain rest) u) (ran_unset rest' u') same alike (open_means F old.world old'.world alike r how now) in
      agree (failed e) (next (Err e) tt) (next' (Err e) tt) rest (subst (λ d. Ran Asks (go' (Err d)) mid' ls' b new' ms') (sym s.outcomes) rest') u u' s.refusals g g' s.alike
  agree (side_opens {how} {now} {go' = go'} r more failed) (proper_ask proper next) (proper_ask proper' next') (ran_ask {old} {mid} {answer = Ok j} one rest) (ran_ask {old = old'} {mid = mid'} {new = new'} {ls = ls'} {ms = ms'} {answer = Err f} {a = b} one' rest') u u' same g g' alike =
      let s = stepped F None (Open (F ++ r) how now) (Open (F ++ r) how now) {R = SameHandle} (λ q up t. t, λ q up. refl, tt) (λ q up t. t, λ q up. refl, tt) proper proper' one one' (ran_unset (ran_plain rest) u) (ran_unset rest' u') same alike (open_means F old.world old'.world alike r how now) in
      absurd s.outcomes
  agree (side_opens {how} {now} {go' = go'} r more failed) (proper_ask proper next) (proper_ask proper' next') (ran_ask {old} {mid} {answer = Err e} one rest) (ran_ask {old = old'} {mid = mid'} {new = new'} {ls = ls'} {ms = ms'} {answer = Ok k} {a = b} one' rest') u u' same g g' alike =
      let s = stepped F None (Open (F ++ r) how now) (Open (F ++ r) how now) {R = SameHandle} (λ q up t. t, λ q up. refl, tt) (λ q up t. t, λ q up. refl, tt) proper proper' one one' (ran_unset (ran_plain rest) u) (ran_unset rest' u') same alike (open_means F old.world old'.world alike r how now) in
      absurd s.outcomes
  agree (side_look more) (proper_look next) (proper_look next') (ran_look {ls = Some ls} rest) (ran_look {ls = Some ks} rest') u u' same g g' alike =
      agree (more ls ks g g') (next (Some ls)) (next' (Some ks)) rest rest' u u' same g g' alike
  agree (side_look more) (proper_look next) (proper_look next') (ran_look {ls = None} rest) other u u' same g g' alike = absurd g
  agree (side_look more) (proper_look next) (proper_look next') (ran_look {ls = Some ls} rest) (ran_look {ls = None} rest') u u' same g g' alike = absurd g'
  agree (side_keep guards guards' more) (proper_keep next) (proper_keep next') (ran_keep {ls = Some ls} rest) (ran_keep {ls = Some ks} rest') u u' same g g' alike =
      agree more next next' rest rest' u u' same guards guards' alike
  agree (side_keep guards guards' more) (proper_keep next) (proper_keep next') (ran_keep {ls = None} rest) other u u' same g g' alike = absurd g
  agree (side_keep guards guards' more) (proper_keep next) (proper_keep next') (ran_keep {ls = Some ls} rest) (ran_keep {ls = None} rest') u u' same g g' alike = absurd g'
  agree {file} (side_last is gone gone' r) (proper_keep next) (proper_keep next') (ran_keep {ls = Some ls} ran_done) (ran_keep {ls = Some ks} ran_done) u u' same g g' alike =
      record { outcomes = (file, r); alike = closed alike; locks = inr (gone, gone') }
  agree (side_last is gone gone' r) (proper_keep next) (proper_keep next') (ran_keep {ls = None} rest) other u u' same g g' alike = absurd g
  agree (side_last is gone gone' r) (proper_keep next) (proper_keep next') (ran_keep {ls = Some ls} rest) (ran_keep {ls = None} rest') u u' same g g' alike = absurd g'

outcomes_of : {A : Type 0} (R : A → A → Type 0) (a b : Result A DavError) → SameResult (λ x y. (file : Option BothOpen) × R x y) a b → SameResult R a b
outcomes_of R (Ok x) (Ok y) same = same.1
outcomes_of R (Err e) (Err f) same = same
outcomes_of R (Ok x) (Err f) same = absurd same
outcomes_of R (Err e) (Ok y) same = absurd same

pub alongside_agree : AlongsideAgree
alongside_agree h plan old new old' new' ls ms ls' ms' a b guard side proper ran ran' u u' same g g' alike =
    let ends = agree h true (λ file. SameAnswers) side proper proper ran ran' u u' same g g' alike in
    record { outcomes = outcomes_of SameAnswers a b ends.outcomes; alike = ends.alike; locks = ends.locks }
