-- What calls leave of paths that they spare.
use Rattle.std.proofs.Common.{◌≡◌, ℕ, ◌+◌, ◌==◌, ◌||◌, ◌++◌, ◌&&◌, nat_lt, append_assoc, Bool, true, false, not, true≢false, cond, List, [], length, Option, Some, None, Ok, inl, inr, refl, sym, ap, subst, ◌∙◌}
use Rattle.std.specs.Option.{option_map, is_some, unwrap_or}
use Rattle.dav_core.specs.declared.errors.FsError.TheVariants.{GeneralFailure, Exists, NotFound, Forbidden, TooLarge}
use Rattle.dav_core.specs.Asking.{Call, Answer, meaning, Metadata, ReadDir, EntryMetadata, CreateDir, RemoveDir, RemoveFile, Rename, Copy, HaveProps, PatchProps, GetProps, GetProp, GetQuota, SetAccessed, SetModified, Open, Read, Write, Seek, Flush, FileMetadata}
use Rattle.dav_core.specs.CallLaws.{IsProper, TakesAway, brought}
use Rattle.dav_core.specs.Calls.{rename, create_dir, remove_dir, remove_file, copy, with_copy, copied_over, open_at, emptied, write_bytes, written, repatched, without}
use Rattle.dav_core.specs.Handle.{Handle, Opening, opened, write_place}
use Rattle.dav_core.specs.Property.{Properties}
use Rattle.dav_core.specs.Path.{Path, rest_after, is_same_path, is_at_or_under, is_under, is_root, is_nonempty, has_names, parent_of}
use Rattle.dav_core.specs.World.{World, Node, Kind, Folder, File, node_at, is_missing, is_folder, is_file, has_members, is_folder_kind, is_folder_node, with_new, adjust, moved, change_node, is_file_made_with, file_made_with, touched, last_number, bytes_of, max_file_len, IsWorld}
use Rattle.dav_core.proofs.Theorems.{nodes_stay, rest_after-append, from_rest, same_path, turned, find-adjust, stays-moved, renamed_world, made_stands, change_made, went_on, went_if, found, left}
use Rattle.dav_engine.specs.Inside.{content_of}
use Rattle.dav_engine.specs.Sparing.{OpenFile}
use Rattle.dav_engine.specs.Sparing.{NoneUnder, Spares, Spared}
use Rattle.dav_engine.proofs.InsideLemmas.{content-removed, content-new, content-touched}

-- ---- paths that stay

-- a change elsewhere
abbrev SameShown : (Path → Bool) → World → World → Type 0
SameShown covered w v = (q : Path) → covered q ≡ true → option_map content_of (node_at w q) ≡ option_map content_of (node_at v q)

other_by : (covered : Path → Bool) (p q : Path) (b : Bool) → is_same_path p q ≡ b → covered p ≡ false → covered q ≡ true → b ≡ false
other_by covered p q true is out within = absurd (true≢false (sym within ∙ ap covered (sym (same_path p q is)) ∙ out))
other_by covered p q false is out within = refl

other : (covered : Path → Bool) (p q : Path) → covered p ≡ false → covered q ≡ true → is_same_path p q ≡ false
other covered p q out within = other_by covered p q (is_same_path p q) refl out within

beyond_by : (covered : Path → Bool) (p q : Path) (b : Bool) → is_at_or_under q p ≡ b → NoneUnder covered p → covered q ≡ true → b ≡ false
beyond_by covered p q true is out within = absurd (true≢false (sym within ∙ out q is))
beyond_by covered p q false is out within = refl

beyond : (covered : Path → Bool) (p q : Path) → NoneUnder covered p → covered q ≡ true → is_at_or_under q p ≡ false
beyond covered p q out within = beyond_by covered p q (is_at_or_under q p) refl out within

same-adjust : (covered : Path → Bool) (p : Path) (f : Node → Node) (w : World) (next : ℕ) → covered p ≡ false → SameShown covered w (record { nodes = adjust p f w.nodes; next = next })
same-adjust covered p f w next out q within =
    sym (ap (option_map content_of) (find-adjust p f q w.nodes ∙ ap (λ b. cond b (option_map f (node_at w q)) (node_at w q)) (other covered p q out within)))

same-new : (covered : Path → Bool) (w : World) (p : Path) (kind : Kind) (properties : Properties) (now : ℕ) → covered p ≡ false → SameShown covered w (with_new w p kind properties now)
same-new covered w p kind properties now out q within =
    sym (content-new w p kind properties now q ∙ ap (λ b. cond b (Some (kind, properties)) (option_map content_of (node_at w q))) (turned p q ∙ other covered p q out within))

-- ---- what is content_of

module _ (covered : Path → Bool) (w : World) where
  after : {v : World} (u : World) → v ≡ u → SameShown covered w u → SameShown covered w v
  after u is same = subst (SameShown covered w) (sym is) same

  same_dir : (p : Path) (now : ℕ) (r : Unit {0} × World) → covered p ≡ false → create_dir w p now ≡ Ok r → SameShown covered w r.1
  same_dir p now r out h =
      let (none, h1) = went_on (not (is_missing w p)) Exists _ r h in
      let (there, h2) = went_on (not (is_folder w (parent_of p))) NotFound _ r h1 in
      let (room, h3) = went_on (w.next == last_number) GeneralFailure _ r h2 in
      after (with_new w p Folder [] now) (left tt (with_new w p Folder [] now) r h3) (same-new covered w p Folder [] now out)

  same_without : (p : Path) (now : ℕ) → NoneUnder covered p → SameShown covered w (without w p now)
  same_without p now a q within = sym (content-removed w p now q ∙ ap (λ b. cond b None (option_map content_of (node_at w q))) (beyond covered p q a within))

  same_file_gone : (p : Path) (now : ℕ) (r : Unit {0} × World) → NoneUnder covered p → remove_file w p now ≡ Ok r → SameShown covered w r.1
  same_file_gone p now r a h =
      let (there, h1) = went_on (is_missing w p) NotFound _ r h in
      let (file, h2) = went_on (is_folder w p) Forbidden _ r h1 in
      after (without w p now) (left tt (without w p now) r h2) (same_without p now a)

  same_dir_gone : (p : Path) (now : ℕ) (r : Unit {0} × World) → NoneUnder covered p → remove_dir w p now ≡ Ok r → SameShown covered w r.1
  same_dir_gone p now r a h =
      let (some, h1) = went_on (is_root p) Forbidden _ r h in
      let (there, h2) = went_on (is_missing w p) NotFound _ r h1 in
      let (dir, h3) = went_on (is_file w p) Forbidden _ r h2 in
      let (empty, h4) = went_on (has_members w p) Exists _ r h3 in
      after (without w p now) (left tt (without w p now) r h4) (same_without p now a)

  same_copied : (to : Path) (source : Node) (now : ℕ) (o : Option Node) → covered to ≡ false → SameShown covered w (with_copy w to source o now)
  same_copied to source now None out = same-new covered w to source.kind source.properties now out
  same_copied to source now (Some n) out = same-adjust covered to (copied_over source w.next now) w (w.next + 1) out

  same_copy : (from to : Path) (now : ℕ) (r : Unit {0} × World) → covered to ≡ false → copy w from to now ≡ Ok r → SameShown covered w r.1
  same_copy from to now r out h =
      let (source, stood, h1) = found (node_at w from) _ r h in
      let (file, h2) = went_on (is_folder_kind source.kind) Forbidden _ r h1 in
      let (differ, h3) = went_on (is_same_path from to) Forbidden _ r h2 in
      let (over, h4) = went_on (is_folder w to) Forbidden _ r h3 in
      let (dir, h5) = went_on (not (is_folder w (parent_of to))) NotFound _ r h4 in
      let (room, h6) = went_on (w.next == last_number) GeneralFailure _ r h5 in
      after (with_copy w to source (node_at w to) now) (left tt (with_copy w to source (node_at w to) now) r h6) (same_copied to source now (node_at w to) out)

  same_opened : (p : Path) (how : Opening) (now : ℕ) (o : Option Node) (r : Handle × World) → covered p ≡ false → open_at w p how now o ≡ Ok r → SameShown covered w r.1
  same_opened p how now None r out h =
      let (create, h1) = went_on (not (how.create || how.create_new)) NotFound _ r h in
      let (dir, h2) = went_on (not (is_folder w (parent_of p))) NotFound _ r h1 in
      let (room, h3) = went_on (w.next == last_number) GeneralFailure _ r h2 in
      after (with_new w p (File []) [] now) (left (opened w.next how) (with_new w p (File []) [] now) r h3) (same-new covered w p (File []) [] now out)
  same_opened p how now (Some n) r out h =
      let (file, h1) = went_on (is_folder_kind n.kind) Forbidden _ r h in
      let (fresh, h2) = went_on how.create_new Exists _ r h1 in
      elim (went_if how.truncate _ _ r h2) as (λ _. SameShown covered w r.1) [
        | inl empties ↦
            let (room, h3) = went_on (w.next == last_number) GeneralFailure _ r empties.1 in
            after (record { nodes = adjust p (emptied w.next now) w.nodes; next = w.next + 1 })
            (left (opened n.made how) (record { nodes = adjust p (emptied w.next now) w.nodes; next = w.next + 1 }) r h3)
            (same-adjust covered p (emptied w.next now) w (w.next + 1) out)
        | inr keeps ↦ after w (left (opened n.made how) w r keeps.1) (λ q within. refl)
      ]

  -- the file stands outside, and a write changes it alone
  same_written : IsWorld w → (file : OpenFile) (m : Node) → node_at w file.1 ≡ Some m → m.made ≡ file.0 → covered file.1 ≡ false
      → (k : Handle) → k.made ≡ file.0 → (bytes : List ℕ) (now : ℕ) (r : Handle × World) → write_bytes w k bytes now ≡ Ok r → SameShown covered w r.1
  same_written world file m there made out k is bytes now r h =
      let (n, stood, h1) = found (file_made_with k.made w.nodes) _ r h in
      let (allowed, h2) = went_on (not k.writes) Forbidden _ r h1 in
      let (fits, h3) = went_on (nat_lt max_file_len (write_place k (bytes_of n.kind) + length bytes)) TooLarge _ r h2 in
      elim (went_if (is_nonempty bytes) _ _ r h3) as (λ _. SameShown covered w r.1) [
        | inl some ↦
            let (room, h4) = went_on (w.next == last_number) GeneralFailure _ r some.1 in
            let f = written (write_place k (bytes_of n.kind)) bytes w.next now in
            let (p, at, changed) = change_made k.made f w.nodes world.tree.sorted n stood in
            let (p', at', made', is_file) = made_stands k.made w.nodes world.tree.sorted n stood in
            let same : file.1 ≡ p = world.makings.once file.1 p m n there at (made ∙ sym is ∙ sym made') in
            after (record { nodes = adjust p f w.nodes; next = w.next + 1 })
            (left (record k { position = write_place k (bytes_of n.kind) + length bytes }) (record { nodes = change_node (is_file_made_with k.made) f w.nodes; next = w.next + 1 }) r h4
            ∙ ap (λ ns. record { nodes = ns; next = w.next + 1 }) changed)
            (same-adjust covered p f w (w.next + 1) (subst (λ (q : Path). covered q ≡ false) same out))
        | inr none ↦ after w (left k w r none.1) (λ q within. refl)
      ]

  -- a rename elsewhere
  same_renamed : (from to : Path) (now : ℕ) → NoneUnder covered from → NoneUnder covered to → SameShown covered w (renamed_world w from to now)
  same_renamed from to now out out' q within =
      sym (content-touched from now q (touched to now (moved from to w.nodes)) ∙ content-touched to now q (moved from to w.nodes)
      ∙ ap (option_map content_of) (stays-moved from to q w.nodes (beyond covered from q out within) (beyond covered to q out' within)))

  same_rename : (from to : Path) (now : ℕ) (r : Unit {0} × World) → NoneUnder covered from → NoneUnder covered to → rename w from to now ≡ Ok r → SameShown covered w r.1
  same_rename from to now r out out' h =
      let (roots, h1) = went_on (is_root from || is_root to) Forbidden _ r h in
      let (there, h2) = went_on (is_missing w from) NotFound _ r h1 in
      elim (went_if (is_same_path from to) (Ok (tt, w)) _ r h2) as (λ _. SameShown covered w r.1) [
        | inl same ↦ after w (left tt w r same.1) (λ q within. refl)
        | inr others ↦
            let (below, h3) = went_on (is_under to from) Forbidden _ r others.1 in
            let (dir, h4) = went_on (not (is_folder w (parent_of to))) NotFound _ r h3 in
            let (empty, h5) = went_on (is_folder w to && has_members w to) Exists _ r h4 in
            after (renamed_world w from to now) (left tt (renamed_world w from to now) r h5) (same_renamed from to now out out')
      ]

-- a call that spares paths content_at the same of them
pub all_same : (covered : Path → Bool) (c : Call) (w : World) (r : Answer c × World) → Spares covered c → meaning c w ≡ Ok r → SameShown covered w r.1
unfolding meaning
all_same covered (CreateDir p now) w r out h = same_dir covered w p now r out h
all_same covered (RemoveDir p now) w r a h = same_dir_gone covered w p now r a h
all_same covered (RemoveFile p now) w r a h = same_file_gone covered w p now r a h
all_same covered (Copy from to now) w r out h = same_copy covered w from to now r out h
all_same covered (PatchProps p patches) w r out h =
    let (n, stood, is) = found (node_at w p) _ r h in
    after covered w (record w { nodes = adjust p (repatched patches) w.nodes }) (left _ (record w { nodes = adjust p (repatched patches) w.nodes }) r is) (same-adjust covered p (repatched patches) w w.next out)
all_same covered (Metadata p) w r out h = absurd out
all_same covered (ReadDir p) w r out h = absurd out
all_same covered (EntryMetadata p) w r out h = absurd out
all_same covered (Rename from to now) w r out h = same_rename covered w from to now r out.0 out.1 h
all_same covered (HaveProps p) w r out h = absurd out
all_same covered (GetProps p content) w r out h = absurd out
all_same covered (GetProp p key) w r out h = absurd out
all_same covered GetQuota w r out h = absurd out
all_same covered (SetAccessed p now) w r out h = absurd out
all_same covered (SetModified p now) w r out h = absurd out
all_same covered (Open p how now) w r out h = absurd out
all_same covered (Read file count) w r out h = absurd out
all_same covered (Write file bytes now) w r out h = absurd out
all_same covered (Seek file to) w r out h = absurd out
all_same covered (Flush file) w r out h = absurd out
all_same covered (FileMetadata file) w r out h = absurd out

pub opened_all_same : (covered : Path → Bool) (p : Path) (how : Opening) (now : ℕ) (w : World) (r : Handle × World) → covered p ≡ false → meaning (Open p how now) w ≡ Ok r → SameShown covered w r.1
unfolding meaning
opened_all_same covered p how now w r out h = same_opened covered w p how now (node_at w p) r out h

-- the file that is open is at its path
abbrev pub HasOpenFile : Option OpenFile → World → Type 0
HasOpenFile None w = Unit {0}
HasOpenFile (Some file) w = (n : Node) × (node_at w file.1 ≡ Some n) × (n.made ≡ file.0)

pub written_all_same : (covered : Path → Bool) (file : OpenFile) (k : Handle) (bytes : List ℕ) (now : ℕ) (w : World) (r : Handle × World)
    → IsWorld w → HasOpenFile (Some file) w → k.made ≡ file.0 → covered file.1 ≡ false → meaning (Write k bytes now) w ≡ Ok r → SameShown covered w r.1
unfolding meaning
written_all_same covered file k bytes now w r world (m, there, made) is out h = same_written covered w world file m there made out k is bytes now r h

-- ---- folders above

-- a call that takes away nothing above a folder, and brings nothing from there elsewhere
folder_by : (w : World) (p : Path) (o : Option Node) → node_at w p ≡ o → is_folder_node o ≡ true → (n : Node) × (node_at w p ≡ Some n) × (is_folder_kind n.kind ≡ true)
folder_by w p None is h = cc
folder_by w p (Some n) is h = (n, is, h)

pub folder_stays : (c : Call) (w : World) (r : Answer c × World) (p : Path) → IsProper c → IsWorld w → meaning c w ≡ Ok r → ¬ TakesAway c p → brought c p ≡ p → is_folder w p ≡ true → is_folder r.1 p ≡ true
folder_stays c w r p proper world h kept stays is =
    let (n, there, dir) = folder_by w p (node_at w p) refl is in
    let (m, stands, same) = nodes_stay c w r p n proper world h there kept in
    ap (λ (q : Path). is_folder r.1 q) (sym stays) ∙ ap is_folder_node stands ∙ same.1 ∙ dir

below_too : (p q : Path) (o : Option Path) → rest_after p q ≡ o → has_names o ≡ true → is_some o ≡ true
below_too p q None is h = cc
below_too p q (Some r) is h = refl

-- what is under a path is at it or under it
pub within_too : (p q : Path) → is_under q p ≡ true → is_at_or_under q p ≡ true
within_too p q up = below_too p q (rest_after p q) refl up

through_by : (from p q : Path) (o o' : Option Path) → rest_after from p ≡ o → rest_after p q ≡ o' → is_some o ≡ true → is_some o' ≡ true → is_at_or_under q from ≡ true
through_by from p q None o' is is' h h' = cc
through_by from p q (Some r) None is is' h h' = cc
through_by from p q (Some r) (Some s) is is' h h' =
    let whole : q ≡ from ++ (r ++ s) = from_rest p q s is' ∙ ap (λ (x : Path). x ++ s) (from_rest from p r is) ∙ append_assoc from r s in
    ap (λ (under : Path). is_at_or_under under from) whole ∙ ap is_some (rest_after-append from (r ++ s))

unmoved_by : (covered : Path → Bool) (from to p q : Path) → NoneUnder covered from → is_under q p ≡ true → covered q ≡ true → (o : Option Path) → rest_after from p ≡ o → unwrap_or (option_map (λ rest. to ++ rest) o) p ≡ p
unmoved_by covered from to p q out up within None is = refl
unmoved_by covered from to p q out up within (Some r) is =
    absurd (true≢false (sym within ∙ out q (through_by from p q (rest_after from p) (rest_after p q) refl refl (ap is_some is) (within_too p q up))))

above_all : (covered : Path → Bool) (c : Call) (w : World) (r : Answer c × World) → Spares covered c → IsProper c → IsWorld w → meaning c w ≡ Ok r
    → (p q : Path) → is_under q p ≡ true → covered q ≡ true → is_folder w p ≡ true → is_folder r.1 p ≡ true
above_all covered (CreateDir x now) w r out proper world h = λ p q up within. folder_stays (CreateDir x now) w r p proper world h (λ t. t) refl
above_all covered (RemoveDir x now) w r out proper world h = λ p q up within. folder_stays (RemoveDir x now) w r p proper world h
    (λ same. true≢false (sym within ∙ out q (ap (λ (y : Path). is_at_or_under q y) same ∙ within_too p q up))) refl
above_all covered (RemoveFile x now) w r out proper world h = λ p q up within. folder_stays (RemoveFile x now) w r p proper world h
    (λ same. true≢false (sym within ∙ out q (ap (λ (y : Path). is_at_or_under q y) same ∙ within_too p q up))) refl
above_all covered (Rename from to now) w r out proper world h = λ p q up within. folder_stays (Rename from to now) w r p proper world h
    (λ t. true≢false (sym within ∙ out.1 q (ap (λ (y : Path). is_at_or_under q y) t.1 ∙ within_too p q up))) (unmoved_by covered from to p q out.0 up within (rest_after from p) refl)
above_all covered (Copy from to now) w r out proper world h = λ p q up within. folder_stays (Copy from to now) w r p proper world h (λ t. t) refl
above_all covered (PatchProps x patches) w r out proper world h = λ p q up within. folder_stays (PatchProps x patches) w r p proper world h (λ t. t) refl
above_all covered (Metadata x) w r out proper world h = absurd out
above_all covered (ReadDir x) w r out proper world h = absurd out
above_all covered (EntryMetadata x) w r out proper world h = absurd out
above_all covered (HaveProps x) w r out proper world h = absurd out
above_all covered (GetProps x content) w r out proper world h = absurd out
above_all covered (GetProp x key) w r out proper world h = absurd out
above_all covered GetQuota w r out proper world h = absurd out
above_all covered (SetAccessed x now) w r out proper world h = absurd out
above_all covered (SetModified x now) w r out proper world h = absurd out
above_all covered (Open x how now) w r out proper world h = absurd out
above_all covered (Read k count) w r out proper world h = absurd out
above_all covered (Write k bytes now) w r out proper world h = absurd out
above_all covered (Seek k to) w r out proper world h = absurd out
above_all covered (Flush k) w r out proper world h = absurd out
above_all covered (FileMetadata k) w r out proper world h = absurd out

pub spared_all : (covered : Path → Bool) (c : Call) (w : World) (r : Answer c × World) → Spares covered c → IsProper c → IsWorld w → meaning c w ≡ Ok r → Spared covered w r.1
spared_all covered c w r out proper world h = record { same = all_same covered c w r out h; above = above_all covered c w r out proper world h }
