-- A COPY or MOVE of a client that doesn't hold an exclusive lock spares what the lock covers.
use Rattle.std.proofs.Common.{◌≡◌, ◌≢◌, ◌++◌, ◌||◌, not, true≢false, if◌then◌else◌, ℕ, zero, suc, Bool, true, false, List, [], ◌∷◌, append-nil, Option, Some, None, Result, Ok, Err, refl, sym, subst}
use Rattle.std.specs.Bool.{⊤}
use Rattle.std.specs.Option.{unwrap_or}
use Rattle.std.specs.Result.{is_ok, result_ok}
use Rattle.dav_core.specs.declared.errors.FsError.{FsError}
use Rattle.dav_core.specs.declared.errors.DavError.{DavError}
use Rattle.dav_core.specs.declared.errors.DavError.TheVariants as dav
use Rattle.dav_core.specs.declared.fs.DavMetaData.{DavMetaData}
use Rattle.dav_core.specs.declared.method.DavMethod.{DavMethod}
use Rattle.dav_core.specs.Asking.{Metadata, ReadDir, EntryMetadata, CreateDir, Copy, Rename}
use Rattle.dav_core.specs.Locks.{Lock, covers, is_free_for, deleted}
use Rattle.dav_core.specs.Path.{Path, PathText, star, names, names_in, is_at_or_under, are_equal, parent_of}
use Rattle.dav_engine.specs.Caller.{Caller, requester}
use Rattle.dav_engine.specs.Conditions.{Conditions, submitted}
use Rattle.dav_engine.specs.Copying.{CopyFault, CopyWalk, copy_seen, copy_members, copy_listed, copy_inside, copy_kind, copy_looked, copy, renaming}
use Rattle.dav_engine.specs.CopyMove.{CopyHeaders, DestinationNames, is_move, copy_depth, destination_found, source_free, copy_free, is_replaced, clearing, drop_if, drop_if_moved, transfer, copy_reply, transfer_if_cleared, copy_found, copy_or_move, is_copy_move, changes_members}
use Rattle.dav_engine.specs.Folder.{closed, child_of, room_at, is_folder_found}
use Rattle.dav_engine.specs.Guard.{folder_of, IsListed, Guards, StillGuards}
use Rattle.dav_engine.specs.Method.{MethodPlan, ◌>>=◌, require, require_free, is_open, refused_as, gives}
use Rattle.dav_engine.specs.Plan.{Done}
use Rattle.dav_engine.specs.Removal.{Fault, removal}
use Rattle.dav_engine.specs.Sparing.{NoneUnder, Anything, AnyList, Sparing, spares_ok, spares_err, spares_reads, spares_call, spares_look, spares_keep}
use Rattle.dav_engine.specs.SparingPlans.{CopyMoveSpares}
use Rattle.dav_engine.proofs.ChildLemmas.{slash_is_path, names_member}
use Rattle.dav_engine.proofs.CopyHeaderLemmas.{place_by, plain_other}
use Rattle.dav_engine.proofs.EndingDelete.{still_listed}
use Rattle.dav_engine.proofs.FaultLemmas.{at_path, below_trans}
use Rattle.dav_engine.proofs.GuardedFolders.{stands_guarded}
use Rattle.dav_engine.proofs.SparingDelete.{spare_removal, still_guards, free_none, free_outside_lock}
use Rattle.dav_engine.proofs.SparingPlans.{At, IsOpenAbove, spare_bind, spare_then, spare_guarded, spare_above}

member_under : (p : PathText) (n : List ℕ) (dir : Bool) → p.bytes ≢ star → is_at_or_under (names (child_of p n dir)) (names p) ≡ true
member_under p n dir other = at_path (names p) (names (child_of p n dir)) (names_in n) (names_member p n dir other)

module _ (covered : Path → Bool) (G E : List Lock → Type 0) where
  abbrev Part : {A : Type 0} → MethodPlan A → Type 0
  Part plan = Sparing covered G E false (At None (λ a. ⊤)) None plan

  here : (d : PathText) → NoneUnder covered (names d) → covered (names d) ≡ false
  here d none = none (names d) (at_path (names d) (names d) [] (sym (append-nil (names d))))

  below : (d : PathText) (name : List ℕ) (dir : Bool) → d.bytes ≢ star → NoneUnder covered (names d) → NoneUnder covered (names (child_of d name dir))
  below d name dir other none r under = none r (below_trans (names d) (names (child_of d name dir)) r (member_under d name dir other) under)

  -- ---- the copy

  abbrev SparesCopy : CopyWalk → Type 0
  SparesCopy walk = (a b : PathText) → b.bytes ≢ star → NoneUnder covered (names b) → Part (walk a b)

  spare_seen : (walk : CopyWalk) (s d : PathText) (name : List ℕ) (rest : MethodPlan (List CopyFault)) (seen : Result DavMetaData FsError) → SparesCopy walk → d.bytes ≢ star → NoneUnder covered (names d) → Part rest → Part (copy_seen walk s d name rest seen)
  spare_seen walk s d name rest (Err e) more other none left = spares_ok (refl, tt)
  spare_seen walk s d name rest (Ok m) more other none left =
      spare_bind _ (more (child_of s name m.dir) (child_of d name m.dir) (slash_is_path d name m.dir) (below d name m.dir other none)) (λ faults _. spare_bind _ left (λ others _. spares_ok (refl, tt)))

  spare_members : (walk : CopyWalk) (s d : PathText) (entries : List (List ℕ × Bool)) → SparesCopy walk → d.bytes ≢ star → NoneUnder covered (names d) → Part (copy_members walk s d entries)
  spare_members walk s d [] more other none = spares_ok (refl, tt)
  spare_members walk s d (entry ∷ entries) more other none =
      spares_reads {c = EntryMetadata (names s ++ entry.0 ∷ [])} tt (λ seen. spare_seen walk s d entry.0 (copy_members walk s d entries) seen more other none (spare_members walk s d entries more other none))

  spare_listed : (walk : CopyWalk) (s d : PathText) (listed : Result (List (List ℕ × Bool)) FsError) → SparesCopy walk → d.bytes ≢ star → NoneUnder covered (names d) → Part (copy_listed walk s d listed)
  spare_listed walk s d (Err e) more other none = spares_ok (refl, tt)
  spare_listed walk s d (Ok entries) more other none = spare_members walk s d entries more other none

  spare_inside : (walk : CopyWalk) (s d : PathText) (made : Result (Unit {0}) FsError) → SparesCopy walk → d.bytes ≢ star → NoneUnder covered (names d) → Part (copy_inside walk s d made)
  spare_inside walk s d (Err e) more other none = spares_ok (refl, tt)
  spare_inside walk s d (Ok u) more other none = spares_reads {c = ReadDir (names s)} tt (λ listed. spare_listed walk s d listed more other none)

  spare_kind : (deep dir : Bool) (walk : CopyWalk) (now : ℕ) (s d : PathText) → SparesCopy walk → d.bytes ≢ star → NoneUnder covered (names d) → Part (copy_kind deep dir walk now s d)
  spare_kind true true walk now s d more other none = spares_call {c = CreateDir (names d) now} (here d none) (λ made. spare_inside walk s d made more other none)
  spare_kind false true walk now s d more other none = spares_call {c = CreateDir (names d) now} (here d none) (λ made. spares_ok (refl, tt))
  spare_kind deep false walk now s d more other none = spares_call {c = Copy (names s) (names d) now} (here d none) (λ answer. spares_ok (refl, tt))

  spare_looked : (deep : Bool) (walk : CopyWalk) (now : ℕ) (s d : PathText) (found : Result DavMetaData FsError) → SparesCopy walk → d.bytes ≢ star → NoneUnder covered (names d) → Part (copy_looked deep walk now s d found)
  spare_looked deep walk now s d (Err e) more other none = spares_ok (refl, tt)
  spare_looked deep walk now s d (Ok m) more other none = spare_kind deep m.dir walk now s d more other none

  spare_if : {A : Type 0} (b : Bool) (one two : MethodPlan A) → Part one → Part two → Part (if b then one else two)
  spare_if true one two is also = is
  spare_if false one two is also = also

  spare_copy : (room : ℕ) (deep : Bool) (now : ℕ) (top s d : PathText) → d.bytes ≢ star → NoneUnder covered (names d) → Part (copy room deep now top s d)
  spare_copy zero deep now top s d other none = spares_ok (refl, tt)
  spare_copy (suc room) deep now top s d other none =
      spare_if (are_equal s top) (gives []) _ (spares_ok (refl, tt))
      (spares_reads {c = Metadata (names s)} tt (λ found. spare_looked deep (λ a b. copy room deep now top a b) now s d found (λ a b path out. spare_copy room deep now top a b path out) other none))

  pub spare_clearing : (deep : Bool) (now : ℕ) (d : PathText) (there : Option DavMetaData) → d.bytes ≢ star → NoneUnder covered (names d) → Part (clearing deep now d there)
  spare_clearing deep now d there other none =
      spare_if (is_replaced deep there) (removal true now d (is_folder_found there)) (gives []) (spare_removal covered G E true now d (is_folder_found there) other none) (spares_ok (refl, tt))

  replied : (p : PathText) (status : ℕ) (faults : List CopyFault) → Sparing covered G E true Anything None (Done (copy_reply p status faults))
  replied p status [] = spares_ok tt
  replied p status (f ∷ []) = spares_ok tt
  replied p status (f ∷ g ∷ faults) = spares_ok tt

  -- ---- the whole

  -- the checks: Off is what is known of a path that is free with everything below
  module _ (Off : Path → Type 0) (who : Caller) (c : Conditions)
      (frees : (p : Path) (ls : List Lock) → G ls → is_free_for true (requester who (submitted c.lists)) p ls ≡ true → Off p) where
    abbrev Knows : Type 0 → MethodPlan (Unit {0}) → Type 0
    Knows Q plan = Sparing covered G E false (At None (λ u. Q)) None plan

    abbrev IsOpen : Bool → PathText → Type 0
    IsOpen wanted q = IsOpenAbove G wanted (requester who (submitted c.lists)) (names q)

    -- what follows from a path's being free
    module _ (Q : Type 0) (q : PathText) (gets : Off (names q) → Q) where
      free_by : (ls : List Lock) → G ls → (b : Bool) → is_open true (requester who (submitted c.lists)) (names q) (Some ls) ≡ b → Knows Q (require b (dav.Status 423))
      free_by ls g true free = spares_ok (refl, gets (frees (names q) ls g free))
      free_by ls g false free = spares_err

      checked : (tokens : List (List ℕ)) → tokens ≡ submitted c.lists → Knows Q (require_free true (requester who tokens) (names q) (dav.Status 423))
      checked tokens same =
          subst (λ (ts : List (List ℕ)). Knows Q (require_free true (requester who ts) (names q) (dav.Status 423))) (sym same)
          (spares_look (λ ls g. free_by ls g (is_open true (requester who (submitted c.lists)) (names q) (Some ls)) refl))

    module _ (p d : PathText) where
      source : (moves : Bool) (tokens : List (List ℕ)) → tokens ≡ submitted c.lists → Knows (moves ≡ true → Off (names p)) (source_free moves who tokens p)
      source true tokens same = checked (true ≡ true → Off (names p)) p (λ off is. off) tokens same
      source false tokens same = spares_ok (refl, λ is. absurd (true≢false (sym is)))

      -- what the checks tell, of a MOVE or not, and where the list of members at the destination changes or not
      abbrev pub Passed : Bool → Bool → Type 0
      Passed moves changes = (moves ≡ true → Off (names p)) × Off (names d) × IsOpen moves p × IsOpen changes d

      pub spare_copy_free : (m : DavMethod) (deep : Bool) (found : DavMetaData) (there : Option DavMetaData) → Knows (Passed (is_move m) (changes_members (is_move m) deep there)) (copy_free m deep c p d who found there)
      spare_copy_free m deep found there =
          spare_bind _ (spare_guarded covered G E dav.Status m c (Some found)) (λ tokens same.
          spare_bind {Q = λ u. (is_move m ≡ true → Off (names p)) × Off (names d)} _
          (spare_bind _ (source (is_move m) tokens same) (λ u from. checked ((is_move m ≡ true → Off (names p)) × Off (names d)) d (λ to. (from, to)) tokens same)) (λ u free.
          spare_bind {Q = λ v. IsOpen (is_move m) p} _ (spare_above covered G E who c.lists (is_move m) (names p) (dav.Status 423) tokens same (λ above. above)) (λ v from.
          spare_above covered G E who c.lists (changes_members (is_move m) deep there) (names d) (dav.Status 423) tokens same (λ above. (free.0, free.1, from, above)))))

  -- what is done then
  module _ (Off : Path → Type 0) (stays : (p : Path) (ls : List Lock) → G ls → Off p → G (deleted p ls)) where
    abbrev pub Free : PathText → Type 0
    Free q = NoneUnder covered (names q) × Off (names q)

    module _ (p d : PathText) where
      abbrev pub SourceFree : Bool → Type 0
      SourceFree moves = moves ≡ true → Free p

      dropped : (b : Bool) → Off (names d) → Part (drop_if b d)
      dropped true off = spares_look (λ ls g. spares_keep (stays (names d) ls g off) (spares_ok (refl, tt)))
      dropped false off = spares_ok (refl, tt)

      moved : (faults : List CopyFault) → Off (names p) → Part (drop_if_moved p faults)
      moved [] off = spares_look (λ ls g. spares_keep (stays (names p) ls g off) (spares_ok (refl, tt)))
      moved (f ∷ faults) off = spares_ok (refl, tt)

      brings : (moves deep : Bool) (now : ℕ) → d.bytes ≢ star → SourceFree moves → Free d → Part (transfer moves deep now p d)
      brings true deep now other from to =
          spare_bind {Q = λ (faults : List CopyFault). ⊤} {plan = renaming now p d} (λ faults. drop_if_moved p faults >>= (λ u. gives faults))
          (spares_call {c = Rename (names p) (names d) now} ((from refl).0, to.0) (λ answer. spares_ok (refl, tt)))
          (λ faults _. spare_bind (λ u. gives faults) (moved faults (from refl).1) (λ u _. spares_ok (refl, tt)))
      brings false deep now other from to = spare_copy (room_at p) deep now d p d other to.0

      pub if_clear : (moves deep : Bool) (now : ℕ) (there : Option DavMetaData) (faults : List Fault) → d.bytes ≢ star → SourceFree moves → Free d → Sparing covered G E true Anything None (transfer_if_cleared moves deep now p d there faults)
      if_clear moves deep now there (f ∷ []) other from to = spares_ok tt
      if_clear moves deep now there (f ∷ g ∷ faults) other from to = spares_ok tt
      if_clear moves deep now there [] other from to =
          spare_bind _ (dropped (is_replaced deep there) to.1) (λ u _. spare_bind _ (brings moves deep now other from to) (λ faults _. replied p _ faults))

  spare_require : (b : Bool) (e : DavError) → Part (require b e)
  spare_require true e = spares_ok (refl, tt)
  spare_require false e = spares_err

  pub spare_destination : (overwrite : Option Bool) (d : PathText) → Part (destination_found overwrite d)
  spare_destination overwrite d =
      spares_reads {c = Metadata (parent_of (names d))} tt (λ above. spare_bind _ (spare_require (is_folder_found (result_ok above)) (dav.Status 409)) (λ u _.
      spares_reads {c = Metadata (names d)} tt (λ there. spare_bind _ (spare_require (unwrap_or overwrite true || not (is_ok there)) (dav.Status 412)) (λ v _. spares_ok (refl, tt)))))

  module _ (Off : Path → Type 0) (who : Caller) (k : CopyHeaders) (stays : (p : Path) (ls : List Lock) → G ls → Off p → G (deleted p ls))
      (frees : (p : Path) (ls : List Lock) → G ls → is_free_for true (requester who (submitted k.conditions.lists)) p ls ≡ true → NoneUnder covered p × Off p) where
    spare_found : (m : DavMethod) (deep : Bool) (p d : PathText) (found : DavMetaData) → d.bytes ≢ star → Sparing covered G E true Anything None (copy_found m deep k p d who found)
    spare_found m deep p d found other =
        spare_bind {Q = λ there. (is_move m ≡ true → NoneUnder covered (names p) × Off (names p)) × (NoneUnder covered (names d) × Off (names d))} _
        (spare_bind _ (spare_destination k.overwrite d) (λ there _.
        spare_bind (λ u. copy_free m deep k.conditions p d who found there >>= (λ v. gives there)) (spare_require (not (is_at_or_under (names p) (names d))) (dav.Status 403)) (λ u _.
        spare_bind (λ v. gives there) (spare_copy_free (λ q. NoneUnder covered q × Off q) who k.conditions frees p d m deep found there) (λ v passed. spares_ok (refl, (passed.0, passed.1))))))
        (λ there free. spare_bind _ (spare_clearing deep who.moment d there other free.1.0) (λ faults _.
        if_clear Off stays p d (is_move m) deep who.moment there faults other free.0 free.1))

    spare_copymove : (m : DavMethod) (p : PathText) {prefix : List ℕ} {values : List _} → DestinationNames prefix values k.destination → Sparing covered G E true Anything None (copy_or_move m k p who)
    spare_copymove m p named =
        spare_then (copy_depth (is_move m) k.depth) _ (λ deep _. spare_then k.destination _ (λ d is.
        spares_reads {c = Metadata (names p)} tt (λ answer. spare_then (refused_as dav.FsError answer) _ (λ found _.
        spare_found m deep (closed found.dir p) d found (plain_other d (place_by d named is).plain)))))

pub copymove_spares : CopyMoveSpares
copymove_spares h m headers p who plan exclusive other stranger (is_copy_move k are) =
    let unheld = stranger k.conditions are.conditions in
    let asks = requester who (submitted k.conditions.lists) in (
      spare_copymove (covers h) (IsListed h) AnyList (λ q. is_at_or_under (folder_of h) q ≡ false) who k (λ q ls listed off. still_listed h q off ls listed)
          (λ q ls listed free. (free_none h exclusive asks unheld q ls listed free, free_outside_lock h asks unheld q ls listed free)) m p are.destination,
      spare_copymove (covers h) (Guards h) (StillGuards h) (λ q. is_at_or_under (folder_of h) q ≡ false) who k (λ q ls guards off. still_guards h q ls guards (still_listed h q off ls (stands_guarded guards)))
          (λ q ls guards free. (free_none h exclusive asks unheld q ls (stands_guarded guards) free, free_outside_lock h asks unheld q ls (stands_guarded guards) free)) m p are.destination,
    )
