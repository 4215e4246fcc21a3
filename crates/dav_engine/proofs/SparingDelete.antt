-- A DELETE of a client that doesn't hold an exclusive lock spares what the lock covers.
use Rattle.std.proofs.Common.{◌≡◌, ◌≢◌, ◌++◌, ◌&&◌, ◌||◌, inl, inr, ℕ, zero, suc, Bool, true, false, not, true≢false, cond, List, [], ◌∷◌, Some, None, Result, Ok, Err, refl, sym, ap, subst, ◌∙◌}
use Rattle.std.proofs.lemmas.Bool.{and_parts}
use Rattle.std.specs.Bool.{⊤}
use Rattle.std.specs.List.{list_all}
use Rattle.dav_core.specs.declared.errors.FsError.{FsError}
use Rattle.dav_core.specs.declared.errors.DavError.{DavError}
use Rattle.dav_core.specs.declared.errors.DavError.TheVariants as dav
use Rattle.dav_core.specs.declared.fs.DavMetaData.{DavMetaData}
use Rattle.dav_core.specs.declared.method.DavMethod.TheVariants.{Delete}
use Rattle.dav_core.specs.Asking.{Metadata, ReadDir, EntryMetadata, RemoveDir, RemoveFile}
use Rattle.dav_core.specs.Locks.{Lock, Requester, covers, is_held, is_free_for, deleted}
use Rattle.dav_core.specs.Path.{Path, PathText, star, names, names_in, is_same_path, is_at_or_under, is_under}
use Rattle.dav_core.proofs.Theorems.{same_path}
use Rattle.dav_engine.specs.Caller.{Caller, requester}
use Rattle.dav_engine.specs.Conditions.{Conditions, submitted}
use Rattle.dav_engine.specs.Delete.{whole_depth, drop_if_gone, delete_reply, delete_found, is_delete}
use Rattle.dav_engine.specs.Folder.{closed, child_of, room_at}
use Rattle.dav_engine.specs.Guard.{folder_of, IsSameLock, IsListed, listed_here, listed_later, IsElsewhere, AllElsewhere, no_others, another, Guards, guards_here, guards_later, StillGuards}
use Rattle.dav_engine.specs.Method.{MethodPlan, ◌>>=◌, require, require_free, is_open, refused_as, ask_for}
use Rattle.dav_engine.specs.Plan.{Done}
use Rattle.dav_engine.specs.Removal.{Fault, Walk, each, remove, removal, remove_member, remove_found, remove_listed, remove_emptied}
use Rattle.dav_engine.specs.Sparing.{NoneUnder, Anything, AnyList, Sparing, spares_ok, spares_err, spares_reads, spares_call, spares_look, spares_last}
use Rattle.dav_engine.specs.SparingPlans.{DeleteSpares}
use Rattle.dav_engine.proofs.ChildLemmas.{closed_is_path, slash_is_path, names_member}
use Rattle.dav_engine.proofs.FaultLemmas.{rest, at_path, below_trans, one_line, strictly}
use Rattle.dav_engine.proofs.GuardedFolders.{covers_by, stands_guarded, held_still, free_passes}
use Rattle.dav_engine.proofs.SparingPlans.{At, IsOpenAbove, spare_bind, spare_then, spare_guarded, spare_above}

-- ---- the path of a member, whatever its name, is below that of its folder

member_under : (p : PathText) (n : List ℕ) (dir : Bool) → p.bytes ≢ star → is_at_or_under (names (child_of p n dir)) (names p) ≡ true
member_under p n dir other = at_path (names p) (names (child_of p n dir)) (names_in n) (names_member p n dir other)

-- ---- the removal

module _ (covered : Path → Bool) (G E : List Lock → Type 0) where
  abbrev Part : {A : Type 0} → MethodPlan A → Type 0
  Part plan = Sparing covered G E false (At None (λ a. ⊤)) None plan

  none_below : (p q : Path) → is_at_or_under q p ≡ true → NoneUnder covered p → NoneUnder covered q
  none_below p q within none r under = none r (below_trans p q r within under)

  spare_each : {X F : Type 0} (f : X → MethodPlan (List F)) (xs : List X) → ((x : X) → Part (f x)) → Part (each f xs)
  spare_each f [] more = spares_ok (refl, tt)
  spare_each f (x ∷ xs) more = spare_bind _ (more x) (λ reports _. spare_bind _ (spare_each f xs more) (λ others _. spares_ok (refl, tt)))

  abbrev SparesWalk : Walk → Type 0
  SparesWalk walk = (q : PathText) (dir : Bool) → q.bytes ≢ star → NoneUnder covered (names q) → Part (walk q dir)

  spare_found : (walk : Walk) (p : PathText) (name : List ℕ) (found : Result DavMetaData FsError) → SparesWalk walk → p.bytes ≢ star → NoneUnder covered (names p) → Part (remove_found walk p name found)
  spare_found walk p name (Err e) more other none = spares_ok (refl, tt)
  spare_found walk p name (Ok m) more other none =
      more (child_of p name m.dir) m.dir (slash_is_path p name m.dir) (none_below (names p) (names (child_of p name m.dir)) (member_under p name m.dir other) none)

  spare_emptied : (now : ℕ) (p : PathText) (faults : List Fault) → NoneUnder covered (names p) → Part (remove_emptied now p faults)
  spare_emptied now p (f ∷ faults) none = spares_ok (refl, tt)
  spare_emptied now p [] none = spares_call {c = RemoveDir (names p) now} none (λ answer. spares_ok (refl, tt))

  spare_listed : (walk : Walk) (now : ℕ) (p : PathText) (listed : Result (List (List ℕ × Bool)) FsError) → SparesWalk walk → p.bytes ≢ star → NoneUnder covered (names p) → Part (remove_listed walk now p listed)
  spare_listed walk now p (Err e) more other none = spares_ok (refl, tt)
  spare_listed walk now p (Ok entries) more other none =
      spare_bind _
      (spare_each (remove_member walk p) entries (λ entry. spares_reads {c = EntryMetadata (names p ++ entry.0 ∷ [])} tt (λ found. spare_found walk p entry.0 found more other none)))
      (λ faults _. spare_emptied now p faults none)

  spare_remove : (room now : ℕ) (p : PathText) (dir : Bool) → p.bytes ≢ star → NoneUnder covered (names p) → Part (remove room now p dir)
  spare_remove room now p false other none = spares_call {c = RemoveFile (names p) now} none (λ answer. spares_ok (refl, tt))
  spare_remove zero now p true other none = spares_ok (refl, tt)
  spare_remove (suc room) now p true other none =
      spares_reads {c = ReadDir (names p)} tt (λ listed. spare_listed (λ q dir. remove room now q dir) now p listed (λ q dir path out. spare_remove room now q dir path out) other none)

  pub spare_removal : (deep : Bool) (now : ℕ) (p : PathText) (dir : Bool) → p.bytes ≢ star → NoneUnder covered (names p) → Part (removal deep now p dir)
  spare_removal true now p dir other none = spare_remove (room_at p) now p dir other none
  spare_removal false now p true other none = spares_call {c = RemoveDir (names p) now} none (λ answer. spares_ok (refl, tt))
  spare_removal false now p false other none = spares_call {c = RemoveFile (names p) now} none (λ answer. spares_ok (refl, tt))

  -- ---- the whole

  answered_by : (p : PathText) (f : Fault) (faults : List Fault) → Sparing covered G E true Anything None (Done (delete_reply p (f ∷ faults)))
  answered_by p f [] = spares_ok tt
  answered_by p f (g ∷ faults) = spares_ok tt

  -- Off is what is known of a path that is free with everything below
  module _ (Off : Path → Type 0) (who : Caller) (c : Conditions) (ends : (p : Path) (ls : List Lock) → G ls → E (deleted p ls))
      (frees : (p : Path) (ls : List Lock) → G ls → is_free_for true (requester who (submitted c.lists)) p ls ≡ true → Off p)
      (spares : (p : Path) → Off p → IsOpenAbove G true (requester who (submitted c.lists)) p → NoneUnder covered p) where
    spare_dropped : (p : PathText) (faults : List Fault) → Sparing covered G E true Anything None (drop_if_gone p faults >>= (λ done. Done (delete_reply p faults)))
    spare_dropped p (f ∷ faults) = answered_by p f faults
    spare_dropped p [] = spares_look (λ ls g. spares_last refl (ends (names p) ls g))

    free_by : (p : Path) (ls : List Lock) → G ls → (b : Bool) → is_open true (requester who (submitted c.lists)) p (Some ls) ≡ b
        → Sparing covered G E false (At None (λ u. Off p)) None (require b (dav.Status 423))
    free_by p ls g true free = spares_ok (refl, frees p ls g free)
    free_by p ls g false free = spares_err

    spare_checked : (p : Path) (tokens : List (List ℕ)) → tokens ≡ submitted c.lists
        → Sparing covered G E false (At None (λ u. Off p)) None (require_free true (requester who tokens) p (dav.Status 423))
    spare_checked p tokens same =
        subst (λ (ts : List (List ℕ)). Sparing covered G E false (At None (λ u. Off p)) None (require_free true (requester who ts) p (dav.Status 423))) (sym same)
        (spares_look (λ ls g. free_by p ls g (is_open true (requester who (submitted c.lists)) p (Some ls)) refl))

    spare_delete_found : (deep : Bool) (p : PathText) (found : DavMetaData) → p.bytes ≢ star → Sparing covered G E true Anything None (delete_found deep c p who found)
    spare_delete_found deep p found other =
        spare_bind _
        (spare_bind _ (spare_guarded covered G E dav.Status Delete c (Some found)) (λ tokens same. spare_bind _ (spare_checked (names p) tokens same) (λ v off. spare_above covered G E who c.lists true (names p) (dav.Status 423) tokens same (λ above. spares (names p) off above))))
        (λ u none. spare_bind _ (spare_removal deep who.moment p found.dir other none) (λ faults _. spare_dropped p faults))

    pub spare_deleting : (depth : Result Bool DavError) (p : PathText) → p.bytes ≢ star
        → Sparing covered G E true Anything None (Done depth >>= (λ deep. ask_for (Metadata (names p)) >>= (λ found. delete_found deep c (closed found.dir p) who found)))
    spare_deleting depth p other =
        spare_then depth _ (λ deep _.
        spares_reads {c = Metadata (names p)} tt (λ answer.
        spare_then (refused_as dav.FsError answer) _ (λ found _. spare_delete_found deep (closed found.dir p) found (closed_is_path found.dir p other))))

-- ---- the list of locks

-- no lock of another token is the lock
pub not_listed : (h : Lock) {ls : List Lock} → AllElsewhere h ls → IsListed h ls → ⊥
not_listed h no_others there = elim there [ ]
not_listed h (another {l} off more) (listed_here is) = off.token (ap (λ (m : Lock). m.token) is)
not_listed h (another off more) (listed_later there) = not_listed h more there

module _ (h : Lock) (p : Path) where
  abbrev stays : Lock → Bool
  stays l = not (is_at_or_under (names l.path) p)

  others_left : (ls : List Lock) → AllElsewhere h ls → AllElsewhere h (deleted p ls)
  others_left [] no_others = no_others
  others_left (l ∷ ls) (another off more) = others_by l ls (stays l) off (others_left ls more) where
    others_by : (l : Lock) (ls : List Lock) (b : Bool) → IsElsewhere h l → AllElsewhere h (deleted p ls) → AllElsewhere h (cond b (l ∷ deleted p ls) (deleted p ls))
    others_by l ls true off more = another off more
    others_by l ls false off more = more

  left_here : (l : Lock) (ls : List Lock) (b : Bool) → IsSameLock h l → AllElsewhere h (deleted p ls) → IsListed h (cond b (l ∷ deleted p ls) (deleted p ls)) → Guards h (cond b (l ∷ deleted p ls) (deleted p ls))
  left_here l ls true is off there = guards_here is off
  left_here l ls false is off there = absurd (not_listed h off there)

  left_later : (l : Lock) (ls : List Lock) (b : Bool) → IsElsewhere h l → (IsListed h (deleted p ls) → Guards h (deleted p ls)) → IsListed h (cond b (l ∷ deleted p ls) (deleted p ls)) → Guards h (cond b (l ∷ deleted p ls) (deleted p ls))
  left_later l ls true off more (listed_here is) = absurd (off.token (ap (λ (m : Lock). m.token) is))
  left_later l ls true off more (listed_later there) = guards_later off (more there)
  left_later l ls false off more there = more there

  -- where the locks at a path and below it end, the guard is left, or it is gone
  pub still_guards : (ls : List Lock) → Guards h ls → StillGuards h (deleted p ls)
  still_guards [] g there = elim g [ ]
  still_guards (l ∷ ls) (guards_here is off) there = left_here l ls (stays l) is (others_left ls off) there
  still_guards (l ∷ ls) (guards_later off more) there = left_later l ls (stays l) off (still_guards ls more) there

-- ---- what is free with everything below it

module _ (h : Lock) (who : Requester) (unheld : is_held who h ≡ false) (p : Path) where
  one_outside : (l : Lock) → IsSameLock h l → (is_held who l || not (is_at_or_under (names l.path) p)) ≡ true → (b : Bool) → is_at_or_under (folder_of h) p ≡ b → b ≡ false
  one_outside l is passed false there = refl
  one_outside l is passed true there =
      let held : is_held who l ≡ false = held_still who h l is ∙ unheld in
      let here : is_at_or_under (names l.path) p ≡ true = ap (λ (m : Lock). is_at_or_under (names m.path) p) is ∙ there in
      absurd (true≢false (sym passed ∙ ap (λ b. b || not (is_at_or_under (names l.path) p)) held ∙ ap not here))

  lock_outside : {ls : List Lock} → IsListed h ls → list_all (λ l. is_held who l || not (is_at_or_under (names l.path) p)) ls ≡ true → is_at_or_under (folder_of h) p ≡ false
  lock_outside (listed_here {l} is) passed = one_outside l is (and_parts _ _ passed).0 (is_at_or_under (folder_of h) p) refl
  lock_outside (listed_later more) passed = lock_outside more (and_parts _ _ passed).1

  -- the lock isn't on what is free with everything below it, nor below
  pub free_outside_lock : (ls : List Lock) → IsListed h ls → is_free_for true who p ls ≡ true → is_at_or_under (folder_of h) p ≡ false
  free_outside_lock ls listed free = lock_outside listed (and_parts _ _ free).1

module _ (h : Lock) (exclusive : h.shared ≡ false) (who : Requester) (unheld : is_held who h ≡ false) (p : Path) where
  covered_by : (q : Path) (same under : Bool) → is_same_path (folder_of h) q ≡ same → (h.deep && is_under q (folder_of h)) ≡ under → is_at_or_under (folder_of h) p ≡ false → covers h p ≡ false
      → is_at_or_under q p ≡ true → (same || under) ≡ false
  covered_by q true under is deep outside uncovered within =
      let path : folder_of h ≡ q = same_path (folder_of h) q is in
      absurd (true≢false (sym within ∙ ap (λ (r : Path). is_at_or_under r p) (sym path) ∙ outside))
  covered_by q false false is deep outside uncovered within = refl
  covered_by q false true is deep outside uncovered within =
      let parts = and_parts h.deep (is_under q (folder_of h)) deep in
      elim (one_line p (folder_of h) q within (strictly (folder_of h) q parts.1)) [
        | inl below ↦ absurd (true≢false (sym below ∙ outside))
        | inr above ↦ absurd (true≢false (sym (deep_covers parts.0 above) ∙ uncovered))
      ]
    where
      deep_covers : h.deep ≡ true → is_at_or_under p (folder_of h) ≡ true → covers h p ≡ true
      deep_covers deep within = let r = rest (folder_of h) p within in subst (λ (x : Path). covers h x ≡ true) (sym r.1) (covers_by h r.0 deep)

  pub free_none : (ls : List Lock) → IsListed h ls → is_free_for true who p ls ≡ true → NoneUnder (covers h) p
  free_none ls listed free q within =
      covered_by q (is_same_path (folder_of h) q) (h.deep && is_under q (folder_of h)) refl refl
      (free_outside_lock h who unheld p ls listed free) (free_passes h exclusive who unheld p true ls listed free) within

pub delete_spares : DeleteSpares
delete_spares h headers p who plan exclusive other stranger (is_delete k are) =
    let unheld = stranger k.conditions are.conditions in
    let asks = requester who (submitted k.conditions.lists) in (
      spare_deleting (covers h) (IsListed h) AnyList (NoneUnder (covers h)) who k.conditions (λ q ls listed. tt) (λ q ls listed free. free_none h exclusive asks unheld q ls listed free) (λ q none above. none) (whole_depth k.depth) p other,
      spare_deleting (covers h) (Guards h) (StillGuards h) (NoneUnder (covers h)) who k.conditions (λ q ls guards. still_guards h q ls guards) (λ q ls guards free. free_none h exclusive asks unheld q ls (stands_guarded guards) free) (λ q none above. none) (whole_depth k.depth) p other,
    )
