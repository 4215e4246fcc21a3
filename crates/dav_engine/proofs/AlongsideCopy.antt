-- A holder's COPY or MOVE goes side by side with itself.
use Rattle.std.proofs.Common.{◌≡◌, ◌≢◌, ℕ, ◌++◌, ◌||◌, zero, suc, Bool, true, false, true≢false, not, if◌then◌else◌, List, [], ◌∷◌, codes, append_assoc, Option, Some, None, Result, Ok, Err, refl, sym, ap, subst, ◌∙◌}
use Rattle.std.specs.Bool.{⊤}
use Rattle.std.specs.Option.{is_none, unwrap_or}
use Rattle.std.specs.Result.{is_ok, result_ok}
use Rattle.http_header.specs.HeaderMap.{get_all}
use Rattle.dav_core.specs.declared.errors.FsError.{FsError}
use Rattle.dav_core.specs.declared.errors.DavError.{DavError}
use Rattle.dav_core.specs.declared.errors.DavError.TheVariants as dav
use Rattle.dav_core.specs.declared.fs.DavMetaData.{DavMetaData}
use Rattle.dav_core.specs.declared.method.DavMethod.{DavMethod}
use Rattle.dav_core.specs.declared.method.DavMethod.TheVariants.{Move}
use Rattle.dav_core.specs.Asking.{Metadata, ReadDir, EntryMetadata, CreateDir, Copy, Rename}
use Rattle.dav_core.specs.Locks.{Lock}
use Rattle.dav_core.specs.Path.{Path, PathText, star, names, names_in, is_at_or_under, parent_of, are_equal}
use Rattle.dav_core.proofs.Theorems.{parent-append}
use Rattle.dav_engine.specs.Alongside.{SameResult, SameMetadata, Alongside, side_ok, side_err, side_asks, side_look, side_keep, SameAnswers}
use Rattle.dav_engine.specs.IsolatedPlans.{CopyMoveIsIsolated}
use Rattle.dav_engine.specs.Caller.{Caller, requester}
use Rattle.dav_engine.specs.Conditions.{Conditions, Addressed}
use Rattle.dav_engine.specs.Copying.{CopyFault, refused_at, CopyWalk, copy_seen, copy_members, copy_listed, copy_inside, faults_at_depth_0, copy_kind, copy_looked, copy}
use Rattle.dav_engine.specs.CopyMove.{CopyHeaders, DestinationNames, is_move, copy_depth, destination_found, source_free, copy_free, copy_allowed, changes_members, is_replaced, clearing, drop_if, drop_if_moved, copied_status, copy_reply, transfer_reply, transfer_if_cleared, copy_found, copy_or_move, is_copy_move}
use Rattle.dav_engine.specs.Folder.{closed, child_of, room_at, is_folder_found}
use Rattle.dav_engine.specs.Guard.{folder_of, IsGuard, SubmitOnly}
use Rattle.dav_engine.specs.Method.{MethodPlan, then as followed_by, ◌>>=◌, require_free, require_parent, gives, refused_as}
use Rattle.dav_engine.specs.Plan.{Done}
use Rattle.dav_engine.specs.Reply.{Reply}
use Rattle.dav_engine.specs.Removal.{Fault, removal}
use Rattle.dav_engine.proofs.AlongsideDelete.{SidePart, IsIn, member_in, side_removal, guards_still}
use Rattle.dav_engine.proofs.IsolatedPlans.{AtBoth, AreTold, told_results, found_same, holders, in_reach, in_side, only_lists, side_bind, side_then, side_require, side_guarded, side_free, side_parent}
use Rattle.dav_engine.proofs.ChildLemmas.{names_closed, closed_is_path, slash_is_path}
use Rattle.dav_engine.proofs.CopyHeaderLemmas.{place_by, plain_other}
use Rattle.dav_engine.proofs.FaultLemmas.{not_above}

-- ---- the copy

module _ (h : Lock) where
  abbrev SideCopy : CopyWalk → Type 0
  SideCopy walk = (a b : PathText) (x y : Path) → a.bytes ≢ star → b.bytes ≢ star → IsIn h a x → IsIn h b y → SidePart h (walk a b) (walk a b)

  module _ (walk : CopyWalk) (s d : PathText) (x y : Path) (more : SideCopy walk) (from : s.bytes ≢ star) (to : d.bytes ≢ star) (at : IsIn h s x) (place : IsIn h d y) where
    seen_by : (name : List ℕ) (rest : MethodPlan (List CopyFault)) → SidePart h rest rest → (dir : Bool)
        → SidePart h (walk (child_of s name dir) (child_of d name dir) >>= (λ faults. rest >>= (λ others. gives (faults ++ others)))) (walk (child_of s name dir) (child_of d name dir) >>= (λ faults. rest >>= (λ others. gives (faults ++ others))))
    seen_by name rest left dir =
        side_bind _ _ (more (child_of s name dir) (child_of d name dir) (x ++ names_in name) (y ++ names_in name) (slash_is_path s name dir) (slash_is_path d name dir) (member_in h s x name dir from at) (member_in h d y name dir to place)) (λ faults others same.
        side_bind _ _ left (λ ms ns alike. side_ok (refl, ap (λ l. l ++ ms) same ∙ ap (λ l. others ++ l) alike)))

    side_seen : (name : List ℕ) (rest : MethodPlan (List CopyFault)) (a b : Result DavMetaData FsError) → SidePart h rest rest → SameResult SameMetadata a b → SidePart h (copy_seen walk s d name rest a) (copy_seen walk s d name rest b)
    side_seen name rest (Ok m) (Ok n) left same =
        subst (λ (k : Bool). SidePart h (copy_seen walk s d name rest (Ok m)) (walk (child_of s name k) (child_of d name k) >>= (λ faults. rest >>= (λ others. gives (faults ++ others))))) same.dir (seen_by name rest left m.dir)
    side_seen name rest (Err e) (Err f) left same = side_ok (refl, ap (λ (z : FsError). (s, z) ∷ []) same)
    side_seen name rest (Ok m) (Err f) left same = absurd same
    side_seen name rest (Err e) (Ok n) left same = absurd same

    side_members : (entries : List (List ℕ × Bool)) → SidePart h (copy_members walk s d entries) (copy_members walk s d entries)
    side_members [] = side_ok (refl, refl)
    side_members (entry ∷ entries) =
        side_asks {c = EntryMetadata (names s ++ entry.0 ∷ [])} (x ++ entry.0 ∷ [], ap (λ ns. ns ++ entry.0 ∷ []) at ∙ append_assoc (folder_of h) x (entry.0 ∷ []))
        (λ a b told. side_seen entry.0 (copy_members walk s d entries) a b (side_members entries) told)

    side_listed : (a b : Result (List (List ℕ × Bool)) FsError) → SameResult (λ z w. z ≡ w) a b → SidePart h (copy_listed walk s d a) (copy_listed walk s d b)
    side_listed (Ok entries) (Ok others) same = subst (λ (es : List (List ℕ × Bool)). SidePart h (copy_members walk s d entries) (copy_members walk s d es)) same (side_members entries)
    side_listed (Err e) (Err f) same = side_ok (refl, ap (λ (z : FsError). (s, z) ∷ []) same)
    side_listed (Ok entries) (Err f) same = absurd same
    side_listed (Err e) (Ok others) same = absurd same

    side_inside : (a b : Result (Unit {0}) FsError) → SameResult (λ z w. ⊤) a b → SidePart h (copy_inside walk s d a) (copy_inside walk s d b)
    side_inside (Ok u) (Ok v) same = side_asks {c = ReadDir (names s)} (x, at) side_listed
    side_inside (Err e) (Err f) same = side_ok (refl, ap (λ (z : FsError). (d, z) ∷ []) same)
    side_inside (Ok u) (Err f) same = absurd same
    side_inside (Err e) (Ok v) same = absurd same

    side_alone : (a b : Result (Unit {0}) FsError) → SameResult (λ z w. ⊤) a b → SidePart h (gives (faults_at_depth_0 d a)) (gives (faults_at_depth_0 d b))
    side_alone (Ok u) (Ok v) same = side_ok (refl, refl)
    side_alone (Err e) (Err f) same = side_ok (refl, ap (λ (z : FsError). faults_at_depth_0 d (Err z)) same)
    side_alone (Ok u) (Err f) same = absurd same
    side_alone (Err e) (Ok v) same = absurd same

    side_file : (a b : Result (Unit {0}) FsError) → SameResult (λ z w. ⊤) a b → SidePart h (gives (refused_at s a)) (gives (refused_at s b))
    side_file (Ok u) (Ok v) same = side_ok (refl, refl)
    side_file (Err e) (Err f) same = side_ok (refl, ap (λ (z : FsError). (s, z) ∷ []) same)
    side_file (Ok u) (Err f) same = absurd same
    side_file (Err e) (Ok v) same = absurd same

    side_kind : (deep dir : Bool) (now : ℕ) → SidePart h (copy_kind deep dir walk now s d) (copy_kind deep dir walk now s d)
    side_kind true true now = side_asks {c = CreateDir (names d) now} (y, place) side_inside
    side_kind false true now = side_asks {c = CreateDir (names d) now} (y, place) side_alone
    side_kind deep false now = side_asks {c = Copy (names s) (names d) now} ((x, at), (y, place)) side_file

    side_looked : (deep : Bool) (now : ℕ) (a b : Result DavMetaData FsError) → SameResult SameMetadata a b → SidePart h (copy_looked deep walk now s d a) (copy_looked deep walk now s d b)
    side_looked deep now (Ok m) (Ok n) same = subst (λ (k : Bool). SidePart h (copy_kind deep m.dir walk now s d) (copy_kind deep k walk now s d)) same.dir (side_kind deep m.dir now)
    side_looked deep now (Err e) (Err f) same = side_ok (refl, ap (λ (z : FsError). (s, z) ∷ []) same)
    side_looked deep now (Ok m) (Err f) same = absurd same
    side_looked deep now (Err e) (Ok n) same = absurd same

  side_if : {A : Type 0} (b : Bool) (one two : MethodPlan A) → SidePart h one one → SidePart h two two → SidePart h (if b then one else two) (if b then one else two)
  side_if true one two is also = is
  side_if false one two is also = also

  side_copy : (room : ℕ) (deep : Bool) (now : ℕ) (top s d : PathText) (x y : Path) → s.bytes ≢ star → d.bytes ≢ star → IsIn h s x → IsIn h d y → SidePart h (copy room deep now top s d) (copy room deep now top s d)
  side_copy zero deep now top s d x y from to at place = side_ok (refl, refl)
  side_copy (suc room) deep now top s d x y from to at place =
      side_if (are_equal s top) (gives []) _ (side_ok (refl, refl))
      (side_asks {c = Metadata (names s)} (x, at)
      (side_looked (λ a b. copy room deep now top a b) s d x y (λ a b v w other path in_a in_b. side_copy room deep now top a b v w other path in_a in_b) from to at place deep now))

-- ---- what is found at the destination

told_folder : (o p : Option DavMetaData) → AreTold o p → is_folder_found o ≡ is_folder_found p
told_folder None None same = refl
told_folder (Some m) (Some n) same = same.dir
told_folder None (Some n) same = absurd same
told_folder (Some m) None same = absurd same

told_replaced : (deep : Bool) (o p : Option DavMetaData) → AreTold o p → is_replaced deep o ≡ is_replaced deep p
told_replaced deep None None same = refl
told_replaced deep (Some m) (Some n) same = ap (λ (b : Bool). deep || not b) same.dir
told_replaced deep None (Some n) same = absurd same
told_replaced deep (Some m) None same = absurd same

told_changes : (moves deep : Bool) (o p : Option DavMetaData) → AreTold o p → changes_members moves deep o ≡ changes_members moves deep p
told_changes moves deep None None same = refl
told_changes moves deep (Some m) (Some n) same = ap (λ (b : Bool). moves || is_none (Some m) || (deep || not b)) same.dir
told_changes moves deep None (Some n) same = absurd same
told_changes moves deep (Some m) None same = absurd same

told_status : (o p : Option DavMetaData) → AreTold o p → copied_status o ≡ copied_status p
told_status None None same = refl
told_status (Some m) (Some n) same = refl
told_status None (Some n) same = absurd same
told_status (Some m) None same = absurd same

module _ (h : Lock) (d : PathText) (z : List ℕ) (r : Path) (place : IsIn h d (z ∷ r)) where
  side_destination : (overwrite : Option Bool) → Alongside h false (AtBoth None AreTold) None (destination_found overwrite d) (destination_found overwrite d)
  side_destination overwrite =
      side_asks {c = Metadata (parent_of (names d))} (parent_of (z ∷ r), ap parent_of place ∙ parent-append (folder_of h) z r) (λ a b told.
      side_bind _ _ (side_require (is_folder_found (result_ok a)) (is_folder_found (result_ok b)) (dav.Status 409) (told_folder (result_ok a) (result_ok b) (told_results a b told))) (λ u v _.
      side_asks {c = Metadata (names d)} (z ∷ r, place) (λ x z seen.
      side_bind _ _ (side_require (unwrap_or overwrite true || not (is_ok x)) (unwrap_or overwrite true || not (is_ok z)) (dav.Status 412) (ap (λ (k : Bool). unwrap_or overwrite true || not k) (found_same x z seen))) (λ v w _.
      side_ok (refl, told_results x z seen)))))

-- ---- the whole

-- a path strictly below the lock's folder
abbrev IsBelow : Lock → PathText → Type 0
IsBelow h p = (w : List ℕ) × (v : Path) × IsIn h p (w ∷ v)

module _ (h : Lock) (guard : IsGuard h) (who : Caller) {lists : List Addressed} (only : SubmitOnly h lists) (p d : PathText) (x : Path) (z : List ℕ) (r : Path) (from : p.bytes ≢ star) (to : d.bytes ≢ star) (at : IsIn h p x) (place : IsIn h d (z ∷ r)) where
  free_at : (q : PathText) (rest : Path) (ts us : List (List ℕ)) → IsIn h q rest → ts ≡ us → SidePart h (require_free true (requester who ts) (names q) (dav.Status 423)) (require_free true (requester who us) (names q) (dav.Status 423))
  free_at q rest ts us is same =
      subst (λ (r : Path). SidePart h (require_free true (requester who ts) r (dav.Status 423)) (require_free true (requester who us) r (dav.Status 423))) (sym is) (side_free h guard true who rest (dav.Status 423) ts us same)

  side_source : (moves : Bool) (ts us : List (List ℕ)) → ts ≡ us → SidePart h (source_free moves who ts p) (source_free moves who us p)
  side_source true ts us same = free_at p x ts us at same
  side_source false ts us same = side_ok (refl, refl)

  parent_at : (q : PathText) (b c : Bool) (ts us : List (List ℕ)) → IsBelow h q → b ≡ c → ts ≡ us → SidePart h (require_parent b (requester who ts) (names q) (dav.Status 423)) (require_parent c (requester who us) (names q) (dav.Status 423))
  parent_at q b c ts us (w, v, is) kind same =
      subst (λ (f : Path). SidePart h (require_parent b (requester who ts) f (dav.Status 423)) (require_parent c (requester who us) f (dav.Status 423))) (sym is) (side_parent h guard b c who w v (dav.Status 423) ts us kind same)

  side_above_source : (moves : Bool) → (moves ≡ true → IsBelow h p) → (ts us : List (List ℕ)) → ts ≡ us
      → SidePart h (require_parent moves (requester who ts) (names p) (dav.Status 423)) (require_parent moves (requester who us) (names p) (dav.Status 423))
  side_above_source true below ts us same = parent_at p true true ts us (below refl) refl same
  side_above_source false below ts us same = side_ok (refl, refl)

  side_judged : (m : DavMethod) (deep : Bool) (a b : DavMetaData) (there others : Option DavMetaData) → (is_move m ≡ true → IsBelow h p) → AreTold there others
      → SidePart h (copy_free m deep (holders lists) p d who a there) (copy_free m deep (holders lists) p d who b others)
  side_judged m deep a b there others below told =
      side_bind _ _ (side_guarded h guard dav.Status m (Some a) (Some b) only) (λ ts us same.
      side_bind _ _ (side_bind _ _ (side_source (is_move m) ts us same) (λ u v _. free_at d (z ∷ r) ts us place same)) (λ u v _.
      side_bind _ _ (side_above_source (is_move m) below ts us same) (λ u v _.
      parent_at d (changes_members (is_move m) deep there) (changes_members (is_move m) deep others) ts us (z, r, place) (told_changes (is_move m) deep there others told) same)))

  -- what is strictly below the lock's folder isn't above it
  off_place : is_at_or_under (folder_of h) (names d) ≡ false
  off_place = ap (is_at_or_under (folder_of h)) place ∙ not_above (folder_of h) z r

  side_allowed : (m : DavMethod) (deep : Bool) (k : CopyHeaders) (a b : DavMetaData) → (is_move m ≡ true → IsBelow h p) → k.conditions ≡ holders lists
      → Alongside h false (AtBoth None AreTold) None (copy_allowed m deep k p d who a) (copy_allowed m deep k p d who b)
  side_allowed m deep k a b below is =
      side_bind _ _ (side_destination h d z r place k.overwrite) (λ there others told.
      side_bind (λ u. copy_free m deep k.conditions p d who a there >>= (λ v. gives there)) (λ u. copy_free m deep k.conditions p d who b others >>= (λ v. gives others))
      (side_require (not (is_at_or_under (names p) (names d))) (not (is_at_or_under (names p) (names d))) (dav.Status 403) refl) (λ u v _.
      side_bind (λ v. gives there) (λ v. gives others)
      (subst (λ (c : Conditions). SidePart h (copy_free m deep c p d who a there) (copy_free m deep c p d who b others)) (sym is) (side_judged m deep a b there others below told)) (λ s t _. side_ok (refl, told))))

  side_clearing : (deep : Bool) (now : ℕ) (a b : Option DavMetaData) → AreTold a b → SidePart h (clearing deep now d a) (clearing deep now d b)
  side_clearing deep now a b told =
      subst (λ (k : Bool). SidePart h (clearing deep now d a) (if k then removal true now d (is_folder_found b) else gives [])) (told_replaced deep a b told)
      (subst (λ (k : Bool). SidePart h (clearing deep now d a) (if is_replaced deep a then removal true now d k else gives [])) (told_folder a b told)
      (side_if h (is_replaced deep a) (removal true now d (is_folder_found a)) (gives []) (side_removal h true now d (is_folder_found a) (z ∷ r) to place) (side_ok (refl, refl))))

  abbrev Whole : MethodPlan Reply → MethodPlan Reply → Type 0
  Whole plan plan' = Alongside h true (λ file. SameAnswers) None plan plan'

  side_dropped : (b : Bool) → is_at_or_under (folder_of h) (names d) ≡ false → SidePart h (drop_if b d) (drop_if b d)
  side_dropped true off = side_look (λ ls ks g g'. side_keep (guards_still h (names d) ls off g) (guards_still h (names d) ks off g') (side_ok (refl, refl)))
  side_dropped false off = side_ok (refl, refl)

  replied : (status : ℕ) (faults : List CopyFault) → Whole (Done (copy_reply p status faults)) (Done (copy_reply p status faults))
  replied status [] = side_ok refl
  replied status (f ∷ []) = side_ok refl
  replied status (f ∷ g ∷ faults) = side_ok refl

  abbrev after : ℕ → Result (Unit {0}) FsError → MethodPlan Reply
  after status moved = (drop_if_moved p (refused_at p moved) >>= (λ u. gives (refused_at p moved))) >>= (λ faults. Done (copy_reply p status faults))

  -- the locks of the source end
  side_moved : (status : ℕ) → IsBelow h p → (a b : Result (Unit {0}) FsError) → SameResult (λ z w. ⊤) a b → Whole (after status a) (after status b)
  side_moved status (w, v, is) (Ok u) (Ok t) same =
      let off : is_at_or_under (folder_of h) (names p) ≡ false = ap (is_at_or_under (folder_of h)) is ∙ not_above (folder_of h) w v in
      side_look (λ ls ks g g'. side_keep (guards_still h (names p) ls off g) (guards_still h (names p) ks off g') (side_ok refl))
  side_moved status below (Err e) (Err f) same = subst (λ (c : FsError). Whole (after status (Err e)) (after status (Err c))) same (side_ok refl)
  side_moved status below (Ok u) (Err f) same = absurd same
  side_moved status below (Err e) (Ok v) same = absurd same

  side_bringing : (moves deep : Bool) (now status : ℕ) → (moves ≡ true → IsBelow h p) → Whole (transfer_reply moves deep now p d status) (transfer_reply moves deep now p d status)
  side_bringing true deep now status below = side_asks {c = Rename (names p) (names d) now} ((x, at), (z ∷ r, place)) (side_moved status (below refl))
  side_bringing false deep now status below =
      side_bind _ _ (side_copy h (room_at p) deep now d p d x (z ∷ r) from to at place) (λ faults others same.
      subst (λ (fs : List CopyFault). Whole (Done (copy_reply p status faults)) (Done (copy_reply p status fs))) same (replied status faults))

  side_bring : (moves deep : Bool) (now : ℕ) (a b : Option DavMetaData) (faults : List Fault) → (moves ≡ true → IsBelow h p) → AreTold a b
      → Whole (transfer_if_cleared moves deep now p d a faults) (transfer_if_cleared moves deep now p d b faults)
  side_bring moves deep now a b (f ∷ []) below told = side_ok refl
  side_bring moves deep now a b (f ∷ g ∷ faults) below told = side_ok refl
  side_bring moves deep now a b [] below told =
      side_bind (λ u. transfer_reply moves deep now p d (copied_status a)) (λ u. transfer_reply moves deep now p d (copied_status b))
      (subst (λ (k : Bool). SidePart h (drop_if (is_replaced deep a) d) (drop_if k d)) (told_replaced deep a b told) (side_dropped (is_replaced deep a) off_place)) (λ u v _.
      subst (λ (n : ℕ). Whole (transfer_reply moves deep now p d (copied_status a)) (transfer_reply moves deep now p d n)) (told_status a b told) (side_bringing moves deep now (copied_status a) below))

  side_copied : (m : DavMethod) (deep : Bool) (k : CopyHeaders) (a b : DavMetaData) → (is_move m ≡ true → IsBelow h p) → k.conditions ≡ holders lists → Whole (copy_found m deep k p d who a) (copy_found m deep k p d who b)
  side_copied m deep k a b below is =
      side_bind {Q = AreTold} _ _ (side_allowed m deep k a b below is) (λ there others told.
      side_bind _ _ (side_clearing deep who.moment there others told) (λ faults left same.
      subst (λ (fs : List Fault). Whole (transfer_if_cleared (is_move m) deep who.moment p d there faults) (transfer_if_cleared (is_move m) deep who.moment p d others fs)) same
      (side_bring (is_move m) deep who.moment there others faults below told)))

module _ (h : Lock) (guard : IsGuard h) (who : Caller) {lists : List Addressed} (only : SubmitOnly h lists) (m : DavMethod) (k : CopyHeaders) (is : k.conditions ≡ holders lists) (p : PathText) (x : Path) (from : p.bytes ≢ star) (at : IsIn h p x) (below : is_move m ≡ true → IsBelow h p) where
  below_closed : (dir : Bool) → is_move m ≡ true → IsBelow h (closed dir p)
  below_closed dir moves = let (w, v, is) = below moves in (w, v, names_closed dir p from ∙ is)

  side_told : (deep : Bool) (d : PathText) (z : List ℕ) (r : Path) → d.bytes ≢ star → IsIn h d (z ∷ r) → (a b : Result DavMetaData FsError) → SameResult SameMetadata a b
      → Alongside h true (λ file. SameAnswers) None (followed_by (refused_as dav.FsError a) (λ found. copy_found m deep k (closed found.dir p) d who found)) (followed_by (refused_as dav.FsError b) (λ found. copy_found m deep k (closed found.dir p) d who found))
  side_told deep d z r to place (Ok a) (Ok b) same =
      subst (λ (c : Bool). Alongside h true (λ file. SameAnswers) None (copy_found m deep k (closed a.dir p) d who a) (copy_found m deep k (closed c p) d who b)) same.dir
      (side_copied h guard who only (closed a.dir p) d x z r (closed_is_path a.dir p from) to (names_closed a.dir p from ∙ at) place m deep k a b (below_closed a.dir) is)
  side_told deep d z r to place (Err e) (Err f) same = subst (λ (c : FsError). Alongside h true (λ file. SameAnswers) None (Done (Err (dav.FsError e))) (Done (Err (dav.FsError c)))) same side_err
  side_told deep d z r to place (Ok a) (Err f) same = absurd same
  side_told deep d z r to place (Err e) (Ok b) same = absurd same

  side_to : (r : Result PathText DavError) (f : PathText → MethodPlan Reply) → ((d : PathText) → r ≡ Ok d → Alongside h true (λ file. SameAnswers) None (f d) (f d)) → Alongside h true (λ file. SameAnswers) None (followed_by r f) (followed_by r f)
  side_to (Ok d) f more = more d refl
  side_to (Err e) f more = side_err

  side_whole : ((d : PathText) → k.destination ≡ Ok d → (d.bytes ≢ star) × IsBelow h d) → Alongside h true (λ file. SameAnswers) None (copy_or_move m k p who) (copy_or_move m k p who)
  side_whole where_to =
      side_then (copy_depth (is_move m) k.depth) (copy_depth (is_move m) k.depth) _ _ refl (λ deep.
      side_to k.destination _ (λ d named. let (to, place_below) = where_to d named in let (z, r, place) = place_below in
      side_asks {c = Metadata (names p)} (x, at) (λ a b told. side_told deep d z r to place a b told)))

moves_is : (m : DavMethod) → is_move m ≡ true → m ≡ Move
moves_is Move is = refl
moves_is _ is = absurd (true≢false (sym is))

pub copymove_goes_along : CopyMoveIsIsolated
copymove_goes_along h m headers p who plan guard other inside within reach alone (is_copy_move k are) =
    let (x, at) = in_reach h (names p) within in
    side_whole h guard who alone.only m k (only_lists alone k.conditions are.conditions) p x other at (λ moves. in_side h (names p) (inside (moves_is m moves))) (λ d named.
    (plain_other d (place_by d are.destination named).plain, in_side h (names d) (reach d (subst (λ (r : Result PathText DavError). DestinationNames p.prefix (get_all headers (codes "destination")) r) named are.destination))))
