-- What a PUT or PATCH ends in once its file is open: 404, 413 or 500, where the store refuses nothing but by the rules of its calls.
use Rattle.std.proofs.Common.{◌≡◌, ◌≢◌, ◌≤◌, ◌⊎◌, inl, inr, ℕ, ◌+◌, ◌==◌, ◌||◌, Bool, true, false, true≢false, not, if◌then◌else◌, length, List, [], All, Option, Some, None, Result, Ok, Err, refl, sym, ap, subst, ◌∙◌}
use Rattle.std.proofs.lemmas.Bool.{eq-eqb}
use Rattle.std.specs.Result.{result_ok}
use Rattle.std.specs.declared.io.traits.SeekFrom.TheVariants.{Start}
use Rattle.dav_core.specs.declared.errors.FsError.{FsError}
use Rattle.dav_core.specs.declared.errors.FsError.TheVariants as fs
use Rattle.dav_core.specs.declared.errors.DavError.{DavError}
use Rattle.dav_core.specs.declared.errors.DavError.TheVariants as dav
use Rattle.dav_core.specs.declared.method.DavMethod.{DavMethod}
use Rattle.dav_core.specs.declared.method.DavMethod.TheVariants.{Put}
use Rattle.dav_core.specs.Asking.{Open, Write, Seek, Flush, FileMetadata, meaning, answered, StoreState, Asks as Asking}
use Rattle.dav_core.specs.Calls.{open_at, emptied}
use Rattle.dav_core.specs.CallLaws.{IsStorable}
use Rattle.dav_core.specs.Handle.{Handle, Opening, opened}
use Rattle.dav_core.specs.Meaning.{Meaning, refuse_if, at_node}
use Rattle.dav_core.specs.Path.{Path, parent_of}
use Rattle.dav_core.specs.Status.{dav_status, fs_status}
use Rattle.dav_core.specs.World.{World, Node, File, IsWorld, last_moment, last_number, file_made_with, node_at, is_folder, is_folder_kind, with_new, adjust}
use Rattle.dav_core.proofs.Theorems.{opened_stands}
use Rattle.dav_engine.specs.declared.methods.put.headers.Writing.{Writing}
use Rattle.dav_engine.specs.Caller.{Caller}
use Rattle.dav_engine.specs.Method.{MethodPlan, then as followed_by, ◌>>=◌, gives, fails, answer_of, ask_for}
use Rattle.dav_engine.specs.Plan.{Locks, Done, Ran, ran_done, ran_ask, ran_look, ran_keep}
use Rattle.dav_engine.specs.Put.{PutHeaders, put_opening, sought, written, stored, store, put_allowed, put_body}
use Rattle.dav_engine.specs.Reply.{Reply, reply_to}
use Rattle.dav_engine.specs.WorldLaws.{reads_done}
use Rattle.dav_engine.proofs.PlanLemmas.{ran_unset}
use Rattle.dav_engine.proofs.UnrefusedListings.{IsNone, answer_is, left_none}
use Rattle.dav_engine.proofs.Theorems.{Did, stays, means, did, look_reads, only_put_allowed, only_reads, reading_leaves, ran_split, ran_outcome}
use Rattle.dav_server.specs.Leaving.{may_come_late}

abbrev pub Same : StoreState → Locks → StoreState → Locks → Type 0
Same old ls new ms = (new.world ≡ old.world) × (ms ≡ ls)

-- ---- a file that was opened

-- the status of an error that may come once the file is open
abbrev pub IsFileStatus : ℕ → Type 0
IsFileStatus status = (status ≡ 404) ⊎ (status ≡ 413) ⊎ (status ≡ 500)

or_left : (a b : Bool) → a ≡ true → (a || b) ≡ true
or_left true b is = refl
or_left false b is = absurd (true≢false (sym is))

or_right : (a b : Bool) → b ≡ true → (a || b) ≡ true
or_right true b is = refl
or_right false b is = is

pub file_late : (status : ℕ) → IsFileStatus status → may_come_late Put status ≡ true
file_late status (inl is) = or_left _ _ (or_left (status == 404) (status == 413) (eq-eqb status 404 is))
file_late status (inr (inl is)) = or_left _ _ (or_right (status == 404) (status == 413) (eq-eqb status 413 is))
file_late status (inr (inr is)) = or_right ((status == 404) || (status == 413)) (status == 500) (eq-eqb status 500 is)

-- what an open file was opened for
found_open : (refused exists emptied full : Bool) (r one other : Handle × World)
    → refuse_if refused fs.Forbidden (refuse_if exists fs.Exists (if emptied then refuse_if full fs.GeneralFailure (Ok one) else Ok other)) ≡ Ok r → (r ≡ one) ⊎ (r ≡ other)
found_open true exists emptied full r one other h = absurd cc
found_open false true emptied full r one other h = absurd cc
found_open false false true true r one other h = absurd cc
found_open false false true false r one other h = inl (let same : one ≡ r = cc in sym same)
found_open false false false full r one other h = inr (let same : other ≡ r = cc in sym same)

made_open : (unasked orphan full : Bool) (r one : Handle × World) → refuse_if unasked fs.NotFound (refuse_if orphan fs.NotFound (refuse_if full fs.GeneralFailure (Ok one))) ≡ Ok r → r ≡ one
made_open true orphan full r one h = absurd cc
made_open false true full r one h = absurd cc
made_open false false true r one h = absurd cc
made_open false false false r one h = let same : one ≡ r = cc in sym same

writes_so : (r one : Handle × World) → r ≡ one → one.0.writes ≡ true → r.0.writes ≡ true
writes_so r one same is = ap (λ (q : Handle × World). q.0.writes) same ∙ is

open_writes : (w : World) (p : Path) (how : Opening) (now : ℕ) (o : Option Node) (r : Handle × World) → how.write ≡ true → open_at w p how now o ≡ Ok r → r.0.writes ≡ true
open_writes w p how now None r writes h =
    writes_so r (opened w.next how, with_new w p (File []) [] now) (made_open (not (how.create || how.create_new)) (not (is_folder w (parent_of p))) (w.next == last_number) r (opened w.next how, with_new w p (File []) [] now) h)
    (or_left how.write how.append writes)
open_writes w p how now (Some n) r writes h =
    let made : Handle × World = (opened n.made how, record { nodes = adjust p (emptied w.next now) w.nodes; next = w.next + 1 }) in
    elim (found_open (is_folder_kind n.kind) how.create_new how.truncate (w.next == last_number) r made (opened n.made how, w) h) [
      | inl same ↦ writes_so r made same (or_left how.write how.append writes)
      | inr same ↦ writes_so r (opened n.made how, w) same (or_left how.write how.append writes)
    ]

-- a flush is refused where the file is gone
flush_by : (w : World) (o : Option Node) (d : FsError) → Err d ≡ (answered w (at_node o (λ n. Ok (tt {0}, w)))).0 → d ≡ fs.NotFound
flush_by w None d is = cc
flush_by w (Some n) d is = absurd cc

-- a write is refused there too, or where the file would be too large, or no number is left
write_by : {A : Type 0} (w : World) (refused large some full : Bool) (d : FsError) (one other : A × World) → refused ≡ false
    → Err d ≡ (answered w (refuse_if refused fs.Forbidden (refuse_if large fs.TooLarge (if some then refuse_if full fs.GeneralFailure (Ok one) else Ok other)))).0
    → (d ≡ fs.TooLarge) ⊎ (d ≡ fs.GeneralFailure)
write_by w true large some full d one other may is = absurd (true≢false may)
write_by w false true some full d one other may is = inl cc
write_by w false false true true d one other may is = inr cc
write_by w false false true false d one other may is = absurd cc
write_by w false false false full d one other may is = absurd cc

file_status : {d : FsError} → (d ≡ fs.NotFound) ⊎ (d ≡ fs.TooLarge) ⊎ (d ≡ fs.GeneralFailure) → IsFileStatus (fs_status d)
file_status (inl is) = inl (ap fs_status is)
file_status (inr (inl is)) = inr (inl (ap fs_status is))
file_status (inr (inr is)) = inr (inr (ap fs_status is))

write_at : (w : World) (file : Handle) (c : List ℕ) (now : ℕ) (o : Option Node) (d : FsError) (f : Node → Meaning Handle)
    → ((n : Node) → Err d ≡ (answered w (f n)).0 → (d ≡ fs.TooLarge) ⊎ (d ≡ fs.GeneralFailure))
    → Err d ≡ (answered w (at_node o f)).0 → (d ≡ fs.NotFound) ⊎ (d ≡ fs.TooLarge) ⊎ (d ≡ fs.GeneralFailure)
write_at w file c now None d f each is = inl cc
write_at w file c now (Some n) d f each is = inr (each n is)

not_true : (b : Bool) → b ≡ true → not b ≡ false
not_true true is = refl
not_true false is = absurd (true≢false (sym is))

write_fails : (file : Handle) (c : List ℕ) (now : ℕ) (d : FsError) {old new : StoreState} → All IsNone old.refusals → new.short ≡ false → file.writes ≡ true
    → Asking (Write file c now) old (Err d) new → IsFileStatus (fs_status d)
unfolding meaning
write_fails file c now d {old} none unset writes one =
    file_status (write_at old.world file c now (file_made_with file.made old.world.nodes) d _ (λ n is. write_by old.world (not file.writes) _ _ _ d _ _ (not_true file.writes writes) is) (answer_is none unset one))

flush_fails : (file : Handle) (d : FsError) {old new : StoreState} → All IsNone old.refusals → new.short ≡ false → Asking (Flush file) old (Err d) new → IsFileStatus (fs_status d)
unfolding meaning
flush_fails file d {old} none unset one = file_status (inl (flush_by old.world (file_made_with file.made old.world.nodes) d (answer_is none unset one)))

-- a seek in a file that is there isn't refused
seek_by : (w : World) (o : Option Node) (n : Node) (d : FsError) (f : Node → (ℕ × Handle)) → o ≡ Some n → Err d ≡ (answered w (at_node o (λ n. Ok (f n, w)))).0 → ⊥
seek_by w None n d f there is = absurd cc
seek_by w (Some m) n d f there is = absurd cc

seek_fails : (file : Handle) (k : ℕ) (d : FsError) (n : Node) {old new : StoreState} → All IsNone old.refusals → new.short ≡ false → file_made_with file.made old.world.nodes ≡ Some n
    → ¬ Asking (Seek file (Start k)) old (Err d) new
unfolding meaning
seek_fails file k d n {old} none unset there one = seek_by old.world (file_made_with file.made old.world.nodes) n d (λ n. (k, record file { position = k })) there (answer_is none unset one)

-- and leaves what the file was opened for
moved_by : (w : World) (o : Option Node) (moved : ℕ × Handle) (r : (ℕ × Handle) × World) → at_node o (λ n. Ok (moved, w)) ≡ Ok r → r.0 ≡ moved
moved_by w None moved r h = absurd cc
moved_by w (Some n) moved r h = let same : (moved, w) ≡ r = cc in sym (ap (λ (q : (ℕ × Handle) × World). q.0) same)

seek_moves : (w : World) (file : Handle) (k : ℕ) (r : (ℕ × Handle) × World) → meaning (Seek file (Start k)) w ≡ Ok r → r.0.1.writes ≡ file.writes
unfolding meaning
seek_moves w file k r h = ap (λ (q : ℕ × Handle). q.1.writes) (moved_by w (file_made_with file.made w.nodes) (k, record file { position = k }) r h)

seek_writes : (file : Handle) (k : ℕ) (moved : ℕ × Handle) {w v : World} → Did (meaning (Seek file (Start k)) w) w (Ok moved) v → file.writes ≡ true → moved.1.writes ≡ true
seek_writes file k moved (stays d is same) writes = absurd cc
seek_writes file k moved {w} (means r h is same) writes =
    let told : moved ≡ r.0 = cc in
    ap (λ (q : ℕ × Handle). q.1.writes) told ∙ seek_moves w file k r h ∙ writes

-- ---- a PUT or PATCH

no_error : {A : Type 0} {a : A} {e : DavError} {old new : StoreState} {ls ms : Locks} → ¬ Ran Asking (gives a) old ls (Err e) new ms
no_error ran = let is = ran_outcome ran in cc

ends_so : {e : DavError} {d : FsError} {old new : StoreState} {ls ms : Locks} → Ran Asking (fails {A = Reply} (dav.FsError d)) old ls (Err e) new ms → IsFileStatus (fs_status d) → IsFileStatus (dav_status e)
ends_so rest is = subst IsFileStatus (sym (ap (λ (o : Result Reply DavError). (reply_to o).status) (ran_outcome rest))) is

ran_none : {A : Type 0} {plan : MethodPlan A} {old new : StoreState} {ls ms : Locks} {outcome : Result A DavError} → All IsNone old.refusals → Ran Asking plan old ls outcome new ms → All IsNone new.refusals
ran_none none ran_done = none
ran_none none (ran_ask one rest) = ran_none (left_none one none) rest
ran_none none (ran_look rest) = ran_none none rest
ran_none none (ran_keep rest) = ran_none none rest

abbrev flushing : Bool → Handle → MethodPlan Reply
flushing found file = do
  _ ← ask_for (Flush file)
  after ← answer_of (FileMetadata file)
  gives (stored found (result_ok after))

flushes : (found : Bool) (file : Handle) {e : DavError} {old new : StoreState} {ls ms : Locks} → All IsNone old.refusals → new.short ≡ false
    → Ran Asking (flushing found file) old ls (Err e) new ms → IsFileStatus (dav_status e)
flushes found file none unset (ran_ask {answer = Ok done} one (ran_ask two rest)) = absurd (no_error rest)
flushes found file none unset (ran_ask {answer = Err d} one rest) = ends_so rest (flush_fails file d none (ran_unset rest unset) one)

writes_by : (b : Bool) (file : Handle) (bytes : List ℕ) (now : ℕ) (found : Bool) {e : DavError} {old new : StoreState} {ls ms : Locks} → All IsNone old.refusals → new.short ≡ false → file.writes ≡ true
    → Ran Asking ((if b then gives file else ask_for (Write file bytes now)) >>= flushing found) old ls (Err e) new ms → IsFileStatus (dav_status e)
writes_by true file bytes now found none unset writes ran = flushes found file none unset ran
writes_by false file bytes now found none unset writes (ran_ask {answer = Ok left} one rest) = flushes found left (left_none one none) unset rest
writes_by false file bytes now found none unset writes (ran_ask {answer = Err d} one rest) = ends_so rest (write_fails file bytes now d none (ran_unset rest unset) writes one)

seeks : (place : Option ℕ) (file : Handle) (bytes : List ℕ) (now : ℕ) (found : Bool) (n : Node) {e : DavError} {old new : StoreState} {ls ms : Locks}
    → All IsNone old.refusals → new.short ≡ false → file_made_with file.made old.world.nodes ≡ Some n → file.writes ≡ true
    → Ran Asking (sought place file >>= (λ file. written file bytes now >>= flushing found)) old ls (Err e) new ms → IsFileStatus (dav_status e)
seeks None file bytes now found n none unset there writes ran = writes_by (length bytes == 0) file bytes now found none unset writes ran
seeks (Some k) file bytes now found n none unset there writes (ran_ask {answer = Ok moved} one rest) =
    writes_by (length bytes == 0) moved.1 bytes now found (left_none one none) unset (seek_writes file k moved (did one) writes) rest
seeks (Some k) file bytes now found n none unset there writes (ran_ask {answer = Err d} one rest) = absurd (seek_fails file k d n none (ran_unset rest unset) there one)

unchanged : {A : Type 0} {m : Result (A × World) FsError} {w v : World} {e : FsError} → Did m w (Err e) v → v ≡ w
unchanged (stays d is same) = same
unchanged (means r h is same) = absurd (cc)

-- a file that was opened is there, and may be written
record IsOpened (file : Handle) (w : World) : Type 0 where
  node : Node
  there : file_made_with file.made w.nodes ≡ Some node
  writes : file.writes ≡ true

opened_so : (p : Path) (how : Opening) (now : ℕ) (w : World) (r : Handle × World) → how.write ≡ true → meaning (Open p how now) w ≡ Ok r → r.0.writes ≡ true
unfolding meaning
opened_so p how now w r writes h = open_writes w p how now (node_at w p) r writes h

is_opened : (p : Path) (how : Opening) (now : ℕ) (file : Handle) {w v : World} → IsStorable p → now ≤ last_moment → IsWorld w → how.write ≡ true
    → Did (meaning (Open p how now) w) w (Ok file) v → IsOpened file v
is_opened p how now file storable small world writes (stays d is same) = absurd cc
is_opened p how now file {w} {v} storable small world writes (means r h is same) =
    let (n, stands) = opened_stands p how now w r (storable, small) world h in
    let told : file ≡ r.0 = cc in
    record {
      node = n;
      there = ap (λ (k : Handle). file_made_with k.made v.nodes) told ∙ ap (λ (u : World). file_made_with r.0.made u.nodes) same ∙ stands.0;
      writes = ap (λ (k : Handle). k.writes) told ∙ opened_so p how now w r writes h;
    }

store_leaves : (how : Opening) (place : Option ℕ) (p : Path) (bytes : List ℕ) (now : ℕ) (found : Bool) {e : DavError} {old new : StoreState} {ls ms : Locks}
    → IsStorable p → now ≤ last_moment → IsWorld old.world → how.write ≡ true → All IsNone old.refusals → new.short ≡ false → ¬ IsFileStatus (dav_status e)
    → Ran Asking (store how place p bytes now found) old ls (Err e) new ms → Same old ls new ms
store_leaves how place p bytes now found storable small world writes none unset other (ran_ask {answer = Ok file} one rest) =
    let is = is_opened p how now file storable small world writes (did one) in
    absurd (other (seeks place file bytes now found is.node (left_none one none) unset is.there is.writes rest))
store_leaves how place p bytes now found storable small world writes none unset other (ran_ask {answer = Err d} one rest) =
    let (left, stay) = reading_leaves reads_done rest in
    (left ∙ unchanged (did one), stay)

module _ (m : DavMethod) (h : PutHeaders) (p : Path) (who : Caller) {e : DavError} {old new : StoreState} {ls ms : Locks} (storable : IsStorable p) (small : who.moment ≤ last_moment) (world : IsWorld old.world)
    (none : All IsNone old.refusals) (unset : new.short ≡ false) (other : ¬ IsFileStatus (dav_status e)) where
  put_leaves : (bytes : List ℕ) (checked : Result (Writing × Bool) DavError) {mid : StoreState} {ks : Locks} → Ran Asking (put_allowed m h p who bytes) old ls checked mid ks
      → Ran Asking (followed_by checked (λ allowed. store (put_opening h allowed.0) allowed.0.from p bytes who.moment allowed.1)) mid ks (Err e) new ms → Same old ls new ms
  put_leaves bytes (Err d) first rest =
      let (left, stay) = reading_leaves (only_reads look_reads (only_put_allowed m h p who bytes)) first in
      let (same, kept) = reading_leaves reads_done rest in
      (same ∙ left, kept ∙ stay)
  put_leaves bytes (Ok allowed) first rest =
      let (left, stay) = reading_leaves (only_reads look_reads (only_put_allowed m h p who bytes)) first in
      let (same, kept) = store_leaves (put_opening h allowed.0) allowed.0.from p bytes who.moment allowed.1 storable small (subst IsWorld (sym left) world) refl (ran_none none first) unset other rest in
      (same ∙ left, kept ∙ stay)

  pub body_leaves : (bytes : Option (List ℕ)) → Ran Asking (put_body m h p who bytes) old ls (Err e) new ms → Same old ls new ms
  body_leaves None ran = reading_leaves reads_done ran
  body_leaves (Some bytes) ran =
      let parts = ran_split (put_allowed m h p who bytes) _ ran in
      put_leaves bytes parts.outcome parts.first parts.rest
