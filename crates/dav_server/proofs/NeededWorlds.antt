-- That the store holds a world is needed: a store in which two files were created under one number, and of which neither isolation
-- is true, nor that no lock is passed.
use Rattle.std.proofs.Common.{◌≡◌, ◌≢◌, ◌≤◌, ◌<◌, ℕ, true, false, cond, List, [], ◌∷◌, length, codes, append-nil, Option, Some, None, Result, Ok, Err, All, inl, refl, sym, ap, subst, ◌∙◌, arith}
use Rattle.std.proofs.lemmas.List.Elements.{All-nil, All-cons}
use Rattle.std.specs.Option.{option_map}
use Rattle.std.specs.Str.{IsUtf8}
use Rattle.percent_encoding.specs.Percent.{percent_decode}
use Rattle.httparse.specs.Grammar.{IsField, is_token_byte, print_request}
use Rattle.dav_core.specs.declared.errors.FsError.{FsError}
use Rattle.dav_core.specs.declared.errors.FsError.TheVariants.{GeneralFailure}
use Rattle.dav_core.specs.declared.fs.DavMetaData.{DavMetaData}
use Rattle.dav_core.specs.declared.method.DavMethod.TheVariants.{Put}
use Rattle.dav_core.specs.Asking.{Call, Answer, meaning, answered, StoreState, Answered, asked, Metadata, Open, Write, Flush, FileMetadata}
use Rattle.dav_core.specs.Calls.{emptied, written}
use Rattle.dav_core.specs.Handle.{Handle, Opening, opened}
use Rattle.dav_core.specs.Locks.{Lock, covers}
use Rattle.dav_core.specs.Metadata.{no_opening}
use Rattle.dav_core.specs.Path.{Path, IsName, names_of, is_same_path, parent_of}
use Rattle.dav_core.specs.World.{World, Node, Kind, Folder, File, fresh, adjust, change_node, is_file_made_with, is_folder_node, node_at, last_moment, last_number, IsTree, IsNumbered, IsSound, IsWorld}
use Rattle.dav_core.proofs.Theorems.{same_path}
use Rattle.dav_headers.specs.declared.range.XUpdateRange.{XUpdateRange}
use Rattle.dav_headers.specs.Length.{IsContentLength}
use Rattle.dav_headers.specs.UpdateRange.{IsUpdateRange}
use Rattle.dav_engine.specs.declared.methods.put.headers.Bounds.TheVariants.{Whole}
use Rattle.dav_engine.specs.declared.request.Body.TheVariants as body
use Rattle.dav_engine.specs.Alongside.{AsksWithNumbers}
use Rattle.dav_engine.specs.Conditions.{Conditions}
use Rattle.dav_engine.specs.Guard.{folder_of, IsGuard, Guarded, Stands, guards_here, no_others}
use Rattle.dav_engine.specs.Inside.{Content, content_of, HasFoldersAbove}
use Rattle.dav_engine.specs.Method.{MethodPlan}
use Rattle.dav_engine.specs.Plan.{Locks, Ran, ran_done, ran_ask, ran_look}
use Rattle.dav_engine.specs.Put.{PutHeaders, ArePutHeaders, IsExpectedLength, put, stored, is_put}
use Rattle.dav_engine.specs.Reply.{Reply}
use Rattle.dav_engine.specs.Sparing.{Spared}
use Rattle.dav_engine.proofs.Theorems.{ran_plain}
use Rattle.dav_server.specs.Head.{IsHead, request_of_head}
use Rattle.dav_server.specs.Headers.{headers_of}
use Rattle.dav_server.specs.Isolation.{AreLoaded, TokenIsFresh, RunsUnder, under_none, under_more, HolderTurns, alone_none, alone_other, MatchesSoloRun}
use Rattle.dav_server.specs.Machine.{Exchange, Settings, caller, Means, known, method, puts, Steps, steps}
use Rattle.dav_server.specs.Naming.{NamesToken, NamesLock}
use Rattle.dav_server.specs.Run.{Turn}
use Rattle.dav_server.specs.TagLaws.{MomentsAreDates}
use Rattle.dav_server.specs.Target.{TargetNames}
use Rattle.dav_server.proofs.NeededPremises.{slash_b, at_b, nothing_runs}
use Rattle.dav_server.proofs.WorkedRun.{a, b, token, lock, head_of, head_with_method, letter_name, letter_target, unnamed_by, turn_with, settings, no_conditions, stranger_says, holding, one_lock, listed, root_above, Showable, Loaded}

-- ---- PUT /b of one byte, by another client

-- what the headers of a PUT say that has none but conditions
abbrev pub put_headers : Conditions → PutHeaders
put_headers c = record { conditions = c; announced = None; range = Whole; is_partial = false; update = None; checksum = None }

-- no values say a length, or which bytes to update
pub no_length : (n : ℕ) → ¬ IsContentLength [] n
no_length n (some, all) = omega (arith, some)

pub no_expected : (n : ℕ) → ¬ IsExpectedLength [] n
no_expected n (v, vs, e, is) = cc

pub no_update : (range : XUpdateRange) → ¬ IsUpdateRange [] range
no_update range is = absurd is

-- how the file is opened: it is made where nothing is there, and emptied where a file is
abbrev pub emptying : Opening
emptying = record no_opening { write = true; truncate = true; create = true }

-- the request, with its bytes
abbrev pub writer : Exchange
writer = record { head = print_request (head_of (codes "PUT") slash_b []); body = body.Bytes (50 ∷ []); principal = None; moment = 1; token = None }

short : length writer.head ≤ 65536
unfolding print_request
short = omega arith

text_b : IsUtf8 slash_b
unfolding lib.Utf8.encode
text_b = (slash_b, (refl, refl))

target_b : TargetNames [] Put slash_b (Ok at_b)
unfolding percent_decode
target_b = letter_target 98 (omega arith) (omega arith) refl refl Put

writer_head : IsHead writer.head (request_of_head (head_of (codes "PUT") slash_b []))
unfolding is_token_byte
writer_head = (short, head_of (codes "PUT") slash_b [], (head_with_method (codes "PUT") slash_b [] (omega arith) refl (omega arith) refl text_b (All-nil IsField), sym (append-nil _)), omega arith, refl)

-- a PUT without headers says nothing, whatever its path is
pub bare_says : (bytes : List ℕ) → ArePutHeaders (headers_of []) (record { prefix = []; bytes = bytes }) (put_headers no_conditions)
bare_says bytes = record {
  conditions = stranger_says (names_of bytes);
  announced = (None, None, no_length, no_expected, refl);
  range = inl refl;
  is_partial = refl;
  update = no_update;
  checksum = refl;
}

-- the plan that it results in
abbrev pub writing : MethodPlan Reply
writing = put Put (put_headers no_conditions) (b ∷ []) (caller writer) (50 ∷ [])

pub writer_means : Means settings writer writing
writer_means = known (request_of_head (head_of (codes "PUT") slash_b [])) Put writer_head (tt, refl) (method at_b (body.Bytes (50 ∷ [])) refl target_b refl (puts (is_put (put_headers no_conditions) (bare_says slash_b))))

pub writer_unnamed : ¬ NamesToken writer token
writer_unnamed = unnamed_by writer (request_of_head (head_of (codes "PUT") slash_b [])) writer_head refl

-- it names no lock
writer_names : ¬ NamesLock lock writer
writer_names named = writer_unnamed named.token

-- ---- a store in which the files /a and /b were created under one number

-- a file of one byte that was created under number 1, and has this number now
abbrev pub twin : ℕ → Node
twin number = record { made = 1; number = number; kind = File (49 ∷ []); properties = []; created = 0; modified = 0 }

-- the root and two such files
abbrev pub twins : World
twins = record { nodes = ([], fresh 0 Folder 0) ∷ (a ∷ [], twin 2) ∷ (b ∷ [], twin 3) ∷ []; next = 4 }

-- what is left of it where /b is opened, and where a byte is then written to the open file: the number finds /a
abbrev pub opened_twins : World
opened_twins = record { nodes = adjust (b ∷ []) (emptied 4 1) twins.nodes; next = 5 }

abbrev pub written_twins : World
written_twins = record { nodes = change_node (is_file_made_with 1) (written 0 (50 ∷ []) 5 1) opened_twins.nodes; next = 6 }

-- the open file, after the write
abbrev pub past : Handle
past = record (opened 1 emptying) { position = 1 }

-- what the store says of /b before it is opened, and of the open file after the write
abbrev pub found_twin : DavMetaData
found_twin = record { len = 1; dir = false; created = 0; modified = 0; number = Some 3 }

abbrev pub told_twin : DavMetaData
told_twin = record { len = 1; dir = false; created = 0; modified = 1; number = Some 5 }

-- where no refusal is to come, a call is answered by what it means
pub answers : {c : Call} {w v : World} {answer : Result (Answer c) FsError} → (answer, v) ≡ answered w (meaning c w) → Answered c (holding w) answer (holding v)
answers e = record { as_asked = e; refusals = refl; short = refl }

-- the calls of the PUT, one by one
finds : Answered (Metadata (b ∷ [])) (holding twins) (Ok found_twin) (holding twins)
unfolding meaning
finds = answers refl

opens : Answered (Open (b ∷ []) emptying 1) (holding twins) (Ok (opened 1 emptying)) (holding opened_twins)
unfolding meaning
opens = answers refl

writes : Answered (Write (opened 1 emptying) (50 ∷ []) 1) (holding opened_twins) (Ok past) (holding written_twins)
unfolding meaning
writes = answers refl

flushes : Answered (Flush past) (holding written_twins) (Ok tt) (holding written_twins)
unfolding meaning
flushes = answers refl

tells : Answered (FileMetadata past) (holding written_twins) (Ok told_twin) (holding written_twins)
unfolding meaning
tells = answers refl

-- a number is left for each of the two calls that take one
number_to_open : meaning (Open (b ∷ []) emptying 1) twins ≡ Err GeneralFailure → ⊥
unfolding meaning
number_to_open e = cc

number_to_write : meaning (Write (opened 1 emptying) (50 ∷ []) 1) opened_twins ≡ Err GeneralFailure → ⊥
unfolding meaning
number_to_write e = cc

-- the reply: 204, with the tag of the file that was written
abbrev pub written_reply : Reply
written_reply = stored true (Some told_twin)

-- /b isn't locked, so the PUT goes through
ran : Ran AsksWithNumbers writing (holding twins) one_lock (Ok written_reply) (holding written_twins) one_lock
ran =
    ran_ask {c = Metadata (b ∷ [])} {answer = Ok found_twin} (asked finds, λ ready none. none.0)
    (ran_look
    (ran_ask {c = Open (b ∷ []) emptying 1} {answer = Ok (opened 1 emptying)} (asked opens, λ ready none. number_to_open none.1)
    (ran_ask {c = Write (opened 1 emptying) (50 ∷ []) 1} {answer = Ok past} (asked writes, λ ready none. number_to_write none.1)
    (ran_ask {c = Flush past} {answer = Ok tt} (asked flushes, λ ready none. none.0)
    (ran_ask {c = FileMetadata past} {answer = Ok told_twin} (asked tells, λ ready none. none.0) ran_done)))))

-- this is no world: two files were created under one number
twins_are_no_world : ¬ IsWorld twins
twins_are_no_world world =
    let same : ◌≡◌ {A = Path} (a ∷ []) (b ∷ []) = world.makings.once (a ∷ []) (b ∷ []) (twin 2) (twin 3) refl refl refl in
    let byte : ◌≡◌ {A = ℕ} 97 98 = cc in
    omega (arith, byte)

-- what is there, a folder where nothing is
abbrev kind_in : Option Content → Kind
kind_in None = Folder
kind_in (Some c) = c.0

-- /a has another byte
other_byte : option_map content_of (node_at twins (a ∷ [])) ≡ option_map content_of (node_at written_twins (a ∷ [])) → ⊥
other_byte e =
    let kind : File (49 ∷ []) ≡ File (50 ∷ []) = ap kind_in e in
    let byte : ◌≡◌ {A = ℕ} 49 50 = cc in
    omega (arith, byte)

-- ---- all else that is asked of a world

-- a fact on a path and the node that is found there, where it is found behind another one
picked : (P : Path → Node → Type 0) (p q : Path) (m n : Node) (rest : Option Node) → P q m → (rest ≡ Some n → P p n) → cond (is_same_path p q) (Some m) rest ≡ Some n → P p n
picked P p q m n rest here more found =
    elim (is_same_path p q) as (λ k. is_same_path p q ≡ k → cond k (Some m) rest ≡ Some n → P p n) [
      | true ↦ λ is e. let same : m ≡ n = cc in subst (λ (r : Path). P r n) (sym (same_path p q is)) (subst (P q) same here)
      | false ↦ λ is e. more e
    ] refl found

-- what holds of the root and of the two files holds of all nodes
each_node : (P : Path → Node → Type 0) → P [] (fresh 0 Folder 0) → P (a ∷ []) (twin 2) → P (b ∷ []) (twin 3) → (p : Path) (n : Node) → node_at twins p ≡ Some n → P p n
each_node P root one two [] n e = let same : fresh 0 Folder 0 ≡ n = cc in subst (P []) same root
each_node P root one two (x ∷ p) n e =
    picked P (x ∷ p) (a ∷ []) (twin 2) n (cond (is_same_path (x ∷ p) (b ∷ [])) (Some (twin 3)) None) one
    (picked P (x ∷ p) (b ∷ []) (twin 3) n None two (λ none. cc)) e

name_a : IsName a
unfolding percent_decode
name_a = letter_name 97 (omega arith) (omega arith) refl refl

name_b : IsName b
unfolding percent_decode
name_b = letter_name 98 (omega arith) (omega arith) refl refl

file_is_sound : (name : List ℕ) (number : ℕ) → IsName name → All (λ c. c < 256) name → 1 ≤ number → IsSound (name ∷ []) (twin number)
file_is_sound name number is small later = record {
  names = All-cons IsName name [] is (All-nil IsName);
  bytes = All-cons (All (λ c. c < 256)) name [] small (All-nil (All (λ c. c < 256)));
  grown = later;
  properties = tt;
  created = omega arith;
  modified = omega arith;
}

root_is_sound : IsSound [] (fresh 0 Folder 0)
root_is_sound = record {
  names = All-nil IsName;
  bytes = All-nil (All (λ c. c < 256));
  grown = omega arith;
  properties = tt;
  created = omega arith;
  modified = omega arith;
}

small_letter : (n : ℕ) → n < 256 → All (λ c. c < 256) (n ∷ [])
small_letter n small = All-cons (λ c. c < 256) n [] small (All-nil (λ c. c < 256))

-- nodes that agree in these numbers are at one path
abbrev One : (Node → ℕ) → (Node → ℕ) → Type 0
One f g = (p q : Path) (n m : Node) → node_at twins p ≡ Some n → node_at twins q ≡ Some m → f n ≡ g m → p ≡ q

one_number : One (λ n. n.number) (λ n. n.number)
one_number p q n m here there =
    each_node (λ p n. n.number ≡ m.number → p ≡ q)
    (each_node (λ q m. 0 ≡ m.number → [] ≡ q) (λ e. refl) (λ e. absurd (omega (arith, e))) (λ e. absurd (omega (arith, e))) q m there)
    (each_node (λ q m. 2 ≡ m.number → (a ∷ []) ≡ q) (λ e. absurd (omega (arith, e))) (λ e. refl) (λ e. absurd (omega (arith, e))) q m there)
    (each_node (λ q m. 3 ≡ m.number → (b ∷ []) ≡ q) (λ e. absurd (omega (arith, e))) (λ e. absurd (omega (arith, e))) (λ e. refl) q m there)
    p n here

none_of_another : One (λ n. n.made) (λ n. n.number)
none_of_another p q n m here there =
    each_node (λ p n. n.made ≡ m.number → p ≡ q)
    (each_node (λ q m. 0 ≡ m.number → [] ≡ q) (λ e. refl) (λ e. absurd (omega (arith, e))) (λ e. absurd (omega (arith, e))) q m there)
    (each_node (λ q m. 1 ≡ m.number → (a ∷ []) ≡ q) (λ e. absurd (omega (arith, e))) (λ e. absurd (omega (arith, e))) (λ e. absurd (omega (arith, e))) q m there)
    (each_node (λ q m. 1 ≡ m.number → (b ∷ []) ≡ q) (λ e. absurd (omega (arith, e))) (λ e. absurd (omega (arith, e))) (λ e. absurd (omega (arith, e))) q m there)
    p n here

-- It is no world for this alone: it is a tree of sound nodes, whose last numbers differ and are below the next, and no node was
-- created under the last number of another one.
pub twins_are_nearly_a_world :
    IsTree twins.nodes × IsNumbered (λ n. n.number) twins × ((p : Path) (n : Node) → node_at twins p ≡ Some n → n.made < twins.next) × One (λ n. n.made) (λ n. n.number)
    × ((n : Node) → node_at twins [] ≡ Some n → n.made ≡ 0) × (twins.next ≤ last_number) × ((p : Path) (n : Node) → node_at twins p ≡ Some n → IsSound p n)
twins_are_nearly_a_world = (
  record { sorted = tt; root = refl; parents = each_node (λ p n. is_folder_node (node_at twins (parent_of p)) ≡ true) refl refl refl },
  record { below = each_node (λ p n. n.number < 4) (omega arith) (omega arith) (omega arith); once = one_number },
  each_node (λ p n. n.made < 4) (omega arith) (omega arith) (omega arith),
  none_of_another,
  λ n e. let same : fresh 0 Folder 0 ≡ n = cc in ap (λ (m : Node). m.made) (sym same),
  omega arith,
  each_node IsSound root_is_sound (file_is_sound a 2 name_a (small_letter 97 (omega arith)) (omega arith)) (file_is_sound b 3 name_b (small_letter 98 (omega arith)) (omega arith)),
)

-- ---- no lock is passed

-- the law that no lock is passed, of every store, whether or not it holds a world
abbrev pub NoLockIsPassedInEveryStore : Type 0
NoLockIsPassedInEveryStore =
    (s : Settings) (x : Exchange) (old new : StoreState) (ls ms : Locks) (reply : Reply) (h : Lock)
    → h.shared ≡ false → Stands h ls → ¬ NamesLock h x → x.moment ≤ last_moment
    → Steps s x old ls reply new ms → Spared (covers h) old.world new.world

step : Steps settings writer (holding twins) one_lock written_reply (holding written_twins) one_lock
step = steps writing (Ok written_reply) writer_means (ran_plain ran)

-- Where two files were created under one number, a PUT to the one that isn't locked changes the one that is. All other premises hold.
pub worlds_are_needed_for_passing :
    (lock.shared ≡ false) × Stands lock one_lock × ¬ NamesLock lock writer × (writer.moment ≤ last_moment) × ¬ IsWorld twins
    × Steps settings writer (holding twins) one_lock written_reply (holding written_twins) one_lock × ¬ Spared (covers lock) twins written_twins
worlds_are_needed_for_passing = (refl, listed, writer_names, omega arith, twins_are_no_world, step, λ spared. other_byte (spared.same (a ∷ []) refl))

-- So without this premise the law is false.
pub passing_needs_a_world : ¬ NoLockIsPassedInEveryStore
passing_needs_a_world passes = other_byte ((passes settings writer (holding twins) (holding written_twins) one_lock one_lock written_reply lock refl listed writer_names (omega arith) step).same (a ∷ []) refl)

-- ---- isolation

-- the law of isolation, of every store, whether or not it holds a world
abbrev pub HoldersAreAloneInEveryStore : Type 0
HoldersAreAloneInEveryStore =
    (s : Settings) (h : Lock) (ts us : List Turn) (old new : StoreState) (ls ms : Locks) (replies : List Reply)
    → IsGuard h → Guarded h ls → HasFoldersAbove (folder_of h) old.world → MomentsAreDates ts → AreLoaded ts → TokenIsFresh h ts
    → RunsUnder AsksWithNumbers s h ts old ls replies new ms → new.short ≡ false → HolderTurns h ts us → MatchesSoloRun s h ts us old ls replies new

-- the PUT is the only request
abbrev pub write_turn : List Turn
write_turn = turn_with writer ∷ []

is_guard : IsGuard lock
is_guard = record { exclusive = refl; deep = refl }

guarded : Guarded lock one_lock
guarded = guards_here refl no_others

folders_above : HasFoldersAbove (folder_of lock) twins
folders_above = root_above twins refl

write_showable : MomentsAreDates write_turn
write_showable = All-cons Showable (turn_with writer) [] (omega arith) (All-nil Showable)

write_loaded : AreLoaded write_turn
write_loaded = All-cons Loaded (turn_with writer) [] refl (All-nil Loaded)

abbrev Other : Turn → Type 0
Other t = t.asked.token ≢ Some lock.token

write_quiet : TokenIsFresh lock write_turn
write_quiet = All-cons Other (turn_with writer) [] (λ e. cc) (All-nil Other)

under : RunsUnder AsksWithNumbers settings lock write_turn (holding twins) one_lock (written_reply ∷ []) (holding written_twins) one_lock
under = under_more listed (λ named. absurd (writer_names named)) (steps writing (Ok written_reply) writer_means ran) under_none

among : HolderTurns lock write_turn []
among = alone_other writer_names alone_none

not_alone : ¬ MatchesSoloRun settings lock write_turn [] (holding twins) one_lock (written_reply ∷ []) (holding written_twins)
not_alone alone = other_byte (sym (alone.inside [] ∙ ap (λ (s : StoreState). option_map content_of (node_at s.world (a ∷ []))) (nothing_runs alone.runs)))

-- In the same store what is locked changes, and without any request it wouldn't. All other premises hold.
pub worlds_are_needed_for_isolation :
    IsGuard lock × Guarded lock one_lock × HasFoldersAbove (folder_of lock) twins × MomentsAreDates write_turn × AreLoaded write_turn × TokenIsFresh lock write_turn × ¬ IsWorld twins
    × RunsUnder AsksWithNumbers settings lock write_turn (holding twins) one_lock (written_reply ∷ []) (holding written_twins) one_lock
    × HolderTurns lock write_turn [] × ¬ MatchesSoloRun settings lock write_turn [] (holding twins) one_lock (written_reply ∷ []) (holding written_twins)
worlds_are_needed_for_isolation = (is_guard, guarded, folders_above, write_showable, write_loaded, write_quiet, twins_are_no_world, under, among, not_alone)

-- So without this premise the law is false.
pub isolation_needs_a_world : ¬ HoldersAreAloneInEveryStore
isolation_needs_a_world holds =
    not_alone (holds settings lock write_turn [] (holding twins) (holding written_twins) one_lock one_lock (written_reply ∷ []) is_guard guarded folders_above write_showable write_loaded write_quiet under refl among)
