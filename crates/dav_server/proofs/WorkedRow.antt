-- A worked run of two clients on a locked folder, from no locks and an empty store, and the run of the folder's holder alone.
use Rattle.std.proofs.Common.{◌≡◌, ◌≤◌, ◌+◌, ℕ, false, List, [], ◌∷◌, length, codes, append-nil, All, Some, None, Ok, Err, inl, refl, sym, ap, subst, arith}
use Rattle.std.proofs.lemmas.List.Elements.{All-nil, All-cons}
use Rattle.std.proofs.lemmas.List.Kept.{AllPairs-cons}
use Rattle.httparse.specs.Grammar.{IsField, is_token_byte, print_request}
use Rattle.dav_core.specs.declared.errors.FsError.TheVariants.{NotFound, GeneralFailure}
use Rattle.dav_core.specs.declared.errors.DavError.TheVariants as dav
use Rattle.dav_core.specs.declared.fs.DavMetaData.{DavMetaData}
use Rattle.dav_core.specs.declared.method.DavMethod.TheVariants.{Put, Delete}
use Rattle.dav_core.specs.Asking.{meaning, StoreState, Answered, asked, Metadata, RemoveFile, Open, Write, Flush, FileMetadata}
use Rattle.dav_core.specs.Calls.{written, without}
use Rattle.dav_core.specs.Handle.{Handle, opened}
use Rattle.dav_core.specs.Path.{Path}
use Rattle.dav_core.specs.World.{World, File, with_new, change_node, is_file_made_with}
use Rattle.dav_core.proofs.Theorems.{empty_is_world}
use Rattle.dav_headers.specs.IfLaws.{asks_for}
use Rattle.dav_engine.specs.declared.request.Body.TheVariants as body
use Rattle.dav_engine.specs.Alongside.{AsksWithNumbers}
use Rattle.dav_engine.specs.IsolatedPlans.{SubmitsAlone}
use Rattle.dav_engine.specs.Delete.{DeleteHeaders, AreDeleteHeaders, delete, is_delete}
use Rattle.dav_engine.specs.Guard.{folder_of, Stands, listed_here, a_list, no_list}
use Rattle.dav_engine.specs.Inside.{SameInside}
use Rattle.dav_engine.specs.Method.{MethodPlan}
use Rattle.dav_engine.specs.Mkcol.{made}
use Rattle.dav_engine.specs.Multistatus.{status_reply}
use Rattle.dav_engine.specs.Plan.{Locks, Ran, ran_done, ran_ask, ran_look, ran_keep}
use Rattle.dav_engine.specs.Put.{ArePutHeaders, put, store, stored, is_put}
use Rattle.dav_engine.specs.Reply.{Reply, error_reply}
use Rattle.dav_engine.proofs.Theorems.{ran_plain}
use Rattle.dav_server.specs.Head.{Request, IsHead, request_of_head}
use Rattle.dav_server.specs.Headers.{headers_of}
use Rattle.dav_server.specs.Holder.{IsHolderRequest, acts}
use Rattle.dav_server.specs.Isolation.{AreLoaded, RunsUnder, under_none, under_more, HolderTurns, alone_none, alone_other, alone_own, AnswerAlike, MatchesSoloRun, TokensDiffer}
use Rattle.dav_server.specs.Machine.{Exchange, caller, Means, known, method, puts, deletes, steps}
use Rattle.dav_server.specs.Naming.{NamesLock, by_if}
use Rattle.dav_server.specs.Run.{Turn, Runs, no_more, one_more}
use Rattle.dav_server.specs.TagLaws.{MomentsAreDates}
use Rattle.dav_server.proofs.GrantedRuns.{is_isolated_from_grants}
use Rattle.dav_server.proofs.MeansLemmas.{runs_are_determined}
use Rattle.dav_server.proofs.NeededWorlds.{put_headers, no_length, no_expected, no_update, bare_says, answers, emptying, writer, writing, writer_means, writer_unnamed}
use Rattle.dav_server.proofs.WorkedGrant.{locker, locking, locker_means, no_depth, granted_lock, one, lock_reply, makes_first, grants, begins, Others, quiet}
use Rattle.dav_server.proofs.WorkedRun.{b, token, at_a, below, slash_below, at_below, head_of, head_with_method, text_below, target_below, one_field, if_field, stranger, turn_with, settings, no_conditions, own_conditions, own_list, own_says, own_fields, own_if, holder_fields, holder_says, unnamed_by, plan_with, stranger_means, after, holding, Showable, Loaded}

-- ---- PUT /a/b of one byte, by another client and by the holder, and DELETE /a/b by the holder

-- the PUT of another client, without a header
abbrev pub intruder : Exchange
intruder = record { head = print_request (head_of (codes "PUT") slash_below []); body = body.Bytes (49 ∷ []); principal = None; moment = 1; token = None }

-- that of the holder, with an If of the lock's token
abbrev pub putter : Exchange
putter = record { head = print_request (head_of (codes "PUT") slash_below (if_field ∷ [])); body = body.Bytes (49 ∷ []); principal = None; moment = 1; token = None }

-- and the holder's DELETE, with the same If
abbrev pub remover : Exchange
remover = record { head = print_request (head_of (codes "DELETE") slash_below (if_field ∷ [])); body = body.None; principal = None; moment = 1; token = None }

short_intruder : length intruder.head ≤ 65536
unfolding print_request
short_intruder = omega arith

short_putter : length putter.head ≤ 65536
unfolding print_request
short_putter = omega arith

short_remover : length remover.head ≤ 65536
unfolding print_request
short_remover = omega arith

intruder_head : IsHead intruder.head (request_of_head (head_of (codes "PUT") slash_below []))
unfolding is_token_byte
intruder_head = (short_intruder, head_of (codes "PUT") slash_below [], (head_with_method (codes "PUT") slash_below [] (omega arith) refl (omega arith) refl text_below (All-nil IsField), sym (append-nil _)), omega arith, refl)

abbrev pub put_request : Request
put_request = record { method = codes "PUT"; target = slash_below; fields = holder_fields }

putter_head : IsHead putter.head put_request
unfolding is_token_byte
putter_head =
    subst (IsHead putter.head) (ap (λ f. record { method = codes "PUT"; target = slash_below; fields = f }) own_fields)
    (short_putter, head_of (codes "PUT") slash_below (if_field ∷ []), (head_with_method (codes "PUT") slash_below (if_field ∷ []) (omega arith) refl (omega arith) refl text_below one_field, sym (append-nil _)), omega arith, refl)

abbrev pub delete_request : Request
delete_request = record { method = codes "DELETE"; target = slash_below; fields = holder_fields }

remover_head : IsHead remover.head delete_request
unfolding is_token_byte
remover_head =
    subst (IsHead remover.head) (ap (λ f. record { method = codes "DELETE"; target = slash_below; fields = f }) own_fields)
    (short_remover, head_of (codes "DELETE") slash_below (if_field ∷ []), (head_with_method (codes "DELETE") slash_below (if_field ∷ []) (omega arith) refl (omega arith) refl text_below one_field, sym (append-nil _)), omega arith, refl)

putter_says : ArePutHeaders (headers_of holder_fields) at_below (put_headers (own_conditions below))
putter_says = record {
  conditions = holder_says below;
  announced = (None, None, no_length, no_expected, refl);
  range = inl refl;
  is_partial = refl;
  update = no_update;
  checksum = refl;
}

abbrev pub delete_headers : DeleteHeaders
delete_headers = record { conditions = own_conditions below; depth = None }

remover_says : AreDeleteHeaders (headers_of holder_fields) at_below delete_headers
remover_says = record { conditions = holder_says below; depth = no_depth }

-- the plans that they result in
abbrev pub intruding : MethodPlan Reply
intruding = put Put (put_headers no_conditions) below (caller intruder) (49 ∷ [])

abbrev pub putting : MethodPlan Reply
putting = put Put (put_headers (own_conditions below)) below (caller putter) (49 ∷ [])

abbrev pub removing : MethodPlan Reply
removing = delete delete_headers at_below (caller remover)

intruder_means : Means settings intruder intruding
intruder_means = known (request_of_head (head_of (codes "PUT") slash_below [])) Put intruder_head (tt, refl) (method at_below (body.Bytes (49 ∷ [])) refl (target_below Put) refl (puts (is_put (put_headers no_conditions) (bare_says slash_below))))

putter_means : Means settings putter putting
putter_means = known put_request Put putter_head (tt, refl) (method at_below (body.Bytes (49 ∷ [])) refl (target_below Put) refl (puts (is_put (put_headers (own_conditions below)) putter_says)))

remover_means : Means settings remover removing
remover_means = known delete_request Delete remover_head (tt, refl) (method at_below body.None refl (target_below Delete) refl (deletes (is_delete delete_headers remover_says)))

-- ---- who names the lock, and who holds it

intruder_names : ¬ NamesLock granted_lock intruder
intruder_names named = unnamed_by intruder (request_of_head (head_of (codes "PUT") slash_below [])) intruder_head refl named.token

writer_names : ¬ NamesLock granted_lock writer
writer_names named = writer_unnamed named.token

putter_names : NamesLock granted_lock putter
putter_names = record { token = by_if put_request putter_head (asks_for token ∷ [], own_if, (0, omega arith, refl)); principal = refl }

remover_names : NamesLock granted_lock remover
remover_names = record { token = by_if delete_request remover_head (asks_for token ∷ [], own_if, (0, omega arith, refl)); principal = refl }

submits : SubmitsAlone (headers_of holder_fields) at_below granted_lock
submits = record { lists = own_list below ∷ []; only = a_list (b ∷ []) no_list; says = own_says below; match = refl; none_match = refl }

putter_holds : IsHolderRequest settings granted_lock putter
putter_holds = acts put_request Put at_below refl (record { head = putter_head; method = (tt, refl); target = target_below Put }) refl refl submits refl

remover_holds : IsHolderRequest settings granted_lock remover
remover_holds = acts delete_request Delete at_below refl (record { head = remover_head; method = (tt, refl); target = target_below Delete }) refl refl submits refl

-- ---- a PUT of one byte to a path where nothing is

-- what is left where the file was made, and where the byte was written to it
abbrev pub with_file : World → Path → World
with_file w p = with_new w p (File []) [] 1

abbrev pub with_byte : World → Path → ℕ → World
with_byte w p x = record { nodes = change_node (is_file_made_with w.next) (written 0 (x ∷ []) (w.next + 1) 1) (with_file w p).nodes; next = w.next + 1 + 1 }

-- the open file before and after the write, and what is told of it
abbrev pub opened_in : World → Handle
opened_in w = opened w.next emptying

abbrev pub past_in : World → Handle
past_in w = record (opened_in w) { position = 1 }

abbrev pub told_in : World → DavMetaData
told_in w = record { len = 1; dir = false; created = 1; modified = 1; number = Some (w.next + 1) }

abbrev pub created_in : World → Reply
created_in w = stored false (Some (told_in w))

-- each call of such a PUT, and that it finds a number where it takes one
pub record PutsNew (w : World) (p : Path) (x : ℕ) : Type 0 where
  pub finds : Answered (Metadata p) (holding w) (Err NotFound) (holding w)
  pub opens : Answered (Open p emptying 1) (holding w) (Ok (opened_in w)) (holding (with_file w p))
  pub writes : Answered (Write (opened_in w) (x ∷ []) 1) (holding (with_file w p)) (Ok (past_in w)) (holding (with_byte w p x))
  pub flushes : Answered (Flush (past_in w)) (holding (with_byte w p x)) (Ok tt) (holding (with_byte w p x))
  pub tells : Answered (FileMetadata (past_in w)) (holding (with_byte w p x)) (Ok (told_in w)) (holding (with_byte w p x))
  pub number_to_open : meaning (Open p emptying 1) w ≡ Err GeneralFailure → ⊥
  pub number_to_write : meaning (Write (opened_in w) (x ∷ []) 1) (with_file w p) ≡ Err GeneralFailure → ⊥

-- So the bytes are stored, whatever the list of locks is.
stores : {w : World} {p : Path} {x : ℕ} (ls : Locks) → PutsNew w p x → Ran AsksWithNumbers (store emptying None p (x ∷ []) 1 false) (holding w) ls (Ok (created_in w)) (holding (with_byte w p x)) ls
stores {w} {p} {x} ls new =
    ran_ask {c = Open p emptying 1} {answer = Ok (opened_in w)} (asked new.opens, λ ready finds. new.number_to_open finds.1)
    (ran_ask {c = Write (opened_in w) (x ∷ []) 1} {answer = Ok (past_in w)} (asked new.writes, λ ready finds. new.number_to_write finds.1)
    (ran_ask {c = Flush (past_in w)} {answer = Ok tt} (asked new.flushes, λ ready finds. finds.0)
    (ran_ask {c = FileMetadata (past_in w)} {answer = Ok (told_in w)} (asked new.tells, λ ready finds. finds.0) ran_done)))

-- ---- the run

-- the worlds after the PUT to /b, after the holder's PUT, and after the DELETE
abbrev pub with_other : World
with_other = with_byte after (b ∷ []) 50

abbrev pub with_both : World
with_both = with_byte with_other below 49

abbrev pub emptied_folder : World
emptied_folder = without with_both below 1

-- those after the holder's PUT and DELETE alone
abbrev pub with_own : World
with_own = with_byte after below 49

abbrev pub emptied_alone : World
emptied_alone = without with_own below 1

-- the three PUTs to a path where nothing is: to /b; to /a/b after that; and to /a/b at once
puts_other : PutsNew after (b ∷ []) 50
unfolding meaning
puts_other = record {
  finds = answers refl;
  opens = answers refl;
  writes = answers refl;
  flushes = answers refl;
  tells = answers refl;
  number_to_open = λ e. cc;
  number_to_write = λ e. cc;
}

puts_beside : PutsNew with_other below 49
unfolding meaning
puts_beside = record {
  finds = answers refl;
  opens = answers refl;
  writes = answers refl;
  flushes = answers refl;
  tells = answers refl;
  number_to_open = λ e. cc;
  number_to_write = λ e. cc;
}

puts_alone : PutsNew after below 49
unfolding meaning
puts_alone = record {
  finds = answers refl;
  opens = answers refl;
  writes = answers refl;
  flushes = answers refl;
  tells = answers refl;
  number_to_open = λ e. cc;
  number_to_write = λ e. cc;
}

-- the calls of the two DELETEs
finds_beside : Answered (Metadata below) (holding with_both) (Ok (told_in with_other)) (holding with_both)
unfolding meaning
finds_beside = answers refl

removes_beside : Answered (RemoveFile below 1) (holding with_both) (Ok tt) (holding emptied_folder)
unfolding meaning
removes_beside = answers refl

finds_alone : Answered (Metadata below) (holding with_own) (Ok (told_in after)) (holding with_own)
unfolding meaning
finds_alone = answers refl

removes_alone : Answered (RemoveFile below 1) (holding with_own) (Ok tt) (holding emptied_alone)
unfolding meaning
removes_alone = answers refl

-- the other client's PUT is refused, since the folder is locked
refused : Ran AsksWithNumbers intruding (holding after) one (Err (dav.StatusClose 423)) (holding after) one
refused = ran_ask {c = Metadata below} {answer = Err NotFound} (asked puts_alone.finds, λ ready finds. finds.0) (ran_look ran_done)

-- its PUT to /b stores a file outside the folder
other_stored : Ran AsksWithNumbers writing (holding after) one (Ok (created_in after)) (holding with_other) one
other_stored = ran_ask {c = Metadata (b ∷ [])} {answer = Err NotFound} (asked puts_other.finds, λ ready finds. finds.0) (ran_look (ran_look (stores one puts_other)))

-- the holder's PUT, in any world in which nothing is at the path
own_stored : {w : World} → PutsNew w below 49 → Ran AsksWithNumbers putting (holding w) one (Ok (created_in w)) (holding (with_byte w below 49)) one
own_stored {w} new = ran_ask {c = Metadata below} {answer = Err NotFound} (asked new.finds, λ ready finds. finds.0) (ran_look (ran_look (ran_look (stores one new))))

-- and its DELETE of what was stored, which leaves the lock on the folder
own_removed : (v : World) {w : World} → Answered (Metadata below) (holding w) (Ok (told_in v)) (holding w) → Answered (RemoveFile below 1) (holding w) (Ok tt) (holding (without w below 1))
    → Ran AsksWithNumbers removing (holding w) one (Ok (status_reply 204)) (holding (without w below 1)) one
own_removed v {w} finds removes =
    ran_ask {c = Metadata below} {answer = Ok (told_in v)} (asked finds, λ ready none. none.0)
    (ran_look (ran_look (ran_look (ran_ask {c = RemoveFile below 1} {answer = Ok tt} (asked removes, λ ready none. none.0) (ran_look (ran_keep ran_done))))))

-- MKCOL /a; LOCK /a; another client's PUT to /a/b, and its PUT to /b; the holder's PUT to /a/b, and its DELETE of it
abbrev pub own : List Turn
own = turn_with putter ∷ turn_with remover ∷ []

abbrev pub later : List Turn
later = turn_with intruder ∷ turn_with writer ∷ own

abbrev pub turns : List Turn
turns = turn_with stranger ∷ turn_with locker ∷ later

abbrev pub given : List Reply
given = error_reply (dav.StatusClose 423) ∷ created_in after ∷ created_in with_other ∷ status_reply 204 ∷ []

abbrev pub replies : List Reply
replies = made at_a ∷ lock_reply ∷ given

listed : Stands granted_lock one
listed = listed_here refl

-- The lock stands all along, and those who name it are its holder.
under : RunsUnder AsksWithNumbers settings granted_lock later (holding after) one given (holding emptied_folder) one
under =
    under_more listed (λ named. absurd (intruder_names named)) (steps intruding (Err (dav.StatusClose 423)) intruder_means refused)
    (under_more listed (λ named. absurd (writer_names named)) (steps writing (Ok (created_in after)) writer_means other_stored)
    (under_more listed (λ named. putter_holds) (steps putting (Ok (created_in with_other)) putter_means (own_stored puts_beside))
    (under_more listed (λ named. remover_holds) (steps removing (Ok (status_reply 204)) remover_means (own_removed with_other finds_beside removes_beside)) under_none)))

among : HolderTurns granted_lock later own
among = alone_other intruder_names (alone_other writer_names (alone_own putter_names (alone_own remover_names alone_none)))

-- what holds of each of the turns holds of all
all_later : (P : Turn → Type 0) → P (turn_with intruder) → P (turn_with writer) → P (turn_with putter) → P (turn_with remover) → All P later
all_later P one two three four =
    All-cons P (turn_with intruder) (turn_with writer ∷ own) one (All-cons P (turn_with writer) own two
    (All-cons P (turn_with putter) (turn_with remover ∷ []) three (All-cons P (turn_with remover) [] four (All-nil P))))

all_turns : (P : Turn → Type 0) → P (turn_with stranger) → P (turn_with locker) → All P later → All P turns
all_turns P one two more = All-cons P (turn_with stranger) (turn_with locker ∷ later) one (All-cons P (turn_with locker) later two more)

showable : MomentsAreDates turns
showable = all_turns Showable (omega arith) (omega arith) (all_later Showable (omega arith) (omega arith) (omega arith) (omega arith))

loaded : AreLoaded turns
loaded = all_turns Loaded refl refl (all_later Loaded refl refl refl refl)

-- the LOCK alone hands in a token
tokens_differ : TokensDiffer turns
tokens_differ =
    AllPairs-cons Others (turn_with stranger) (turn_with locker ∷ later) (quiet (turn_with stranger) refl (turn_with locker ∷ later))
    (AllPairs-cons Others (turn_with locker) later (all_later (Others (turn_with locker)) (λ each is same. cc) (λ each is same. cc) (λ each is same. cc) (λ each is same. cc))
    (AllPairs-cons Others (turn_with intruder) (turn_with writer ∷ own) (quiet (turn_with intruder) refl (turn_with writer ∷ own))
    (AllPairs-cons Others (turn_with writer) own (quiet (turn_with writer) refl own)
    (AllPairs-cons Others (turn_with putter) (turn_with remover ∷ []) (quiet (turn_with putter) refl (turn_with remover ∷ []))
    (AllPairs-cons Others (turn_with remover) [] (quiet (turn_with remover) refl []) (λ i j d less small. absurd (omega (arith, small))))))))

-- From the grant on the holder's PUT and DELETE are answered as if alone, and the folder is the same.
pub two_clients_in_a_row : MatchesSoloRun settings granted_lock later own (holding after) one given (holding emptied_folder)
two_clients_in_a_row =
    is_isolated_from_grants begins turns replies showable loaded (turn_with stranger ∷ []) later [] own (turn_with locker) granted_lock (holding after) (holding after) (holding emptied_folder)
    [] (granted_lock ∷ []) one (made at_a ∷ []) given [] lock_reply refl refl tokens_differ (empty_is_world 1 (omega arith) (omega arith)) refl
    (one_more (steps (plan_with no_conditions) (Ok (made at_a)) stranger_means makes_first) no_more)
    (steps locking (Ok lock_reply) locker_means grants) (record { exclusive = refl; deep = refl }) (record { token_is = refl; listed = refl }) refl under refl among

-- ---- the run of the holder's requests alone

-- the replies: 201 with a tag, and 204
abbrev pub own_replies : List Reply
own_replies = created_in after ∷ status_reply 204 ∷ []

-- They run alone from the grant on.
pub holder_in_a_row : Runs settings own (holding after) one own_replies (holding emptied_alone) one
holder_in_a_row =
    one_more (steps putting (Ok (created_in after)) putter_means (ran_plain (own_stored puts_alone)))
    (one_more (steps removing (Ok (status_reply 204)) remover_means (ran_plain (own_removed after finds_alone removes_alone))) no_more)

-- Their answers are the same as in the run of both clients, and so is what they leave in the folder.
pub rows_are_alike : AnswerAlike granted_lock later given own_replies × SameInside (folder_of granted_lock) emptied_folder emptied_alone
rows_are_alike =
    let alone = two_clients_in_a_row in
    let same = runs_are_determined settings own (holding after) alone.end (holding emptied_alone) one alone.locks one alone.alone own_replies alone.runs alone.ample holder_in_a_row refl in
    (subst (AnswerAlike granted_lock later given) same.0 alone.answers, subst (λ (s : StoreState). SameInside (folder_of granted_lock) emptied_folder s.world) same.1 alone.inside)

-- The numbers aren't: the holder's file has 5 in the run of both, where the PUT to /b took numbers before, and 3 alone.
pub numbers_are_others : ((told_in with_other).number ≡ Some 5) × ((told_in after).number ≡ Some 3) × Answered (Metadata below) (holding with_both) (Ok (told_in with_other)) (holding with_both)
    × Answered (Metadata below) (holding with_own) (Ok (told_in after)) (holding with_own)
numbers_are_others = (refl, refl, finds_beside, finds_alone)
