-- A request that ends in an error leaves the world and the list of locks.
use Rattle.std.proofs.Common.{◌≡◌, ◌==◌, ◌⊎◌, inl, inr, ℕ, Bool, true, false, true≢false, if◌then◌else◌, length, List, Option, Some, None, Result, Ok, Err, refl, sym, ap, subst, ◌∙◌}
use Rattle.std.specs.Result.{result_ok}
use Rattle.dav_core.specs.declared.errors.FsError.{FsError}
use Rattle.dav_core.specs.declared.errors.DavError.{DavError}
use Rattle.dav_core.specs.declared.errors.DavError.TheVariants as dav
use Rattle.dav_core.specs.declared.method.DavMethod.{DavMethod}
use Rattle.dav_core.specs.declared.method.DavMethod.TheVariants.{Get, Head, Put, Patch, Copy, Move, Lock as LockMethod}
use Rattle.dav_core.specs.Asking.{Open, CreateDir, Write, Flush, FileMetadata, meaning, StoreState, Asks as Asking}
use Rattle.dav_core.specs.Handle.{Handle, Opening}
use Rattle.dav_core.specs.Path.{Path, PathText, names}
use Rattle.dav_core.specs.World.{World}
use Rattle.dav_engine.specs.declared.methods.put.headers.Writing.{Writing}
use Rattle.dav_engine.specs.declared.request.Body.{Body}
use Rattle.dav_engine.specs.Caller.{Caller}
use Rattle.dav_engine.specs.Conditions.{Conditions}
use Rattle.dav_engine.specs.CopyMove.{is_copy_move}
use Rattle.dav_engine.specs.Delete.{is_delete}
use Rattle.dav_engine.specs.Headers.{Headers}
use Rattle.dav_engine.specs.Lock.{IsLock}
use Rattle.dav_engine.specs.LockLaws.{IsUnused, IsRefusedFile}
use Rattle.dav_engine.specs.Method.{MethodPlan, then as followed_by, ◌>>=◌, gives, answer_of, ask_for, ask_or, refused_as}
use Rattle.dav_engine.specs.Mkcol.{mkcol_allowed, create_error, made, is_mkcol}
use Rattle.dav_engine.specs.Plan.{Locks, CallStep, Ran, ran_ask}
use Rattle.dav_engine.specs.Put.{PutHeaders, put_opening, open_error, unsatisfiable, sought, written, stored, store, put_allowed, put_body, bytes_of_body, is_put}
use Rattle.dav_engine.specs.RefusedCalls.{AsksAnswered, RanRefused, opens_file, uses_file}
use Rattle.dav_engine.specs.Reply.{Reply}
use Rattle.dav_engine.specs.WorldLaws.{reads_done}
use Rattle.dav_engine.proofs.Theorems.{Did, stays, means, did, refused_copymove_leaves_all, look_reads, only_put_allowed, only_mkcol_allowed, only_reads, reading_leaves, ran_split, ran_outcome, answered_or_refused, answered_is_run, unrefused_lock_leaves_all, options_only_reads, propfind_only_reads, refused_delete_leaves_all, refused_lock_leaves_all, refused_unlock_leaves_all, refused_proppatch_leaves_all}
use Rattle.dav_server.specs.Get.{is_get}
use Rattle.dav_server.specs.Head.{Request, IsHead}
use Rattle.dav_server.specs.Headers.{headers_of}
use Rattle.dav_server.specs.Leaving.{IsWriteRequest, IsStoresError, IsFileError, ErrorsLeave}
use Rattle.dav_server.specs.Machine.{Settings, Exchange, caller, PlanOf, gets, heads, puts, patches, makes, deletes, copies, moves, offers, finds_properties, sets_properties, locks, releases, MeansOf, not_allowed, no_path, no_body, method, no_head, no_method, known}
use Rattle.dav_server.specs.Method.{GivesServed}
use Rattle.dav_server.specs.WriteLaws.{HandsInUnused}
use Rattle.dav_server.proofs.GetWorld.{get_is_reading}
use Rattle.dav_server.proofs.PlanStatuses.{Outcome, Any, Ends, ends_done, ends_ask, ends_then, ends_bind, ends_either, ran_ends}

abbrev Same : StoreState → Locks → StoreState → Locks → Type 0
Same old ls new ms = (new.world ≡ old.world) × (ms ≡ ls)

-- ---- the call that makes the first change

unchanged : {A : Type 0} {m : Result (A × World) FsError} {w v : World} {e : FsError} → Did m w (Err e) v → v ≡ w
unchanged (stays d is same) = same
unchanged (means r h is same) = absurd (cc)

-- where it is refused the plan ends; where it isn't, no other error comes than of this kind
first_change : (E : DavError → Type 0) {A : Type 0} (w : World) (m : Result (A × World) FsError) (g : FsError → DavError) (answer : Result A FsError) (f : A → MethodPlan Reply) (mid : StoreState) {new : StoreState} {ls ms : Locks} (e : DavError)
    → ((a : A) → Ends E Any (f a)) → Did m w answer mid.world → ¬ E e → Ran Asking (followed_by (refused_as g answer) f) mid ls (Err e) new ms → (new.world ≡ w) × (ms ≡ ls)
first_change E w m g (Ok a) f mid e later done other ran = absurd (other (ran_ends (later a) ran))
first_change E w m g (Err d) f mid e later (stays c is same) other ran =
    let (world, stay) = reading_leaves reads_done ran in
    (world ∙ same, stay)
first_change E w m g (Err d) f mid e later (means r h is same) other ran = absurd (cc)

-- ---- PUT and PATCH

own_asked : {A : Type 0} (g : FsError → DavError) → ((d : FsError) → IsStoresError (g d)) → (answer : Result A FsError) → Outcome IsStoresError Any (refused_as g answer)
own_asked g own (Ok a) = tt
own_asked g own (Err d) = own d

own_store : {A : Type 0} (answer : Result A FsError) → Outcome IsStoresError Any (refused_as dav.FsError answer)
own_store answer = own_asked dav.FsError (λ d. inl (d, refl)) answer

own_sought : (place : Option ℕ) (file : Handle) → Ends IsStoresError Any (sought place file)
own_sought None file = ends_done tt
own_sought (Some k) file = ends_ask (λ answer. ends_then (refused_as (λ d. unsatisfiable) answer) _ (own_asked (λ d. unsatisfiable) (λ d. inr refl) answer) (λ moved any. ends_done tt))

own_written : (file : Handle) (bytes : List ℕ) (now : ℕ) → Ends IsStoresError Any (written file bytes now)
own_written file bytes now = ends_either (length bytes == 0) (gives file) (ask_for (Write file bytes now)) (ends_done tt) (ends_ask (λ answer. ends_done (own_store answer)))

store_leaves : (how : Opening) (place : Option ℕ) (p : Path) (bytes : List ℕ) (now : ℕ) (found : Bool) (e : DavError) {old new : StoreState} {ls ms : Locks}
    → ¬ IsStoresError e → Ran Asking (store how place p bytes now found) old ls (Err e) new ms → Same old ls new ms
store_leaves how place p bytes now found e other (ran_ask {old = old} {mid = mid} {answer = answer} one rest) =
    first_change IsStoresError old.world (meaning (Open p how now) old.world) (open_error how) answer _ mid e (λ file.
    ends_bind _ (own_sought place file) (λ file any.
    ends_bind _ (own_written file bytes now) (λ file any.
    ends_ask (λ answer. ends_then (refused_as dav.FsError answer) _ (own_store answer) (λ done any. ends_ask (λ answer. ends_done tt)))))) (did one) other rest

put_leaves : (m : DavMethod) (h : PutHeaders) (p : Path) (who : Caller) (bytes : List ℕ) (checked : Result (Writing × Bool) DavError) (e : DavError) {old mid new : StoreState} {ls ks ms : Locks}
    → ¬ IsStoresError e → Ran Asking (put_allowed m h p who bytes) old ls checked mid ks
    → Ran Asking (followed_by checked (λ allowed. store (put_opening h allowed.0) allowed.0.from p bytes who.moment allowed.1)) mid ks (Err e) new ms → Same old ls new ms
put_leaves m h p who bytes (Err d) e other first rest =
    let (world, stay) = reading_leaves (only_reads look_reads (only_put_allowed m h p who bytes)) first in
    let (same, kept) = reading_leaves reads_done rest in
    (same ∙ world, kept ∙ stay)
put_leaves m h p who bytes (Ok allowed) e other first rest =
    let (world, stay) = reading_leaves (only_reads look_reads (only_put_allowed m h p who bytes)) first in
    let (same, kept) = store_leaves (put_opening h allowed.0) allowed.0.from p bytes who.moment allowed.1 e other rest in
    (same ∙ world, kept ∙ stay)

body_leaves : (m : DavMethod) (h : PutHeaders) (p : Path) (who : Caller) (bytes : Option (List ℕ)) (e : DavError) {old new : StoreState} {ls ms : Locks}
    → ¬ IsStoresError e → Ran Asking (put_body m h p who bytes) old ls (Err e) new ms → Same old ls new ms
body_leaves m h p who None e other ran = reading_leaves reads_done ran
body_leaves m h p who (Some bytes) e other ran =
    let parts = ran_split (put_allowed m h p who bytes) _ ran in
    put_leaves m h p who bytes parts.outcome e other parts.first parts.rest

-- ---- PUT and PATCH to which no call on their file is refused

-- One call of a store that doesn't refuse calls on open files.
abbrev Using : CallStep
Using = AsksAnswered uses_file

no_error : {A : Type 0} {a : A} {e : DavError} {old new : StoreState} {ls ms : Locks} → ¬ Ran Using (gives a) old ls (Err e) new ms
no_error ran = let is = ran_outcome ran in cc

abbrev flushing : Bool → Handle → MethodPlan Reply
flushing found file = do
  _ ← ask_for (Flush file)
  after ← answer_of (FileMetadata file)
  gives (stored found (result_ok after))

flushes : (found : Bool) (file : Handle) {e : DavError} {old new : StoreState} {ls ms : Locks} → ¬ Ran Using (flushing found file) old ls (Err e) new ms
flushes found file (ran_ask {answer = Ok done} one (ran_ask two rest)) = no_error rest
flushes found file (ran_ask {answer = Err d} one rest) = true≢false (sym (one.1 refl))

writes_by : (b : Bool) (file : Handle) (bytes : List ℕ) (now : ℕ) (found : Bool) {e : DavError} {old new : StoreState} {ls ms : Locks}
    → ¬ Ran Using ((if b then gives file else ask_for (Write file bytes now)) >>= flushing found) old ls (Err e) new ms
writes_by true file bytes now found ran = flushes found file ran
writes_by false file bytes now found (ran_ask {answer = Ok left} one rest) = flushes found left rest
writes_by false file bytes now found (ran_ask {answer = Err d} one rest) = true≢false (sym (one.1 refl))

seeks : (place : Option ℕ) (file : Handle) (bytes : List ℕ) (now : ℕ) (found : Bool) {e : DavError} {old new : StoreState} {ls ms : Locks}
    → ¬ Ran Using (sought place file >>= (λ file. written file bytes now >>= flushing found)) old ls (Err e) new ms
seeks None file bytes now found ran = writes_by (length bytes == 0) file bytes now found ran
seeks (Some k) file bytes now found (ran_ask {answer = Ok moved} one rest) = writes_by (length bytes == 0) moved.1 bytes now found rest
seeks (Some k) file bytes now found (ran_ask {answer = Err d} one rest) = true≢false (sym (one.1 refl))

using_leaves : (how : Opening) (place : Option ℕ) (p : Path) (bytes : List ℕ) (now : ℕ) (found : Bool) {e : DavError} {old new : StoreState} {ls ms : Locks}
    → Ran Using (store how place p bytes now found) old ls (Err e) new ms → Same old ls new ms
using_leaves how place p bytes now found (ran_ask {answer = Ok file} one rest) = absurd (seeks place file bytes now found rest)
using_leaves how place p bytes now found (ran_ask {answer = Err d} one rest) =
    let (world, stay) = reading_leaves reads_done (answered_is_run uses_file rest) in
    (world ∙ unchanged (did one.0), stay)

put_using : (m : DavMethod) (h : PutHeaders) (p : Path) (who : Caller) (bytes : List ℕ) (checked : Result (Writing × Bool) DavError) {e : DavError} {old mid new : StoreState} {ls ks ms : Locks}
    → Ran Using (put_allowed m h p who bytes) old ls checked mid ks
    → Ran Using (followed_by checked (λ allowed. store (put_opening h allowed.0) allowed.0.from p bytes who.moment allowed.1)) mid ks (Err e) new ms → Same old ls new ms
put_using m h p who bytes (Err d) first rest =
    let (world, stay) = reading_leaves (only_reads look_reads (only_put_allowed m h p who bytes)) (answered_is_run uses_file first) in
    let (same, kept) = reading_leaves reads_done (answered_is_run uses_file rest) in
    (same ∙ world, kept ∙ stay)
put_using m h p who bytes (Ok allowed) first rest =
    let (world, stay) = reading_leaves (only_reads look_reads (only_put_allowed m h p who bytes)) (answered_is_run uses_file first) in
    let (same, kept) = using_leaves (put_opening h allowed.0) allowed.0.from p bytes who.moment allowed.1 rest in
    (same ∙ world, kept ∙ stay)

body_using : (m : DavMethod) (h : PutHeaders) (p : Path) (who : Caller) (bytes : Option (List ℕ)) {e : DavError} {old new : StoreState} {ls ms : Locks}
    → Ran Using (put_body m h p who bytes) old ls (Err e) new ms → Same old ls new ms
body_using m h p who None ran = reading_leaves reads_done (answered_is_run uses_file ran)
body_using m h p who (Some bytes) ran =
    let parts = ran_split (put_allowed m h p who bytes) _ ran in
    put_using m h p who bytes parts.outcome parts.first parts.rest

-- the error isn't the store's, or no call on an open file was refused
abbrev NotStores : MethodPlan Reply → DavError → StoreState → Locks → StoreState → Locks → Type 0
NotStores plan e old ls new ms = (¬ IsStoresError e) ⊎ (¬ RanRefused uses_file plan old ls (Err e) new ms)

write_leaves : (m : DavMethod) (h : PutHeaders) (p : Path) (who : Caller) (bytes : Option (List ℕ)) (e : DavError) {old new : StoreState} {ls ms : Locks}
    → NotStores (put_body m h p who bytes) e old ls new ms → Ran Asking (put_body m h p who bytes) old ls (Err e) new ms → Same old ls new ms
write_leaves m h p who bytes e (inl other) ran = body_leaves m h p who bytes e other ran
write_leaves m h p who bytes e (inr none) ran = elim (answered_or_refused uses_file ran) [
  | inl answered ↦ body_using m h p who bytes answered
  | inr refused ↦ absurd (none refused)
]

-- ---- MKCOL

-- once the folder is made there is no error
abbrev NoneComes : DavError → Type 0
NoneComes e = ⊥

mkcol_leaves : (c : Conditions) (p : PathText) (who : Caller) (checked : Result (Unit {0}) DavError) (e : DavError) {old mid new : StoreState} {ls ks ms : Locks}
    → Ran Asking (mkcol_allowed c p who) old ls checked mid ks
    → Ran Asking (followed_by checked (λ _. ask_or create_error (CreateDir (names p) who.moment) >>= (λ _. gives (made p)))) mid ks (Err e) new ms → Same old ls new ms
mkcol_leaves c p who (Err d) e first rest =
    let (world, stay) = reading_leaves (only_reads look_reads (only_mkcol_allowed c p who)) first in
    let (same, kept) = reading_leaves reads_done rest in
    (same ∙ world, kept ∙ stay)
mkcol_leaves c p who (Ok allowed) e first (ran_ask {old = old} {mid = mid} {answer = answer} one rest) =
    let (world, stay) = reading_leaves (only_reads look_reads (only_mkcol_allowed c p who)) first in
    let (same, kept) = first_change NoneComes old.world (meaning (CreateDir (names p) who.moment) old.world) create_error answer (λ _. gives (made p)) mid e (λ done. ends_done tt) (did one) (λ no. no) rest in
    (same ∙ world, kept ∙ stay)

-- ---- a step

abbrev IsNewToken : Caller → Locks → Type 0
IsNewToken who ls = (token : List ℕ) → who.token ≡ Some token → IsUnused token ls

-- what is left where the token is new
abbrev LeftIf : Type 0 → StoreState → Locks → StoreState → Locks → Type 0
LeftIf new_token old ls new ms = (new.world ≡ old.world) × (new_token → ms ≡ ls)

all_left : {A P Q : Type 0} → P × Q → P × (A → Q)
all_left same = (same.0, λ fresh. same.1)

-- the error of a file that the store refused is such a one
file_error : (x : Exchange) (r : Request) (e : DavError) → IsHead x.head r → IsRefusedFile (headers_of r.fields) e → IsFileError x e
file_error x r (dav.FsError d) head refused = inl (d, refl)
file_error x r (dav.Status status) head (inl conflict) = inr (inl (ap dav.Status conflict))
file_error x r (dav.Status status) head (inr failed) = inr (inr (ap dav.Status failed.0, (r, head, failed.1)))
file_error x r (dav.StatusClose status) head refused = absurd refused
file_error x r dav.XmlParseError head refused = absurd refused
file_error x r dav.InvalidPath head refused = absurd refused
file_error x r dav.ForbiddenPath head refused = absurd refused
file_error x r dav.IllegalPath head refused = absurd refused
file_error x r dav.UnknownDavMethod head refused = absurd refused
file_error x r dav.ChanError head refused = absurd refused
file_error x r dav.Memory head refused = absurd refused

-- why a LOCK takes no lock back: its token is new, or the error is of another kind, or no file was refused
abbrev TakesNone : Headers → Caller → MethodPlan Reply → DavError → StoreState → Locks → StoreState → Locks → Type 0
TakesNone headers who plan e old ls new ms = IsNewToken who ls ⊎ (¬ IsRefusedFile headers e) ⊎ (¬ RanRefused opens_file plan old ls (Err e) new ms)

lock_list : (headers : Headers) (p : PathText) (given : Body) (who : Caller) (plan : MethodPlan Reply) (e : DavError) {old new : StoreState} {ls ms : Locks}
    → IsLock headers p given who plan → Ran Asking plan old ls (Err e) new ms → TakesNone headers who plan e old ls new ms → ms ≡ ls
lock_list headers p given who plan e {old} {new} {ls} {ms} is ran (inl fresh) = (refused_lock_leaves_all headers p given who plan old new ls ms e is ran).1 (inl fresh)
lock_list headers p given who plan e {old} {new} {ls} {ms} is ran (inr (inl other)) = (refused_lock_leaves_all headers p given who plan old new ls ms e is ran).1 (inr other)
lock_list headers p given who plan e {old} {new} {ls} {ms} is ran (inr (inr none)) = elim (answered_or_refused opens_file ran) [
  | inl answered ↦ (unrefused_lock_leaves_all headers p given who plan old new ls ms e is answered).1
  | inr refused ↦ absurd (none refused)
]

plan_leaves : {allowed : ℕ} {headers : Headers} {p : PathText} {given : Body} {who : Caller} {m : DavMethod} {plan : MethodPlan Reply} (e : DavError) {old new : StoreState} {ls ms : Locks}
    → ((m ≡ Put) ⊎ (m ≡ Patch) → NotStores plan e old ls new ms) → PlanOf allowed headers p given who m plan → Ran Asking plan old ls (Err e) new ms
    → LeftIf (m ≡ LockMethod → TakesNone headers who plan e old ls new ms) old ls new ms
plan_leaves {p = p} {who = who} e other (gets (is_get c are)) ran = all_left (reading_leaves (get_is_reading Get c (names p) who.moment) ran)
plan_leaves {p = p} {who = who} e other (heads (is_get c are)) ran = all_left (reading_leaves (get_is_reading Head c (names p) who.moment) ran)
plan_leaves {p = p} {given} {who} e other (puts (is_put h are)) ran = all_left (write_leaves Put h (names p) who (bytes_of_body given) e (other (inl refl)) ran)
plan_leaves {p = p} {given} {who} e other (patches (is_put h are)) ran = all_left (write_leaves Patch h (names p) who (bytes_of_body given) e (other (inr refl)) ran)
plan_leaves {p = p} {who = who} e other (makes (is_mkcol c are)) ran =
    let parts = ran_split (mkcol_allowed c p who) _ ran in
    all_left (mkcol_leaves c p who parts.outcome e parts.first parts.rest)
plan_leaves {p = p} {who = who} e {old} {new} {ls} {ms} other (deletes (is_delete h are)) ran = all_left (refused_delete_leaves_all h p who old new ls ms e ran)
plan_leaves {p = p} {who = who} e {old} {new} {ls} {ms} other (copies (is_copy_move h are)) ran = all_left (refused_copymove_leaves_all Copy h p who old new ls ms e ran)
plan_leaves {p = p} {who = who} e {old} {new} {ls} {ms} other (moves (is_copy_move h are)) ran = all_left (refused_copymove_leaves_all Move h p who old new ls ms e ran)
plan_leaves {allowed} {p = p} e other offers ran = all_left (reading_leaves (options_only_reads allowed p) ran)
plan_leaves {headers = headers} {p} {given} {who} {plan = plan} e other (finds_properties is) ran = all_left (reading_leaves (propfind_only_reads headers p given who plan is) ran)
plan_leaves {headers = headers} {p} {given} {who} {plan = plan} e {old} {new} {ls} {ms} other (sets_properties is) ran = all_left (refused_proppatch_leaves_all headers p given who plan old new ls ms e is ran)
plan_leaves {headers = headers} {p} {given} {who} {plan = plan} e {old} {new} {ls} {ms} other (locks is) ran = ((refused_lock_leaves_all headers p given who plan old new ls ms e is ran).0, λ reason. lock_list headers p given who plan e is ran (reason refl))
plan_leaves {headers = headers} {p} {who = who} {plan = plan} e {old} {new} {ls} {ms} other (releases is) ran = all_left (refused_unlock_leaves_all headers p who plan old new ls ms e is ran)

of_leaves : {s : Settings} {x : Exchange} {r : Request} {m : DavMethod} {plan : MethodPlan Reply} (e : DavError) {old new : StoreState} {ls ms : Locks}
    → ((m ≡ Put) ⊎ (m ≡ Patch) → NotStores plan e old ls new ms) → MeansOf s x r m plan → Ran Asking plan old ls (Err e) new ms
    → LeftIf (m ≡ LockMethod → TakesNone (headers_of r.fields) (caller x) plan e old ls new ms) old ls new ms
of_leaves e other (not_allowed out) ran = all_left (reading_leaves reads_done ran)
of_leaves e other (no_path d has none) ran = all_left (reading_leaves reads_done ran)
of_leaves e other (no_body p d has named bad) ran = all_left (reading_leaves reads_done ran)
of_leaves e other (method p given has named good plan) ran = plan_leaves e other plan ran

-- a method that writes is that of a request that writes
write_request : (x : Exchange) (r : Request) (m : DavMethod) → IsHead x.head r → GivesServed r.method (Ok m) → (m ≡ Put) ⊎ (m ≡ Patch) → IsWriteRequest x
write_request x r m head is (inl put) = inl (r, head, subst (λ (k : DavMethod). GivesServed r.method (Ok k)) put is)
write_request x r m head is (inr patch) = inr (r, head, subst (λ (k : DavMethod). GivesServed r.method (Ok k)) patch is)

-- what keeps a LOCK from taking a lock back, in the words of its headers
takes_none : (x : Exchange) (r : Request) {plan : MethodPlan Reply} {e : DavError} {old new : StoreState} {ls ms : Locks} → IsHead x.head r
    → HandsInUnused x ls ⊎ (¬ IsFileError x e) ⊎ (¬ RanRefused opens_file plan old ls (Err e) new ms) → TakesNone (headers_of r.fields) (caller x) plan e old ls new ms
takes_none x r head (inl fresh) = inl fresh
takes_none x r {e = e} head (inr (inl other)) = inr (inl (λ refused. other (file_error x r e head refused)))
takes_none x r head (inr (inr none)) = inr (inr none)

pub errors_leave : ErrorsLeave
errors_leave s x plan old new ls ms e other (no_head out) ran = all_left (reading_leaves reads_done ran)
errors_leave s x plan old new ls ms e other (no_method r d head is) ran = all_left (reading_leaves reads_done ran)
errors_leave s x plan old new ls ms e other (known r m head is its) ran =
    let (world, list) = of_leaves e (λ writes. other (write_request x r m head is writes)) its ran in
    (world, λ reason. list (λ lock. takes_none x r head (reason (r, head, subst (λ (k : DavMethod). GivesServed r.method (Ok k)) lock is))))
