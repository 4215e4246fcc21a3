-- How code follows a MKCOL.
use Rattle.std.proofs.Common.{◌≡◌, ℕ, Bool, false, not, List, map, string_bytes, String, Option, Result, Ok, Err, ap}
use Rattle.std.specs.Global.{Vec, Global}
use Rattle.std.specs.Option.{is_none}
use Rattle.std.specs.Result.{is_ok, result_ok}
use Rattle.dav_core.specs.declared.errors.FsError.{FsError}
use Rattle.dav_core.specs.declared.errors.DavError.{DavError}
use Rattle.dav_core.specs.declared.errors.DavError.TheVariants as dav
use Rattle.dav_core.specs.declared.fs.DavMetaData.{DavMetaData}
use Rattle.dav_core.specs.declared.method.DavMethod.TheVariants.{MkCol}
use Rattle.dav_core.specs.Asking.{StoreState, Asks, Metadata, CreateDir}
use Rattle.dav_core.specs.Locks.{requester_of}
use Rattle.dav_core.specs.Path.{PathText, names}
use Rattle.dav_engine.specs.Caller.{Caller, requester}
use Rattle.dav_engine.specs.Plan.{Locks}
use Rattle.dav_engine.specs.Method.{MethodPlan, ◌>>=◌, require_member, ask_or, gives}
use Rattle.dav_engine.specs.Follows.{as_is, Follows, FollowsOnLocks, or_memory}
use Rattle.dav_engine.specs.Conditions.{Conditions, if_match_get_tokens}
use Rattle.dav_engine.specs.ConditionView.{tokens_or_status}
use Rattle.dav_engine.specs.Mkcol.{mkcol_allowed, mkcol, create_error, made}
use Rattle.dav_engine.specs.Reply.{Reply}
use Rattle.dav_engine.specs.declared.reply.Reply as coded
use Rattle.dav_engine.proofs.Following.{follows_done, follows_ask, follows_then, follows_err, follows_up_to}
use Rattle.dav_engine.proofs.GuardLemmas.{guard_passed, guard_failed, guard_short, none_by, member_for}

-- what follows the conditions
abbrev rest : PathText → Caller → Result DavMetaData FsError → List (List ℕ) → MethodPlan (Unit {0})
rest p who answer tokens = require_member false (not (is_ok answer)) (requester who tokens) (names p) (dav.Status 423)

pub mkcol_short : {E : Type 0} (c : Conditions) (p : PathText) (who : Caller) (answer : Result DavMetaData FsError) (before : Option DavMetaData) (r : Result (Result (Vec (String Global)) ℕ) E) (e : E)
    {old mid new : StoreState} {ls : Locks}
    → Asks (Metadata (names p)) old answer mid → before ≡ result_ok answer → r ≡ Err e
    → Follows tokens_or_status (if_match_get_tokens MkCol c before) mid ls (or_memory r) new ls
    → Follows (λ (u : Unit {0}). u) (mkcol_allowed c p who) old ls (Err dav.Memory) new ls
mkcol_short c p who answer before r e asks same was one = follows_ask asks (guard_short dav.Status MkCol c before (result_ok answer) (rest p who answer) r e same was one)

pub mkcol_failed : {E : Type 0} (c : Conditions) (p : PathText) (who : Caller) (answer : Result DavMetaData FsError) (before : Option DavMetaData) (r : Result (Result (Vec (String Global)) ℕ) E) (verdict : Result (Vec (String Global)) ℕ) (status : ℕ)
    {old mid new : StoreState} {ls : Locks}
    → Asks (Metadata (names p)) old answer mid → before ≡ result_ok answer → r ≡ Ok verdict → verdict ≡ Err status
    → Follows tokens_or_status (if_match_get_tokens MkCol c before) mid ls (or_memory r) new ls
    → Follows (λ (u : Unit {0}). u) (mkcol_allowed c p who) old ls (Err (dav.Status status)) new ls
mkcol_failed c p who answer before r verdict status asks same was is one = follows_ask asks (guard_failed dav.Status MkCol c before (result_ok answer) (rest p who answer) r verdict status same was is one)

-- the conditions hold, and then the locks were checked
pub mkcol_checked : {E : Type 0} (c : Conditions) (p : PathText) (who : Caller) (answer : Result DavMetaData FsError) (before file : Option DavMetaData) (r : Result (Result (Vec (String Global)) ℕ) E) (verdict : Result (Vec (String Global)) ℕ) (tokens : Vec (String Global))
    (lent : List (String Global)) (b : Bool) (end : Result (Unit {0}) DavError) {old mid new : StoreState} {ls : Locks}
    → Asks (Metadata (names p)) old answer mid → before ≡ result_ok answer → r ≡ Ok verdict → verdict ≡ Ok tokens
    → Follows tokens_or_status (if_match_get_tokens MkCol c before) mid ls (or_memory r) new ls
    → b ≡ is_none file → file ≡ result_ok answer → lent ≡ tokens.items
    → FollowsOnLocks (λ (u : Unit {0}). u) (require_member false b (requester_of (map string_bytes lent) false who.principal) (names p) (dav.Status 423)) ls end ls
    → Follows (λ (u : Unit {0}). u) (mkcol_allowed c p who) old ls end new ls
mkcol_checked c p who answer before file r verdict tokens lent b end {new = new} asks same was is one told kept tells done =
    follows_ask asks (guard_passed dav.Status MkCol c before (result_ok answer) (rest p who answer) r verdict tokens same was is one
    (member_for false b (not (is_ok answer)) tokens lent who.principal (names p) (dav.Status 423) (none_by answer file b told kept) tells done new))

-- what follows the checks
abbrev creates : PathText → Caller → Unit {0} → MethodPlan Reply
creates p who _ = do
  _ ← ask_or create_error (CreateDir (names p) who.moment)
  gives (made p)

-- the checks ended in an error
pub mkcol_ends : (c : Conditions) (p : PathText) (who : Caller) (e : DavError) {old new : StoreState} {ls : Locks}
    → Follows (λ (u : Unit {0}). u) (mkcol_allowed c p who) old ls (Err e) new ls → Follows as_is (mkcol c p who) old ls (Err e) new ls
mkcol_ends c p who e one = follows_err (creates p who) e one

-- the store refuses to make the folder
pub mkcol_refused : (c : Conditions) (p : PathText) (who : Caller) (why : FsError) (e : DavError) {old mid new : StoreState} {ls : Locks}
    → Follows (λ (u : Unit {0}). u) (mkcol_allowed c p who) old ls (Ok tt) mid ls → Asks (CreateDir (names p) who.moment) mid (Err why) new → e ≡ create_error why
    → Follows as_is (mkcol c p who) old ls (Err e) new ls
mkcol_refused c p who why e one asks is = follows_then (creates p who) one (follows_ask asks (follows_done (ap Err is)))

-- memory runs out after the folder was made
pub mkcol_wants : (c : Conditions) (p : PathText) (who : Caller) (done : Unit {0}) {old mid new : StoreState} {ls : Locks}
    → Follows (λ (u : Unit {0}). u) (mkcol_allowed c p who) old ls (Ok tt) mid ls → Asks (CreateDir (names p) who.moment) mid (Ok done) new
    → Follows as_is (mkcol c p who) old ls (Err dav.Memory) new ls
mkcol_wants c p who done one asks = follows_then (creates p who) one (follows_ask asks follows_up_to)

-- the folder is made
pub mkcol_made : (c : Conditions) (p : PathText) (who : Caller) (done : Unit {0}) (reply : coded.Reply) {old mid new : StoreState} {ls : Locks}
    → Follows (λ (u : Unit {0}). u) (mkcol_allowed c p who) old ls (Ok tt) mid ls → Asks (CreateDir (names p) who.moment) mid (Ok done) new → reply ≡ made p
    → Follows as_is (mkcol c p who) old ls (Ok reply) new ls
mkcol_made c p who done reply one asks is = follows_then (creates p who) one (follows_ask asks (follows_done (ap Ok is)))
