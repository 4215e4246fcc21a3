-- What PUT, PATCH and MKCOL do to worlds.
use Rattle.std.proofs.Common.{◌≡◌, ℕ, ◌≤◌, ◌==◌, Bool, true, false, true≢false, List, [], ◌∷◌, length, if◌then◌else◌, Option, Some, None, Result, Ok, Err, refl, sym, ap, ◌∙◌, not}
use Rattle.std.specs.Result.{result_ok, is_ok}
use Rattle.dav_core.specs.declared.errors.FsError.{FsError}
use Rattle.dav_core.specs.declared.errors.FsError.TheVariants.{Forbidden, Exists}
use Rattle.dav_core.specs.declared.errors.DavError.{DavError}
use Rattle.dav_core.specs.declared.errors.DavError.TheVariants as dav
use Rattle.dav_core.specs.declared.fs.DavMetaData.{DavMetaData}
use Rattle.dav_core.specs.declared.method.DavMethod.{DavMethod}
use Rattle.dav_core.specs.declared.method.DavMethod.TheVariants.{MkCol}
use Rattle.dav_core.specs.Asking.{Call, Metadata, Open, Write, meaning, StoreState, Asks}
use Rattle.dav_core.specs.CallLaws.{IsProper, IsStorable}
use Rattle.dav_core.specs.Calls.{open_at}
use Rattle.dav_core.specs.Handle.{Handle, Opening}
use Rattle.dav_core.specs.Locks.{Requester}
use Rattle.dav_core.specs.Path.{Path, PathText, names}
use Rattle.dav_core.specs.World.{World, Node, node_at, is_folder_kind, last_moment}
use Rattle.dav_headers.specs.If.{Item, state_token, entity_tag, Condition}
use Rattle.dav_core.proofs.Theorems.{went_on}
use Rattle.dav_engine.specs.declared.methods.put.headers.Writing.{Writing}
use Rattle.dav_engine.specs.Caller.{Caller, requester}
use Rattle.dav_engine.specs.Conditions.{Conditions, Addressed, is_star, item_holds, and_then, or_else, all_hold, some_holds, if_holds, unless, if_match_get_tokens, guarded, if_match}
use Rattle.dav_engine.specs.Method.{MethodPlan, then as followed_by, gives, ask_for, require, require_free, refused_as, require_parent, require_member}
use Rattle.dav_engine.specs.Mkcol.{mkcol, mkcol_allowed, create_error, is_mkcol}
use Rattle.dav_engine.specs.Plan.{Locks, Ran, ran_done, ran_ask}
use Rattle.dav_engine.specs.Put.{PutHeaders, writing_of, put_opening, is_announced, unsatisfiable, sought, written, open_error, store, put_allowed, put_body, bytes_of_body, is_put}
use Rattle.dav_engine.specs.Reply.{Reply}
use Rattle.dav_engine.specs.WorldLaws.{OnlyReads, IsProperPlan, proper_done, proper_ask, RefusedPutLeavesAll, RefusedMkcolLeavesAll, PutIsProper, MkcolIsProper, CreatesOnly, CreateOnlyLeavesAll, reads_done}
use Rattle.dav_engine.proofs.Following.{ran_bind}
use Rattle.dav_engine.proofs.CallWorlds.{Did, stays, means, did}
use Rattle.dav_engine.proofs.WorldPlans.{Only, only_done, only_ask, only_look, only_then, only_bind, only_require, only_reads, only_proper, proper_then, proper_bind, reading_leaves, ran_outcome, ran_split}

-- ---- the checks: the store is asked for the metadata of paths, and for nothing else

-- a call that asks for the metadata of a path
pub data IsLook : Call → Type 0 where
  looks : {p : Path} → IsLook (Metadata p)

pub look_reads : (c : Call) → IsLook c → OnlyReads c
look_reads c looks = tt

pub look_proper : (c : Call) → IsLook c → IsProper c
look_proper c looks = tt

only_item : (p : Option Path) (i : Item) → Only IsLook (item_holds p i)
only_item None i = only_done
only_item (Some p) (state_token t) = only_look (λ ls. only_done)
only_item (Some p) (entity_tag e) = only_ask looks (λ answer. only_done)

only_while_true : (b : Bool) (next : MethodPlan Bool) → Only IsLook next → Only IsLook (and_then b next)
only_while_true true next is = is
only_while_true false next is = only_done

only_while_false : (b : Bool) (next : MethodPlan Bool) → Only IsLook next → Only IsLook (or_else b next)
only_while_false true next is = only_done
only_while_false false next is = is

only_all : (p : Option Path) (cs : List Condition) → Only IsLook (all_hold p cs)
only_all p [] = only_done
only_all p (c ∷ cs) = only_bind (item_holds p c.item) _ (only_item p c.item) (λ holds. only_while_true _ (all_hold p cs) (only_all p cs))

only_some : (ls : List Addressed) → Only IsLook (some_holds ls)
only_some [] = only_done
only_some (l ∷ ls) = only_bind (all_hold l.path l.conditions) _ (only_all l.path l.conditions) (λ holds. only_while_false _ (some_holds ls) (only_some ls))

pub only_if : (lists : Option (List Addressed)) → Only IsLook (if_holds lists)
only_if None = only_done
only_if (Some ls) = only_some ls

only_unless : {A : Type 0} (status : Option ℕ) (next : MethodPlan (Result A ℕ)) → Only IsLook next → Only IsLook (unless status next)
only_unless (Some status) next is = only_done
only_unless None next is = is

-- conditions only look at what is there, and at the locks
pub only_conditions : (m : DavMethod) (c : Conditions) (found : Option DavMetaData) → Only IsLook (if_match m c found)
only_conditions m c found = only_bind (if_holds c.lists) _ (only_if c.lists) (λ holds. only_done)

pub only_tokens : (m : DavMethod) (c : Conditions) (found : Option DavMetaData) → Only IsLook (if_match_get_tokens m c found)
only_tokens m c found = only_unless _ _ (only_bind (if_holds c.lists) _ (only_if c.lists) (λ holds. only_done))

pub only_guarded : (f : ℕ → DavError) (m : DavMethod) (c : Conditions) (found : Option DavMetaData) → Only IsLook (guarded f m c found)
only_guarded f m c found = only_bind (if_match_get_tokens m c found) _ (only_tokens m c found) (λ verdict. only_done)

-- the check of the locks only reads their list
pub only_free : (deep : Bool) (who : Requester) (p : Path) (e : DavError) → Only IsLook (require_free deep who p e)
only_free deep who p e = only_look (λ ls. only_require _ e)

-- and so does that of the folder above
pub only_parent : (wanted : Bool) (who : Requester) (p : Path) (e : DavError) → Only IsLook (require_parent wanted who p e)
only_parent false who p e = only_done
only_parent true who p e = only_look (λ ls. only_require _ e)

pub only_member : (deep changes : Bool) (who : Requester) (p : Path) (e : DavError) → Only IsLook (require_member deep changes who p e)
only_member deep changes who p e = only_bind (require_free deep who p e) _ (only_free deep who p e) (λ free. only_parent changes who p e)

pub only_put_allowed : (m : DavMethod) (h : PutHeaders) (p : Path) (who : Caller) (bytes : List ℕ) → Only IsLook (put_allowed m h p who bytes)
only_put_allowed m h p who bytes = only_ask looks (λ answer.
    only_then (writing_of m h (result_ok answer)) _ (λ w.
    only_bind (guarded dav.StatusClose m h.conditions (result_ok answer)) _ (only_guarded dav.StatusClose m h.conditions (result_ok answer)) (λ tokens.
    only_bind (require_member false (not (is_ok answer)) (requester who tokens) p (dav.StatusClose 423)) _ (only_member false (not (is_ok answer)) (requester who tokens) p (dav.StatusClose 423)) (λ free.
    only_bind (require (is_announced w.announced bytes) (dav.StatusClose 400)) _ (only_require (is_announced w.announced bytes) (dav.StatusClose 400)) (λ long.
    only_done)))))

pub only_mkcol_allowed : (c : Conditions) (p : PathText) (who : Caller) → Only IsLook (mkcol_allowed c p who)
only_mkcol_allowed c p who = only_ask looks (λ answer.
    only_bind (guarded dav.Status MkCol c (result_ok answer)) _ (only_guarded dav.Status MkCol c (result_ok answer)) (λ tokens.
    only_member false (not (is_ok answer)) (requester who tokens) (names p) (dav.Status 423)))

-- ---- an error of the checks is the outcome

pub refused_put_leaves_all : RefusedPutLeavesAll
refused_put_leaves_all m h p who bytes old new ls ms e ran =
    let (world, locks) = reading_leaves (only_reads look_reads (only_put_allowed m h p who bytes)) ran in
    (ran_bind {plan = put_allowed m h p who bytes} _ ran ran_done, world, locks)

pub refused_mkcol_leaves_all : RefusedMkcolLeavesAll
refused_mkcol_leaves_all c p who old new ls ms e ran =
    let (world, locks) = reading_leaves (only_reads look_reads (only_mkcol_allowed c p who)) ran in
    (ran_bind {plan = mkcol_allowed c p who} _ ran ran_done, world, locks)

-- ---- calls that a caller may make

proper_sought : (place : Option ℕ) (file : Handle) → IsProperPlan (sought place file)
proper_sought None file = proper_done
proper_sought (Some k) file = proper_ask tt (λ answer tells. proper_then (refused_as (λ e. unsatisfiable) answer) _ (λ moved. proper_done))

proper_if : {A : Type 0} (b : Bool) (one other : MethodPlan A) → IsProperPlan one → IsProperPlan other → IsProperPlan (if b then one else other)
proper_if true one other is is' = is
proper_if false one other is is' = is'

proper_written : (file : Handle) (bytes : List ℕ) (now : ℕ) → now ≤ last_moment → IsProperPlan (written file bytes now)
proper_written file bytes now small =
    proper_if (length bytes == 0) (gives file) (ask_for (Write file bytes now)) proper_done (proper_ask small (λ answer tells. proper_done))

proper_store : (how : Opening) (place : Option ℕ) (p : Path) (bytes : List ℕ) (now : ℕ) (found : Bool) → IsStorable p → now ≤ last_moment → IsProperPlan (store how place p bytes now found)
proper_store how place p bytes now found storable small = proper_ask (storable, small) (λ answer tells.
    proper_then (refused_as (open_error how) answer) _ (λ file.
    proper_bind (sought place file) _ (proper_sought place file) (λ file.
    proper_bind (written file bytes now) _ (proper_written file bytes now small) (λ file.
    proper_ask tt (λ answer tells. proper_then (refused_as dav.FsError answer) _ (λ done. proper_ask tt (λ answer tells. proper_done)))))))

proper_put : (m : DavMethod) (h : PutHeaders) (p : Path) (who : Caller) (bytes : Option (List ℕ)) → IsStorable p → who.moment ≤ last_moment → IsProperPlan (put_body m h p who bytes)
proper_put m h p who None storable small = proper_done
proper_put m h p who (Some bytes) storable small =
    proper_bind (put_allowed m h p who bytes) _ (only_proper look_proper (only_put_allowed m h p who bytes)) (λ allowed.
    proper_store (put_opening h allowed.0) allowed.0.from p bytes who.moment allowed.1 storable small)

pub put_is_proper : PutIsProper
put_is_proper m headers p body who plan storable small (is_put h are) = proper_put m h (names p) who (bytes_of_body body) storable small

proper_mkcol : (c : Conditions) (p : PathText) (who : Caller) → IsStorable (names p) → who.moment ≤ last_moment → IsProperPlan (mkcol c p who)
proper_mkcol c p who storable small =
    proper_bind (mkcol_allowed c p who) _ (only_proper look_proper (only_mkcol_allowed c p who)) (λ allowed.
    proper_ask (storable, small) (λ answer tells. proper_then (refused_as create_error answer) _ (λ done. proper_done)))

pub mkcol_is_proper : MkcolIsProper
mkcol_is_proper headers p who plan storable small (is_mkcol c are) = proper_mkcol c p who storable small

-- ---- If-None-Match `*`

-- where something is there, a file isn't opened as a new one
open_new : (w : World) (p : Path) (how : Opening) (now : ℕ) (o : Option Node) (r : Handle × World) → how.create_new ≡ true → open_at w p how now o ≡ Ok r → o ≡ None
open_new w p how now None r new h = refl
open_new w p how now (Some n) r new h =
    let (file, more) = went_on (is_folder_kind n.kind) Forbidden _ r h in
    let (old, end) = went_on how.create_new Exists _ r more in
    absurd (true≢false (sym new ∙ old))

opened_new : (w : World) (p : Path) (how : Opening) (now : ℕ) (r : Handle × World) → how.create_new ≡ true → meaning (Open p how now) w ≡ Ok r → node_at w p ≡ None
unfolding meaning
opened_new w p how now r new h = open_new w p how now (node_at w p) r new h

-- where a plan succeeds after its file was opened as a new one, nothing was at the path
did_open : (w after : World) (p : Path) (how : Opening) (now : ℕ) (answer : Result Handle FsError) (f : Handle → MethodPlan Reply) {mid new : StoreState} {ls ms : Locks} {r : Reply}
    → how.create_new ≡ true → Did (meaning (Open p how now) w) w answer after → Ran Asks (followed_by (refused_as (open_error how) answer) f) mid ls (Ok r) new ms → node_at w p ≡ None
did_open w after p how now answer f new (means file h is same) ran = opened_new w p how now file new h
did_open w after p how now (Err e) f new (stays d is same) ran = let clash = ran_outcome ran in cc
did_open w after p how now (Ok file) f new (stays d is same) ran = cc

stored_new : (how : Opening) (place : Option ℕ) (p : Path) (bytes : List ℕ) (now : ℕ) (found : Bool) {old new : StoreState} {ls ms : Locks} {r : Reply}
    → how.create_new ≡ true → Ran Asks (store how place p bytes now found) old ls (Ok r) new ms → node_at old.world p ≡ None
stored_new how place p bytes now found is (ran_ask {old = old} {mid = mid} {answer = answer} one rest) =
    did_open old.world mid.world p how now answer _ is (did one) rest

split_new : (m : DavMethod) (h : PutHeaders) (p : Path) (who : Caller) (bytes : List ℕ) {old mid new : StoreState} {ls ks ms : Locks} {r : Reply} (outcome : Result (Writing × Bool) DavError)
    → is_star h.conditions.if_none_match ≡ true → Ran Asks (put_allowed m h p who bytes) old ls outcome mid ks
    → Ran Asks (followed_by outcome (λ allowed. store (put_opening h allowed.0) allowed.0.from p bytes who.moment allowed.1)) mid ks (Ok r) new ms → node_at old.world p ≡ None
split_new m h p who bytes (Err e) is first rest = let clash = ran_outcome rest in cc
split_new m h p who bytes (Ok allowed) is first rest =
    let (world, locks) = reading_leaves (only_reads look_reads (only_put_allowed m h p who bytes)) first in
    ap (λ (w : World). node_at w p) (sym world) ∙ stored_new (put_opening h allowed.0) allowed.0.from p bytes who.moment allowed.1 is rest

pub creates_only : CreatesOnly
creates_only m h p who bytes old new ls ms r star_is ran =
    let parts = ran_split (put_allowed m h p who bytes) _ ran in
    split_new m h p who bytes parts.outcome (ap is_star star_is) parts.first parts.rest

-- ---- and where something is, it stays

no_node : (w : World) (p : Path) (n : Node) {A : Type 0} → node_at w p ≡ None → node_at w p ≡ Some n → A
no_node w p n none some = let clash = sym none ∙ some in absurd (cc)

kept_open : (w : World) (p : Path) (how : Opening) (now : ℕ) (n : Node) (answer : Result Handle FsError) (f : Handle → MethodPlan Reply) (mid : StoreState) {new : StoreState} {ls ms : Locks} {a : Result Reply DavError}
    → how.create_new ≡ true → node_at w p ≡ Some n → Did (meaning (Open p how now) w) w answer mid.world
    → Ran Asks (followed_by (refused_as (open_error how) answer) f) mid ls a new ms → (new.world ≡ w) × (ms ≡ ls)
kept_open w p how now n answer f mid new there (means file h is same) ran = no_node w p n (opened_new w p how now file new h) there
kept_open w p how now n (Err e) f mid new there (stays d is same) ran =
    let (world, locks) = reading_leaves reads_done ran in
    (world ∙ same, locks)
kept_open w p how now n (Ok file) f mid new there (stays d is same) ran = absurd (cc)

kept_store : (how : Opening) (place : Option ℕ) (p : Path) (bytes : List ℕ) (now : ℕ) (found : Bool) (n : Node) {old new : StoreState} {ls ms : Locks} {a : Result Reply DavError}
    → how.create_new ≡ true → node_at old.world p ≡ Some n → Ran Asks (store how place p bytes now found) old ls a new ms → (new.world ≡ old.world) × (ms ≡ ls)
kept_store how place p bytes now found n is there (ran_ask {old = old} {mid = mid} {answer = answer} one rest) =
    kept_open old.world p how now n answer _ mid is there (did one) rest

kept_new : (m : DavMethod) (h : PutHeaders) (p : Path) (who : Caller) (bytes : List ℕ) (n : Node) {old mid new : StoreState} {ls ks ms : Locks} {a : Result Reply DavError} (outcome : Result (Writing × Bool) DavError)
    → is_star h.conditions.if_none_match ≡ true → node_at old.world p ≡ Some n → Ran Asks (put_allowed m h p who bytes) old ls outcome mid ks
    → Ran Asks (followed_by outcome (λ allowed. store (put_opening h allowed.0) allowed.0.from p bytes who.moment allowed.1)) mid ks a new ms → (new.world ≡ old.world) × (ms ≡ ls)
kept_new m h p who bytes n (Err e) is there first rest =
    let (world, locks) = reading_leaves (only_reads look_reads (only_put_allowed m h p who bytes)) first in
    let (same, kept) = reading_leaves reads_done rest in
    (same ∙ world, kept ∙ locks)
kept_new m h p who bytes n (Ok allowed) is there first rest =
    let (world, locks) = reading_leaves (only_reads look_reads (only_put_allowed m h p who bytes)) first in
    let (same, kept) = kept_store (put_opening h allowed.0) allowed.0.from p bytes who.moment allowed.1 n is (ap (λ (w : World). node_at w p) world ∙ there) rest in
    (same ∙ world, kept ∙ locks)

pub create_only_leaves_all : CreateOnlyLeavesAll
create_only_leaves_all m h p who bytes old new ls ms a n star_is there ran =
    let parts = ran_split (put_allowed m h p who bytes) _ ran in
    kept_new m h p who bytes n parts.outcome (ap is_star star_is) there parts.first parts.rest
