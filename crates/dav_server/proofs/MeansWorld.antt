-- What the plans of requests do to worlds.
use Rattle.std.proofs.Common.{◌≡◌, ℕ, ◌<◌, ◌≤◌, Bool, true, true≢false, List, [], ◌∷◌, ◌++◌, map, All, Option, Some, None, Ok, Err, inl, inr, refl, sym, ap, subst, ◌∙◌, ◌≢◌, length, length-append, get_or, arith}
use Rattle.std.proofs.lemmas.List.Elements.{All-nil, All-cons, All-head, All-tail}
use Rattle.std.specs.Char.{to_ascii_lowercase}
use Rattle.dav_core.specs.declared.errors.FsError.{FsError}
use Rattle.dav_core.specs.declared.method.DavMethod.{DavMethod}
use Rattle.dav_core.specs.declared.method.DavMethod.TheVariants.{Get, Head, Put, Patch, Options, Copy, Move}
use Rattle.dav_core.specs.Asking.{StoreState, Asks}
use Rattle.dav_core.specs.CallLaws.{IsStorable}
use Rattle.dav_core.specs.Path.{Path, PathText, IsName, names, names_of, path_bytes, IsCut, at_start, at_slash, at_end, without_slash, star}
use Rattle.dav_core.specs.Target.{Reads}
use Rattle.dav_core.specs.World.{IsWorld, last_moment}
use Rattle.dav_core.proofs.Theorems.{Leaves-names, names_kept, cut_keeps_names, named_once, Reads-bytes}
use Rattle.dav_engine.specs.declared.request.Body.{Body}
use Rattle.dav_engine.specs.Caller.{Caller}
use Rattle.dav_engine.specs.Headers.{Headers}
use Rattle.dav_engine.specs.Method.{MethodPlan}
use Rattle.dav_engine.specs.Plan.{Plan, Locks, RanUpTo, up_to_here, up_to_ask, up_to_look, up_to_keep, Refused, refused_done, refused_ask, refused_look, Cut}
use Rattle.dav_engine.specs.Reply.{Reply}
use Rattle.dav_engine.specs.WorldLaws.{IsReading, reads_done, reads_ask, reads_look, IsProperPlan, proper_done}
use Rattle.dav_engine.proofs.Theorems.{did, did_leave, Kept, kept_same, kept_on, put_is_proper, mkcol_is_proper, copymove_is_proper, delete_is_proper, lock_is_proper, options_is_proper, options_only_reads, unlock_is_proper, reading_leaves, proper_keeps, propfind_is_proper, propfind_only_reads, proppatch_is_proper}
use Rattle.dav_server.specs.Get.{IsGet, is_get}
use Rattle.dav_server.specs.Head.{Request, IsHead}
use Rattle.dav_server.specs.Machine.{Settings, Exchange, PlanOf, gets, heads, puts, patches, makes, deletes, copies, moves, offers, finds_properties, sets_properties, locks, releases, MeansOf, not_allowed, no_path, no_body, method, Means, no_head, no_method, known, Steps, steps}
use Rattle.dav_server.specs.Method.{GivesServed}
use Rattle.dav_server.specs.Run.{Turn, begun, Runs, no_more, one_more}
use Rattle.dav_server.specs.TagLaws.{HasMethod, MomentsAreDates, is_safe, ReadingLeaves, RunsKeepWorlds}
use Rattle.dav_server.specs.Target.{TargetNames, server, path}
use Rattle.dav_server.proofs.GetWorld.{get_is_reading, get_is_proper}
use Rattle.dav_server.proofs.HeadLemmas.{one_head}
use Rattle.dav_server.proofs.TargetLemmas.{target_is_path}

-- ---- the paths that targets name

pub all_front : {X : Type 0} (P : X → Type 0) (xs ys : List X) → All P (xs ++ ys) → All P xs
all_front P [] ys h = All-nil P
all_front P (x ∷ xs) ys h = All-cons P x xs (All-head P x (xs ++ ys) h) (all_front P xs ys (All-tail P x (xs ++ ys) h))

pub all_back : {X : Type 0} (P : X → Type 0) (xs ys : List X) → All P (xs ++ ys) → All P ys
all_back P [] ys h = h
all_back P (x ∷ xs) ys h = all_back P xs ys (All-tail P x (xs ++ ys) h)

pub storable_root : IsStorable []
storable_root = (All-nil IsName, All-nil (All (λ b. b < 256)))

-- a text of one other byte holds no slash
one_other : (c : ℕ) (p rest : List ℕ) → c ≢ 47 → c ∷ [] ≡ p ++ 47 ∷ rest → ⊥
one_other c [] rest apart e = apart (ap (λ (bs : List ℕ). get_or bs 0 0) e)
one_other c (b ∷ p) rest apart e =
    let short : 1 ≡ length ((b ∷ p) ++ 47 ∷ rest) = ap length e in
    omega (arith, short, length-append (b ∷ p) (47 ∷ rest))

-- after a prefix of the star path there are no names
star_cut : (q : List ℕ) (p : PathText) → IsCut q star p → names p ≡ []
star_cut q p (at_start empty is) = ap names is
star_cut q p (at_slash {rest} whole is) = absurd (one_other 42 q rest (λ same. absurd (omega (arith, same))) whole)
star_cut q p (at_end some whole is) = ap names is

-- after a prefix of a path of names there are names of it
named_cut : (ns : Path) (closed : Bool) (q : List ℕ) (p : PathText) → All IsName ns → All (All (λ b. b < 256)) ns → IsCut q (path_bytes ns closed) p → IsStorable (names p)
named_cut ns closed q p are small cut =
    let (rest, end, split, behind) = cut_keeps_names ns closed q p are cut in
    let kept : All IsName rest = all_back IsName (names_of q) rest (subst (All IsName) split are) in
    let below : All (All (λ b. b < 256)) rest = all_back (All (λ b. b < 256)) (names_of q) rest (subst (All (All (λ b. b < 256))) split small) in
    subst IsStorable (sym (ap names_of behind ∙ names_kept rest end kept)) (kept, below)

read_cut : (text bytes q : List ℕ) (p : PathText) → Reads text bytes → IsCut q bytes p → IsStorable (names p)
read_cut text bytes q p (inl (is, star_is)) cut =
    subst IsStorable (sym (star_cut q p (subst (λ (b : List ℕ). IsCut q b p) star_is cut))) storable_root
read_cut text bytes q p (inr (ns, closed, named, is)) cut =
    let are : All IsName ns = Leaves-names _ ns named.leaves in
    let small : All (All (λ b. b < 256)) ns = subst (All (All (λ b. b < 256))) (ap names_of is ∙ names_kept ns closed are) (Reads-bytes text bytes (inr (ns, closed, named, is))) in
    named_cut ns closed q p are small (subst (λ (b : List ℕ). IsCut q b p) is cut)

-- there may be a node at the path that a target names
pub target_storable : {prefix target : List ℕ} {m : DavMethod} {p : PathText} → TargetNames prefix m target (Ok p) → IsStorable (names p)
target_storable (server is options) = storable_root
target_storable {prefix} (path {text} {bytes} {p} has reads cut) = read_cut text bytes (without_slash prefix) p reads cut

-- ---- plans of calls that a caller may make

proper_get : {m : DavMethod} {headers : Headers} {p : PathText} {now : ℕ} {plan : MethodPlan Reply} → IsStorable (names p) → now ≤ last_moment → IsGet m headers p now plan → IsProperPlan plan
proper_get {m} {p = p} {now} storable small (is_get c are) = get_is_proper m c (names p) now storable small

plan_proper : {allowed : ℕ} {headers : Headers} {p : PathText} {body : Body} {who : Caller} {m : DavMethod} {plan : MethodPlan Reply} → IsStorable (names p) → (m ≢ Options → p.bytes ≢ star) → who.moment ≤ last_moment → PlanOf allowed headers p body who m plan → IsProperPlan plan
plan_proper storable below small (gets is) = proper_get storable small is
plan_proper storable below small (heads is) = proper_get storable small is
plan_proper {headers} {p} {body} {who} {plan = plan} storable below small (puts is) = put_is_proper Put headers p body who plan storable small is
plan_proper {headers} {p} {body} {who} {plan = plan} storable below small (patches is) = put_is_proper Patch headers p body who plan storable small is
plan_proper {headers} {p} {who = who} {plan = plan} storable below small (makes is) = mkcol_is_proper headers p who plan storable small is
plan_proper {headers} {p} {who = who} {plan = plan} storable below small (deletes is) = delete_is_proper headers p who plan small is
plan_proper {headers} {p} {who = who} {plan = plan} storable below small (copies is) = copymove_is_proper Copy headers p who plan small is
plan_proper {headers} {p} {who = who} {plan = plan} storable below small (moves is) = copymove_is_proper Move headers p who plan small is
plan_proper {allowed} {p = p} storable below small offers = options_is_proper allowed p
plan_proper {headers} {p} {body} {who} {plan = plan} storable below small (finds_properties is) = propfind_is_proper headers p body who plan is
plan_proper {headers} {p} {body} {who} {plan = plan} storable below small (sets_properties is) = proppatch_is_proper headers p body who plan is
plan_proper {headers} {p} {body} {who} {plan = plan} storable below small (locks is) = lock_is_proper headers p body who plan storable (below (λ e. cc)) small is
plan_proper {headers} {p} {who = who} {plan = plan} storable below small (releases is) = unlock_is_proper headers p who plan is

of_proper : {s : Settings} {x : Exchange} {r : Request} {m : DavMethod} {plan : MethodPlan Reply} → x.moment ≤ last_moment → MeansOf s x r m plan → IsProperPlan plan
of_proper small (not_allowed out) = proper_done
of_proper small (no_path e has none) = proper_done
of_proper small (no_body p e has named bad) = proper_done
of_proper small (method p body has named good is) = plan_proper (target_storable named) (target_is_path named) small is

pub means_proper : {s : Settings} {x : Exchange} {plan : MethodPlan Reply} → x.moment ≤ last_moment → Means s x plan → IsProperPlan plan
means_proper small (no_head out) = proper_done
means_proper small (no_method r e is gives) = proper_done
means_proper small (known r m is gives means) = of_proper small means

-- ---- what steps and runs keep

pub begun_world : (refusals : Option (List (Option FsError))) (old : StoreState) → (begun refusals old).world ≡ old.world
begun_world None old = refl
begun_world (Some list) old = refl

pub begun_short : (refusals : Option (List (Option FsError))) (old : StoreState) → (begun refusals old).short ≡ old.short
begun_short None old = refl
begun_short (Some list) old = refl

pub step_keeps : {s : Settings} {x : Exchange} {old new : StoreState} {ls ms : Locks} {reply : Reply} → x.moment ≤ last_moment → IsWorld old.world → Steps s x old ls reply new ms → Kept old.world new.world
step_keeps small world (steps plan outcome means ran) = proper_keeps (means_proper small means) world ran

-- a turn keeps worlds, their numbers, and what is remembered of these
pub turn_keeps : {s : Settings} (t : Turn) (old : StoreState) {new : StoreState} {ls ms : Locks} {reply : Reply} → t.asked.moment ≤ last_moment → IsWorld old.world → Steps s t.asked (begun t.refusals old) ls reply new ms → Kept old.world new.world
turn_keeps t old {new} small world step =
    let same = begun_world t.refusals old in
    subst (λ w. Kept w new.world) same (step_keeps small (subst IsWorld (sym same) world) step)

-- and so does a run
pub run_keeps : {s : Settings} {ts : List Turn} {old new : StoreState} {ls ms : Locks} {replies : List Reply} → IsWorld old.world → MomentsAreDates ts → Runs s ts old ls replies new ms → Kept old.world new.world
run_keeps world small (no_more {old}) = kept_same old.world old.world world refl
run_keeps world small (one_more {t} {ts} {old} {mid} {new} step rest) =
    let first = turn_keeps t old (All-head (λ t. t.asked.moment ≤ last_moment) t ts small) world step in
    kept_on old.world mid.world new.world first (run_keeps first.world (All-tail (λ t. t.asked.moment ≤ last_moment) t ts small) rest)

pub runs_keep_worlds : RunsKeepWorlds
runs_keep_worlds s ts old new ls ms replies world small ran = (run_keeps world small ran).world

-- ---- reading

-- a name is that of one method
pub one_method : (text : List ℕ) (m n : DavMethod) → GivesServed text (Ok m) → GivesServed text (Ok n) → m ≡ n
one_method text m n one two = named_once text m n (ap (map to_ascii_lowercase) one.1) (ap (map to_ascii_lowercase) two.1)

-- a request has one method
pub asks_one : (x : Exchange) {r : Request} (m : DavMethod) {n : DavMethod} → HasMethod m x → IsHead x.head r → GivesServed r.method (Ok n) → n ≡ m
asks_one x {r} m {n} (q, head, gives) also too =
    one_method r.method n m too (subst (λ (h : Request). GivesServed h.method (Ok m)) (one_head x.head q r head also) gives)

plan_reads : {allowed : ℕ} {headers : Headers} {p : PathText} {body : Body} {who : Caller} {m : DavMethod} {plan : MethodPlan Reply} → is_safe m ≡ true → PlanOf allowed headers p body who m plan → IsReading plan
plan_reads {p = p} {who = who} is (gets (is_get c are)) = get_is_reading Get c (names p) who.moment
plan_reads {p = p} {who = who} is (heads (is_get c are)) = get_is_reading Head c (names p) who.moment
plan_reads is (puts out) = absurd (true≢false (sym is))
plan_reads is (patches out) = absurd (true≢false (sym is))
plan_reads is (makes out) = absurd (true≢false (sym is))
plan_reads is (deletes out) = absurd (true≢false (sym is))
plan_reads is (copies out) = absurd (true≢false (sym is))
plan_reads is (moves out) = absurd (true≢false (sym is))
plan_reads {allowed} {p = p} is offers = options_only_reads allowed p
plan_reads {headers} {p} {body} {who} {plan = plan} is (finds_properties out) = propfind_only_reads headers p body who plan out
plan_reads is (sets_properties out) = absurd (true≢false (sym is))
plan_reads is (locks out) = absurd (true≢false (sym is))
plan_reads is (releases out) = absurd (true≢false (sym is))

of_reads : {s : Settings} {x : Exchange} {r : Request} {m : DavMethod} {plan : MethodPlan Reply} → is_safe m ≡ true → MeansOf s x r m plan → IsReading plan
of_reads is (not_allowed out) = reads_done
of_reads is (no_path e has none) = reads_done
of_reads is (no_body p e has named bad) = reads_done
of_reads is (method p body has named good plan) = plan_reads is plan

pub means_reads : {s : Settings} (x : Exchange) (m : DavMethod) {plan : MethodPlan Reply} → HasMethod m x → is_safe m ≡ true → Means s x plan → IsReading plan
means_reads x m asks is (no_head out) = reads_done
means_reads x m asks is (no_method r e head gives) = reads_done
means_reads x m asks is (known r n head gives means) = of_reads (ap is_safe (asks_one x m asks head gives) ∙ is) means

-- the first calls of a plan that only reads leave the world and the list, and the rest of it only reads
reads_up_to : {A : Type 0} {plan rest : Plan A} {old new : StoreState} {ls ms : Locks} → IsReading plan → RanUpTo Asks plan old ls rest new ms → (new.world ≡ old.world) × (ms ≡ ls) × IsReading rest
reads_up_to is up_to_here = (refl, refl, is)
reads_up_to (reads_ask only more) (up_to_ask {c} {old = old} {mid} {answer = answer} one later) =
    let (world, list, rest) = reads_up_to (more answer) later in
    (world ∙ did_leave c old.world mid.world answer only (did one), list, rest)
reads_up_to (reads_look more) (up_to_look {ls = ls} later) = reads_up_to (more ls) later
reads_up_to is (up_to_keep later) = elim is [ ]

-- it leaves the list too where each of its calls is refused
reads_refused : {A : Type 0} {plan : Plan A} {ls ms : Locks} {a : A} → IsReading plan → Refused plan ls a ms → ms ≡ ls
reads_refused reads_done refused_done = refl
reads_refused (reads_ask only more) (refused_ask e later) = reads_refused (more (Err e)) later
reads_refused (reads_look more) (refused_look {ls = ls} later) = reads_refused (more ls) later

-- so where memory runs out in such a plan nothing has changed
pub cut_reads : {A : Type 0} {plan : Plan A} {old new : StoreState} {ls ms : Locks} → IsReading plan → Cut Asks ls plan old ls new ms → (new.world ≡ old.world) × (ms ≡ ls)
cut_reads is some =
    let (world, list, rest) = reads_up_to is some.ran in
    (world, elim some.list [ inl same ↦ same | inr ended ↦ let (a, later) = ended in reads_refused rest later ∙ list ])

pub reads_leave_all : ReadingLeaves
reads_leave_all s x old new ls ms reply m asks is (steps plan outcome means ran) = reading_leaves (means_reads x m asks is means) ran
