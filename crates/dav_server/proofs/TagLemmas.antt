-- Equal entity tags show equal bytes.
use Rattle.std.proofs.Common.{◌≡◌, ◌⊎◌, inl, inr, ℕ, zero, suc, ◌<◌, ◌≤◌, List, [], ◌∷◌, length, slice_index_or, Result, sym, ap, subst, arith}
use Rattle.std.proofs.lemmas.List.Elements.{All-head, All-tail}
use Rattle.std.specs.List.{zip}
use Rattle.dav_core.specs.declared.errors.DavError.{DavError}
use Rattle.dav_core.specs.declared.method.DavMethod.{DavMethod}
use Rattle.dav_core.specs.declared.method.DavMethod.TheVariants.{Get}
use Rattle.dav_core.specs.Asking.{StoreState, Asks as Asking}
use Rattle.dav_core.specs.Path.{Path, PathText, names}
use Rattle.dav_core.specs.World.{World, IsWorld, last_moment}
use Rattle.dav_engine.specs.declared.request.Body.{Body}
use Rattle.dav_engine.specs.Caller.{Caller}
use Rattle.dav_engine.specs.Headers.{Headers}
use Rattle.dav_engine.specs.Method.{MethodPlan, fails}
use Rattle.dav_engine.specs.Plan.{Locks, Ran}
use Rattle.dav_engine.specs.Reply.{Reply, reply_to}
use Rattle.dav_engine.proofs.Theorems.{Kept, ran_outcome}
use Rattle.dav_server.specs.Get.{is_get}
use Rattle.dav_server.specs.Head.{Request}
use Rattle.dav_server.specs.Machine.{Settings, Exchange, PlanOf, gets, heads, puts, patches, makes, deletes, copies, moves, offers, finds_properties, sets_properties, locks, releases, MeansOf, not_allowed, no_path, no_body, method, Means, no_head, no_method, known, Steps, steps}
use Rattle.dav_server.specs.Run.{Turn, begun, Runs, no_more, one_more}
use Rattle.dav_server.specs.TagLaws.{HasMethod, Shows, ShownIn, MomentsAreDates, TagsTellBytes}
use Rattle.dav_server.proofs.GetWorld.{Stands, Known, get_shows, error_shows_none, stands_known, known_bytes}
use Rattle.dav_server.proofs.MeansWorld.{asks_one, begun_world, turn_keeps}

-- ---- one GET

-- somewhere there is a file of these bytes, with the number that the tag holds
abbrev pub StandsSomewhere : World → List ℕ → List ℕ → Type 0
StandsSomewhere w tag bytes = (p : Path) × Stands w p tag bytes

-- a plan that fails shows nothing
fails_shows_none : {A : Type 0} (e : DavError) (outcome : Result Reply DavError) {old new : StoreState} {ls ms : Locks} (tag bytes : List ℕ) → Ran Asking (fails e) old ls outcome new ms → Shows tag bytes (reply_to outcome) → A
fails_shows_none e outcome tag bytes ran shows = absurd (error_shows_none e tag bytes (subst (λ o. Shows tag bytes (reply_to o)) (ran_outcome ran) shows))

plan_shows : {allowed : ℕ} {headers : Headers} {p : PathText} {body : Body} {who : Caller} {m : DavMethod} {plan : MethodPlan Reply} (outcome : Result Reply DavError) {old new : StoreState} {ls ms : Locks} (tag bytes : List ℕ) → m ≡ Get → IsWorld old.world
    → PlanOf allowed headers p body who m plan → Ran Asking plan old ls outcome new ms → Shows tag bytes (reply_to outcome) → StandsSomewhere old.world tag bytes
plan_shows {p = p} {who = who} outcome tag bytes is world (gets (is_get c are)) ran shows = (names p, get_shows c (names p) who.moment outcome tag bytes world ran shows)
plan_shows outcome tag bytes is world (heads other) ran shows = absurd (cc)
plan_shows outcome tag bytes is world (puts other) ran shows = absurd (cc)
plan_shows outcome tag bytes is world (patches other) ran shows = absurd (cc)
plan_shows outcome tag bytes is world (makes other) ran shows = absurd (cc)
plan_shows outcome tag bytes is world (deletes other) ran shows = absurd (cc)
plan_shows outcome tag bytes is world (copies other) ran shows = absurd (cc)
plan_shows outcome tag bytes is world (moves other) ran shows = absurd (cc)
plan_shows outcome tag bytes is world offers ran shows = absurd (cc)
plan_shows outcome tag bytes is world (finds_properties other) ran shows = absurd (cc)
plan_shows outcome tag bytes is world (sets_properties other) ran shows = absurd (cc)
plan_shows outcome tag bytes is world (locks other) ran shows = absurd (cc)
plan_shows outcome tag bytes is world (releases other) ran shows = absurd (cc)

of_shows : {s : Settings} {x : Exchange} {r : Request} {m : DavMethod} {plan : MethodPlan Reply} (outcome : Result Reply DavError) {old new : StoreState} {ls ms : Locks} (tag bytes : List ℕ) → m ≡ Get → IsWorld old.world
    → MeansOf s x r m plan → Ran Asking plan old ls outcome new ms → Shows tag bytes (reply_to outcome) → StandsSomewhere old.world tag bytes
of_shows outcome tag bytes is world (not_allowed out) ran shows = fails_shows_none _ outcome tag bytes ran shows
of_shows outcome tag bytes is world (no_path e has none) ran shows = fails_shows_none e outcome tag bytes ran shows
of_shows outcome tag bytes is world (no_body p e has named bad) ran shows = fails_shows_none e outcome tag bytes ran shows
of_shows outcome tag bytes is world (method p body has named good plan) ran shows = plan_shows outcome tag bytes is world plan ran shows

means_shows : {s : Settings} (x : Exchange) {plan : MethodPlan Reply} (outcome : Result Reply DavError) {old new : StoreState} {ls ms : Locks} (tag bytes : List ℕ) → HasMethod Get x → IsWorld old.world
    → Means s x plan → Ran Asking plan old ls outcome new ms → Shows tag bytes (reply_to outcome) → StandsSomewhere old.world tag bytes
means_shows x outcome tag bytes asks world (no_head out) ran shows = fails_shows_none _ outcome tag bytes ran shows
means_shows x outcome tag bytes asks world (no_method r e head gives) ran shows = fails_shows_none e outcome tag bytes ran shows
means_shows x outcome tag bytes asks world (known r n head gives means) ran shows = of_shows outcome tag bytes (asks_one x Get asks head gives) world means ran shows

step_shows : {s : Settings} (x : Exchange) {old new : StoreState} {ls ms : Locks} {reply : Reply} (tag bytes : List ℕ) → HasMethod Get x → IsWorld old.world → Steps s x old ls reply new ms → Shows tag bytes reply → StandsSomewhere old.world tag bytes
step_shows x tag bytes asks world (steps plan outcome means ran) shows = means_shows x outcome tag bytes asks world means ran shows

-- what the GET of a turn shows is in the world before it
pub turn_shows : {s : Settings} (t : Turn) (old : StoreState) {new : StoreState} {ls ms : Locks} {reply : Reply} (tag bytes : List ℕ) → HasMethod Get t.asked → IsWorld old.world → Steps s t.asked (begun t.refusals old) ls reply new ms → Shows tag bytes reply
    → StandsSomewhere old.world tag bytes
turn_shows t old tag bytes asks world step shows =
    let same = begun_world t.refusals old in
    subst (λ w. StandsSomewhere w tag bytes) same (step_shows t.asked tag bytes asks (subst IsWorld (sym same) world) step shows)

-- ---- what is shown in a run

-- a GET among these requests was answered with these bytes and this tag, request by request
abbrev pub ShownAmong : List Turn → List Reply → List ℕ → List ℕ → Type 0
ShownAmong [] replies tag bytes = ⊥
ShownAmong (t ∷ ts) [] tag bytes = ⊥
ShownAmong (t ∷ ts) (reply ∷ replies) tag bytes = (HasMethod Get t.asked × Shows tag bytes reply) ⊎ ShownAmong ts replies tag bytes

among_at : (ts : List Turn) (replies : List Reply) (k : ℕ) (t : Turn) (reply : Reply) (tag bytes : List ℕ)
    → k < length (zip ts replies) → slice_index_or (zip ts replies) k (t, reply) ≡ (t, reply) → HasMethod Get t.asked → Shows tag bytes reply → ShownAmong ts replies tag bytes
among_at [] replies k t reply tag bytes within is asks shows = absurd (omega (arith, within))
among_at (u ∷ ts) [] k t reply tag bytes within is asks shows = absurd (omega (arith, within))
among_at (u ∷ ts) (first ∷ replies) zero t reply tag bytes within is asks shows =
    inl (subst (λ (v : Turn). HasMethod Get v.asked) (sym (ap (λ (e : Turn × Reply). e.0) is)) asks, subst (Shows tag bytes) (sym (ap (λ (e : Turn × Reply). e.1) is)) shows)
among_at (u ∷ ts) (first ∷ replies) (suc k) t reply tag bytes within is asks shows = inr (among_at ts replies k t reply tag bytes (omega (arith, within)) is asks shows)

pub shown_among : (ts : List Turn) (replies : List Reply) (tag bytes : List ℕ) → ShownIn ts replies tag bytes → ShownAmong ts replies tag bytes
shown_among ts replies tag bytes (t, reply, (k, within, is), asks, shows) = among_at ts replies k t reply tag bytes within is asks shows

-- what is known stays known
pub known_on : (w new : World) (tag bytes : List ℕ) → Kept w new → Known w tag bytes → Known new tag bytes
known_on w new tag bytes kept is = record { number = is.number; tag_is = is.tag_is; remembered = kept.remembered is.number bytes is.remembered }

pub turn_known : {s : Settings} (t : Turn) (old : StoreState) {new : StoreState} {ls ms : Locks} {reply : Reply} (tag bytes : List ℕ) → HasMethod Get t.asked → IsWorld old.world → Steps s t.asked (begun t.refusals old) ls reply new ms → Shows tag bytes reply
    → Known old.world tag bytes
turn_known t old tag bytes asks world step shows =
    let (p, stands) = turn_shows t old tag bytes asks world step shows in
    stands_known old.world p tag bytes world stands

pub small_first : (t : Turn) (ts : List Turn) → MomentsAreDates (t ∷ ts) → t.asked.moment ≤ last_moment
small_first t ts small = All-head (λ t. t.asked.moment ≤ last_moment) t ts small

pub small_rest : (t : Turn) (ts : List Turn) → MomentsAreDates (t ∷ ts) → MomentsAreDates ts
small_rest t ts small = All-tail (λ t. t.asked.moment ≤ last_moment) t ts small

-- a tag that is known at the beginning of a run shows the bytes that it is known of
pub known_shown : {s : Settings} {ts : List Turn} {old new : StoreState} {ls ms : Locks} {replies : List Reply} (tag bytes others : List ℕ)
    → IsWorld old.world → MomentsAreDates ts → Runs s ts old ls replies new ms → Known old.world tag bytes → ShownAmong ts replies tag others → bytes ≡ others
known_shown tag bytes others world small no_more is none = absurd none
known_shown tag bytes others world small (one_more {t} {ts} {old} {mid} step rest) is (inl (asks, shows)) =
    let (p, stands) = turn_shows t old tag others asks world step shows in
    known_bytes old.world p tag bytes others world is stands
known_shown tag bytes others world small (one_more {t} {ts} {old} {mid} step rest) is (inr later) =
    let kept = turn_keeps t old (small_first t ts small) world step in
    known_shown tag bytes others kept.world (small_rest t ts small) rest (known_on old.world mid.world tag bytes kept is) later

-- what a run showed is known at its end
pub shown_known : {s : Settings} {ts : List Turn} {old new : StoreState} {ls ms : Locks} {replies : List Reply} (tag bytes : List ℕ)
    → IsWorld old.world → MomentsAreDates ts → Runs s ts old ls replies new ms → (Known old.world tag bytes ⊎ ShownAmong ts replies tag bytes) → Known new.world tag bytes
shown_known tag bytes world small no_more (inl is) = is
shown_known tag bytes world small no_more (inr none) = absurd none
shown_known tag bytes world small (one_more {t} {ts} {old} {mid} step rest) (inl is) =
    let kept = turn_keeps t old (small_first t ts small) world step in
    shown_known tag bytes kept.world (small_rest t ts small) rest (inl (known_on old.world mid.world tag bytes kept is))
shown_known tag bytes world small (one_more {t} {ts} {old} {mid} step rest) (inr (inl (asks, shows))) =
    let kept = turn_keeps t old (small_first t ts small) world step in
    shown_known tag bytes kept.world (small_rest t ts small) rest (inl (known_on old.world mid.world tag bytes kept (turn_known t old tag bytes asks world step shows)))
shown_known tag bytes world small (one_more {t} {ts} {old} {mid} step rest) (inr (inr later)) =
    let kept = turn_keeps t old (small_first t ts small) world step in
    shown_known tag bytes kept.world (small_rest t ts small) rest (inr later)

both_shown : {s : Settings} {ts : List Turn} {old new : StoreState} {ls ms : Locks} {replies : List Reply} (tag bytes others : List ℕ)
    → IsWorld old.world → MomentsAreDates ts → Runs s ts old ls replies new ms → ShownAmong ts replies tag bytes → ShownAmong ts replies tag others → bytes ≡ others
both_shown tag bytes others world small no_more none other = absurd none
both_shown tag bytes others world small (one_more {t} {ts} {old} step rest) (inl (asks, shows)) other =
    known_shown tag bytes others world small (one_more step rest) (turn_known t old tag bytes asks world step shows) other
both_shown tag bytes others world small (one_more {t} {ts} {old} step rest) (inr later) (inl (asks, shows)) =
    sym (known_shown tag others bytes world small (one_more step rest) (turn_known t old tag others asks world step shows) (inr later))
both_shown tag bytes others world small (one_more {t} {ts} {old} step rest) (inr later) (inr other) =
    both_shown tag bytes others (turn_keeps t old (small_first t ts small) world step).world (small_rest t ts small) rest later other

pub tags_tell_bytes : TagsTellBytes
tags_tell_bytes s ts old new ls ms replies world small ran tag bytes others one other =
    both_shown tag bytes others world small ran (shown_among ts replies tag bytes one) (shown_among ts replies tag others other)
