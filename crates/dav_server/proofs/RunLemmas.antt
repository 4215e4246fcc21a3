-- Runs of the machine, one step after another.
use Rattle.std.proofs.Common.{◌≡◌, ℕ, ◌+◌, ◌<◌, get_or, List, [], ◌∷◌, ◌++◌, length, map, take, drop, Option, Some, sym, ap, subst, ◌∙◌, take-append-drop, append_assoc}
use Rattle.std.proofs.lemmas.List.{map-append, map_push, take_more, drop_more}
use Rattle.dav_core.specs.Asking.{StoreState}
use Rattle.dav_engine.specs.Plan.{Locks, ServerState}
use Rattle.dav_engine.specs.Reply.{Reply}
use Rattle.dav_core.specs.declared.errors.FsError.{FsError}
use Rattle.dav_store.specs.Store.{Store, state_of}
use Rattle.dav_server.specs.Refusals.{RefusingStore, with_refusals}
use Rattle.dav_server.specs.Server.{Server, at_turn, turn_of, AddsReply, StopsIn}
use Rattle.dav_server.specs.Machine.{Exchange, Settings, Steps, StepCut}
use Rattle.dav_server.proofs.RefusalLemmas.{over_none}
use Rattle.dav_server.specs.Run.{Turn, begun, Runs, no_more, one_more}

-- one more step at the end of a run
pub run_more : {s : Settings} {ts : List Turn} {old mid new : StoreState} {ls ks ms : Locks} {replies : List Reply} (t : Turn) (reply : Reply)
    → Runs s ts old ls replies mid ks → Steps s t.asked (begun t.refusals mid) ks reply new ms → Runs s (ts ++ t ∷ []) old ls (replies ++ reply ∷ []) new ms
run_more t reply no_more step = one_more step no_more
run_more t reply (one_more first rest) step = one_more first (run_more t reply rest step)

-- the same, by the replies that were added
pub run_added : {s : Settings} {ts : List Turn} {old mid new : StoreState} {ls ks ms : Locks} (before after : List Reply) (t : Turn) (reply : Reply)
    → Runs s ts old ls before mid ks → after ≡ before ++ reply ∷ [] → Steps s t.asked (begun t.refusals mid) ks reply new ms
    → Runs s (ts ++ t ∷ []) old ls after new ms
run_added {s} {ts} {old} {mid} {new} {ls} {ks} {ms} before after t reply ran is step =
    subst (λ (l : List Reply). Runs s (ts ++ t ∷ []) old ls l new ms) (sym is) (run_more t reply ran step)

-- the first turns and one more
pub front_more : {X : Type 0} (view : X → Turn) (xs : List X) (k : ℕ) (x : X) → k < length xs → x ≡ get_or xs k x
    → map view (take (k + 1) xs) ≡ map view (take k xs) ++ view x ∷ []
front_more view xs k x within here = ap (map view) (take_more xs k x within ∙ ap (λ y. take k xs ++ y ∷ []) (sym here)) ∙ map_push view (take k xs) x

-- the run of one more turn
pub run_further : {X : Type 0} (view : X → Turn) (xs : List X) (k : ℕ) (x : X) {s : Settings} {old mid new : StoreState} {ls ks ms : Locks} (before after : List Reply) (reply : Reply)
    → k < length xs → x ≡ get_or xs k x → Runs s (map view (take k xs)) old ls before mid ks
    → after ≡ before ++ reply ∷ [] → Steps s (view x).asked (begun (view x).refusals mid) ks reply new ms → Runs s (map view (take (k + 1) xs)) old ls after new ms
run_further view xs k x {s} {old} {new = new} {ls} {ms = ms} before after reply within here ran is step =
    subst (λ (l : List Turn). Runs s l old ls after new ms) (sym (front_more view xs k x within here)) (run_added before after (view x) reply ran is step)

-- the turns are those so far, the next one, and the rest
pub parts_of : {X : Type 0} (view : X → Turn) (xs : List X) (k : ℕ) (x : X) → k < length xs → x ≡ get_or xs k x
    → map view xs ≡ map view (take k xs) ++ view x ∷ map view (drop (k + 1) xs)
parts_of {X} view xs k x within here =
    ap (map view) (sym (take-append-drop k xs) ∙ ap (λ (l : List X). take k xs ++ l) (drop_more xs k x within ∙ ap (λ (y : X). y ∷ drop (k + 1) xs) (sym here)))
    ∙ map-append view (take k xs) (x ∷ drop (k + 1) xs)

-- a step, by how the server is set up
pub steps_at : {s t : Settings} {x : Exchange} {old new : StoreState} {ls ms : Locks} {reply : Reply} → s ≡ t → Steps s x old ls reply new ms → Steps t x old ls reply new ms
steps_at {x = x} {old} {new} {ls} {ms} {reply} same step = subst (λ u. Steps u x old ls reply new ms) same step

cut_at : {s t : Settings} {x : Exchange} {old new : StoreState} {ls ms : Locks} → s ≡ t → StepCut s x old ls new ms → StepCut t x old ls new ms
cut_at {x = x} {old} {new} {ls} {ms} same step = subst (λ u. StepCut u x old ls new ms) same step

-- memory ran out in the next turn, from the state that was left before it
pub stops_at : (s : Settings) (t : Turn) (was new : Server) → was.settings ≡ s → StopsIn (at_turn t was) t.asked new → StopsIn (at_turn t (record { settings = s; state = was.state })) t.asked new
stops_at s t was new same stops = record { cut = cut_at same stops.cut; reading = stops.reading; ungranted = stops.ungranted }

-- the same for a turn without refusals of its own
pub stops_plainly : (s : Settings) (x : Exchange) (was new : Server) → was.settings ≡ s → StopsIn was x new → StopsIn (at_turn (turn_of x) (record { settings = s; state = was.state })) x new
stops_plainly s x was new same stops = record { cut = cut_at same stops.cut; reading = stops.reading; ungranted = stops.ungranted }

-- a run has an equal list of replies
pub ran_to : {s : Settings} {ts : List Turn} {old new : StoreState} {ls ms : Locks} (before after : List Reply) → after ≡ before → Runs s ts old ls before new ms → Runs s ts old ls after new ms
ran_to {s} {ts} {old} {new} {ls} {ms} before after same ran = subst (λ (l : List Reply). Runs s ts old ls l new ms) (sym same) ran

-- the store in memory when a step begins
pub loaded_store : (was : RefusingStore Store) (list : List (Option FsError)) → with_refusals list (state_of was.inner) ≡ begun (Some list) (with_refusals was.coming (state_of was.inner))
loaded_store was list = ap (λ l. record (state_of was.inner) { refusals = l }) (over_none list)

abbrev server : Settings → StoreState → Locks → Server
server settings store locks = record { settings = settings; state = record { store = store; locks = locks } }

-- the server in memory when a step begins, by its fields
pub loaded_server : (was now : RefusingStore Store) (list : List (Option FsError)) (settings : Settings) (locks : Locks) {old : Server} {x : Exchange} {t : Turn}
    → now ≡ record was { coming = list }
    → ◌≡◌ {A = Server} (record { settings = settings; state = record { store = with_refusals was.coming (state_of was.inner); locks = locks } }) old
    → ◌≡◌ {A = Turn} (record { asked = x; refusals = Some list }) t
    → ◌≡◌ {A = Server} (record { settings = settings; state = record { store = with_refusals now.coming (state_of now.inner); locks = locks } }) (at_turn t old)
loaded_server was now list settings locks {old} {x} {t} is serves asks =
    ap (λ (n : RefusingStore Store). server settings (with_refusals n.coming (state_of n.inner)) locks) is
    ∙ ap (λ s. server settings s locks) (loaded_store was list)
    ∙ ap (at_turn (record { asked = x; refusals = Some list })) serves
    ∙ ap (λ (u : Turn). at_turn u old) asks

-- a step of a server, by an equal server and an equal request
pub added_from : {one from : Server} (new : Server) {x y : Exchange} (before after : List Reply) → one ≡ from → x ≡ y → AddsReply one x before after new → AddsReply from y before after new
added_from {from = from} new {x} before after same this added =
    subst (λ z. AddsReply from z before after new) this (subst (λ s. AddsReply s x before after new) same added)

pub stops_from : {one from : Server} (new : Server) {x y : Exchange} → one ≡ from → x ≡ y → StopsIn one x new → StopsIn from y new
stops_from {from = from} new {x} same this stops = subst (λ z. StopsIn from z new) this (subst (λ s. StopsIn s x new) same stops)

-- what is to come after one more
pub rest_after_one : {X : Type 0} (all yielded rest rest' : List X) (x : X) → all ≡ yielded ++ rest → rest ≡ x ∷ rest' → all ≡ (yielded ++ x ∷ []) ++ rest'
rest_after_one all yielded rest rest' x is one = is ∙ ap (λ l. yielded ++ l) one ∙ sym (append_assoc yielded (x ∷ []) rest')

-- the turns are those so far, this one, and those to come
pub turns_of : {X : Type 0} (all yielded rest rest' : List X) (x : X) → all ≡ yielded ++ rest → rest ≡ x ∷ rest' → all ≡ yielded ++ x ∷ rest'
turns_of all yielded rest rest' x is one = is ∙ ap (λ l. yielded ++ l) one

-- an equal list of turns has the same run
pub ran_for : {s : Settings} {ts us : List Turn} {old new : StoreState} {ls ms : Locks} {replies : List Reply} → ts ≡ us → Runs s us old ls replies new ms → Runs s ts old ls replies new ms
ran_for {s} {old = old} {new} {ls} {ms} {replies} same ran = subst (λ (l : List Turn). Runs s l old ls replies new ms) (sym same) ran
