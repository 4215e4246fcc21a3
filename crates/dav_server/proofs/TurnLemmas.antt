-- What a handler is handed is a list of turns at moments that HTTP can write.
use Rattle.std.proofs.Common.{◌≡◌, ℕ, ◌<◌, ◌≤◌, ◌+◌, ◌++◌, get_or, length, take, sym, ap, subst, ◌∙◌, List, [], ◌∷◌, map}
use Rattle.std.proofs.lemmas.List.{append-nil, nil_from_length, take_all}
use Rattle.std.proofs.lemmas.List.Elements.{All-nil, All-push}
use Rattle.dav_core.specs.Asking.{StoreState}
use Rattle.dav_core.specs.World.{IsWorld, last_moment}
use Rattle.dav_engine.specs.Plan.{Locks}
use Rattle.dav_engine.specs.Reply.{Reply}
use Rattle.dav_server.specs.Machine.{Exchange, Settings}
use Rattle.dav_server.specs.Server.{turn_of}
use Rattle.dav_server.proofs.RunLemmas.{front_more}
use Rattle.dav_server.specs.Run.{Turn, Runs}
use Rattle.dav_server.specs.TagLaws.{MomentsAreDates, EqualTagsShowEqualBytes}
use Rattle.dav_server.proofs.TagLemmas.{tags_tell_bytes}

-- one more turn whose moment can be written
pub showable_more : (front : List Turn) (t : Turn) → MomentsAreDates front → t.asked.moment ≤ last_moment → MomentsAreDates (front ++ t ∷ [])
showable_more front t some one = All-push (λ (u : Turn). u.asked.moment ≤ last_moment) front t some one

-- the same for the first turns and one more
pub showable_further : (xs : List Exchange) (k : ℕ) (x : Exchange) → k < length xs → x ≡ get_or xs k x
    → MomentsAreDates (map turn_of (take k xs)) → x.moment ≤ last_moment → MomentsAreDates (map turn_of (take (k + 1) xs))
showable_further xs k x within here some one = subst MomentsAreDates (sym (front_more turn_of xs k x within here)) (showable_more (map turn_of (take k xs)) (turn_of x) some one)

-- and for all of them
pub showable_all : (xs : List Exchange) (k : ℕ) → length xs ≤ k → MomentsAreDates (map turn_of (take k xs)) → MomentsAreDates (map turn_of xs)
showable_all xs k past some = subst (λ (l : List Exchange). MomentsAreDates (map turn_of l)) (take_all k xs past) some

pub none_showable : MomentsAreDates []
none_showable = All-nil (λ (u : Turn). u.asked.moment ≤ last_moment)

-- a run of a whole list, by its first turns
pub ran_all : {X : Type 0} (view : X → Turn) (xs : List X) (k : ℕ) {s : Settings} {old new : StoreState} {ls ms : Locks} {replies : List Reply}
    → length xs ≤ k → Runs s (map view (take k xs)) old ls replies new ms → Runs s (map view xs) old ls replies new ms
ran_all {X} view xs k {s} {old} {new} {ls} {ms} {replies} past ran = subst (λ (l : List X). Runs s (map view l) old ls replies new ms) (take_all k xs past) ran

-- where none is to come, all were yielded
pub all_yielded : {X : Type 0} (all yielded rest : List X) (len : ℕ) → all ≡ yielded ++ rest → len ≡ length rest → len ≡ 0 → all ≡ yielded
all_yielded all yielded rest len is long none = is ∙ ap (λ l. yielded ++ l) (nil_from_length rest (sym long ∙ none)) ∙ append-nil yielded

-- the same for an equal list of turns
pub showable_for : {ts us : List Turn} → ts ≡ us → MomentsAreDates us → MomentsAreDates ts
showable_for same some = subst MomentsAreDates (sym same) some

-- In a run that begins with a world, equal tags show equal bytes.
pub run_tells : {s : Settings} (ts : List Turn) {old new : StoreState} {ls ms : Locks} {replies : List Reply}
    → MomentsAreDates ts → Runs s ts old ls replies new ms → IsWorld old.world → EqualTagsShowEqualBytes ts replies
run_tells {s} ts {old} {new} {ls} {ms} {replies} moments ran world = tags_tell_bytes s ts old new ls ms replies world moments ran
