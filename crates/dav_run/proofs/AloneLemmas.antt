-- The requests that are run alone, chosen one by one.
use Rattle.std.proofs.Common.{◌≡◌, ◌<◌, ◌+◌, ◌↔◌, ℕ, Bool, IsTrue, List, [], ◌∷◌, ◌++◌, map, length, take, drop, get_or, true, true≢false, Option, Some, None, Result, Ok, Err, IfOk, IsSomeAnd, subst, sym, ap, ◌∙◌, refl}
use Rattle.std.proofs.lemmas.List.{drop-map, take-map, map-append, take_more}
use Rattle.std.proofs.lemmas.Option.{slice_get-map, slice_get_read}
use Rattle.std.specs.Option.{option_eq}
use Rattle.std.specs.Prelude.{slice_get, option_map}
use Rattle.dav_core.specs.Locks.{Lock}
use Rattle.dav_engine.specs.Plan.{ServerState}
use Rattle.dav_engine.specs.Reply.{Reply}
use Rattle.dav_server.specs.Isolation.{HolderTurns, alone_none, alone_other, alone_own}
use Rattle.dav_server.specs.Machine.{Exchange, Settings}
use Rattle.dav_server.specs.Naming.{NamesLock, NamesToken}
use Rattle.dav_server.specs.Run.{Turn}
use Rattle.dav_server.specs.Server.{Server, AnswersAll}
use Rattle.dav_run.specs.declared.request.Request as request
use Rattle.dav_run.specs.Script.{script_request}
use Rattle.dav_run.specs.Play.{turn_for, MayBeGranted, AloneAfter}
use Rattle.dav_run.proofs.Played.{run_set_up}

-- one more turn at the end, whose request doesn't name the lock, or does
pub other_last : {h : Lock} {ts us : List Turn} (t : Turn) → ¬ NamesLock h t.asked → HolderTurns h ts us → HolderTurns h (ts ++ t ∷ []) us
other_last t not alone_none = alone_other not alone_none
other_last t not (alone_other skipped more) = alone_other skipped (other_last t not more)
other_last t not (alone_own named more) = alone_own named (other_last t not more)

pub own_last : {h : Lock} {ts us : List Turn} (t : Turn) → NamesLock h t.asked → HolderTurns h ts us → HolderTurns h (ts ++ t ∷ []) (us ++ t ∷ [])
own_last t own alone_none = alone_own own alone_none
own_last t own (alone_other skipped more) = alone_other skipped (own_last t own more)
own_last t own (alone_own named more) = alone_own named (own_last t own more)

-- a request as a turn
abbrev pub turn_of_request : request.Request → Turn
turn_of_request r = turn_for (script_request r)

-- one more request is one more turn
turns_more : (rs : List request.Request) (i : ℕ) (r : request.Request) → i < length rs → r ≡ get_or rs i r
    → map turn_for (map script_request (take (i + 1) rs)) ≡ map turn_for (map script_request (take i rs)) ++ turn_of_request r ∷ []
turns_more rs i r below at =
    ap (λ (l : List request.Request). map turn_for (map script_request l)) (take_more rs i r below ∙ ap (λ w. take i rs ++ w ∷ []) (sym at))
    ∙ ap (map turn_for) (map-append script_request (take i rs) (r ∷ [])) ∙ map-append turn_for (map script_request (take i rs)) (script_request r ∷ [])

-- the requests after a place, chosen for the one there
pub alone_after : (rs : List request.Request) (place : ℕ) (grant : request.Request) (later : List request.Request) (us : List Turn)
    → place < length rs → grant ≡ get_or rs place grant → later ≡ drop (place + 1) rs
    → ((h : Lock) → MayBeGranted (turn_of_request grant) h → HolderTurns h (map turn_for (map script_request later)) us)
    → AloneAfter place (map turn_for (map script_request rs)) us
alone_after rs place grant later us below at rest chosen =
    let at_place : slice_get (map turn_for (map script_request rs)) place ≡ Some (turn_of_request grant) =
    slice_get-map turn_for (map script_request rs) place ∙ ap (option_map turn_for) (slice_get-map script_request rs place)
    ∙ ap (λ (o : Option request.Request). option_map turn_for (option_map script_request o)) (slice_get_read rs (length rs) place grant refl below at) in
    let turns : map turn_for (map script_request later) ≡ drop (place + 1) (map turn_for (map script_request rs)) =
    ap (λ (l : List request.Request). map turn_for (map script_request l)) rest
    ∙ sym (ap (map turn_for) (drop-map script_request (place + 1) rs)) ∙ sym (drop-map turn_for (place + 1) (map script_request rs)) in
    let these : (h : Lock) → MayBeGranted (turn_of_request grant) h → HolderTurns h (drop (place + 1) (map turn_for (map script_request rs))) us =
    subst (λ (l : List Turn). (h : Lock) → MayBeGranted (turn_of_request grant) h → HolderTurns h l us) turns chosen in
    subst (λ (o : Option Turn). IsSomeAnd o (λ t. (h : Lock) → MayBeGranted t h → HolderTurns h (drop (place + 1) (map turn_for (map script_request rs))) us)) (sym at_place) these

-- one more request that doesn't name the token, or does
pub other_more : (rs : List request.Request) (i : ℕ) (r : request.Request) (grant : Turn) (us : List Turn) → i < length rs → r ≡ get_or rs i r
    → ((h : Lock) → MayBeGranted grant h → ¬ NamesLock h (turn_of_request r).asked)
    → ((h : Lock) → MayBeGranted grant h → HolderTurns h (map turn_for (map script_request (take i rs))) us)
    → (h : Lock) → MayBeGranted grant h → HolderTurns h (map turn_for (map script_request (take (i + 1) rs))) us
other_more rs i r grant us below at not so_far = λ h may.
    subst (λ (l : List Turn). HolderTurns h l us) (sym (turns_more rs i r below at)) (other_last (turn_of_request r) (not h may) (so_far h may))

pub own_more : (rs : List request.Request) (i : ℕ) (r : request.Request) (grant : Turn) (us : List Turn) → i < length rs → r ≡ get_or rs i r
    → ((h : Lock) → MayBeGranted grant h → NamesLock h (turn_of_request r).asked)
    → ((h : Lock) → MayBeGranted grant h → HolderTurns h (map turn_for (map script_request (take i rs))) us)
    → (h : Lock) → MayBeGranted grant h → HolderTurns h (map turn_for (map script_request (take (i + 1) rs))) (us ++ turn_of_request r ∷ [])
own_more rs i r grant us below at named so_far = λ h may.
    subst (λ (l : List Turn). HolderTurns h l (us ++ turn_of_request r ∷ [])) (sym (turns_more rs i r below at)) (own_last (turn_of_request r) (named h may) (so_far h may))

-- whether a request names the token that another hands in, as its principal
pub own_if : {E : Type 0} (result : Result Bool E) (grant : Turn) (x : Exchange) (token said : List ℕ) → IfOk result (λ named. IsTrue named ↔ NamesToken x said) → said ≡ token
    → grant.asked.token ≡ Some token → x.principal ≡ grant.asked.principal → IfOk result (λ own. (h : Lock) → MayBeGranted grant h → (IsTrue own ↔ NamesLock h x))
own_if (Err e) grant x token said named same is principal = tt
own_if (Ok b) grant x token said named same is principal = λ h may.
    let tokens : Some token ≡ Some h.token = sym is ∙ may.0 in
    let there : said ≡ h.token = same ∙ (let e : token ≡ h.token = cc in e) in
    (λ t. record { token = subst (λ (l : List ℕ). NamesToken x l) there (named.0 t); principal = principal ∙ may.1 }, λ n. named.1 (subst (λ (l : List ℕ). NamesToken x l) (sym there) n.token))

-- where two texts are equal by a test, so is what is seen of them
pub same_seen : {A : Type 0} (seen : A → List ℕ) (eq : A → A → Bool) → ((x y : A) → eq x y ≡ true → seen x ≡ seen y)
    → (a b : Option A) → option_eq eq a b ≡ true → option_map seen a ≡ option_map seen b
same_seen seen eq same None None is = refl
same_seen seen eq same None (Some y) is = absurd (true≢false (sym is))
same_seen seen eq same (Some x) None is = absurd (true≢false (sym is))
same_seen seen eq same (Some x) (Some y) is = ap Some (same x y is)

-- the requests after a place, where all were split there
pub alone_of_parts : (rs all : List request.Request) (place : ℕ) (grant : request.Request) (later : List request.Request) (us : List Turn)
    → place < length rs → grant ≡ get_or rs place grant → later ≡ drop (place + 1) all → all ≡ rs
    → ((h : Lock) → MayBeGranted (turn_of_request grant) h → HolderTurns h (map turn_for (map script_request later)) us)
    → AloneAfter place (map turn_for (map script_request rs)) us
alone_of_parts rs all place grant later us below at back same chosen =
    alone_after rs place grant later us below at (back ∙ ap (drop (place + 1)) same) chosen

-- the run of the requests up to that place
pub run_of_front : {one : Server} {s : Settings} {from : ServerState} (rs all front : List request.Request) (n : ℕ) (ts : List Turn) (replies : List Reply) (left : Server)
    → one.settings ≡ s → one.state ≡ from → ts ≡ map turn_for (map script_request front) → front ≡ take n all → all ≡ rs → AnswersAll one ts replies left
    → AnswersAll (record { settings = s; state = from }) (take n (map turn_for (map script_request rs))) replies left
run_of_front rs all front n ts replies left settings state turns first same run =
    let these : map turn_for (map script_request front) ≡ take n (map turn_for (map script_request rs)) =
    ap (λ (l : List request.Request). map turn_for (map script_request l)) (first ∙ ap (take n) same)
    ∙ sym (ap (map turn_for) (take-map script_request n rs)) ∙ sym (take-map turn_for n (map script_request rs)) in
    run_set_up replies left settings state (turns ∙ these) run
