-- How code follows the plans that answer for all conditions.
use Rattle.std.proofs.Common.{◌≡◌, ℕ, if◌then◌else◌, Bool, true, false, true≢false, List, Option, Some, None, Result, Ok, Err, IfOk, String, refl, sym, subst, ap}
use Rattle.std.specs.Global.{Global, Vec}
use Rattle.dav_core.specs.declared.errors.DavError.{DavError}
use Rattle.dav_core.specs.declared.errors.DavError.TheVariants as dav
use Rattle.dav_core.specs.declared.fs.DavMetaData.{DavMetaData}
use Rattle.dav_core.specs.declared.method.DavMethod.{DavMethod}
use Rattle.dav_core.specs.Asking.{StoreState}
use Rattle.dav_engine.specs.Plan.{Locks}
use Rattle.dav_engine.specs.Method.{MethodPlan, ◌>>=◌, gives}
use Rattle.dav_engine.specs.Follows.{Follows, or_memory}
use Rattle.dav_engine.specs.Conditions.{Conditions, Addressed, http_conditions, if_holds, submitted, if_match, if_match_get_tokens, unless}
use Rattle.dav_engine.specs.ConditionView.{texts_of, tokens_or_status}
use Rattle.dav_engine.proofs.Following.{follows_done, follows_up_to, follows_then, follows_err}

-- ---- If first

abbrev behind_if : DavMethod → Conditions → Option DavMetaData → Bool → MethodPlan (Option ℕ)
behind_if m c found holds = gives (if holds then http_conditions m c.if_match c.if_none_match found else Some 412)

-- memory ran out in If
pub if_stopped : (m : DavMethod) (c : Conditions) (found : Option DavMetaData) {s t : StoreState} {ls : Locks}
    → Follows (λ (b : Bool). b) (if_holds c.lists) s ls (Err dav.Memory) t ls
    → Follows (λ (status : Option ℕ). status) (if_match m c found) s ls (Err dav.Memory) t ls
if_stopped m c found one = follows_err (behind_if m c found) dav.Memory one

-- If doesn't hold
pub if_failed : (m : DavMethod) (c : Conditions) (found : Option DavMetaData) (b : Bool) {s t : StoreState} {ls : Locks}
    → b ≡ false → Follows (λ (b : Bool). b) (if_holds c.lists) s ls (Ok b) t ls
    → Follows (λ (status : Option ℕ). status) (if_match m c found) s ls (Ok (Some 412)) t ls
if_failed m c found false is one = follows_then (behind_if m c found) one (follows_done refl)
if_failed m c found true is one = absurd (true≢false is)

-- If holds: the other conditions decide
pub if_held : {E : Type 0} (m : DavMethod) (c : Conditions) (found : Option DavMetaData) (b : Bool) (r : Result (Option ℕ) E) {s t : StoreState} {ls : Locks}
    → b ≡ true → IfOk r (λ status. status ≡ http_conditions m c.if_match c.if_none_match found)
    → Follows (λ (b : Bool). b) (if_holds c.lists) s ls (Ok b) t ls
    → Follows (λ (status : Option ℕ). status) (if_match m c found) s ls (or_memory r) t ls
if_held m c found true (Ok status) is says one = follows_then (behind_if m c found) one (follows_done (ap Ok says))
if_held m c found true (Err e) is says one = follows_then (behind_if m c found) one follows_up_to
if_held m c found false r is says one = absurd (true≢false (sym is))

-- ---- If last

abbrev pub token_plan : Conditions → MethodPlan (Result (List (List ℕ)) ℕ)
token_plan c = if_holds c.lists >>= (λ holds. gives (if holds then Ok (submitted c.lists) else Err 412))

-- the tokens, or the status, as the code has them
abbrev pub Tokens : Type 0
Tokens = Result (Vec (String Global)) ℕ

-- the other conditions answer a status
pub status_first : (m : DavMethod) (c : Conditions) (found : Option DavMetaData) (verdict : Option ℕ) (status : ℕ) {s : StoreState} {ls : Locks}
    → verdict ≡ http_conditions m c.if_match c.if_none_match found → verdict ≡ Some status
    → Follows tokens_or_status (if_match_get_tokens m c found) s ls (Ok (Err status)) s ls
status_first m c found verdict status {s} {ls} says is =
    subst (λ (v : Option ℕ). Follows tokens_or_status (unless v (token_plan c)) s ls (Ok (Err status)) s ls) says
    (subst (λ (v : Option ℕ). Follows tokens_or_status (unless v (token_plan c)) s ls (Ok (Err status)) s ls) (sym is) (follows_done refl))

-- they answer none: If decides
pub no_status_first : (m : DavMethod) (c : Conditions) (found : Option DavMetaData) (verdict : Option ℕ) {s t : StoreState} {ls : Locks} {r : Result Tokens DavError}
    → verdict ≡ http_conditions m c.if_match c.if_none_match found → verdict ≡ None
    → Follows tokens_or_status (token_plan c) s ls r t ls
    → Follows tokens_or_status (if_match_get_tokens m c found) s ls r t ls
no_status_first m c found verdict {s} {t} {ls} {r} says is more =
    subst (λ (v : Option ℕ). Follows tokens_or_status (unless v (token_plan c)) s ls r t ls) says
    (subst (λ (v : Option ℕ). Follows tokens_or_status (unless v (token_plan c)) s ls r t ls) (sym is) more)

-- memory ran out in If
pub tokens_stopped : (c : Conditions) {s t : StoreState} {ls : Locks}
    → Follows (λ (b : Bool). b) (if_holds c.lists) s ls (Err dav.Memory) t ls
    → Follows {X = Tokens} tokens_or_status (token_plan c) s ls (Err dav.Memory) t ls
tokens_stopped c one = follows_err (λ holds. gives (if holds then Ok (submitted c.lists) else Err 412)) dav.Memory one

-- If doesn't hold
pub tokens_failed : (c : Conditions) (b : Bool) {s t : StoreState} {ls : Locks}
    → b ≡ false → Follows (λ (b : Bool). b) (if_holds c.lists) s ls (Ok b) t ls
    → Follows {X = Tokens} tokens_or_status (token_plan c) s ls (Ok (Err 412)) t ls
tokens_failed c false is one = follows_then (λ holds. gives (if holds then Ok (submitted c.lists) else Err 412)) one (follows_done refl)
tokens_failed c true is one = absurd (true≢false is)

-- If holds: these are the tokens
pub tokens_held : (c : Conditions) (b : Bool) (v : Vec (String Global)) {s t : StoreState} {ls : Locks}
    → b ≡ true → texts_of v ≡ submitted c.lists → Follows (λ (b : Bool). b) (if_holds c.lists) s ls (Ok b) t ls
    → Follows {X = Tokens} tokens_or_status (token_plan c) s ls (Ok (Ok v)) t ls
tokens_held c true v is says one = follows_then (λ holds. gives (if holds then Ok (submitted c.lists) else Err 412)) one (follows_done (ap (λ ts. Ok (Ok ts)) says))
tokens_held c false v is says one = absurd (true≢false (sym is))

-- If holds, and memory ran out while the tokens were copied
pub tokens_uncopied : (c : Conditions) (b : Bool) {s t : StoreState} {ls : Locks}
    → Follows (λ (b : Bool). b) (if_holds c.lists) s ls (Ok b) t ls
    → Follows {X = Tokens} tokens_or_status (token_plan c) s ls (Err dav.Memory) t ls
tokens_uncopied c b one = follows_then (λ holds. gives (if holds then Ok (submitted c.lists) else Err 412)) one follows_up_to

-- ---- If alone

abbrev pub dav_plan : Option (List Addressed) → MethodPlan (Bool × List (List ℕ))
dav_plan lists = if_holds lists >>= (λ holds. gives (holds, submitted lists))

abbrev pub dav_view : Bool × Vec (String Global) → Bool × List (List ℕ)
dav_view r = (r.0, texts_of r.1)

pub dav_stopped : (lists : Option (List Addressed)) {s t : StoreState} {ls : Locks}
    → Follows (λ (b : Bool). b) (if_holds lists) s ls (Err dav.Memory) t ls
    → Follows dav_view (dav_plan lists) s ls (Err dav.Memory) t ls
dav_stopped lists one = follows_err (λ holds. gives (holds, submitted lists)) dav.Memory one

pub dav_uncopied : (lists : Option (List Addressed)) (b : Bool) {s t : StoreState} {ls : Locks}
    → Follows (λ (b : Bool). b) (if_holds lists) s ls (Ok b) t ls
    → Follows dav_view (dav_plan lists) s ls (Err dav.Memory) t ls
dav_uncopied lists b one = follows_then (λ holds. gives (holds, submitted lists)) one follows_up_to

pub dav_answered : (lists : Option (List Addressed)) (b : Bool) (v : Vec (String Global)) {s t : StoreState} {ls : Locks}
    → texts_of v ≡ submitted lists → Follows (λ (b : Bool). b) (if_holds lists) s ls (Ok b) t ls
    → Follows dav_view (dav_plan lists) s ls (Ok (b, v)) t ls
dav_answered lists b v says one = follows_then (λ holds. gives (holds, submitted lists)) one (follows_done (ap (λ ts. Ok (b, ts)) says))
