-- How a store answers calls.
use Rattle.std.proofs.Common.{◌≡◌, Bool, true, false, List, [], ◌∷◌, Option, Some, None, Result, Ok, Err, refl, sym, ap, subst, ◌∙◌}
use Rattle.dav_core.specs.declared.errors.FsError.{FsError}
use Rattle.dav_core.specs.World.{World}
use Rattle.dav_core.specs.Meaning.{Meaning}
use Rattle.dav_core.specs.Asking.{Call, Answer, IsAnswered, meaning, StoreState, Asks, asked, ran_short, ask, answered, rest_of, next_refusal}
use Rattle.dav_core.specs.CallLaws.{AskingIsDetermined, ErrorsLeaveWorlds, RulesComeFirst, RefusalsAreUsedUp, RefusalIsAnswered, CanBeAsked}

-- a call that is answered as `ask` says
pub answered_as : {call : Call} {old new : StoreState} {answer : Result (Answer call) FsError}
    → (answer, new.world) ≡ ask call old.world old.refusals → new.refusals ≡ rest_of old.refusals → new.short ≡ old.short → Asks call old answer new
answered_as is used flag = asked (record { as_asked = is; refusals = used; short = flag })

pub asking_is_determined : AskingIsDetermined
asking_is_determined call old answer new (asked h) unset = (sym h.short ∙ unset, h.as_asked)
asking_is_determined call old answer new (ran_short h) unset = let set = h.short in cc

is_error : {A : Type 0} → Result A FsError → Bool
is_error (Ok a) = false
is_error (Err e) = true

error_leaves : {A : Type 0} (w : World) (m : Meaning A) (e : FsError) (new : World) → ◌≡◌ {A = Result A FsError × World} (Err e, new) (answered w m) → new ≡ w
unfolding is_error
error_leaves w (Ok (a, after)) e new h = let clash : true ≡ false = ap (λ x. is_error x.0) h in cc
error_leaves w (Err f) e new h = ap (λ x. x.1) h

error_asked : (call : Call) (w new : World) (refusals : List (Option FsError)) (e : FsError) → (Err e, new) ≡ ask call w refusals → new ≡ w
error_asked call w new [] e h = error_leaves w (meaning call w) e new h
error_asked call w new (None ∷ rs) e h = error_leaves w (meaning call w) e new h
error_asked call w new (Some f ∷ rs) e h = ap (λ x. x.1) h

pub errors_leave_worlds : ErrorsLeaveWorlds
errors_leave_worlds call old e new (asked h) = error_asked call old.world new.world old.refusals e h.as_asked
errors_leave_worlds call old e new (ran_short h) = h.world

pub refusals_are_used_up : RefusalsAreUsedUp
refusals_are_used_up call old answer new (asked h) = h.refusals
refusals_are_used_up call old answer new (ran_short h) = h.refusals

rules_answer : (call : Call) (w new : World) (refusals : List (Option FsError)) (answer : Result (Answer call) FsError) (e : FsError)
    → next_refusal refusals ≡ None → meaning call w ≡ Err e → (answer, new) ≡ ask call w refusals → answer ≡ Err e
rules_answer call w new [] answer e head rule is = ap (λ x. x.0) (is ∙ ap (answered w) rule)
rules_answer call w new (None ∷ rs) answer e head rule is = ap (λ x. x.0) (is ∙ ap (answered w) rule)
rules_answer call w new (Some f ∷ rs) answer e head rule is = cc

pub rules_come_first : RulesComeFirst
rules_come_first call old answer new e (asked h) head rule = rules_answer call old.world new.world old.refusals answer e head rule h.as_asked
rules_come_first call old answer new e (ran_short h) free rule = absurd (subst IsAnswered rule h.allowed)

pub refusal_is_answered : RefusalIsAnswered
refusal_is_answered call w e refusals = refl

pub can_be_asked : CanBeAsked
can_be_asked call old =
    let both = ask call old.world old.refusals in
    (both.0, record { world = both.1; refusals = rest_of old.refusals; short = old.short }, answered_as refl refl refl, refl)
