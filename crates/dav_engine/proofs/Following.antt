-- How code follows a plan: one lemma for each way to go on.
use Rattle.std.proofs.Common.{◌≡◌, Bool, true, false, true≢false, Result, Ok, Err, refl, sym, subst, ap}
use Rattle.dav_core.specs.declared.errors.FsError.{FsError}
use Rattle.dav_core.specs.declared.errors.DavError.{DavError}
use Rattle.dav_core.specs.declared.errors.DavError.TheVariants as dav
use Rattle.dav_core.specs.Asking.{Call, Answer, StoreState, Asks}
use Rattle.dav_engine.specs.Plan.{Done, Ask, CallStep, Locks, Ran, ran_done, ran_ask, ran_look, ran_keep}
use Rattle.dav_engine.specs.Method.{MethodPlan, then, ◌>>=◌, require}
use Rattle.dav_engine.specs.Follows.{Follows, followed, gave_up, viewed}
use Rattle.dav_engine.proofs.CutPlans.{cut_first, cut_ask, cut_bind, cut_in}

pub ran_at : {step : CallStep} {A : Type 0} {a b : A} {s : StoreState} {ls : Locks} → b ≡ a → Ran step (Done a) s ls b s ls
ran_at {step} {A} {a} {b} {s} {ls} e = subst (λ (x : A). Ran step (Done a) s ls x s ls) (sym e) ran_done

-- the plan's first part ended, and then the rest
pub ran_bind : {step : CallStep} {A B : Type 0} {plan : MethodPlan A} (f : A → MethodPlan B) {old mid new : StoreState} {ls ks ms : Locks} {r : Result A DavError} {b : Result B DavError}
    → Ran step plan old ls r mid ks → Ran step (then r f) mid ks b new ms → Ran step (plan >>= f) old ls b new ms
ran_bind f ran_done more = more
ran_bind f (ran_ask one rest) more = ran_ask one (ran_bind f rest more)
ran_bind f (ran_look rest) more = ran_look (ran_bind f rest more)
ran_bind f (ran_keep rest) more = ran_keep (ran_bind f rest more)

-- the plan is done, with this result
pub follows_done : {A X : Type 0} {view : X → A} {a : Result A DavError} {s : StoreState} {ls : Locks} {r : Result X DavError} → viewed view r ≡ a → Follows view (Done a) s ls r s ls
follows_done e = followed (ran_at e)

-- the plan's next call was made, and the rest of the plan was followed
pub follows_ask : {A X : Type 0} {view : X → A} {c : Call} {go : Result (Answer c) FsError → MethodPlan A} {old mid new : StoreState} {ls ms : Locks} {answer : Result (Answer c) FsError} {r : Result X DavError}
    → Asks c old answer mid → Follows view (go answer) mid ls r new ms → Follows view (Ask c go) old ls r new ms
follows_ask one (followed rest) = followed (ran_ask one rest)
follows_ask {answer = answer} one (gave_up e rest) = gave_up e (cut_ask answer one rest)

-- memory ran out here
pub follows_up_to : {A X : Type 0} {view : X → A} {plan : MethodPlan A} {s : StoreState} {ls : Locks} → Follows view plan s ls (Err dav.Memory) s ls
follows_up_to = gave_up refl cut_first

-- the plan's first part ended well and left the list of locks, and the rest was followed
pub follows_then : {A B X Y : Type 0} {view : X → A} {view' : Y → B} {plan : MethodPlan A} (f : A → MethodPlan B) {old mid new : StoreState} {ls ms : Locks} {x : X} {r : Result Y DavError}
    → Follows view plan old ls (Ok x) mid ls → Follows view' (f (view x)) mid ls r new ms → Follows view' (plan >>= f) old ls r new ms
follows_then f (followed one) (followed rest) = followed (ran_bind f one rest)
follows_then f (followed one) (gave_up e rest) = gave_up e (cut_bind f one rest)
follows_then f (gave_up e one) rest = absurd (cc)

-- the plan's first part was refused, or memory ran out in it
pub follows_err : {A B X Y : Type 0} {view : X → A} {view' : Y → B} {plan : MethodPlan A} (f : A → MethodPlan B) {old new : StoreState} {ls : Locks} (e : DavError)
    → Follows view plan old ls (Err e) new ls → Follows view' (plan >>= f) old ls (Err e) new ls
follows_err f why (followed one) = followed (ran_bind f one ran_done)
follows_err f why (gave_up e one) = gave_up (let same : why ≡ dav.Memory = cc in ap Err same) (cut_in f one refl)

-- a test that holds goes on
pub follows_on : {A B : Type 0} {view : A → B} (b : Bool) (e : DavError) (f : Unit {0} → MethodPlan B) {old new : StoreState} {ls ms : Locks} {r : Result A DavError}
    → b ≡ true → Follows view (f tt) old ls r new ms → Follows view (require b e >>= f) old ls r new ms
follows_on true e f is more = more
follows_on false e f is more = absurd (true≢false (sym is))

-- a test that doesn't hold ends the plan
pub follows_out : {A B : Type 0} {view : A → B} (b : Bool) (e : DavError) (f : Unit {0} → MethodPlan B) {s : StoreState} {ls : Locks} {r : Result A DavError}
    → b ≡ false → viewed view r ≡ Err e → Follows view (require b e >>= f) s ls r s ls
follows_out false e f is same = follows_done same
follows_out true e f is same = absurd (true≢false is)
