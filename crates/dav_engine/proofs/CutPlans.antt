-- Plans in which memory runs out, step by step.
use Rattle.std.proofs.Common.{◌≡◌, inl, inr, List, Result, refl}
use Rattle.dav_core.specs.declared.errors.FsError.{FsError}
use Rattle.dav_core.specs.declared.errors.DavError.{DavError}
use Rattle.dav_core.specs.Asking.{Call, Answer, StoreState}
use Rattle.dav_core.specs.Locks.{Lock}
use Rattle.dav_engine.specs.Plan.{Plan, Ask, Look, Keep, CallStep, Locks, kept, Ran, ran_done, ran_ask, ran_look, ran_keep, RanUpTo, up_to_here, up_to_ask, up_to_look, up_to_keep, Refused, Cut}
use Rattle.dav_engine.specs.Method.{MethodPlan, then, ◌>>=◌}

-- memory ran out here, and the list of locks is the first one again
pub cut_first : {step : CallStep} {A : Type 0} {first : Locks} {plan : Plan A} {s : StoreState} {ls : Locks} → Cut step first plan s ls s first
cut_first {plan = plan} {ls = ls} = record { rest = plan; locks = ls; ran = up_to_here; list = inl refl }

-- or it is that which the plan leaves where each of its calls is refused
pub cut_refused : {step : CallStep} {A : Type 0} {first : Locks} {plan : Plan A} {s : StoreState} {ls ms : Locks} {a : A} → Refused plan ls a ms → Cut step first plan s ls s ms
cut_refused {plan = plan} {ls = ls} {a = a} left = record { rest = plan; locks = ls; ran = up_to_here; list = inr (a, left) }

-- memory ran out after one more step
pub cut_ask : {step : CallStep} {A : Type 0} {first : Locks} {c : Call} {go : Result (Answer c) FsError → Plan A} {old mid new : StoreState} {ls ms : Locks} (answer : Result (Answer c) FsError)
    → step c old answer mid → Cut step first (go answer) mid ls new ms → Cut step first (Ask c go) old ls new ms
cut_ask answer one more = record { rest = more.rest; locks = more.locks; ran = up_to_ask one more.ran; list = more.list }

pub cut_look : {step : CallStep} {A : Type 0} {first : Locks} {go : Locks → Plan A} {old new : StoreState} {ls ms : Locks} → Cut step first (go ls) old ls new ms → Cut step first (Look go) old ls new ms
cut_look more = record { rest = more.rest; locks = more.locks; ran = up_to_look more.ran; list = more.list }

pub cut_keep : {step : CallStep} {A : Type 0} {first : Locks} {locks : List Lock} {plan : Plan A} {old new : StoreState} {ls ms : Locks} → Cut step first plan old (kept ls locks) new ms → Cut step first (Keep locks plan) old ls new ms
cut_keep more = record { rest = more.rest; locks = more.locks; ran = up_to_keep more.ran; list = more.list }

-- what was run of a part was run of the plan that the part begins
pub up_to_in : {step : CallStep} {A B : Type 0} {plan rest : MethodPlan A} (f : A → MethodPlan B) {old new : StoreState} {ls ms : Locks}
    → RanUpTo step plan old ls rest new ms → RanUpTo step (plan >>= f) old ls (rest >>= f) new ms
up_to_in f up_to_here = up_to_here
up_to_in f (up_to_ask one more) = up_to_ask one (up_to_in f more)
up_to_in f (up_to_look more) = up_to_look (up_to_in f more)
up_to_in f (up_to_keep more) = up_to_keep (up_to_in f more)

-- a part ended, and what follows it was run in part
pub up_to_bind : {step : CallStep} {A B : Type 0} {plan : MethodPlan A} {rest : MethodPlan B} (f : A → MethodPlan B) {old mid new : StoreState} {ls ks ms : Locks} {r : Result A DavError}
    → Ran step plan old ls r mid ks → RanUpTo step (then r f) mid ks rest new ms → RanUpTo step (plan >>= f) old ls rest new ms
up_to_bind f ran_done more = more
up_to_bind f (ran_ask one rest) more = up_to_ask one (up_to_bind f rest more)
up_to_bind f (ran_look rest) more = up_to_look (up_to_bind f rest more)
up_to_bind f (ran_keep rest) more = up_to_keep (up_to_bind f rest more)

-- a part ended, and memory ran out in what follows it
pub cut_bind : {step : CallStep} {A B : Type 0} {first : Locks} {plan : MethodPlan A} (f : A → MethodPlan B) {old mid new : StoreState} {ls ks ms : Locks} {r : Result A DavError}
    → Ran step plan old ls r mid ks → Cut step first (then r f) mid ks new ms → Cut step first (plan >>= f) old ls new ms
cut_bind f one more = record { rest = more.rest; locks = more.locks; ran = up_to_bind f one more.ran; list = more.list }

-- memory ran out in the first part of a plan, which left the list of locks as it was
pub cut_in : {step : CallStep} {A B : Type 0} {first : Locks} {plan : MethodPlan A} (f : A → MethodPlan B) {old new : StoreState} {ls ms : Locks}
    → Cut step first plan old ls new ms → ms ≡ first → Cut step first (plan >>= f) old ls new ms
cut_in f part same = record { rest = part.rest >>= f; locks = part.locks; ran = up_to_in f part.ran; list = inl same }
