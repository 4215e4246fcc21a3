-- How code follows a plan in which the list of locks is changed before the end.
use Rattle.std.proofs.Common.{◌≡◌, inr, List, Result, Ok, Err, refl, ap, subst, sym}
use Rattle.dav_core.specs.declared.errors.FsError.{FsError}
use Rattle.dav_core.specs.declared.errors.DavError.{DavError}
use Rattle.dav_core.specs.declared.errors.DavError.TheVariants as dav
use Rattle.dav_core.specs.declared.errors.FsError.TheVariants.{GeneralFailure}
use Rattle.dav_core.specs.Asking.{Call, Answer, StoreState, Asks}
use Rattle.dav_core.specs.Locks.{Lock}
use Rattle.dav_engine.specs.Plan.{Plan, Ask, Look, Keep, CallStep, Locks, kept, ran_done, ran_ask, ran_look, ran_keep, RanUpTo, up_to_here, up_to_ask, up_to_look, up_to_keep, Cut, Refused, refused_done, refused_ask, refused_look, refused_keep}
use Rattle.dav_engine.specs.Method.{MethodPlan, then, ◌>>=◌}
use Rattle.dav_engine.specs.Follows.{Follows, FollowsFrom, followed, gave_up}
use Rattle.dav_engine.proofs.CutPlans.{cut_refused, cut_ask, cut_look, cut_keep, cut_bind, up_to_in}
use Rattle.dav_engine.proofs.Following.{ran_bind}
use Rattle.dav_engine.proofs.WorldPlans.{Only, only_done, only_ask, only_look}

-- each call of a part was refused, and then each of the rest
pub refused_bind : {A B : Type 0} {plan : MethodPlan A} (f : A → MethodPlan B) {ls ks ms : Locks} {r : Result A DavError} {b : Result B DavError}
    → Refused plan ls r ks → Refused (then r f) ks b ms → Refused (plan >>= f) ls b ms
refused_bind f refused_done more = more
refused_bind f (refused_ask e rest) more = refused_ask e (refused_bind f rest more)
refused_bind f (refused_look rest) more = refused_look (refused_bind f rest more)
refused_bind f (refused_keep rest) more = refused_keep (refused_bind f rest more)

-- the list was set, and the rest followed
pub follows_keep : {A X : Type 0} {first : Locks} {view : X → A} {locks : List Lock} {rest : MethodPlan A} {old new : StoreState} {ls ms : Locks} {r : Result X DavError}
    → FollowsFrom first view rest old (kept ls locks) r new ms → FollowsFrom first view (Keep locks rest) old ls r new ms
follows_keep (followed one) = followed (ran_keep one)
follows_keep (gave_up e one) = gave_up e (cut_keep one)

pub follows_look_from : {A X : Type 0} {first : Locks} {view : X → A} {go : Locks → MethodPlan A} {old new : StoreState} {ls ms : Locks} {r : Result X DavError}
    → FollowsFrom first view (go ls) old ls r new ms → FollowsFrom first view (Look go) old ls r new ms
follows_look_from (followed one) = followed (ran_look one)
follows_look_from (gave_up e one) = gave_up e (cut_look one)

pub follows_ask_from : {A X : Type 0} {first : Locks} {view : X → A} {c : Call} {go : Result (Answer c) FsError → MethodPlan A} {old mid new : StoreState} {ls ms : Locks} {answer : Result (Answer c) FsError} {r : Result X DavError}
    → Asks c old answer mid → FollowsFrom first view (go answer) mid ls r new ms → FollowsFrom first view (Ask c go) old ls r new ms
follows_ask_from one (followed rest) = followed (ran_ask one rest)
follows_ask_from {answer = answer} one (gave_up e rest) = gave_up e (cut_ask answer one rest)

-- memory ran out here, where the list is that which the plan leaves if each later call is refused
pub follows_refused : {A X : Type 0} {first : Locks} {view : X → A} {plan : MethodPlan A} {s : StoreState} {ls ms : Locks} {b : Result A DavError}
    → Refused plan ls b ms → FollowsFrom first view plan s ls (Err dav.Memory) s ms
follows_refused left = gave_up refl (cut_refused left)

-- the first part ended well and left some list, and the rest was followed
pub follows_then_from : {A B X Y : Type 0} {first : Locks} {view : X → A} {view' : Y → B} {plan : MethodPlan A} (f : A → MethodPlan B) {old mid new : StoreState} {ls ks ms : Locks} {x : X} {r : Result Y DavError}
    → FollowsFrom first view plan old ls (Ok x) mid ks → FollowsFrom first view' (f (view x)) mid ks r new ms → FollowsFrom first view' (plan >>= f) old ls r new ms
follows_then_from f (followed one) (followed rest) = followed (ran_bind f one rest)
follows_then_from f (followed one) (gave_up e rest) = gave_up e (cut_bind f one rest)
follows_then_from f (gave_up e one) rest = absurd (cc)

-- ---- parts that leave the list of locks

-- where each of its calls is refused it leaves the list
pub record Quits {A : Type 0} (plan : Plan A) (ls : Locks) : Type 0 where
  pub outcome : A
  pub refused : Refused plan ls outcome ls

pub only_quits : {P : Call → Type 0} {A : Type 0} {plan : Plan A} (ls : Locks) → Only P plan → Quits plan ls
only_quits ls (only_done {a = a}) = record { outcome = a; refused = refused_done }
only_quits ls (only_ask is more) = let rest = only_quits ls (more (Err GeneralFailure)) in record { outcome = rest.outcome; refused = refused_ask GeneralFailure rest.refused }
only_quits ls (only_look more) = let rest = only_quits ls (more ls) in record { outcome = rest.outcome; refused = refused_look rest.refused }

-- what follows a part leaves the list where each of its calls is refused, whatever the part results in
abbrev pub LeavesList : {A B : Type 0} → (A → MethodPlan B) → Locks → Type 0
LeavesList {A} f ls = (r : Result A DavError) → Quits (then r f) ls

-- what is left of a part that makes only calls of one kind makes only calls of that kind, and the list is as it was
pub record StillOnly (P : Call → Type 0) {A : Type 0} (rest : Plan A) (ls ks : Locks) : Type 0 where
  pub only : Only P rest
  pub kept : ks ≡ ls

still_only : {step : CallStep} {P : Call → Type 0} {A : Type 0} {plan rest : Plan A} {old new : StoreState} {ls ks : Locks} → Only P plan → RanUpTo step plan old ls rest new ks → StillOnly P rest ls ks
still_only is up_to_here = record { only = is; kept = refl }
still_only is (up_to_keep more) = elim is [ ]
still_only (only_ask is more) (up_to_ask {answer = answer} one rest) = still_only (more answer) rest
still_only (only_look more) (up_to_look {ls = ls} rest) = still_only (more ls) rest

-- memory ran out in a part that leaves the list
pub cut_only : {P : Call → Type 0} {A B : Type 0} {first start : Locks} {plan : MethodPlan A} (f : A → MethodPlan B) {old new : StoreState} {ls ms : Locks}
    → Only P plan → LeavesList f ls → Cut Asks start plan old ls new ms → Cut Asks first (plan >>= f) old ls new ls
cut_only f {ls = ls} is leaves part =
    let left = still_only is part.ran in
    let stop = only_quits part.locks left.only in
    let all : Refused (part.rest >>= f) part.locks (leaves stop.outcome).outcome ls =
    refused_bind f stop.refused (subst (λ ks. Refused (then stop.outcome f) ks (leaves stop.outcome).outcome ls) (sym left.kept) (leaves stop.outcome).refused) in
    record { rest = part.rest >>= f; locks = part.locks; ran = up_to_in f part.ran; list = inr ((leaves stop.outcome).outcome, all) }

-- the first part was refused, or memory ran out in it
pub follows_err_only : {P : Call → Type 0} {A B X Y : Type 0} {first : Locks} {view : X → A} {view' : Y → B} {plan : MethodPlan A} (f : A → MethodPlan B) {old new : StoreState} {ls : Locks} (e : DavError)
    → Only P plan → LeavesList f ls → Follows view plan old ls (Err e) new ls → FollowsFrom first view' (plan >>= f) old ls (Err e) new ls
follows_err_only f why is leaves (followed one) = followed (ran_bind f one ran_done)
follows_err_only f why is leaves (gave_up e one) = gave_up (let same : why ≡ dav.Memory = cc in ap Err same) (cut_only f is leaves one)
