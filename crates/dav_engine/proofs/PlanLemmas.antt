-- The laws of plans, each by recursion on what was done.
use Rattle.std.proofs.Common.{◌≡◌, ◌⊎◌, inl, inr, false, true≢false, List, [], ◌∷◌, ◌++◌, Option, Some, None, Result, Err, refl, sym, subst, ap, ◌∙◌}
use Rattle.dav_core.specs.declared.errors.FsError.{FsError}
use Rattle.dav_core.specs.declared.errors.FsError.TheVariants.{GeneralFailure, InsufficientStorage}
use Rattle.dav_core.specs.Asking.{Call, Answer, StoreState, Asks, asked, ran_short, ask, rest_of}
use Rattle.dav_core.specs.World.{World}
use Rattle.dav_core.proofs.Theorems.{answered_as}
use Rattle.dav_engine.specs.Plan.{Plan, Done, Ask, Look, Keep, Locks, kept, Ran, ran_done, ran_ask, ran_look, ran_keep, RanUpTo, up_to_here, up_to_ask, up_to_look, up_to_keep, Cut, Refused, refused_done, refused_ask, refused_look, refused_keep}
use Rattle.dav_engine.specs.PlanLaws.{ample}

-- the flag for out of memory is never cleared
asks_unset : {c : Call} {old new : StoreState} {answer : Result (Answer c) FsError} → Asks c old answer new → new.short ≡ false → old.short ≡ false
asks_unset (asked h) u = sym h.short ∙ u
asks_unset (ran_short h) u = absurd (true≢false (sym h.short ∙ u))

pub ran_unset : {A : Type 0} {plan : Plan A} {old new : StoreState} {ls ms : Locks} {a : A} → Ran Asks plan old ls a new ms → new.short ≡ false → old.short ≡ false
ran_unset ran_done u = u
ran_unset (ran_ask one rest) u = asks_unset one (ran_unset rest u)
ran_unset (ran_look rest) u = ran_unset rest u
ran_unset (ran_keep rest) u = ran_unset rest u

-- where the store never ran out of memory, an answer and the state that it leaves are determined
pub asks_same : {c : Call} {old s t : StoreState} {a b : Result (Answer c) FsError} → Asks c old a s → s.short ≡ false → Asks c old b t → t.short ≡ false → (a ≡ b) × (s ≡ t)
asks_same (asked h) u (asked h') u' =
    let both = h.as_asked ∙ sym h'.as_asked in
    (ap (λ p. p.0) both, λ i. record { world = (both i).1; refusals = (h.refusals ∙ sym h'.refusals) i; short = (h.short ∙ sym h'.short) i })
asks_same (ran_short h) u other u' = absurd (true≢false (sym h.short ∙ u))
asks_same (asked h) u (ran_short h') u' = absurd (true≢false (sym h'.short ∙ u'))

pub ran_same : {A : Type 0} {plan : Plan A} {old s t : StoreState} {ls ks ms : Locks} {a b : A}
    → Ran Asks plan old ls a s ks → s.short ≡ false → Ran Asks plan old ls b t ms → t.short ≡ false → (a ≡ b) × (s ≡ t) × (ks ≡ ms)
ran_same ran_done u ran_done u' = (refl, refl, refl)
ran_same (ran_ask {go = go} {mid = mid} {ls = ls} {answer = x} one rest) u (ran_ask {mid = mid'} {new = t} {ms = ms} {answer = y} {a = b} one' rest') u' =
    let (same, left) = asks_same one (ran_unset rest u) one' (ran_unset rest' u') in
    ran_same rest u (subst (λ z. Ran Asks (go z) mid ls b t ms) (sym same) (subst (λ s. Ran Asks (go y) s ls b t ms) (sym left) rest')) u'
ran_same (ran_look rest) u (ran_look rest') u' = ran_same rest u rest' u'
ran_same (ran_keep rest) u (ran_keep rest') u' = ran_same rest u rest' u'

-- what a plan results in where the store doesn't run out of memory
pub record Comes {A : Type 0} (plan : Plan A) (old : StoreState) (ls : Locks) : Type 0 where
  pub outcome : A
  pub new : StoreState
  pub locks : Locks
  pub ran : Ran Asks plan old ls outcome new locks
  pub flag : new.short ≡ old.short

pub comes : {A : Type 0} (plan : Plan A) (old : StoreState) (ls : Locks) → Comes plan old ls
comes (Done a) old ls = record { outcome = a; new = old; locks = ls; ran = ran_done; flag = refl }
comes (Ask c go) old ls =
    let both = ask c old.world old.refusals in
    let mid : StoreState = record { world = both.1; refusals = rest_of old.refusals; short = old.short } in
    let rest = comes (go both.0) mid ls in
    record { outcome = rest.outcome; new = rest.new; locks = rest.locks; ran = ran_ask (answered_as refl refl refl) rest.ran; flag = rest.flag }
comes (Look go) old ls = let rest = comes (go ls) old ls in
    record { outcome = rest.outcome; new = rest.new; locks = rest.locks; ran = ran_look rest.ran; flag = rest.flag }
comes (Keep locks more) old ls = let rest = comes more old (kept ls locks) in
    record { outcome = rest.outcome; new = rest.new; locks = rest.locks; ran = ran_keep rest.ran; flag = rest.flag }

-- the entry of a list of refusals under which a call has the same answer
pub record Met (c : Call) (old : World) (answer : Result (Answer c) FsError) (new : World) : Type 0 where
  pub entry : Option FsError
  pub again : (more : List (Option FsError)) → Asks c (ample old (entry ∷ more)) answer (ample new more)

met_at : {c : Call} {answer : Result (Answer c) FsError} (w v : World) (refusals : List (Option FsError)) → (answer, v) ≡ ask c w refusals → Met c w answer v
met_at w v [] is = record { entry = None; again = λ more. answered_as is refl refl }
met_at w v (None ∷ rs) is = record { entry = None; again = λ more. answered_as is refl refl }
met_at w v (Some e ∷ rs) is = record { entry = Some e; again = λ more. answered_as is refl refl }

pub asks_met : {c : Call} {old new : StoreState} {answer : Result (Answer c) FsError} → Asks c old answer new → Met c old.world answer new.world
asks_met {old = old} {new = new} (asked h) = met_at old.world new.world old.refusals h.as_asked
asks_met (ran_short h) = record {
  entry = Some InsufficientStorage;
  again = λ more. answered_as (λ i. (h.answer_is i, h.world i)) refl refl;
}

pub record Again {A : Type 0} (plan : Plan A) (old new : World) (ls ms : Locks) (a : A) : Type 0 where
  pub refusals : List (Option FsError)
  pub ran : Ran Asks plan (ample old refusals) ls a (ample new []) ms

pub ran_again : {A : Type 0} {plan : Plan A} {old new : StoreState} {ls ms : Locks} {a : A} → Ran Asks plan old ls a new ms → Again plan old.world new.world ls ms a
ran_again ran_done = record { refusals = []; ran = ran_done }
ran_again (ran_ask one rest) =
    let met = asks_met one in
    let more = ran_again rest in
    record { refusals = met.entry ∷ more.refusals; ran = ran_ask (met.again more.refusals) more.ran }
ran_again (ran_look rest) = let more = ran_again rest in record { refusals = more.refusals; ran = ran_look more.ran }
ran_again (ran_keep rest) = let more = ran_again rest in record { refusals = more.refusals; ran = ran_keep more.ran }

-- a plan of which each call is refused
pub record Stopped {A : Type 0} (plan : Plan A) (ls : Locks) : Type 0 where
  pub refusals : List (Option FsError)
  pub outcome : A
  pub locks : Locks
  pub ran : (w : World) → Ran Asks plan (ample w refusals) ls outcome (ample w []) locks

stopped : {A : Type 0} (plan : Plan A) (ls : Locks) → Stopped plan ls
stopped (Done a) ls = record { refusals = []; outcome = a; locks = ls; ran = λ w. ran_done }
stopped (Ask c go) ls = let rest = stopped (go (Err GeneralFailure)) ls in
    record { refusals = Some GeneralFailure ∷ rest.refusals; outcome = rest.outcome; locks = rest.locks; ran = λ w. ran_ask (answered_as refl refl refl) (rest.ran w) }
stopped (Look go) ls = let rest = stopped (go ls) ls in
    record { refusals = rest.refusals; outcome = rest.outcome; locks = rest.locks; ran = λ w. ran_look (rest.ran w) }
stopped (Keep locks more) ls = let rest = stopped more (kept ls locks) in
    record { refusals = rest.refusals; outcome = rest.outcome; locks = rest.locks; ran = λ w. ran_keep (rest.ran w) }

-- the same, where the outcome and the list that it leaves are known
pub record StoppedAt {A : Type 0} (plan : Plan A) (ls : Locks) (outcome : A) (ms : Locks) : Type 0 where
  pub refusals : List (Option FsError)
  pub ran : (w : World) → Ran Asks plan (ample w refusals) ls outcome (ample w []) ms

stopped_at : {A : Type 0} {plan : Plan A} {ls ms : Locks} {a : A} → Refused plan ls a ms → StoppedAt plan ls a ms
stopped_at refused_done = record { refusals = []; ran = λ w. ran_done }
stopped_at (refused_ask e left) = let rest = stopped_at left in
    record { refusals = Some e ∷ rest.refusals; ran = λ w. ran_ask (answered_as refl refl refl) (rest.ran w) }
stopped_at (refused_look left) = let rest = stopped_at left in
    record { refusals = rest.refusals; ran = λ w. ran_look (rest.ran w) }
stopped_at (refused_keep left) = let rest = stopped_at left in
    record { refusals = rest.refusals; ran = λ w. ran_keep (rest.ran w) }

pub record CutAgain {A : Type 0} (plan : Plan A) (old new : World) (first ls ms : Locks) : Type 0 where
  pub refusals : List (Option FsError)
  pub outcome : A
  pub locks : Locks
  pub ran : Ran Asks plan (ample old refusals) ls outcome (ample new []) locks
  pub list : (ms ≡ first) ⊎ (ms ≡ locks)

-- the refusals under which the first part of a plan is run again, before those under which the rest is
pub record UpToAgain {A : Type 0} (plan rest : Plan A) (old new : World) (ls ks : Locks) : Type 0 where
  pub before : List (Option FsError)
  pub again : {a : A} {end : World} {ms : Locks} (after : List (Option FsError)) → Ran Asks rest (ample new after) ks a (ample end []) ms → Ran Asks plan (ample old (before ++ after)) ls a (ample end []) ms

up_to_again : {A : Type 0} {plan rest : Plan A} {old new : StoreState} {ls ks : Locks} → RanUpTo Asks plan old ls rest new ks → UpToAgain plan rest old.world new.world ls ks
up_to_again up_to_here = record { before = []; again = λ after ran. ran }
up_to_again (up_to_ask one more) =
    let met = asks_met one in
    let part = up_to_again more in
    record { before = met.entry ∷ part.before; again = λ after ran. ran_ask (met.again (part.before ++ after)) (part.again after ran) }
up_to_again (up_to_look more) = let part = up_to_again more in record { before = part.before; again = λ after ran. ran_look (part.again after ran) }
up_to_again (up_to_keep more) = let part = up_to_again more in record { before = part.before; again = λ after ran. ran_keep (part.again after ran) }

cut_from : {A : Type 0} {plan rest : Plan A} {old new : World} {first ls ks ms : Locks} → UpToAgain plan rest old new ls ks
    → (ms ≡ first) ⊎ ((outcome : A) × Refused rest ks outcome ms) → CutAgain plan old new first ls ms
cut_from {rest = rest} {new = new} {ks = ks} part (inl same) =
    let stop = stopped rest ks in
    record { refusals = part.before ++ stop.refusals; outcome = stop.outcome; locks = stop.locks; ran = part.again stop.refusals (stop.ran new); list = inl same }
cut_from {new = new} {ms = ms} part (inr (a, left)) =
    let stop = stopped_at left in
    record { refusals = part.before ++ stop.refusals; outcome = a; locks = ms; ran = part.again stop.refusals (stop.ran new); list = inr refl }

pub cut_again : {A : Type 0} {first : Locks} {plan : Plan A} {old new : StoreState} {ls ms : Locks} → Cut Asks first plan old ls new ms → CutAgain plan old.world new.world first ls ms
cut_again part = cut_from (up_to_again part.ran) part.list
