-- Runs in which a call of some kind is refused, and runs in which none is.
use Rattle.std.proofs.Common.{◌≡◌, ◌⊎◌, inl, inr, Bool, true, false, true≢false, Result, Ok, Err, refl, sym, ap, subst, ◌∙◌}
use Rattle.std.specs.Result.{is_ok}
use Rattle.dav_core.specs.declared.errors.FsError.{FsError}
use Rattle.dav_core.specs.declared.errors.DavError.{DavError}
use Rattle.dav_core.specs.Asking.{Call, Answer, StoreState, Asks}
use Rattle.dav_engine.specs.Method.{MethodPlan, ◌>>=◌}
use Rattle.dav_engine.specs.Plan.{Plan, Ask, Look, Locks, Ran, ran_done, ran_ask, ran_look, ran_keep}
use Rattle.dav_engine.specs.PlanLaws.{CallsAreAnsweredOrRefused, RefusedIsNotAnswered}
use Rattle.dav_engine.specs.RefusedCalls.{CallKind, AsksAnswered, RanRefused, refused_now, refused_later, refused_after_look, refused_after_keep}
use Rattle.dav_engine.proofs.PlanLemmas.{asks_same, ran_unset}

-- a call of this kind, answered or refused
pub data Told (kind : Bool) {A : Type 0} (answer : Result A FsError) : Type 0 where
  told : (kind ≡ true → is_ok answer ≡ true) → Told kind answer
  untold : (e : FsError) → kind ≡ true → answer ≡ Err e → Told kind answer

tell : {A : Type 0} (kind : Bool) (answer : Result A FsError) → Told kind answer
tell kind (Ok a) = told (λ is. refl)
tell true (Err e) = untold e refl refl
tell false (Err e) = told (λ is. absurd (true≢false (sym is)))

module _ (kind : CallKind) where
  first_told : {A : Type 0} {c : Call} {go : Result (Answer c) FsError → Plan A} {old mid new : StoreState} {ls ms : Locks} {answer : Result (Answer c) FsError} {a : A}
      → Told (kind old.world c) answer → Asks c old answer mid → Ran Asks (go answer) mid ls a new ms → Ran (AsksAnswered kind) (go answer) mid ls a new ms ⊎ RanRefused kind (go answer) mid ls a new ms
      → Ran (AsksAnswered kind) (Ask c go) old ls a new ms ⊎ RanRefused kind (Ask c go) old ls a new ms
  first_told (told is) one ran (inl rest) = inl (ran_ask (one, is) rest)
  first_told (told is) one ran (inr rest) = inr (refused_later one rest)
  first_told {c = c} {go} {old} {mid} {new} {ls} {ms} {a = a} (untold e is failed) one ran rest =
      inr (refused_now is (subst (λ (r : Result (Answer c) FsError). Asks c old r mid) failed one) (subst (λ (r : Result (Answer c) FsError). Ran Asks (go r) mid ls a new ms) failed ran))

  looked : {A : Type 0} {go : Locks → Plan A} {old new : StoreState} {ls ms : Locks} {a : A}
      → Ran (AsksAnswered kind) (go ls) old ls a new ms ⊎ RanRefused kind (go ls) old ls a new ms → Ran (AsksAnswered kind) (Look go) old ls a new ms ⊎ RanRefused kind (Look go) old ls a new ms
  looked (inl rest) = inl (ran_look rest)
  looked (inr rest) = inr (refused_after_look rest)

  pub answered_or_refused : {A : Type 0} {plan : Plan A} {old new : StoreState} {ls ms : Locks} {a : A}
      → Ran Asks plan old ls a new ms → Ran (AsksAnswered kind) plan old ls a new ms ⊎ RanRefused kind plan old ls a new ms
  answered_or_refused ran_done = inl ran_done
  answered_or_refused (ran_ask {c = c} {old = old} {answer = answer} one rest) = first_told (tell (kind old.world c) answer) one rest (answered_or_refused rest)
  answered_or_refused (ran_look rest) = looked (answered_or_refused rest)
  answered_or_refused (ran_keep rest) = elim (answered_or_refused rest) [ inl more ↦ inl (ran_keep more) | inr more ↦ inr (refused_after_keep more) ]

  pub refused_is_run : {A : Type 0} {plan : Plan A} {old new : StoreState} {ls ms : Locks} {a : A} → RanRefused kind plan old ls a new ms → Ran Asks plan old ls a new ms
  refused_is_run (refused_now is one rest) = ran_ask one rest
  refused_is_run (refused_later one rest) = ran_ask one (refused_is_run rest)
  refused_is_run (refused_after_look rest) = ran_look (refused_is_run rest)
  refused_is_run (refused_after_keep rest) = ran_keep (refused_is_run rest)

  pub answered_is_run : {A : Type 0} {plan : Plan A} {old new : StoreState} {ls ms : Locks} {a : A} → Ran (AsksAnswered kind) plan old ls a new ms → Ran Asks plan old ls a new ms
  answered_is_run ran_done = ran_done
  answered_is_run (ran_ask one rest) = ran_ask one.0 (answered_is_run rest)
  answered_is_run (ran_look rest) = ran_look (answered_is_run rest)
  answered_is_run (ran_keep rest) = ran_keep (answered_is_run rest)

  -- where memory never ran out there is one run, so no call of the kind is both
  pub not_both : {A : Type 0} {plan : Plan A} {old new end : StoreState} {ls ks ms : Locks} {a b : A}
      → RanRefused kind plan old ls a new ks → new.short ≡ false → Ran (AsksAnswered kind) plan old ls b end ms → end.short ≡ false → ⊥
  not_both (refused_now {e = e} is one rest) unset (ran_ask {answer = answer} other more) clear =
      let (same, left) = asks_same one (ran_unset rest unset) other.0 (ran_unset (answered_is_run more) clear) in
      absurd (true≢false (sym (other.1 is) ∙ ap is_ok (sym same)))
  not_both (refused_later {go = go} {mid = mid} {ls = ls} {answer = one} first rest) unset (ran_ask {mid = left} {new = end} {ms = ms} {answer = two} {a = b} other more) clear =
      let (same, stay) = asks_same first (ran_unset (refused_is_run rest) unset) other.0 (ran_unset (answered_is_run more) clear) in
      not_both rest unset (subst (λ z. Ran (AsksAnswered kind) (go z) mid ls b end ms) (sym same) (subst (λ (s : StoreState). Ran (AsksAnswered kind) (go two) s ls b end ms) (sym stay) more)) clear
  not_both (refused_after_look rest) unset (ran_look more) clear = not_both rest unset more clear
  not_both (refused_after_keep rest) unset (ran_keep more) clear = not_both rest unset more clear

  -- a call that the second part of a plan meets refused
  pub refused_behind : {A B : Type 0} {plan : MethodPlan A} (f : A → MethodPlan B) {old mid new : StoreState} {ls ks ms : Locks} {x : A} {b : Result B DavError}
      → Ran Asks plan old ls (Ok x) mid ks → RanRefused kind (f x) mid ks b new ms → RanRefused kind (plan >>= f) old ls b new ms
  refused_behind f ran_done rest = rest
  refused_behind f (ran_ask one more) rest = refused_later one (refused_behind f more rest)
  refused_behind f (ran_look more) rest = refused_after_look (refused_behind f more rest)
  refused_behind f (ran_keep more) rest = refused_after_keep (refused_behind f more rest)

pub calls_are_answered_or_refused : CallsAreAnsweredOrRefused
calls_are_answered_or_refused kind plan old new ls ms a ran = answered_or_refused kind ran

pub refused_is_not_answered : RefusedIsNotAnswered
refused_is_not_answered kind plan old new ls ms a refused = (refused_is_run kind refused, λ unset other. not_both kind refused unset other unset)
