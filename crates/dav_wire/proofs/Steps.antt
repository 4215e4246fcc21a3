-- What each thing that is found in the input does to a connection.
use Rattle.std.proofs.Common.{◌≡◌, ℕ, ◌<◌, ◌⊎◌, Bool, true, false, List, [], ◌++◌, None, refl, sym, ap, ◌∙◌, subst, subst₂, append-nil, inl, inr, IsFalse}
use Rattle.dav_wire.specs.declared.answer.Asked.{Asked}
use Rattle.dav_wire.specs.declared.state.Config.{Config}
use Rattle.dav_wire.specs.declared.intake.Found.TheVariants as found
use Rattle.dav_wire.specs.declared.intake.Intake.{Intake}
use Rattle.dav_wire.specs.declared.line.Line.{Line}
use Rattle.dav_wire.specs.declared.state.Reason.TheVariants.{EndOfInput, Refused}
use Rattle.dav_wire.specs.declared.state.Refusal.{Refusal}
use Rattle.dav_wire.specs.declared.state.State.TheVariants.{Closing}
use Rattle.dav_wire.specs.Exchange.{Judgement, passed}
use Rattle.dav_wire.specs.History.{MayGoOn, HasWork}
use Rattle.dav_wire.specs.Place.{place, work, history_of, Base, IsRunning, Standing, Finds, IsAtHead, IsGiven, KeepsIntake, Reaches, judged_at, aborted, closed_with}
use Rattle.dav_wire.specs.Refusals.{IsRefusedFor, closing_text, is_bare, refusal_status}
use Rattle.dav_wire.proofs.Runs.{rebased, holds_open, reaches_over, aborts, refuses, says_why, ends, rests, may_go_on, none_judged}

module _ (l : Line) (i : Intake) (keeps : KeepsIntake l.intake i) (r : IsRunning (place l.intake) (history_of l)) where
  abbrev pub after : Line
  after = record l { intake = i }

  abbrev pub base : Base i.config (history_of after)
  base = rebased r.base keeps.config i.ended i.input.items l.calls.items (history_of l).judgements i.stated i.body.items

  -- what was judged, if this was
  judged_then : (js : List Judgement) → judged_at (place l.intake) ≡ js
      → (history_of after).judgements ≡ passed l.calls.items ++ js
  judged_then js is = r.judged ∙ ap (λ (t : List Judgement). passed l.calls.items ++ t) is

  may : MayGoOn i.config.limits (history_of after) base.rest
  may = subst (λ (c : Config). MayGoOn c.limits (history_of after) base.rest) (sym keeps.config) (may_go_on (place l.intake) (history_of l) r)

  goes_on : (old : ℕ) → Standing (place i) base.rest base.interim → judged_at (place i) ≡ judged_at (place l.intake)
      → work (place i) < old → Reaches old true after
  goes_on old standing same less = record {
    holds = holds_open (place i) (history_of after) (record { base = base; calls = r.calls; judged = judged_then _ (sym same); standing = standing });
    less = λ _. less;
    rests = λ wrong. cc;
  }

  pub after_nothing : (old : ℕ) → Finds found.Nothing l.intake.ended (judged_at (place l.intake)) old (place i) base.rest base.interim → Reaches old false after
  after_nothing old x = record {
    holds = holds_open (place i) (history_of after) (record { base = base; calls = r.calls; judged = judged_then _ (sym x.2); standing = x.0.standing });
    less = λ wrong. cc;
    rests = λ _. rests (place i) (history_of after) base r.calls (judged_then _ (sym x.2)) x.0 (keeps.ended ∙ x.1) refl refl;
  }

  pub after_end : (new : Line) (old : ℕ) (goes : Bool) → new ≡ record after { state = Closing EndOfInput } → IsFalse goes
      → Finds found.End l.intake.ended (judged_at (place l.intake)) old (place i) base.rest base.interim → Reaches old goes new
  after_end new old goes is stops x =
      reaches_over new old goes i.config (history_of (record after { state = Closing EndOfInput })) (ap history_of is)
      (ap (λ (t : Line). t.intake.config) is) (λ still. cc) stops
      (ends base r.calls (keeps.ended ∙ x.0) x.1 x.2 (none_judged (place l.intake) (history_of l) r x.1))

  pub after_part : (old : ℕ) → Finds found.Part l.intake.ended (judged_at (place l.intake)) old (place i) base.rest base.interim → Reaches old true after
  after_part old x = goes_on old x.0 x.1 x.2

  pub after_stop : (new : Line) (old : ℕ) (goes : Bool) → history_of new ≡ aborted (history_of after) → new.intake.config ≡ i.config
      → IsFalse goes → HasWork i.config.limits i.ended base.rest → Reaches old goes new
  after_stop new old goes is same stops had =
      reaches_over new old goes i.config _ is same (λ still. cc) stops
      (aborts base had (inl r.calls) (elim may [ inl none ↦ inl none | inr one ↦ inr (None, one) ]))

  -- a head is to be judged
  pub is_at_head : (waits : Bool) (old : ℕ) → Finds (found.Head waits) l.intake.ended (judged_at (place l.intake)) old (place i) base.rest base.interim
      → IsAtHead (place i) (history_of after) waits
  is_at_head waits old x = record {
    base = base;
    calls = r.calls;
    judged = judged_then [] x.1 ∙ append-nil (passed l.calls.items);
    read = x.0;
  }

  pub is_given : {asked : Asked} {bodiless : Bool} (old : ℕ)
      → Finds (found.Request asked bodiless) l.intake.ended (judged_at (place l.intake)) old (place i) base.rest base.interim
      → IsGiven (place i) (history_of after) asked bodiless
  is_given old x = record { base = base; calls = r.calls; judged = judged_then _ x.1; whole = x.0 }

  pub after_refusal : (new : Line) (old : ℕ) (goes : Bool) (why : Refusal)
      → (history_of new ≡ closed_with (Refused why) (closing_text (is_bare why i.is_head) (refusal_status why)) (history_of after))
      ⊎ (history_of new ≡ aborted (history_of after)) → new.intake ≡ i → IsFalse goes
      → Finds (found.Refused why) l.intake.ended (judged_at (place l.intake)) old (place i) base.rest base.interim → Reaches old goes new
  after_refusal new old goes why is same stops x =
      let config = ap (λ (t : Intake). t.config) same in
      let reason = subst (λ b. IsRefusedFor why i.config b base.rest) (sym keeps.ended) x.0 in
      elim is [
        | inl written ↦ reaches_over new old goes i.config _ written config (λ still. cc) stops
            (refuses base why _ r.calls reason (says_why (place i) base.rest why x.2) may)
        | inr none ↦ after_stop new old goes none config stops
            (subst (λ b. HasWork i.config.limits b base.rest) (sym keeps.ended) x.1)
      ]

  pub had_work : HasWork l.intake.config.limits l.intake.ended base.rest → HasWork i.config.limits i.ended base.rest
  had_work x = subst₂ (λ (k : Config) b. HasWork k.limits b base.rest) (sym keeps.config) (sym keeps.ended) x
