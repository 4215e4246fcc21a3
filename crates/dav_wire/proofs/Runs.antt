-- What holds of a connection, and what each step does to that.
use Rattle.std.proofs.Common.{◌≡◌, ◌≢◌, ℕ, ◌+◌, nat_lt, Bool, false, List, [], ◌++◌, ◌∷◌, ◌⊎◌, length, max, Option, Some, None, true, cond, refl, sym, ap, ◌∙◌, subst, subst₂, arith, append_assoc, append-nil, length-append, take-append-drop, inl, inr, IsTrue, IsFalse}
use Rattle.std.proofs.lemmas.Bool.{le-ltb, lt-ltb}
use Rattle.std.proofs.lemmas.List.{length-map}
use Rattle.std.proofs.Math.Seq.{take-nil, drop-nil}
use Rattle.std.proofs.Math.Logic.{∥∥₁_prop, ∥∥₁_elim}
use denote.Struct.Props.{props}
use Rattle.http1.specs.declared.error.WriteError.{WriteError}
use Rattle.http_server.specs.Exchange.{ExpectsContinue, IsInterim}
use Rattle.http_server.proofs.StreamLemmas.{AcceptsRequest-append, IsInterim-append}
use Rattle.dav_wire.specs.declared.answer.Rejection.{Rejection}
use Rattle.dav_wire.specs.declared.state.Config.{Config}
use Rattle.dav_wire.specs.declared.line.Line.{Line}
use Rattle.dav_wire.specs.declared.state.Reason.TheVariants.{Asked, EndOfInput, Refused, Rejected, Unsendable}
use Rattle.dav_wire.specs.declared.state.Refusal.{Refusal}
use Rattle.dav_wire.specs.declared.state.Refusal.TheVariants.{Truncated, Unreadable, BodyTooLong, UnknownCoding, NoRoom}
use Rattle.dav_wire.specs.declared.state.State.{State}
use Rattle.dav_wire.specs.declared.state.State.TheVariants.{Open, Closing, Aborted}
use Rattle.dav_wire.specs.Exchange.{Call, Judgement, Serves, passed}
use Rattle.dav_wire.specs.History.{History, written, BeginsRequest, BeginsWithHead, AreJudged, IsNextJudged, MayGoOn, HasWork, IsCalledFor, MayBeCalledFor, IsUnsendable, Stands, IsServed, Rests, new_history, after_sent}
use Rattle.dav_wire.specs.Place.{Place, place, history_of, Base, IsKnownFor, IsRunning, StandsAt, judged_at, HoldsAt, Holds, Standing, IsStarved, aborted, closed_with, Reaches}
use Rattle.dav_wire.specs.Refusals.{ClosesRequest, IsRefusalText, IsRefusedFor, IsStatedWithin, closing_text, is_bare, refusal_status, rejection_status}
use Rattle.dav_wire.proofs.Bodies.{Standing-append, begun_some}
use Rattle.dav_wire.proofs.Streams.{begins_grows, call_grows, exchange_grows, serves_grows, next_grows, error_grows, work_grows, aligned}

-- ---- the states

running_at : (s : State) (p : Place) (h : History) → HoldsAt s p h → s ≡ Open → IsRunning p h
running_at Open p h x is = x
running_at (Closing why) p h x is = cc
running_at Aborted p h x is = cc

pub running : (p : Place) (h : History) → HoldsAt h.state p h → h.state ≡ Open → IsRunning p h
running p h = running_at h.state p h

pub holds_open : (p : Place) (h : History) → IsRunning p h → HoldsAt h.state p h
holds_open p h x = subst (λ s. HoldsAt s p h) (sym x.base.is_open) x

-- one more than so many is more, and as many isn't
counts : (within : Bool) (j : Judgement) (n m : ℕ) → m ≡ n + length (cond within (j ∷ []) []) → within ≡ nat_lt n m
counts true j n m is = sym (lt-ltb n m (omega (arith, is)))
counts false j n m is = sym (le-ltb n m (omega (arith, is)))

-- in an open connection one head more was judged than requests were handed over exactly where a body is being read
pub in_body : (l : Line) → l.state ≡ Open → Holds l → l.intake.is_within ≡ nat_lt (length (history_of l).calls) (length (history_of l).judgements)
in_body l still holds =
    let h = history_of l in
    let p = place l.intake in
    let judged = (running p h holds still).judged in
    counts l.intake.is_within (l.intake.head.items, None) (length h.calls) (length h.judgements)
    (ap length judged ∙ length-append (passed h.calls) (judged_at p) ∙ ap (λ n. n + length (judged_at p)) (length-map h.calls (λ (c : Call). (c.0.head, None))))

-- the same exchanges in another history, with what its state says
pub served_as : {config : Config} {h : History} (b : Base config h) (k : History) → k.received ≡ h.received
    → Stands k.state config k b.answered b.text b.interim b.rest → IsServed config k
served_as {config} b k same stands = record {
  answered = b.answered;
  text = b.text;
  rest = b.rest;
  serves = subst (λ (t : List ℕ). Serves config t b.answered b.text b.rest) (sym same) b.serves;
  interim = b.interim;
  is_interim = b.is_interim;
  stands = stands;
}

-- ---- what was judged

module _ (p : Place) (h : History) (is : h.judgements ≡ passed h.calls ++ judged_at p) (stream interim : List ℕ) where
  at_place : (b : Bool) → p.within ≡ b → h.judgements ≡ passed h.calls ++ cond b ((p.head, None) ∷ []) []
  at_place b within = is ∙ ap (λ w. passed h.calls ++ cond w ((p.head, None) ∷ []) []) within

  may_at : (b : Bool) → p.within ≡ b → StandsAt b p stream interim → MayGoOn p.config.limits h stream
  may_at true within x = inr (
    p.head,
    record { head = x.0.head; framing = x.0.framing; after = x.0.after; accepts = x.0.accepts; text = x.0.text },
    at_place true within,
  )
  may_at false within x = inl (at_place false within ∙ append-nil (passed h.calls))

  none_at : (b : Bool) → p.within ≡ b → StandsAt b p stream interim → stream ≡ [] → AreJudged h
  none_at true within x none = absurd (begun_some x.0 none)
  none_at false within x none = at_place false within ∙ append-nil (passed h.calls)

-- the request that is being read may go on
pub may_go_on : (p : Place) (h : History) (x : IsRunning p h) → MayGoOn p.config.limits h x.base.rest
may_go_on p h x = may_at p h x.judged x.base.rest x.base.interim p.within refl x.standing

-- where no request is being read no other head was judged
pub none_judged : (p : Place) (h : History) (x : IsRunning p h) → x.base.rest ≡ [] → AreJudged h
none_judged p h x none = none_at p h x.judged x.base.rest x.base.interim p.within refl x.standing none

served_running : (p : Place) (h : History) → IsRunning p h → IsServed p.config h
served_running p h x =
    let b = x.base in
    served_as b h refl
    (subst (λ s. Stands s p.config h b.answered b.text b.interim b.rest) (sym b.is_open) (x.calls, b.written_is, may_go_on p h x))

served_at : (s : State) (p : Place) (h : History) → HoldsAt s p h → IsServed p.config h
served_at Open p h x = served_running p h x
served_at (Closing why) p h x = x
served_at Aborted p h x = x

pub served : (l : Line) → Holds l → IsServed l.intake.config (history_of l)
served l = served_at l.state (place l.intake) (history_of l)

fresh_at : (p : Place) (b : Bool) → StandsAt b p [] [] → ◌≡◌ {A = List Judgement} [] (cond b ((p.head, None) ∷ []) [])
fresh_at p true x = absurd (begun_some x.0 refl)
fresh_at p false x = refl

-- nothing came yet
pub fresh : (p : Place) (h : History) → Standing p [] [] → h ≡ new_history → IsRunning p h
fresh p h x is = subst (IsRunning p) (sym is) (record {
  base = record {
    is_open = refl;
    answered = [];
    text = [];
    rest = [];
    serves = (refl, refl);
    interim = [];
    is_interim = inl refl;
    written_is = refl;
  };
  calls = refl;
  judged = fresh_at p p.within x;
  standing = x;
})

holds_over : (s : State) (p : Place) (h : History) → s ≢ Open → IsServed p.config h → HoldsAt s p h
holds_over Open p h over x = absurd (over refl)
holds_over (Closing why) p h over x = x
holds_over Aborted p h over x = x

-- a step after which the connection answers no more
pub reaches_over : (new : Line) (old : ℕ) (goes_on : Bool) (config : Config) (k : History) → history_of new ≡ k
    → new.intake.config ≡ config → k.state ≢ Open → IsFalse goes_on → IsServed config k → Reaches old goes_on new
reaches_over new old goes_on config k is same over stops x = record {
  holds = holds_over new.state (place new.intake) (history_of new) (λ still. over (sym (ap (λ (h : History). h.state) is) ∙ still))
      (subst₂ IsServed (sym same) (sym is) x);
  less = λ goes. let wrong = sym stops ∙ goes in cc;
  rests = λ _ still room. absurd (over (sym (ap (λ (h : History). h.state) is) ∙ still));
}

-- the same exchanges, where other things have changed
abbrev pub rebased : {old config : Config} {h : History} → Base old h → config ≡ old → (ended : Bool) (unread : List ℕ) (calls : List Call)
    (judgements : List Judgement) (stated : ℕ) (body : List ℕ)
    → Base config (record h { ended = ended; unread = unread; calls = calls; judgements = judgements; stated = stated; body = body })
rebased {h} b same ended unread calls judgements stated body = record {
  is_open = b.is_open;
  answered = b.answered;
  text = b.text;
  rest = b.rest;
  serves = subst (λ k. Serves k h.received b.answered b.text b.rest) (sym same) b.serves;
  interim = b.interim;
  is_interim = subst (λ (k : Config). IsInterim k.limits b.rest b.interim) (sym same) b.is_interim;
  written_is = b.written_is;
}

-- ---- ends

-- what is written where a request is refused
pub says_why : (p : Place) (stream : List ℕ) (why : Refusal) → IsKnownFor why p stream
    → IsRefusalText p.config.limits stream why (closing_text (is_bare why p.is_head) (refusal_status why))
says_why p stream Truncated known = refl
says_why p stream (Unreadable e) known = refl
says_why p stream BodyTooLong known = (known.0, known.1, known.2, known.3, ap (λ b. closing_text b 413) known.4)
says_why p stream UnknownCoding known = refl
says_why p stream (NoRoom room) known = (known.0, known.1, known.2, known.3, ap (λ b. closing_text b 503) known.4)

module _ {config : Config} {h : History} (b : Base config h) where
  appended : (text : List ℕ) → h.sent ++ (h.pending ++ text) ≡ (b.text ++ b.interim) ++ text
  appended text = sym (append_assoc h.sent h.pending text) ∙ ap (λ (t : List ℕ). t ++ text) b.written_is

  pub aborts : HasWork config.limits h.ended b.rest → MayBeCalledFor config h.calls b.answered b.rest
      → AreJudged h ⊎ ((verdict : Option Rejection) × IsNextJudged config.limits h verdict b.rest) → IsServed config (aborted h)
  aborts work calls judged =
      served_as b (aborted h) refl
      (record { had_work = work; calls = calls; dropped = refl; lost = h.pending; sent = b.written_is; judged = judged })

  pub refuses : (why : Refusal) (text : List ℕ) → h.calls ≡ b.answered → IsRefusedFor why config h.ended b.rest
      → IsRefusalText config.limits b.rest why text → MayGoOn config.limits h b.rest
      → IsServed config (closed_with (Refused why) text h)
  refuses why text calls is says judged =
      served_as b (closed_with (Refused why) text h) refl (calls, is, (text, says, appended text), judged)

  pub cannot_send : (e : WriteError) → IsUnsendable config e h.calls b.answered b.rest → AreJudged h
      → IsServed config (closed_with (Unsendable e) (closing_text true 500) h)
  cannot_send e is judged =
      served_as b (closed_with (Unsendable e) (closing_text true 500) h) refl (is, appended (closing_text true 500), judged)

  -- the answerer doesn't take the request, before anything was written for it
  pub rejects : (why : Rejection) (text : List ℕ) → h.calls ≡ b.answered → IsNextJudged config.limits h (Some why) b.rest → b.interim ≡ []
      → ClosesRequest config.limits b.rest (rejection_status why) text → IsServed config (closed_with (Rejected why) text h)
  rejects why text calls judged silent closes =
      served_as b (closed_with (Rejected why) text h) refl (record {
        calls_are = calls;
        judged = judged;
        silent = silent;
        last = text;
        closes = closes;
        written_is =
            appended text ∙ ap (λ (t : List ℕ). (b.text ++ t) ++ text) silent ∙ ap (λ (t : List ℕ). t ++ text) (append-nil b.text);
      })

  pub ends : h.calls ≡ b.answered → IsTrue h.ended → b.rest ≡ [] → b.interim ≡ [] → AreJudged h
      → IsServed config (record h { state = Closing EndOfInput })
  ends calls over whole silent judged =
      served_as b (record h { state = Closing EndOfInput }) refl (record {
        calls_are = calls;
        ended = over;
        whole = whole;
        written_is = b.written_is ∙ ap (λ (t : List ℕ). b.text ++ t) silent ∙ append-nil b.text;
        judged = judged;
      })

-- ---- more input

module _ (config : Config) (h : History) (came : List ℕ) (over : Bool) (going : h.ended ≡ false) where
  -- the history once these bytes came, and the input ended there or not
  abbrev pub more : History
  more = record h { received = h.received ++ came; unread = h.unread ++ came; ended = over }

  abbrev called_grows : {answered : List Call} {stream : List ℕ} → IsCalledFor config h.calls answered stream
      → IsCalledFor config h.calls answered (stream ++ came)
  called_grows one = record {
    call = one.call;
    calls_are = one.calls_are;
    rest = one.rest ++ came;
    message = one.message;
    request = call_grows came one.request;
  }

  next_judged_grows : (verdict : Option Rejection) {stream : List ℕ} → IsNextJudged config.limits h verdict stream
      → IsNextJudged config.limits more verdict (stream ++ came)
  next_judged_grows verdict one = (one.0, begins_grows came one.1, one.2)

  may_grows : {stream : List ℕ} → MayGoOn config.limits h stream → MayGoOn config.limits more (stream ++ came)
  may_grows may = elim may [ inl none ↦ inl none | inr one ↦ inr (next_judged_grows None one) ]

  refusal_grows : (stream : List ℕ) (why : Refusal) → IsRefusedFor why config h.ended stream
      → IsRefusedFor why config over (stream ++ came)
  refusal_grows stream Truncated is = let ended = is.0 in absurd (cc)
  refusal_grows stream (Unreadable e) is = (next_grows came stream is.0, error_grows came e is.1)
  refusal_grows stream BodyTooLong is = next_grows came stream is
  refusal_grows stream UnknownCoding is = next_grows came stream is
  refusal_grows stream (NoRoom room) is = next_grows came stream is

  closes_grows : {stream text : List ℕ} (status : ℕ) → ClosesRequest config.limits stream status text
      → ClosesRequest config.limits (stream ++ came) status text
  closes_grows status x = (x.0, x.1, x.2 ++ came, AcceptsRequest-append x.3 came, x.4)

  says_grows : (stream text : List ℕ) (why : Refusal) → IsRefusalText config.limits stream why text
      → IsRefusalText config.limits (stream ++ came) why text
  says_grows stream text Truncated x = x
  says_grows stream text (Unreadable e) x = x
  says_grows stream text BodyTooLong x = closes_grows 413 x
  says_grows stream text UnknownCoding x = x
  says_grows stream text (NoRoom room) x = closes_grows 503 x

  module _ (answered : List Call) (text interim rest : List ℕ) where
    stands_grows : (s : State) → Stands s config h answered text interim rest
        → Stands s config more answered text interim (rest ++ came)
    stands_grows Open says = (says.0, says.1, may_grows says.2)
    stands_grows (Closing Asked) says = record {
      call = says.call;
      calls_are = says.calls_are;
      last = says.last;
      after = says.after ++ came;
      exchange = exchange_grows came says.exchange;
      written_is = says.written_is;
      judged = says.judged;
    }
    stands_grows (Closing EndOfInput) says = let ended = says.ended in absurd (cc)
    stands_grows (Closing (Refused why)) says =
        (says.0, refusal_grows rest why says.1, (says.2.0, says_grows _ _ why says.2.1, says.2.2), may_grows says.3)
    stands_grows (Closing (Rejected why)) says = record {
      calls_are = says.calls_are;
      judged = next_judged_grows (Some why) says.judged;
      silent = says.silent;
      last = says.last;
      closes = closes_grows (rejection_status why) says.closes;
      written_is = says.written_is;
    }
    stands_grows (Closing (Unsendable e)) says = (record { last = called_grows says.0.last; refused = says.0.refused }, says.1, says.2)
    stands_grows Aborted says = record {
      had_work = work_grows came rest going says.had_work;
      calls = elim says.calls [ inl none ↦ inl none | inr one ↦ inr (called_grows one) ];
      dropped = says.dropped;
      lost = says.lost;
      sent = says.sent;
      judged = elim says.judged [ inl none ↦ inl none | inr one ↦ inr (one.0, next_judged_grows one.0 one.1) ];
    }

  served_grows : IsServed config h → IsServed config more
  served_grows had = record {
    answered = had.answered;
    text = had.text;
    rest = had.rest ++ came;
    serves = serves_grows came config had.answered h.received had.text had.rest had.serves;
    interim = had.interim;
    is_interim = IsInterim-append config.limits had.rest had.interim came had.is_interim;
    stands = stands_grows had.answered had.text had.interim had.rest h.state had.stands;
  }

module _ (p : Place) (h : History) (came : List ℕ) (over : Bool) (going : h.ended ≡ false) where
  running_grows : IsRunning p h → IsRunning (record p { unread = p.unread ++ came }) (more p.config h came over going)
  running_grows run =
      let b = run.base in
      record {
        base = record {
          is_open = b.is_open;
          answered = b.answered;
          text = b.text;
          rest = b.rest ++ came;
          serves = serves_grows came p.config b.answered h.received b.text b.rest b.serves;
          interim = b.interim;
          is_interim = IsInterim-append p.config.limits b.rest b.interim came b.is_interim;
          written_is = b.written_is;
        };
        calls = run.calls;
        judged = run.judged;
        standing = Standing-append p b.rest b.interim came run.standing;
      }

  pub takes : (s : State) → HoldsAt s p h → HoldsAt s (record p { unread = p.unread ++ came }) (more p.config h came over going)
  takes Open run = running_grows run
  takes (Closing why) had = served_grows p.config h came over going had
  takes Aborted had = served_grows p.config h came over going had

-- ---- output that was sent

module _ (h : History) (count : ℕ) where
  written_still : written (after_sent h count) ≡ written h
  written_still = rw (append_assoc, take-append-drop) refl

  module _ (config : Config) (answered : List Call) (text interim rest : List ℕ) where
    stands_still : (s : State) → Stands s config h answered text interim rest
        → Stands s config (after_sent h count) answered text interim rest
    stands_still Open says = (says.0, written_still ∙ says.1, says.2)
    stands_still (Closing Asked) says = record {
      call = says.call;
      calls_are = says.calls_are;
      last = says.last;
      after = says.after;
      exchange = says.exchange;
      written_is = written_still ∙ says.written_is;
      judged = says.judged;
    }
    stands_still (Closing EndOfInput) says = record {
      calls_are = says.calls_are;
      ended = says.ended;
      whole = says.whole;
      written_is = written_still ∙ says.written_is;
      judged = says.judged;
    }
    stands_still (Closing (Refused why)) says = (says.0, says.1, (says.2.0, says.2.1, written_still ∙ says.2.2), says.3)
    stands_still (Closing (Rejected why)) says = record {
      calls_are = says.calls_are;
      judged = says.judged;
      silent = says.silent;
      last = says.last;
      closes = says.closes;
      written_is = written_still ∙ says.written_is;
    }
    stands_still (Closing (Unsendable e)) says = (says.0, written_still ∙ says.1, says.2)
    stands_still Aborted says = record {
      had_work = says.had_work;
      calls = says.calls;
      dropped = rw says.dropped (drop-nil count);
      lost = says.lost;
      sent = rw (says.dropped, take-nil, append-nil) says.sent;
      judged = says.judged;
    }

  served_still : {config : Config} → IsServed config h → IsServed config (after_sent h count)
  served_still {config} had = record {
    answered = had.answered;
    text = had.text;
    rest = had.rest;
    serves = had.serves;
    interim = had.interim;
    is_interim = had.is_interim;
    stands = stands_still config had.answered had.text had.interim had.rest h.state had.stands;
  }

pub sends : (p : Place) (h : History) (count : ℕ) (s : State) → HoldsAt s p h → HoldsAt s p (after_sent h count)
sends p h count Open run =
    let b = run.base in
    record {
      base = record {
        is_open = b.is_open;
        answered = b.answered;
        text = b.text;
        rest = b.rest;
        serves = b.serves;
        interim = b.interim;
        is_interim = b.is_interim;
        written_is = written_still h count ∙ b.written_is;
      };
      calls = run.calls;
      judged = run.judged;
      standing = run.standing;
    }
sends p h count (Closing why) had = served_still h count had
sends p h count Aborted had = served_still h count had

-- ---- nothing is left to do

pub rests : (p : Place) (h : History) (b : Base p.config h) → h.calls ≡ b.answered
    → h.judgements ≡ passed h.calls ++ judged_at p → IsStarved p b.rest b.interim → IsFalse h.ended
    → p.stated ≡ h.stated → p.body ≡ h.body → Rests p.config h
rests p h b calls judged x going held body is_open room = (
  going,
  λ ms rest z. elim (aligned p.config b.answered ms h.received b.text b.serves z) [
    | inl fits ↦ omega (arith, fits.0, ap length calls)
    | inr more ↦ absurd (x.unfinished more.0 more.1 more.2)
  ],
  λ ms rest z count waits. elim (aligned p.config b.answered ms h.received b.text b.serves z) [
    | inl fits ↦
        let same = fits.1 (count ∙ ap length calls) in
        ∣ (b.text, b.written_is ∙ ap (λ (t : List ℕ). b.text ++ t) (x.invited (subst (ExpectsContinue p.config.limits) same waits))) ∣₁
    | inr more ↦ absurd (x.unfinished more.0 more.1 more.2)
  ],
  λ ms rest z count. elim (aligned p.config b.answered ms h.received b.text b.serves z) [
    | inl fits ↦ subst₂ (IsStatedWithin p.config) held (sym (fits.1 (count ∙ ap length calls))) x.within
    | inr more ↦ absurd (x.unfinished more.0 more.1 more.2)
  ],
  λ ms rest z count bytes begins. elim (aligned p.config b.answered ms h.received b.text b.serves z) [
    | inl fits ↦
        let same = fits.1 (count ∙ ap length calls) in
        let it = x.judged bytes (subst (λ (t : List ℕ). BeginsWithHead p.config.limits t bytes) same begins) in
        ∣ judged ∙ ap (λ (t : List Judgement). passed h.calls ++ t) it ∣₁
    | inr more ↦ absurd (x.unfinished more.0 more.1 more.2)
  ],
  λ ms rest z count none. elim (aligned p.config b.answered ms h.received b.text b.serves z) [
    | inl fits ↦
        let same = fits.1 (count ∙ ap length calls) in
        let free = x.free (subst (λ (t : List ℕ). BeginsRequest p.config.limits t → ⊥) same none) in
        λ i. max ((sym held ∙ free.0) i) (length ((sym body ∙ free.1) i))
    | inr more ↦ absurd (x.unfinished more.0 more.1 more.2)
  ],
)

-- what it says leaves nothing to choose
pub settled : (config : Config) (h : History) → ∥ Rests config h ∥₁ → Rests config h
settled config h x is_open room = (
  ∥∥₁_elim x (search props) (λ r. (r is_open room).0),
  λ ms rest z. ∥∥₁_elim x (search props) (λ r. (r is_open room).1 ms rest z),
  λ ms rest z count waits. ∥∥₁_elim x ∥∥₁_prop (λ r. (r is_open room).2 ms rest z count waits),
  λ ms rest z count k framing after w. (
    ∥∥₁_elim x (search props) (λ r. ((r is_open room).3 ms rest z count k framing after w).0),
    ∥∥₁_elim x (search props) (λ r. ((r is_open room).3 ms rest z count k framing after w).1),
  ),
  λ ms rest z count bytes begins. ∥∥₁_elim x ∥∥₁_prop (λ r. (r is_open room).4 ms rest z count bytes begins),
  λ ms rest z count none. ∥∥₁_elim x (search props) (λ r. (r is_open room).5 ms rest z count none),
)

-- ---- a refusal for want of room

open_or : (s : State) → (s ≡ Open) ⊎ (s ≢ Open)
open_or Open = inl refl
open_or (Closing why) = inr (λ is. cc)
open_or Aborted = inr (λ is. cc)

-- a step that refuses a request for want of room was told that room; the refusal of a step before stays
pub tells : (old new : Line) (room : ℕ) → (old.state ≢ Open → new ≡ old)
    → ((told : ℕ) → old.state ≡ Open → new.state ≡ Closing (Refused (NoRoom told)) → told ≡ room)
    → (told : ℕ) → (old.state ≡ Closing (Refused (NoRoom told)) → told ≡ room) → new.state ≡ Closing (Refused (NoRoom told))
    → told ≡ room
tells old new room settled tells_now told before is = elim (open_or old.state) [
  | inl still ↦ tells_now told still is
  | inr over ↦ before (sym (ap (λ (l : Line). l.state) (settled over)) ∙ is)
]
