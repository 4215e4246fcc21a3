-- What a judgement does to a connection.
use Rattle.std.proofs.Common.{Global, MatchBool, map, ◌≡◌, ℕ, ◌<◌, Bool, true, false, cond, List, [], ◌∷◌, ◌++◌, Option, Some, None, refl, sym, ap, ◌∙◌, subst, subst₂, append_assoc, append-nil, inl, inr}
use Rattle.std.proofs.lemmas.List.{map_push}
use Rattle.bytes.specs.declared.unique.BytesMut.{BytesMut}
use Rattle.http_server.specs.Exchange.{continue_text}
use Rattle.dav_wire.specs.declared.answer.Rejection.{Rejection}
use Rattle.dav_wire.specs.declared.answer.Rejection.TheVariants.{BadRequest, Unauthorized, Forbidden, UnsupportedMediaType, Misdirected, TooManyRequests, NotImplemented, Unavailable}
use Rattle.dav_wire.specs.declared.line.Line.{Line}
use Rattle.dav_wire.specs.declared.state.Reason.TheVariants.{Rejected}
use Rattle.dav_wire.specs.Exchange.{Judgement, passed}
use Rattle.dav_wire.specs.History.{History, BeginsWithHead, IsNextJudged, IsServed}
use Rattle.dav_wire.specs.Place.{Place, Base, Begun, StandsAt, Standing, IsAtHead, IsRunning, Reaches, place, work, history_of, judged_at, aborted, closed_with, invited}
use Rattle.dav_wire.specs.Refusals.{closing_text, known_status, rejection_status}
use Rattle.dav_wire.proofs.Bodies.{begun_work}
use Rattle.dav_wire.proofs.Runs.{holds_open, reaches_over, rebased, aborts, rejects}

-- the connection answers each of these statuses with itself
pub known_rejection : (why : Rejection) → known_status (rejection_status why) ≡ rejection_status why
known_rejection BadRequest = refl
known_rejection Unauthorized = refl
known_rejection Forbidden = refl
known_rejection UnsupportedMediaType = refl
known_rejection Misdirected = refl
known_rejection TooManyRequests = refl
known_rejection NotImplemented = refl
known_rejection Unavailable = refl

-- a judgement in the log
abbrev pub in_log : BytesMut Global × Option Rejection → Judgement
in_log j = (j.0.items, j.1)

-- one more in the log is one more in the history
pub logged : (l : Line) (log : List (BytesMut Global × Option Rejection)) (verdict : Option Rejection)
    → log ≡ l.judgements.items ++ (l.intake.head, verdict) ∷ []
    → map in_log log ≡ (history_of l).judgements ++ (l.intake.head.items, verdict) ∷ []
logged l log verdict is = ap (map in_log) is ∙ map_push in_log l.judgements.items (l.intake.head, verdict)

module _ (p : Place) (h : History) (waits : Bool) (x : IsAtHead p h waits) where
  begun : Begun p x.base.rest (cond waits continue_text [])
  begun = (subst (λ b. StandsAt b p x.base.rest (cond waits continue_text [])) x.read.within x.read.standing).0

  begins : BeginsWithHead p.config.limits x.base.rest p.head
  begins = record { head = begun.head; framing = begun.framing; after = begun.after; accepts = begun.accepts; text = begun.text }

  -- the answerer stops
  pub judge_stops : IsServed p.config (aborted h)
  judge_stops = aborts x.base (begun_work begun h.ended) (inl x.calls) (inl x.judged)

  module _ (verdict : Option Rejection) (js : List Judgement) (is : js ≡ h.judgements ++ (p.head, verdict) ∷ []) where
    abbrev now : History
    now = record h { judgements = js }

    abbrev base : Base p.config now
    base = rebased x.base refl h.ended h.unread h.calls js h.stated h.body

    next : IsNextJudged p.config.limits now verdict x.base.rest
    next = (p.head, begins, is ∙ ap (λ (t : List Judgement). t ++ (p.head, verdict) ∷ []) x.judged)

    -- it judged, and there is no memory for what is to be written
    pub stops_judged : IsServed p.config (aborted now)
    stops_judged = aborts base (begun_work begun h.ended) (inl x.calls) (inr (verdict, next))

  -- it doesn't take the request
  pub head_rejected : (why : Rejection) (js : List Judgement) → js ≡ h.judgements ++ (p.head, Some why) ∷ []
      → IsServed p.config (closed_with (Rejected why) (closing_text p.is_head (rejection_status why)) (record h { judgements = js }))
  head_rejected why js is =
      rejects (base (Some why) js is) why _ x.calls (next (Some why) js is) x.read.silent
      (begun.head, begun.framing, begun.after, begun.accepts, ap (λ b. closing_text b (rejection_status why)) begun.kind)

  -- the request may go on
  module _ (js : List Judgement) (is : js ≡ h.judgements ++ (p.head, None) ∷ []) where
    judged_now : js ≡ passed h.calls ++ judged_at p
    judged_now =
        is ∙ ap (λ (t : List Judgement). t ++ (p.head, None) ∷ []) x.judged
        ∙ ap (λ b. passed h.calls ++ cond b ((p.head, None) ∷ []) []) (sym x.read.within)

    stands : (b : Bool) → waits ≡ b → Standing p x.base.rest (cond b continue_text [])
    stands b waits_is = subst (λ w. Standing p x.base.rest (cond w continue_text [])) waits_is x.read.standing

    pub head_passes : waits ≡ false → IsRunning p (record h { judgements = js })
    head_passes calm = record {
      base = base None js is;
      calls = x.calls;
      judged = judged_now;
      standing = subst (Standing p x.base.rest) (sym x.read.silent) (stands false calm);
    }

    out : (invited (record h { judgements = js })).sent ++ (h.pending ++ continue_text) ≡ x.base.text ++ continue_text
    out =
        sym (append_assoc h.sent h.pending continue_text)
        ∙ ap (λ (t : List ℕ). t ++ continue_text)
        (x.base.written_is ∙ ap (λ (t : List ℕ). x.base.text ++ t) x.read.silent ∙ append-nil x.base.text)

    pub head_invited : waits ≡ true → IsRunning p (invited (record h { judgements = js }))
    head_invited wanted = record {
      base = record {
        is_open = x.base.is_open;
        answered = x.base.answered;
        text = x.base.text;
        rest = x.base.rest;
        serves = x.base.serves;
        interim = continue_text;
        is_interim = inr (refl, x.read.invites wanted);
        written_is = out;
      };
      calls = x.calls;
      judged = judged_now;
      standing = stands true wanted;
    }

-- its sender is told to go on, if there is memory for that
module _ (l : Line) (waits : Bool) (x : IsAtHead (place l.intake) (history_of l) waits) (js : List Judgement)
    (is : js ≡ (history_of l).judgements ++ (l.intake.head.items, None) ∷ []) where
  abbrev after : History
  after = record (history_of l) { judgements = js }

  pub after_judging : waits ≡ true → (new : Line) (old : ℕ) (goes : Bool)
      → MatchBool goes (history_of new ≡ invited after) (history_of new ≡ aborted after) → new.intake ≡ l.intake
      → work (place l.intake) < old → Reaches old goes new
  after_judging wanted new old true did same less = record {
    holds = holds_open _ _ (subst₂ IsRunning (ap place (sym same)) (sym did) (head_invited (place l.intake) (history_of l) waits x js is wanted));
    less = λ _. subst (λ i. work (place i) < old) (sym same) less;
    rests = λ wrong. cc;
  }
  after_judging wanted new old false did same less =
      reaches_over new old false l.intake.config (aborted after) did (ap (λ i. i.config) same) (λ still. cc) refl
      (stops_judged (place l.intake) (history_of l) waits x None js is)

-- an invitation is no act of the answerer
pub invited_acts : (new old : History) (goes : Bool) → MatchBool goes (new ≡ invited old) (new ≡ aborted old)
    → (new.calls ≡ old.calls) × (new.judgements ≡ old.judgements)
invited_acts new old true is = (ap (λ (h : History). h.calls) is, ap (λ (h : History). h.judgements) is)
invited_acts new old false is = (ap (λ (h : History). h.calls) is, ap (λ (h : History). h.judgements) is)
