-- What a call that writes says of its outcome, and what a response does to the place in the stream.
use Rattle.std.proofs.Common.{◌≡◌, ◌≢◌, ℕ, ◌^◌, ◌<◌, ◌⊎◌, Bool, true, false, cond, List, [], ◌∷◌, ◌++◌, length, Option, Some, None, Result, Ok, Err, OnOk, OnErr, IfErr, refl, sym, ap, ◌∙◌, subst, append_assoc, append-nil, inl, inr}
use Rattle.http1.specs.declared.error.WriteError.{WriteError}
use Rattle.http1.specs.declared.error.WriteError.TheVariants.{OutOfMemory}
use Rattle.http1.specs.declared.server.Server.{Server}
use Rattle.http1.specs.Conn.{data_text, finish_text}
use Rattle.http1.specs.Output.{GivesOrRefuses}
use Rattle.http1.specs.Server.{new_server, is_head, peer_method, writing, after_end, response_refusal, planned_response, IsClosed}
use Rattle.http1_typed.specs.Parts.{reason_of}
use Rattle.http_server.specs.declared.response.Response.{Response}
use Rattle.http_server.specs.Encoding.{size_of, after_head, after_body, final_text}
use Rattle.http_server.specs.Exchange.{keeps_open}
use Rattle.http_server.specs.Response.{fields_of}
use Rattle.http_server.proofs.AnswerLemmas.{not_refused, refused, final_answer, starts_over}
use Rattle.dav_wire.specs.declared.state.Reason.TheVariants.{Asked, Unsendable}
use Rattle.dav_wire.specs.declared.state.State.TheVariants.{Closing}
use Rattle.dav_wire.specs.Exchange.{Exchanges, passed}
use Rattle.dav_wire.specs.History.{History, IsCalledFor, IsServed}
use Rattle.dav_wire.specs.Place.{Place, IsAnswered, IsRunning, StandsAt, aborted, closed_with, rest_text, after_rest}
use Rattle.dav_wire.specs.Refusals.{closing_text}
use Rattle.dav_wire.proofs.Runs.{served_as, aborts, cannot_send}
use Rattle.dav_wire.proofs.Streams.{serves_one, serves_both}

pub unrefused : (result : Result (Unit {0}) WriteError) (refusal : Option WriteError) (spare len : ℕ)
    → GivesOrRefuses refusal spare len result → OnOk result (refusal ≡ None)
unrefused (Ok done) refusal spare len x = not_refused refusal spare len done x
unrefused (Err e) refusal spare len x = tt

pub refused_for : (result : Result (Unit {0}) WriteError) (refusal : Option WriteError) (spare len : ℕ) (Kept : Type 0)
    → GivesOrRefuses refusal spare len result → (OnErr result Kept)
    → IfErr result (λ e. e ≢ OutOfMemory → (refusal ≡ Some e) × Kept)
refused_for (Ok done) refusal spare len Kept x kept = tt
refused_for (Err e) refusal spare len Kept x kept = λ other.
    elim (refused refusal spare len e x) [ inl memory ↦ absurd (other memory) | inr why ↦ (why, kept) ]

-- what is written after the head of a response is the rest of its text, and leaves the server that follows that
rest_is : (s : Server) (r : Response) (bodiless : Bool)
    → rest_text bodiless (writing (after_head s r)) r.body.items
    ≡ cond bodiless [] (data_text (writing (after_head s r)) r.body.items) ++ finish_text (writing (after_body bodiless s r)) []
rest_is s r true = refl
rest_is s r false = refl

next_is : (s : Server) (r : Response) (bodiless : Bool)
    → after_rest bodiless (after_head s r) (length r.body.items) ≡ after_end (after_body bodiless s r)
next_is s r true = refl
next_is s r false = refl

module _ (p : Place) (h : History) (r : Response) (bodiless : Bool) (x : IsAnswered p h r bodiless) where
  abbrev called : IsCalledFor p.config h.calls x.base.answered x.base.rest
  called = record {
    call = (x.asked, r);
    calls_are = x.calls;
    rest = p.unread;
    message = x.whole.message;
    request = x.whole.request;
  }

  pub stops_after : IsServed p.config (aborted h)
  stops_after =
      let reads = x.whole.request.reads in
      aborts x.base (inl (record { head = x.whole.message.head; framing = reads.framing; after = reads.after_head; accepts = reads.head })) (inr called) (inl x.judged)

  pub fails_with : (e : WriteError) → response_refusal p.server r.status (reason_of r.status) (size_of r) (fields_of r) ≡ Some e
      → IsServed p.config (closed_with (Unsendable e) (closing_text true 500) h)
  fails_with e why = cannot_send x.base e (record {
    last = called;
    refused = ap (λ s. response_refusal s r.status (reason_of r.status) (size_of r) (fields_of r)) (sym x.whole.server) ∙ why;
  }) x.judged

  kind : bodiless ≡ is_head (peer_method p.server)
  kind = rw x.whole.server x.whole.kind

  module _ (valid : response_refusal p.server r.status (reason_of r.status) (size_of r) (fields_of r) ≡ None)
      (short : length r.body.items < 2 ^ 64) (middle now : List ℕ)
      (head_is : middle ≡ h.pending ++ planned_response p.server r.status (reason_of r.status) (size_of r) (fields_of r))
      (now_is : now ≡ middle ++ rest_text bodiless (writing (after_head p.server r)) r.body.items)
      (new : Server) (new_is : new ≡ after_rest bodiless (after_head p.server r) (length r.body.items)) where
    abbrev answer : List ℕ
    answer = final_text bodiless p.server r

    abbrev last_text : List ℕ
    last_text = x.base.interim ++ answer

    pending_is : now ≡ h.pending ++ answer
    pending_is =
        now_is ∙ (λ i. head_is i ++ rest_is p.server r bodiless i)
        ∙ append_assoc h.pending (planned_response p.server r.status (reason_of r.status) (size_of r) (fields_of r)) _

    written_is : h.sent ++ now ≡ x.base.text ++ last_text
    written_is =
        ap (λ (t : List ℕ). h.sent ++ t) pending_is ∙ sym (append_assoc h.sent h.pending answer)
        ∙ ap (λ (t : List ℕ). t ++ answer) x.base.written_is ∙ append_assoc x.base.text x.base.interim answer

    new_server_is : new ≡ after_end (after_body bodiless p.server r)
    new_server_is = new_is ∙ next_is p.server r bodiless

    -- the exchange, as its request and this response ask to go on or to close
    exchanged : Exchanges p.config (keeps_open x.whole.message.head r) x.base.rest (x.asked, r) last_text p.unread
    exchanged =
        let it = final_answer p.server r valid p.config.limits x.whole.message.head x.whole.request.reads.framing x.whole.server
        bodiless kind short in
        record {
          message = x.whole.message;
          request = x.whole.request;
          reply = record {
            before = x.base.interim;
            may_precede = x.base.is_interim;
            final = answer;
            reads_as = it.0;
            text_is = refl;
            asks = refl;
            says = it.1;
          };
        }

    abbrev Exchanged : Bool → Type 0
    Exchanged stays = Exchanges p.config stays x.base.rest (x.asked, r) last_text p.unread

    -- the connection goes on, or both sides know that it is closed
    leaves : (Exchanged true × (new ≡ new_server p.config.limits)) ⊎ (Exchanged false × IsClosed new)
    leaves = elim (starts_over p.server r valid p.config.limits x.whole.message.head x.whole.request.reads.framing x.whole.server
        bodiless kind) [
          | inl on ↦ inl (subst Exchanged on.0 exchanged, new_server_is ∙ on.1)
          | inr over ↦ inr (subst Exchanged over.0 exchanged, ap writing new_server_is ∙ over.1)
        ]

    pub closes : IsClosed new → IsServed p.config (record h { state = Closing Asked; pending = now })
    closes closed = elim leaves [
      | inl on ↦ let fresh = sym closed ∙ ap writing on.1 in absurd (cc)
      | inr over ↦ served_as x.base (record h { state = Closing Asked; pending = now }) refl (record {
        call = (x.asked, r);
        calls_are = x.calls;
        last = last_text;
        after = p.unread;
        exchange = over.0;
        written_is = written_is;
        judged = x.judged;
      })
    ]

    pub stays_open : ¬ (IsClosed new) → IsRunning (record p { server = new }) (record h { pending = now })
    stays_open other = elim leaves [
      | inl on ↦ record {
        base = record {
          is_open = x.base.is_open;
          answered = x.base.answered ++ (x.asked, r) ∷ [];
          text = x.base.text ++ last_text;
          rest = p.unread;
          serves = serves_both p.config x.base.answered ((x.asked, r) ∷ []) h.received x.base.text x.base.rest last_text p.unread
              x.base.serves (serves_one p.config on.0);
          interim = [];
          is_interim = inl refl;
          written_is = written_is ∙ sym (append-nil _);
        };
        calls = x.calls;
        judged = x.judged ∙ sym (append-nil _) ∙ ap (λ b. passed h.calls ++ cond b ((p.head, None) ∷ []) []) (sym x.whole.between);
        standing = subst (λ b. StandsAt b (record p { server = new }) p.unread []) (sym x.whole.between)
            (record { server = on.1; unread = refl; body = x.whole.body; stated = x.whole.stated; silent = refl });
      }
      | inr over ↦ absurd (other over.1)
    ]
