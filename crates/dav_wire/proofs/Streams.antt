-- Streams that grow, and the exchanges of their requests.
use Rattle.std.proofs.Common.{◌≡◌, ℕ, ◌≤◌, ◌⊎◌, Bool, true, List, [], ◌∷◌, ◌++◌, length, Option, refl, sym, ap, ◌∙◌, subst, subst₂, arith, append_assoc, append-nil, inl, inr, IsFalse}
use Rattle.std.proofs.lemmas.Grind.{flat_map-append}
use Rattle.http1.specs.declared.conn.Limits.{Limits}
use Rattle.http1.specs.declared.error.ReadError.{ReadError}
use Rattle.http1.specs.Message as Wire
use Rattle.http1.specs.Message.{ReadsRequestMessage, ReadsRequests}
use Rattle.http1.proofs.OneParse.{request_message_unique}
use Rattle.http_server.specs.declared.response.Response.{Response}
use Rattle.http_server.specs.History.{NextIs, IsReadError}
use Rattle.http_server.proofs.StreamLemmas.{AcceptsRequest-append, ReadsRequestMessage-append, IsInterim-append}
use Rattle.dav_wire.specs.declared.answer.Asked.{Asked}
use Rattle.dav_wire.specs.declared.answer.Rejection.{Rejection}
use Rattle.dav_wire.specs.declared.state.Config.{Config}
use Rattle.dav_wire.specs.Exchange.{Act, judged, answered, Call, Judgement, ReadsCall, Chain, Exchanges, Serves, call_in, calls_in, judgement_in, judgements_in}
use Rattle.dav_wire.specs.History.{Acts, BeginsWithHead, HasWork, History}

-- what comes later follows the rest
pub after_front : {X : Type 0} {all : List X} (front rest came : List X) → all ≡ front ++ rest → all ++ came ≡ front ++ (rest ++ came)
after_front front rest came is = rw is (append_assoc front rest came)

-- ---- bytes come

module _ (came : List ℕ) where
  abbrev pub call_grows : {config : Config} {stream rest : List ℕ} {m : Wire.Request} {asked : Asked}
      → ReadsCall config stream m asked rest → ReadsCall config (stream ++ came) m asked (rest ++ came)
  call_grows {asked} call = record {
    reads = ReadsRequestMessage-append call.reads came;
    head = after_front asked.head call.reads.after_head came call.head;
    body = call.body;
    plain = call.plain;
    fits = call.fits;
    few = call.few;
  }

  pub exchange_grows : {config : Config} {stays : Bool} {c : Call} {stream text rest : List ℕ}
      → Exchanges config stays stream c text rest → Exchanges config stays (stream ++ came) c text (rest ++ came)
  exchange_grows {config} {stream} one =
      let reply = one.reply in
      record {
        message = one.message;
        request = call_grows one.request;
        reply = record {
          before = reply.before;
          may_precede = IsInterim-append config.limits stream reply.before came reply.may_precede;
          final = reply.final;
          reads_as = reply.reads_as;
          text_is = reply.text_is;
          asks = reply.asks;
          says = reply.says;
        };
      }

  pub serves_grows : (config : Config) (calls : List Call) (stream text rest : List ℕ) → Serves config stream calls text rest
      → Serves config (stream ++ came) calls text (rest ++ came)
  serves_grows config [] stream text rest none = (rw none.0 refl, none.1)
  serves_grows config (call ∷ calls) stream text rest all = record {
    own = all.own;
    after = all.after ++ came;
    exchange = exchange_grows all.exchange;
    others = all.others;
    text_is = all.text_is;
    later = serves_grows config calls all.after all.others rest all.later;
  }

  -- what is so whatever bytes follow is so when these do
  pub next_grows : {limits : Limits} (stream : List ℕ) {P : Wire.Request → Type 0} → NextIs limits stream P
      → NextIs limits (stream ++ came) P
  next_grows {limits} stream next more m rest reads =
      next (came ++ more) m rest
      (subst (λ (t : List ℕ). ReadsRequestMessage limits t m rest) (append_assoc stream came more) reads)

  pub error_grows : {limits : Limits} {stream : List ℕ} (e : ReadError) → IsReadError limits stream e
      → IsReadError limits (stream ++ came) e
  error_grows e why = elim why [
    | inl early ↦ inl (early.0, early.1 ++ came, after_front early.0 early.1 came early.2, early.3)
    | inr late ↦ let still = AcceptsRequest-append late.3 came in inr (late.0, late.1, _, still)
  ]

  -- the head that begins a stream
  pub begins_grows : {limits : Limits} {stream bytes : List ℕ} → BeginsWithHead limits stream bytes
      → BeginsWithHead limits (stream ++ came) bytes
  begins_grows {bytes} b = record {
    head = b.head;
    framing = b.framing;
    after = b.after ++ came;
    accepts = AcceptsRequest-append b.accepts came;
    text = after_front bytes b.after came b.text;
  }

  -- before the end of the input, work is a head, or that no request can come
  pub work_grows : {limits : Limits} {ended over : Bool} (stream : List ℕ) → IsFalse ended → HasWork limits ended stream
      → HasWork limits over (stream ++ came)
  work_grows stream going work = elim work [
    | inl begun ↦
        let still = AcceptsRequest-append begun.accepts came in
        inl (record { head = begun.head; framing = begun.framing; after = begun.after ++ came; accepts = still })
    | inr other ↦ elim other [ inl ended ↦ absurd (cc) | inr none ↦ inr (inr (next_grows stream none)) ]
  ]

-- ---- one exchange after the other

module _ (config : Config) where
  -- an exchange alone
  pub serves_one : {call : Call} {stream text rest : List ℕ} → Exchanges config true stream call text rest
      → Serves config stream (call ∷ []) text rest
  serves_one {text} {rest} one =
      record { own = text; after = rest; exchange = one; others = []; text_is = sym (append-nil text); later = (refl, refl) }

  -- these exchanges, and at the rest of their stream those
  pub serves_both : (front back : List Call) (stream first middle second rest : List ℕ)
      → Serves config stream front first middle → Serves config middle back second rest
      → Serves config stream (front ++ back) (first ++ second) rest
  serves_both [] back stream first middle second rest these those =
      subst₂ (λ (s t : List ℕ). Serves config s back (t ++ second) rest) (sym these.0) (sym these.1) those
  serves_both (call ∷ front) back stream first middle second rest these those = record {
    own = these.own;
    after = these.after;
    exchange = these.exchange;
    others = these.others ++ second;
    text_is = after_front these.own these.others second these.text_is;
    later = serves_both front back these.after these.others middle second rest these.later those;
  }

  -- a request that is read of the stream of an exchange ends where that does
  ends_there : {stays : Bool} {c : Call} {m : Wire.Request} {stream text rest next : List ℕ}
      → Exchanges config stays stream c text rest → ReadsRequestMessage config.limits stream m next → next ≡ rest
  ends_there {m} {stream} {rest} {next} one reads =
      (request_message_unique config.limits stream m one.message next rest reads one.request.reads).1

  -- the requests that are read of a stream are no more than those that were served, or else one more follows these
  abbrev pub Aligns : List Call → List Wire.Request → List ℕ → List ℕ → Type 0
  Aligns calls ms rest after =
      ((length ms ≤ length calls) × (length ms ≡ length calls → after ≡ rest))
      ⊎ ((m : Wire.Request) × (next : List ℕ) × ReadsRequestMessage config.limits rest m next)

  pub aligned : (calls : List Call) (ms : List Wire.Request) (stream text : List ℕ) {rest after : List ℕ}
      → Serves config stream calls text rest → ReadsRequests config.limits stream ms after → Aligns calls ms rest after
  aligned [] [] stream text served read = inl (omega arith, λ _. sym read ∙ served.0)
  aligned [] (m ∷ ms) stream text served read =
      inr (m, read.0, subst (λ (t : List ℕ). ReadsRequestMessage config.limits t m read.0) served.0 read.1)
  aligned (c ∷ calls) [] stream text served read = inl (omega arith, λ wrong. absurd (omega (arith, wrong)))
  aligned (c ∷ calls) (m ∷ ms) stream text {after} served read =
      let later = subst (λ (t : List ℕ). ReadsRequests config.limits t ms after) (ends_there served.exchange read.1) read.2 in
      elim (aligned calls ms served.after served.others served.later later) [
        | inl fits ↦ inl (omega (arith, fits.0), λ count. fits.1 (omega (arith, count)))
        | inr more ↦ inr more
      ]

-- ---- what the answerer did

module _ {S : Type 0} (judges : S → List ℕ → Option Rejection → S → Type 0) (answers : S → Asked → Response → S → Type 0) where
  module _ (later : List Act) (b c : S) (then_ : Chain judges answers b later c) where
    chain_on : (acts : List Act) (a : S) → Chain judges answers a acts b → Chain judges answers a (acts ++ later) c
    chain_on [] a same = subst (λ s. Chain judges answers s later c) same then_
    chain_on (act ∷ acts) a these = (these.0, these.1, chain_on acts these.0 these.2)

  -- more acts, from the state that these lead to
  pub acts_on : (a b c : S) (old mid new : History) → Acts judges answers a b old mid → Acts judges answers b c mid new
      → Acts judges answers a c old new
  acts_on a b c old mid new these those = (
    these.0 ++ those.0,
    those.1 ∙ after_front old.calls (calls_in these.0) (calls_in those.0) these.1
        ∙ ap (λ (t : List Call). old.calls ++ t) (sym (flat_map-append call_in these.0 those.0)),
    those.2 ∙ after_front old.judgements (judgements_in these.0) (judgements_in those.0) these.2
        ∙ ap (λ (t : List Judgement). old.judgements ++ t) (sym (flat_map-append judgement_in these.0 those.0)),
    chain_on those.0 b c those.3 these.0 a these.3,
  )

  -- no act
  pub acts_none : (a b : S) (old new : History) → new.calls ≡ old.calls → new.judgements ≡ old.judgements → b ≡ a
      → Acts judges answers a b old new
  acts_none a b old new calls judgements same =
      ([], calls ∙ sym (append-nil old.calls), judgements ∙ sym (append-nil old.judgements), same)

  -- a head was judged
  pub acts_judged : (a b : S) (old new : History) (j : Judgement) → new.calls ≡ old.calls → new.judgements ≡ old.judgements ++ j ∷ []
      → judges a j.0 j.1 b → Acts judges answers a b old new
  acts_judged a b old new j calls judgements did =
      (judged j ∷ [], calls ∙ sym (append-nil old.calls), judgements, (b, did, refl))

  -- a request was answered
  pub acts_answered : (a b : S) (old new : History) (c : Call) → new.calls ≡ old.calls ++ c ∷ [] → new.judgements ≡ old.judgements
      → answers a c.0 c.1 b → Acts judges answers a b old new
  acts_answered a b old new c calls judgements did =
      (answered c ∷ [], calls, judgements ∙ sym (append-nil old.judgements), (b, did, refl))
