-- The laws.
use Rattle.std.proofs.Common.{◌≡◌, ◌≢◌, ℕ, zero, suc, ◌<◌, ◌⊎◌, false, List, [], ◌∷◌, ◌++◌, length, refl, sym, ap, ◌∙◌, subst, arith, append-nil, inl, inr}
use Rattle.std.proofs.lemmas.List.{append_cancel_right}
use Rattle.httparse.specs.Grammar.{print_request, ReadsRequest}
use Rattle.httparse.proofs.GrammarLemmas.{request_unique}
use Rattle.http1.specs.Message as Wire
use Rattle.http1.proofs.OneParse.{request_message_unique}
use Rattle.http_server.proofs.StreamLemmas.{accepts_unique}
use Rattle.dav_wire.specs.declared.answer.Asked.{Asked}
use Rattle.dav_wire.specs.declared.state.Config.{Config}
use Rattle.dav_wire.specs.declared.state.State.{State}
use Rattle.dav_wire.specs.declared.state.State.TheVariants.{Open, Closing, Aborted}
use Rattle.dav_wire.specs.declared.state.Reason.TheVariants as reason
use Rattle.dav_wire.specs.Exchange.{Call, ReadsCall, Serves}
use Rattle.dav_wire.specs.History.{History, Rests, Stands}
use Rattle.dav_wire.specs.Laws.{HeadsStandAlone, ReadsCalls, CallsAreRequests, RequestsAreDetermined, ConnectionsNeverStall}

pub heads_stand_alone : HeadsStandAlone
heads_stand_alone config stream m asked rest x =
    let same : print_request m.head ≡ asked.head =
    append_cancel_right _ _ x.reads.after_head (sym x.reads.head.reads.1 ∙ x.head) in
    let reads : ReadsRequest asked.head m.head [] =
    (x.reads.head.reads.0, sym same ∙ sym (append-nil (print_request m.head))) in
    record {
      reads = reads;
      only = λ k more z. request_unique asked.head k m.head more [] z reads;
      within = omega (arith, ap length same, x.reads.head.strict.0);
      few = x.few;
    }

calls_of : (config : Config) (calls : List Call) (stream text rest : List ℕ) → Serves config stream calls text rest
    → ReadsCalls config stream calls rest
calls_of config [] stream text rest x = x.0
calls_of config (c ∷ calls) stream text rest x =
    (x.exchange.message, x.after, x.exchange.request, calls_of config calls x.after x.others rest x.later)

calls_then : (config : Config) (calls : List Call) (stream mid rest : List ℕ) (c : Call) (m : Wire.Request) → ReadsCalls config stream calls mid
    → ReadsCall config mid m c.0 rest → ReadsCalls config stream (calls ++ c ∷ []) rest
calls_then config [] stream mid rest c m x y = (m, rest, subst (λ (t : List ℕ). ReadsCall config t m c.0 rest) (sym x) y, refl)
calls_then config (d ∷ calls) stream mid rest c m x y = (x.0, x.1, x.2, calls_then config calls x.1 mid rest c m x.3 y)

-- the calls of a history that were all answered, or of which one more was made
abbrev Reads : Config → List ℕ → List Call → Type 0
Reads config stream calls = (rest : List ℕ) × ReadsCalls config stream calls rest

all_answered : (config : Config) (stream rest : List ℕ) (answered calls : List Call) → ReadsCalls config stream answered rest
    → calls ≡ answered → Reads config stream calls
all_answered config stream rest answered calls x is = (rest, subst (λ (cs : List Call). ReadsCalls config stream cs rest) (sym is) x)

one_more : (config : Config) (stream mid rest : List ℕ) (answered calls : List Call) (c : Call) (m : Wire.Request)
    → ReadsCalls config stream answered mid → calls ≡ answered ++ c ∷ [] → ReadsCall config mid m c.0 rest → Reads config stream calls
one_more config stream mid rest answered calls c m x is y =
    (rest, subst (λ (cs : List Call). ReadsCalls config stream cs rest) (sym is) (calls_then config answered stream mid rest c m x y))

requests_at : (s : State) (config : Config) (h : History) (answered : List Call) (text interim rest : List ℕ)
    → ReadsCalls config h.received answered rest → Stands s config h answered text interim rest → Reads config h.received h.calls
requests_at Open config h answered text interim rest x y = all_answered config _ rest answered h.calls x y.0
requests_at (Closing reason.Asked) config h answered text interim rest x y =
    one_more config _ rest y.after answered h.calls y.call y.exchange.message x y.calls_are y.exchange.request
requests_at (Closing reason.EndOfInput) config h answered text interim rest x y =
    all_answered config _ rest answered h.calls x y.calls_are
requests_at (Closing (reason.Refused why)) config h answered text interim rest x y =
    all_answered config _ rest answered h.calls x y.0
requests_at (Closing (reason.Rejected why)) config h answered text interim rest x y =
    all_answered config _ rest answered h.calls x y.calls_are
requests_at (Closing (reason.Unsendable e)) config h answered text interim rest x y =
    let last = y.0.last in one_more config _ rest last.rest answered h.calls last.call last.message x last.calls_are last.request
requests_at Aborted config h answered text interim rest x y = elim y.calls [
  | inl none ↦ all_answered config _ rest answered h.calls x none
  | inr last ↦ one_more config _ rest last.rest answered h.calls last.call last.message x last.calls_are last.request
]

pub calls_are_requests : CallsAreRequests
calls_are_requests config h x =
    requests_at h.state config h x.answered x.text x.interim x.rest (calls_of config x.answered h.received x.text x.rest x.serves) x.stands

same_asked : (config : Config) (stream : List ℕ) (m n : Wire.Request) (a b : Asked) (r q : List ℕ) → ReadsCall config stream m a r
    → ReadsCall config stream n b q → (a ≡ b) × (r ≡ q)
same_asked config stream m n a b r q x y =
    let same = request_message_unique config.limits stream m n r q x.reads y.reads in
    let after = (accepts_unique x.reads.head y.reads.head).2 in
    let head : a.head ≡ b.head =
    append_cancel_right _ _ y.reads.after_head (ap (λ (t : List ℕ). a.head ++ t) (sym after) ∙ sym x.head ∙ y.head) in
    let body : a.body ≡ b.body = x.body ∙ ap (λ (k : Wire.Request). k.body.bytes) same.0 ∙ sym y.body in
    (λ i. record { head = head i; body = body i }, same.1)

pub requests_are_determined : RequestsAreDetermined
requests_are_determined config stream [] [] r q x y count = (refl, sym x ∙ y)
requests_are_determined config stream [] (d ∷ ys) r q x y count = absurd (omega (arith, count))
requests_are_determined config stream (c ∷ xs) [] r q x y count = absurd (omega (arith, count))
requests_are_determined config stream (c ∷ xs) (d ∷ ys) r q x y count =
    let first = same_asked config stream x.0 y.0 c.0 d.0 x.1 y.1 x.2 y.2 in
    let later = requests_are_determined config x.1 xs ys r q x.3
    (subst (λ (t : List ℕ). ReadsCalls config t ys q) (sym first.1) y.3) (omega (arith, count)) in
    (λ i. first.0 i ∷ later.0 i, later.1)

module _ (config : Config) (h : History) (rests : Rests config h) where
  -- with nothing to send
  idle : (s : State) → h.state ≡ s → length h.pending ≡ 0 → ((h.state ≡ Open) × (h.ended ≡ false)) ⊎ (h.state ≢ Open)
  idle Open is none = inl (is, (rests is (omega (arith, none))).0)
  idle (Closing why) is none = inr (λ wrong. cc)
  idle Aborted is none = inr (λ wrong. cc)

  sends_or_idles : (n : ℕ) → length h.pending ≡ n
      → (0 < length h.pending) ⊎ (((h.state ≡ Open) × (h.ended ≡ false)) ⊎ (h.state ≢ Open))
  sends_or_idles zero none = inr (idle h.state refl none)
  sends_or_idles (suc n) some = inl (omega (arith, some))

pub connections_never_stall : ConnectionsNeverStall
connections_never_stall config h rests = sends_or_idles config h rests (length h.pending) refl
