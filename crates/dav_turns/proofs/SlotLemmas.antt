-- What was ordered for a slot are answers to what came on it.
use Rattle.std.proofs.Common.{◌≡◌, ◌≢◌, ◌⊎◌, ℕ, ◌==◌, ◌&&◌, ◌||◌, not, Bool, true, false, cond, List, [], ◌∷◌, ◌++◌, map, length, take, set, get_or, get_or-set_same, get_or-set_other, Option, Some, None, IsFalse, suc, ◌+◌, refl, sym, ap, ◌∙◌, subst, append_assoc, append-nil, arith, inl, inr}
use Rattle.std.proofs.lemmas.Bool.{eqb-true, eqb-false, eq-eqb, ne_eqb, cond-true, cond-false}
use Rattle.std.proofs.lemmas.List.{nil_from_length, map-append}
use Rattle.std.proofs.lemmas.List.Concat.{flat_map-append}
use Rattle.std.proofs.lemmas.List.Elements.{All-append, All-cons, All-head, All-nil, All-tail, filter-append}
use Rattle.std.proofs.lemmas.List.Folds.{list_any-append}
use Rattle.std.specs.List.{All, filter, filter_map, flat_map, list_any, prefix_len}
use Rattle.dav_wire.specs.declared.state.Config.{Config}
use Rattle.dav_turns.proofs.Readings.{some_heard}
use Rattle.dav_turns.specs.declared.config.TurnsConfig.{TurnsConfig}
use Rattle.dav_wire.specs.Exchange.{Act, judged, answered, Call, Judgement, Chain, calls_in, judgements_in}
use Rattle.dav_wire.specs.History.{Acts, History, IsServed, new_history, after_taken}
use Rattle.dav_turns.specs.Connections.{ConnectionView, Slots}
use Rattle.dav_turns.specs.Frames.{Order, ReportView}
use Rattle.dav_turns.specs.Turns.{Keeping, Server, server, HeardAll, Does, hello, opened, got, sent, gone, ticked, listed, measured, GoesOn, after_hearing, room_for, slot_after, new_connection}
use Rattle.dav_turns.specs.Laws.{Event, report, commit, report_in, Happens, turn_events, TurnsHappen, came_on, opens, pieces, stream_of, bytes_for, IsGiven, AreGiven, IsVerdict, AreVerdicts, AreAnswersTo, OrdersAnswerWhatCame}

-- ---- events

module _ {S : Type 0} (k : Keeping S) (config : TurnsConfig) where
  pub join : (xs ys : List Event) (old mid new : Server S) (first later : List Order)
      → Happens k config xs old mid first → Happens k config ys mid new later → Happens k config (xs ++ ys) old new (first ++ later)
  join [] ys old mid new first later was h =
      subst (λ (m : Server S). Happens k config ys m new (first ++ later)) was.0
      (subst (λ (os : List Order). Happens k config ys mid new (os ++ later)) (sym was.1) h)
  join (report t ∷ xs) ys old mid new first later was h = (
    was.0,
    was.1,
    was.2 ++ later,
    was.3,
    join xs ys was.0 mid new was.2 later was.4 h,
    ap (λ (os : List Order). os ++ later) was.5 ∙ append_assoc was.1 was.2 later,
  )
  join (commit ∷ xs) ys old mid new first later was h =
      (was.0, was.1, join xs ys (server old.slots was.0) mid new first later was.2 h)

  heard_happens : (ts : List ReportView) (old new : Server S) (orders : List Order) → HeardAll k config ts old new orders
      → Happens k config (map report ts) old new orders
  heard_happens [] old new orders h = h
  heard_happens (t ∷ ts) old new orders h = (h.0, h.1, h.2, h.3, heard_happens ts h.0 new h.2 h.4, h.5)

  pub turn_happens : (ts : List ReportView) (old new : Server S) (kept : S) (orders : List Order) → HeardAll k config ts old new orders
      → k.kept new.keeper kept → Happens k config (turn_events ts) old (server new.slots kept) orders
  turn_happens ts old new kept orders h keeps =
      subst (Happens k config (turn_events ts) old (server new.slots kept)) (append-nil orders)
      (join (map report ts) (commit ∷ []) old new (server new.slots kept) orders [] (heard_happens ts old new orders h) (kept, keeps, (refl, refl)))

pub turns_happen : {S : Type 0} (k : Keeping S) → TurnsHappen k
turns_happen k = record {
  turns = λ reports used old was new now orders x. (
    x.hears.long,
    x.hears.short,
    x.hears.rest,
    x.hears.reads,
    x.hears.left,
    turn_happens k old.config (x.hears.long ++ x.hears.short) (server old.slots was) (server new.slots x.last) now orders x.hears.heard x.keeps,
  );
  join = join k;
  goes_on = λ input t used old was new now orders begins x. some_heard input t used x.hears.long x.hears.short x.hears.rest begins x.hears.reads x.hears.left x.hears.used_is;
}

-- ---- pieces

-- whether one of the pieces is the end
abbrev has_end : List (List ℕ) → Bool
has_end ps = list_any (λ p. length p == 0) ps

stream-end : (p : List ℕ) (ps : List (List ℕ)) → (length p == 0) ≡ true → stream_of (p ∷ ps) ≡ []
stream-end p ps e =
    ap (λ b. flat_map (λ (q : List ℕ). q) (take (cond (not b) (1 + prefix_len (λ q. not (length q == 0)) ps) 0) (p ∷ ps))) e

stream-cons : (p : List ℕ) (ps : List (List ℕ)) → (length p == 0) ≡ false → stream_of (p ∷ ps) ≡ p ++ stream_of ps
stream-cons p ps e =
    let n = prefix_len (λ q. not (length q == 0)) ps in
    let one : 1 + n ≡ suc n = omega arith in
    ap (λ b. flat_map (λ (q : List ℕ). q) (take (cond (not b) (1 + n) 0) (p ∷ ps))) e
    ∙ ap (λ m. flat_map (λ (q : List ℕ). q) (take m (p ∷ ps))) one

bool : (b : Bool) → (b ≡ true) ⊎ (b ≡ false)
bool true = inl refl
bool false = inr refl

stream_after : (ps : List (List ℕ)) (b : List ℕ) → has_end ps ≡ true → stream_of (ps ++ b ∷ []) ≡ stream_of ps
stream_after [] b e = absurd (let wrong : true ≡ false = sym e in cc)
stream_after (p ∷ ps) b e =
    elim (bool (length p == 0)) [
      | inl is ↦ stream-end p (ps ++ b ∷ []) is ∙ sym (stream-end p ps is)
      | inr isnt ↦
          let rest : has_end ps ≡ true = sym (ap (λ v. v || has_end ps) isnt) ∙ e in
          stream-cons p (ps ++ b ∷ []) isnt ∙ ap (λ t. p ++ t) (stream_after ps b rest) ∙ sym (stream-cons p ps isnt)
    ]

stream_more : (ps : List (List ℕ)) (b : List ℕ) → has_end ps ≡ false → stream_of (ps ++ b ∷ []) ≡ stream_of ps ++ b
stream_more [] b e =
    elim (bool (length b == 0)) [
      | inl is ↦ stream-end b [] is ∙ sym (nil_from_length b (eqb-true (length b) 0 is))
      | inr isnt ↦ stream-cons b [] isnt ∙ append-nil b
    ]
stream_more (p ∷ ps) b e =
    elim (bool (length p == 0)) [
      | inl is ↦ absurd (let wrong : true ≡ false = sym (ap (λ v. v || has_end ps) is) ∙ e in cc)
      | inr isnt ↦
          let rest : has_end ps ≡ false = sym (ap (λ v. v || has_end ps) isnt) ∙ e in
          stream-cons p (ps ++ b ∷ []) isnt
          ∙ ap (λ t. p ++ t) (stream_more ps b rest)
          ∙ sym (append_assoc p (stream_of ps) b)
          ∙ ap (λ t. t ++ b) (sym (stream-cons p ps isnt))
    ]

-- ---- what a connection heard

-- the piece that came, where one did
abbrev piece : Option (List ℕ) → List (List ℕ)
piece None = []
piece (Some bytes) = bytes ∷ []

record Hears (h : History) (ps : List (List ℕ)) (out : List ℕ) : Type 0 where
  received : h.received ≡ stream_of ps
  ended : h.ended ≡ has_end ps
  sent : h.sent ≡ out

hears : (bytes : Option (List ℕ)) (h : History) (ps : List (List ℕ)) (out : List ℕ) → Hears h ps out
    → Hears (after_hearing bytes h) (ps ++ piece bytes) out
hears None h ps out x = subst (λ qs. Hears h qs out) (sym (append-nil ps)) x
hears (Some b) h ps out x =
    elim (bool h.ended) [
      | inl over ↦
          let same : after_taken h b ≡ h = cond-true h.ended h _ over in
          let was : has_end ps ≡ true = sym x.ended ∙ over in
          record {
            received = ap (λ (t : History). t.received) same ∙ x.received ∙ sym (stream_after ps b was);
            ended = ap (λ (t : History). t.ended) same ∙ over
                ∙ sym (list_any-append (λ p. length p == 0) ps (b ∷ []) ∙ ap (λ v. v || has_end (b ∷ [])) was);
            sent = ap (λ (t : History). t.sent) same ∙ x.sent;
          }
      | inr goes ↦
          let more : after_taken h b ≡ record h { received = h.received ++ b; unread = h.unread ++ b; ended = length b == 0 } =
          cond-false h.ended h _ goes in
          let was : has_end ps ≡ false = sym x.ended ∙ goes in
          let last : has_end (b ∷ []) ≡ (length b == 0) = elim (length b == 0) as (λ v. (v || false) ≡ v) [ true ↦ refl | false ↦ refl ] in
          record {
            received = ap (λ (t : History). t.received) more ∙ ap (λ t. t ++ b) x.received ∙ sym (stream_more ps b was);
            ended = ap (λ (t : History). t.ended) more ∙ sym last
                ∙ sym (list_any-append (λ p. length p == 0) ps (b ∷ []) ∙ ap (λ v. v || has_end (b ∷ [])) was);
            sent = ap (λ (t : History). t.sent) more ∙ x.sent;
          }
    ]

-- what an act of the keeper adds is the keeper's
abbrev AreTheirs : {S : Type 0} → Keeping S → List Call → List Judgement → Type 0
AreTheirs k calls judgements = AreGiven k calls × AreVerdicts k judgements

by_chain : {S : Type 0} (k : Keeping S) (acts : List Act) (first last : S) → Chain k.judges k.answers first acts last
    → AreTheirs k (calls_in acts) (judgements_in acts)
by_chain k [] first last chain = (All-nil (IsGiven k), All-nil (IsVerdict k))
by_chain k (judged j ∷ acts) first last chain =
    let later = by_chain k acts chain.0 last chain.2 in
    (later.0, All-cons (IsVerdict k) j (judgements_in acts) (first, chain.0, chain.1) later.1)
by_chain k (answered c ∷ acts) first last chain =
    let later = by_chain k acts chain.0 last chain.2 in
    (All-cons (IsGiven k) c (calls_in acts) (first, chain.0, chain.1) later.0, later.1)

-- what a connection hears is no act of the keeper
still_at : (over : Bool) (h k : History) → k.calls ≡ h.calls → k.judgements ≡ h.judgements
    → ((cond over h k).calls ≡ h.calls) × ((cond over h k).judgements ≡ h.judgements)
still_at true h k calls judgements = (refl, refl)
still_at false h k calls judgements = (calls, judgements)

heard_still : (bytes : Option (List ℕ)) (h : History)
    → ((after_hearing bytes h).calls ≡ h.calls) × ((after_hearing bytes h).judgements ≡ h.judgements)
heard_still None h = (refl, refl)
heard_still (Some bytes) h =
    still_at h.ended h (record h { received = h.received ++ bytes; unread = h.unread ++ bytes; ended = length bytes == 0 }) refl refl

given_by : {S : Type 0} (k : Keeping S) (first last : S) (bytes : Option (List ℕ)) (old new : History)
    → AreTheirs k old.calls old.judgements → Acts k.judges k.answers first last (after_hearing bytes old) new
    → AreTheirs k new.calls new.judgements
given_by k first last bytes old new are did =
    let more = by_chain k did.0 first last did.3 in
    let still = heard_still bytes old in (
      subst (AreGiven k) (sym (did.1 ∙ ap (λ (t : List Call). t ++ calls_in did.0) still.0))
          (All-append (IsGiven k) old.calls (calls_in did.0) are.0 more.0),
      subst (AreVerdicts k) (sym (did.2 ∙ ap (λ (t : List Judgement). t ++ judgements_in did.0) still.1))
          (All-append (IsVerdict k) old.judgements (judgements_in did.0) are.1 more.1),
    )

-- ---- a slot between two events

-- the connection came, and is there
record IsThere {S : Type 0} (k : Keeping S) (config : Config) (slots : Slots) (slot : ℕ) (ps : List (List ℕ)) (out : List ℕ) : Type 0 where
  connection : ConnectionView
  is : get_or slots slot None ≡ Some connection
  config_is : connection.config ≡ config
  hears : Hears connection.history ps out
  served : ∥ IsServed config connection.history ∥₁
  given : AreTheirs k connection.history.calls connection.history.judgements

-- it came, and was gone
record WasThere {S : Type 0} (k : Keeping S) (config : Config) (slots : Slots) (slot : ℕ) (ps : List (List ℕ)) (out : List ℕ) : Type 0 where
  is : get_or slots slot None ≡ None
  answers : AreAnswersTo k config (stream_of ps) out

abbrev Tracks : {S : Type 0} → Keeping S → Config → Slots → ℕ → List (List ℕ) → List ℕ → Type 0
Tracks k config slots slot ps out = IsThere k config slots slot ps out ⊎ WasThere k config slots slot ps out

-- nothing happened to the slot
stays : {S : Type 0} (k : Keeping S) (config : Config) (olds news : Slots) (slot : ℕ) (ps qs : List (List ℕ)) (out more : List ℕ) → get_or news slot None ≡ get_or olds slot None
    → qs ≡ [] → more ≡ [] → Tracks k config olds slot ps out → Tracks k config news slot (ps ++ qs) (out ++ more)
stays k config olds news slot ps qs out more e p o x =
    let pieces_are : ps ≡ ps ++ qs = sym (append-nil ps) ∙ ap (λ t. ps ++ t) (sym p) in
    let out_is : out ≡ out ++ more = sym (append-nil out) ∙ ap (λ t. out ++ t) (sym o) in
    subst (λ t. Tracks k config news slot t (out ++ more)) pieces_are
    (subst (λ t. Tracks k config news slot ps t) out_is
    (elim x [
      | inl y ↦ inl (record { connection = y.connection; is = e ∙ y.is; config_is = y.config_is; hears = y.hears; served = y.served; given = y.given })
      | inr y ↦ inr (record { is = e ∙ y.is; answers = y.answers })
    ]))

answers_of : {S : Type 0} (k : Keeping S) (config : Config) (slots : Slots) (slot : ℕ) (ps : List (List ℕ)) (out : List ℕ) → Tracks k config slots slot ps out
    → AreAnswersTo k config (stream_of ps) out
answers_of k config slots slot ps out (inl x) =
    record { history = x.connection.history; received = x.hears.received; sent = x.hears.sent; served = x.served; given = x.given.0; judged = x.given.1 }
answers_of k config slots slot ps out (inr x) = x.answers

-- ---- what is of a slot, and what isn't

other_kind : (slot : ℕ) (t : ReportView) → t.kind ≢ 2 → pieces slot (report t ∷ []) ≡ []
other_kind slot t e = ap (λ b. map (λ (u : ReportView). u.bytes) (cond (b && (t.slot == slot)) (t ∷ []) [])) (ne_eqb t.kind 2 e)

other_slot : (slot : ℕ) (t : ReportView) → t.slot ≢ slot → pieces slot (report t ∷ []) ≡ []
other_slot slot t e =
    let none : came_on slot t ≡ false =
    ap (λ b. (t.kind == 2) && b) (ne_eqb t.slot slot e) ∙ (elim (t.kind == 2) as (λ v. (v && false) ≡ false) [ true ↦ refl | false ↦ refl ]) in
    ap (λ b. map (λ (u : ReportView). u.bytes) (cond b (t ∷ []) [])) none

own_piece : (slot : ℕ) (t : ReportView) → t.kind ≡ 2 → t.slot ≡ slot → pieces slot (report t ∷ []) ≡ t.bytes ∷ []
own_piece slot t k e =
    let mine : came_on slot t ≡ true = ap (λ b. b && (t.slot == slot)) (eq-eqb t.kind 2 k) ∙ eq-eqb t.slot slot e in
    ap (λ b. map (λ (u : ReportView). u.bytes) (cond b (t ∷ []) [])) mine

other_order : (slot : ℕ) (o : Order) → o.slot ≢ slot → bytes_for slot (o ∷ []) ≡ []
other_order slot o e = ap (λ b. flat_map (λ (p : Order). p.bytes) (cond b (o ∷ []) [])) (ne_eqb o.slot slot e)

own_order : (slot : ℕ) (o : Order) → o.slot ≡ slot → bytes_for slot (o ∷ []) ≡ o.bytes
own_order slot o e =
    ap (λ b. flat_map (λ (p : Order). p.bytes) (cond b (o ∷ []) [])) (eq-eqb o.slot slot e) ∙ append-nil o.bytes

-- ---- a connection goes on

module _ {S : Type 0} (k : Keeping S) (limits : TurnsConfig) where
  abbrev config : Config
  config = limits.connection

  -- in its own slot
  goes_on : (room slot : ℕ) (bytes : Option (List ℕ)) (old new : Server S) (order : Order) (ps : List (List ℕ)) (out : List ℕ)
      → GoesOn k room slot bytes old new order → Tracks k config old.slots slot ps out
      → Tracks k config new.slots slot (ps ++ piece bytes) (out ++ order.bytes)
  goes_on room slot bytes old new order ps out g (inr x) = absurd (let wrong = sym x.is ∙ g.is_in.is in cc)
  goes_on room slot bytes old new order ps out g (inl x) =
      let same : x.connection ≡ g.was = (let both = sym x.is ∙ g.is_in.is in cc) in
      let heard_so = hears bytes g.was.history ps out (subst (λ (c : ConnectionView). Hears c.history ps out) same x.hears) in
      let quiet = g.advances.quiet in
      let config_is : g.after.config ≡ config =
      ap (λ (c : ConnectionView). c.config) g.hands.dropped ∙ ap (λ (c : ConnectionView). c.config) g.advances.stays
      ∙ sym (ap (λ (c : ConnectionView). c.config) same) ∙ x.config_is in
      let served : ∥ IsServed config g.after.history ∥₁ =
      subst (λ (c : Config). ∥ IsServed c g.after.history ∥₁) config_is g.hands.served in
      let given : AreTheirs k g.after.history.calls g.after.history.judgements =
      subst (λ (c : ConnectionView). AreTheirs k c.history.calls c.history.judgements) (sym g.hands.dropped)
      (given_by k g.advances.ready new.keeper bytes g.was.history g.mid.history
      (subst (λ (c : ConnectionView). AreTheirs k c.history.calls c.history.judgements) same x.given) g.advances.acts) in
      let now : Hears g.after.history (ps ++ piece bytes) (out ++ order.bytes) = record {
        received = ap (λ (c : ConnectionView). c.history.received) g.hands.dropped ∙ quiet.0 ∙ heard_so.received;
        ended = ap (λ (c : ConnectionView). c.history.ended) g.hands.dropped ∙ quiet.1 ∙ heard_so.ended;
        sent = ap (λ (c : ConnectionView). c.history.sent) g.hands.dropped ∙ ap (λ t. g.mid.history.sent ++ t) (sym g.hands.front)
            ∙ ap (λ t. t ++ order.bytes) (quiet.2 ∙ heard_so.sent);
      } in
      let place : get_or new.slots slot None ≡ slot_after order.next g.after =
      ap (λ (s : Slots). get_or s slot None) g.slots ∙ get_or-set_same old.slots slot (slot_after order.next g.after) None g.is_in.within in
      elim (bool (order.next == 2)) [
        | inl closes ↦
            inr (record {
              is = place ∙ cond-true _ _ _ closes;
              answers = record { history = g.after.history; received = now.received; sent = now.sent; served = served; given = given.0; judged = given.1 };
            })
        | inr opens ↦
            inl (record { connection = g.after; is = place ∙ cond-false _ _ _ opens; config_is = config_is; hears = now; served = served; given = given })
      ]

  -- in another slot
  passes : (slot other : ℕ) (v : Option ConnectionView) (olds news : Slots) → news ≡ set olds other v → slot ≢ other
      → get_or news slot None ≡ get_or olds slot None
  passes slot other v olds news e differs =
      ap (λ (s : Slots). get_or s slot None) e ∙ get_or-set_other olds other slot v None differs

  -- ---- reports

  decide : (a b : ℕ) → (a ≡ b) ⊎ (a ≢ b)
  decide a b = elim (bool (a == b)) [ inl e ↦ inl (eqb-true a b e) | inr e ↦ inr (eqb-false a b e) ]

  does : (slot : ℕ) (t : ReportView) (old new : Server S) (os : List Order) (ps : List (List ℕ)) (out : List ℕ)
      → IsFalse (opens slot t) → Does k limits t old new os → Tracks k config old.slots slot ps out
      → Tracks k config new.slots slot (ps ++ pieces slot (report t ∷ [])) (out ++ bytes_for slot os)
  does slot t old new os ps out once (hello kind how still) x =
      stays k config old.slots new.slots slot ps _ out _ (ap (λ (s : Slots). get_or s slot None) still.0)
      (other_kind slot t (λ e. let wrong = sym kind ∙ e in cc)) (ap (bytes_for slot) still.1) x
  does slot t old new os ps out once (ticked kind how still) x =
      stays k config old.slots new.slots slot ps _ out _ (ap (λ (s : Slots). get_or s slot None) still.0)
      (other_kind slot t (λ e. let wrong = sym kind ∙ e in cc)) (ap (bytes_for slot) still.1) x
  does slot t old new os ps out once (listed kind how still) x =
      stays k config old.slots new.slots slot ps _ out _ (ap (λ (s : Slots). get_or s slot None) still.0)
      (other_kind slot t (λ e. let wrong = sym kind ∙ e in cc)) (ap (bytes_for slot) still.1) x
  does slot t old new os ps out once (measured kind same still) x =
      stays k config old.slots new.slots slot ps _ out _ (ap (λ (s : Slots). get_or s slot None) still.0)
      (other_kind slot t (λ e. let wrong = sym kind ∙ e in cc)) (ap (bytes_for slot) still.1) x
  does slot t old new os ps out once (opened kind opening same is) x =
      let other : t.slot ≢ slot =
      λ e. let mine : opens slot t ≡ true = ap (λ b. b && (t.slot == slot)) (eq-eqb t.kind 1 kind) ∙ eq-eqb t.slot slot e in
      let wrong : true ≡ false = sym mine ∙ once in cc in
      stays k config old.slots new.slots slot ps _ out _ (passes slot t.slot _ old.slots new.slots opening.slots (λ e. other (sym e)))
      (other_slot slot t other) (ap (bytes_for slot) is ∙ other_order slot _ other) x
  does slot t old new os ps out once (gone kind ends same is) x =
      elim (decide t.slot slot) [
        | inl e ↦
            let gone_so : get_or new.slots slot None ≡ None =
            subst (λ s. get_or new.slots s None ≡ None) e
            (ap (λ (s : Slots). get_or s t.slot None) ends.slots ∙ get_or-set_same old.slots t.slot None None ends.is_in.within) in
            let none : pieces slot (report t ∷ []) ≡ [] = other_kind slot t (λ e. let wrong = sym kind ∙ e in cc) in
            subst (λ qs. Tracks k config new.slots slot (ps ++ qs) (out ++ bytes_for slot os)) (sym none)
            (subst (λ qs. Tracks k config new.slots slot (ps ++ []) (out ++ qs)) (sym (ap (bytes_for slot) is))
            (subst (λ qs. Tracks k config new.slots slot qs (out ++ [])) (sym (append-nil ps))
            (subst (λ qs. Tracks k config new.slots slot ps qs) (sym (append-nil out))
            (inr (record { is = gone_so; answers = answers_of k config old.slots slot ps out x })))))
        | inr other ↦
            stays k config old.slots new.slots slot ps _ out _ (passes slot t.slot _ old.slots new.slots ends.slots (λ e. other (sym e)))
            (other_slot slot t other) (ap (bytes_for slot) is) x
      ]
  does slot t old new os ps out once (got kind order goes is) x =
      elim (decide t.slot slot) [
        | inl e ↦
            let here = goes_on _ slot (Some t.bytes) old new order ps out (subst (λ s. GoesOn k (room_for limits t.slot old.slots) s (Some t.bytes) old new order) e goes) x in
            subst (λ qs. Tracks k config new.slots slot (ps ++ qs) (out ++ bytes_for slot os)) (sym (own_piece slot t kind e))
            (subst (λ qs. Tracks k config new.slots slot (ps ++ t.bytes ∷ []) (out ++ qs))
            (sym (ap (bytes_for slot) is ∙ own_order slot order (goes.slot_is ∙ e))) here)
        | inr other ↦
            stays k config old.slots new.slots slot ps _ out _ (passes slot t.slot _ old.slots new.slots goes.slots (λ e. other (sym e)))
            (other_slot slot t other) (ap (bytes_for slot) is ∙ other_order slot order (λ e. other (sym goes.slot_is ∙ e))) x
      ]
  does slot t old new os ps out once (sent kind order goes is) x =
      elim (decide t.slot slot) [
        | inl e ↦
            let here = goes_on _ slot None old new order ps out (subst (λ s. GoesOn k (room_for limits t.slot old.slots) s None old new order) e goes) x in
            subst (λ qs. Tracks k config new.slots slot (ps ++ qs) (out ++ bytes_for slot os))
            (sym (other_kind slot t (λ e. let wrong = sym kind ∙ e in cc)))
            (subst (λ qs. Tracks k config new.slots slot (ps ++ []) (out ++ qs))
            (sym (ap (bytes_for slot) is ∙ own_order slot order (goes.slot_is ∙ e))) here)
        | inr other ↦
            stays k config old.slots new.slots slot ps _ out _ (passes slot t.slot _ old.slots new.slots goes.slots (λ e. other (sym e)))
            (other_slot slot t other) (ap (bytes_for slot) is ∙ other_order slot order (λ e. other (sym goes.slot_is ∙ e))) x
      ]

  -- ---- all events

  pieces_after : (slot : ℕ) (t : ReportView) (es : List Event)
      → pieces slot (report t ∷ es) ≡ pieces slot (report t ∷ []) ++ pieces slot es
  pieces_after slot t es =
      ap (map (λ (u : ReportView). u.bytes)) (filter-append (came_on slot) (t ∷ []) (filter_map report_in es))
      ∙ map-append (λ (u : ReportView). u.bytes) (filter (came_on slot) (t ∷ [])) (filter (came_on slot) (filter_map report_in es))

  bytes_for_all : (slot : ℕ) (xs ys : List Order) → bytes_for slot (xs ++ ys) ≡ bytes_for slot xs ++ bytes_for slot ys
  bytes_for_all slot xs ys =
      ap (flat_map (λ (o : Order). o.bytes)) (filter-append (λ o. o.slot == slot) xs ys)
      ∙ flat_map-append (λ (o : Order). o.bytes) (filter (λ o. o.slot == slot) xs) (filter (λ o. o.slot == slot) ys)

  tracks : (slot : ℕ) (es : List Event) (old new : Server S) (os : List Order) (ps : List (List ℕ)) (out : List ℕ)
      → All (λ t. IsFalse (opens slot t)) (filter_map report_in es) → Happens k limits es old new os
      → Tracks k config old.slots slot ps out → Tracks k config new.slots slot (ps ++ pieces slot es) (out ++ bytes_for slot os)
  tracks slot [] old new os ps out once h x =
      stays k config old.slots new.slots slot ps _ out _ (ap (λ (s : Server S). get_or s.slots slot None) h.0) refl (ap (bytes_for slot) h.1) x
  tracks slot (report t ∷ es) old new os ps out once h x =
      let first = does slot t (server old.slots h.3.ready) h.0 h.1 ps out (All-head (λ t. IsFalse (opens slot t)) t (filter_map report_in es) once) h.3.does x in
      let others = tracks slot es h.0 new h.2 (ps ++ pieces slot (report t ∷ [])) (out ++ bytes_for slot h.1)
      (All-tail (λ t. IsFalse (opens slot t)) t (filter_map report_in es) once) h.4 first in
      subst (λ qs. Tracks k config new.slots slot qs (out ++ bytes_for slot os))
      (append_assoc ps (pieces slot (report t ∷ [])) (pieces slot es) ∙ ap (λ qs. ps ++ qs) (sym (pieces_after slot t es)))
      (subst (λ bytes. Tracks k config new.slots slot ((ps ++ pieces slot (report t ∷ [])) ++ pieces slot es) bytes)
      (append_assoc out (bytes_for slot h.1) (bytes_for slot h.2) ∙ ap (λ bytes. out ++ bytes) (sym (ap (bytes_for slot) h.5 ∙ bytes_for_all slot h.1 h.2))) others)
  tracks slot (commit ∷ es) old new os ps out once h x = tracks slot es (server old.slots h.0) new os ps out once h.2 x

  -- ---- a connection comes

  pub fresh : IsServed config new_history
  fresh = record { answered = []; text = []; rest = []; serves = (refl, refl); interim = []; is_interim = inl refl; stands = (refl, refl, inl refl) }

  comes : (t : ReportView) (old new : Server S) (os : List Order) → t.kind ≡ 1 → Does k limits t old new os
      → Tracks k config new.slots t.slot [] (bytes_for t.slot os)
  comes t old new os is (opened kind opening same o) =
      let none : [] ≡ bytes_for t.slot os = sym (ap (bytes_for t.slot) o ∙ own_order t.slot _ refl) in
      inl (record {
        connection = new_connection config t.bytes;
        is = ap (λ (s : Slots). get_or s t.slot None) opening.slots ∙ get_or-set_same old.slots t.slot _ None opening.free.within;
        config_is = refl;
        hears = record { received = refl; ended = refl; sent = none };
        served = ∣ fresh ∣₁;
        given = (All-nil (IsGiven k), All-nil (IsVerdict k));
      })
  comes t old new os is (hello kind how still) = absurd (let wrong = sym kind ∙ is in cc)
  comes t old new os is (ticked kind how still) = absurd (let wrong = sym kind ∙ is in cc)
  comes t old new os is (listed kind how still) = absurd (let wrong = sym kind ∙ is in cc)
  comes t old new os is (measured kind same still) = absurd (let wrong = sym kind ∙ is in cc)
  comes t old new os is (gone kind ends same o) = absurd (let wrong = sym kind ∙ is in cc)
  comes t old new os is (got kind order goes o) = absurd (let wrong = sym kind ∙ is in cc)
  comes t old new os is (sent kind order goes o) = absurd (let wrong = sym kind ∙ is in cc)

pub orders_answer : {S : Type 0} (k : Keeping S) → OrdersAnswerWhatCame k
orders_answer k limits t es old new os is once h =
    let came = comes k limits t (server old.slots h.3.ready) h.0 h.1 is h.3.does in
    let x = tracks k limits t.slot es h.0 new h.2 [] (bytes_for t.slot h.1) once h.4 came in
    subst (AreAnswersTo k limits.connection (stream_of (pieces t.slot es))) (sym (ap (bytes_for t.slot) h.5 ∙ bytes_for_all k limits t.slot h.1 h.2))
    (answers_of k limits.connection new.slots t.slot (pieces t.slot es) (bytes_for t.slot h.1 ++ bytes_for t.slot h.2) x)
