-- Where the front is to read on, the connection is at rest.
use Rattle.std.proofs.Common.{◌≡◌, ◌⊎◌, ℕ, ◌<◌, ◌≤◌, ◌||◌, nat_lt, Bool, true, false, cond, length, get_or, get_or-set_same, length-set, Some, None, refl, sym, ap, ◌∙◌, subst, arith, inl, inr}
use Rattle.std.proofs.lemmas.Bool.{ne_eqb, ltb-false, cond-false}
use Rattle.std.proofs.lemmas.List.{nil_from_length}
use Rattle.dav_wire.specs.declared.state.State.{State}
use Rattle.dav_wire.specs.declared.state.State.TheVariants.{Open, Closing, Aborted}
use Rattle.dav_wire.specs.History.{AreAllCalled, History}
use Rattle.dav_turns.specs.Connections.{ConnectionView, Slots}
use Rattle.dav_turns.specs.Turns.{Keeping, next_in, slot_after}
use Rattle.dav_turns.specs.Laws.{IsRead, ReadsOnlyAtRest}

bool : (b : Bool) → (b ≡ true) ⊎ (b ≡ false)
bool true = inl refl
bool false = inr refl

not_told : IsRead 0 → ⊥
not_told (inl e) = let wrong : 0 ≡ 1 = e in cc
not_told (inr (inl e)) = let wrong : 0 ≡ 3 = e in cc
not_told (inr (inr e)) = let wrong : 0 ≡ 4 = e in cc

not_closed : IsRead 2 → ⊥
not_closed (inl e) = let wrong : 2 ≡ 1 = e in cc
not_closed (inr (inl e)) = let wrong : 2 ≡ 3 = e in cc
not_closed (inr (inr e)) = let wrong : 2 ≡ 4 = e in cc

-- where one order of the two is to read, and the first is to tell
neither : (a b : Bool) (next : ℕ) → IsRead (cond (a || b) 0 next) → (a ≡ false) × (b ≡ false) × IsRead next
neither true b next e = absurd (not_told e)
neither false true next e = absurd (not_told e)
neither false false next e = (refl, refl, e)

opens : (h : History) (s : State) → IsRead (next_in h s) → s ≡ Open
opens h Open e = refl
opens h (Closing why) e = absurd (not_closed e)
opens h Aborted e = absurd (not_closed e)

pub reads_at_rest : {S : Type 0} (k : Keeping S) → ReadsOnlyAtRest k
reads_at_rest k room slot bytes old new order g reads =
    let mid = g.mid in
    let after = g.after in
    let now = neither (nat_lt mid.config.max_pending (length mid.history.pending)) (nat_lt 0 (length after.history.pending)) (next_in after.history after.history.state)
    (subst IsRead g.hands.next_is reads) in
    let is_open : after.history.state ≡ Open = opens after.history after.history.state now.2 in
    let was_open : mid.history.state ≡ Open = sym (ap (λ (c : ConnectionView). c.history.state) g.hands.dropped) ∙ is_open in
    let few : length mid.history.pending ≤ mid.config.max_pending = ltb-false _ _ now.0 in
    let rests = g.advances.rests was_open few in
    let stays : slot_after order.next after ≡ Some after =
    cond-false _ _ _ (ne_eqb order.next 2 (λ closes. not_closed (subst IsRead closes reads))) in (
      after,
      record {
        within = subst (λ (s : Slots). slot < length s) (sym g.slots) (omega (arith, length-set old.slots slot (slot_after order.next after), g.is_in.within));
        is = ap (λ (s : Slots). get_or s slot None) g.slots ∙ get_or-set_same old.slots slot (slot_after order.next after) None g.is_in.within ∙ stays;
      },
      record {
        is_open = is_open;
        goes_on = ap (λ (c : ConnectionView). c.history.ended) g.hands.dropped ∙ rests.0;
        sent = nil_from_length after.history.pending (omega (arith, ltb-false 0 (length after.history.pending) now.1));
        called = subst (λ (c : ConnectionView). AreAllCalled c.config.limits c.history) (sym g.hands.dropped) rests.1;
      },
    )
