-- How much room the bodies that are being read take.
use Rattle.std.proofs.Common.{◌≡◌, ℕ, zero, suc, ◌+◌, ◌-◌, ◌<◌, ◌≤◌, ◌==◌, true, false, cond, List, [], ◌∷◌, length, set, replicate, Option, Some, None, refl, sym, ap, ◌∙◌, subst, arith}
use Rattle.std.proofs.lemmas.List.{set-set}
use Rattle.std.proofs.lemmas.List.Sums.{sum_by-set}
use Rattle.dav_wire.specs.History.{History, held, after_taken}
use Rattle.dav_turns.specs.declared.config.TurnsConfig.{TurnsConfig}
use Rattle.dav_turns.specs.Connections.{ConnectionView, Slots}
use Rattle.dav_turns.specs.Frames.{Order, ReportView}
use Rattle.dav_turns.specs.Turns.{Keeping, Server, server, Advances, Counts, Does, hello, opened, got, sent, gone, ticked, listed, measured, GoesOn, IsIn, IsFree, after_hearing, held_in, held_by, room_for, new_connection, slot_after}
use Rattle.dav_turns.specs.Laws.{Event, report, commit, Happens, BodiesFit}

-- ---- one slot

-- what others leave, where a place is free or taken
pub replaced : (xs : Slots) (i : ℕ) (v : Option ConnectionView) → i < length xs
    → held_by (set xs i v) ≡ held_by (set xs i None) + held_in v
replaced xs i v within =
    let now = sum_by-set held_in xs i v None within in
    let none = sum_by-set held_in xs i None None within in
    omega (arith, now, none)

pub without : (xs : Slots) (i : ℕ) (c : ConnectionView) → IsIn xs i c → held_by (set xs i None) + held c.history ≡ held_by xs
without xs i c x = omega (arith, sum_by-set held_in xs i None None x.within, ap held_in x.is)

pub into_free : (xs : Slots) (i : ℕ) (v : Option ConnectionView) → IsFree xs i → held_by (set xs i v) ≡ held_by xs + held_in v
into_free xs i v x = omega (arith, sum_by-set held_in xs i v None x.within, ap held_in x.is)

pub counts_without : (config : TurnsConfig) (n : ℕ) (xs : Slots) (i : ℕ) (c : ConnectionView) → Counts config n xs → IsIn xs i c
    → Counts config (n - held c.history) (set xs i None)
counts_without config n xs i c x is =
    let left = without xs i c is in
    record { counted = omega (arith, x.counted, left); fits = omega (arith, x.fits) }

pub counts_with : (config : TurnsConfig) (n : ℕ) (xs : Slots) (i : ℕ) (c : ConnectionView) → Counts config n xs → IsFree xs i
    → held c.history ≤ config.max_waiting - n → Counts config (n + held c.history) (set xs i (Some c))
counts_with config n xs i c x free fits =
    record { counted = omega (arith, x.counted, into_free xs i (Some c) free); fits = omega (arith, x.fits, fits) }

-- the room that the count leaves is that for the slot
pub room_is : (config : TurnsConfig) (n taken : ℕ) (xs : Slots) (i : ℕ) (c : ConnectionView) → taken ≡ held c.history
    → Counts config n xs → IsIn xs i c → config.max_waiting - (n - taken) ≡ room_for config i xs
room_is config n taken xs i c is x in_it = omega (arith, is, x.counted, without xs i c in_it)

pub in_room : {S : Type 0} {k : Keeping S} {bytes : Option (List ℕ)} {old new : ConnectionView} {was now : S} {room other : ℕ}
    → room ≡ other → Advances k room bytes old was new now → Advances k other bytes old was new now
in_room {k = k} {bytes = bytes} {old = old} {new = new} {was = was} {now = now} is x = subst (λ r. Advances k r bytes old was new now) is x

-- a connection that went on, and that comes back to its place, holds no more than the room for it
pub counts_back : (config : TurnsConfig) (n taken given : ℕ) (xs : Slots) (i : ℕ) (was mid after : ConnectionView) (v : Option ConnectionView)
    → Counts config n xs → IsIn xs i was → taken ≡ held was.history → given ≡ held after.history
    → (held was.history ≤ room_for config i xs → held mid.history ≤ room_for config i xs)
    → held after.history ≡ held mid.history
    → Counts config ((n - taken) + given) (set (set xs i v) i (Some after))
counts_back config n taken given xs i was mid after v x is taken_is given_is fits same =
    let left = without xs i was is in
    let room : held mid.history ≤ room_for config i xs = fits (omega (arith, left, x.counted, x.fits)) in
    let now : held_by (set (set xs i v) i (Some after)) ≡ held_by (set xs i None) + held after.history =
    ap held_by (set-set xs i v (Some after)) ∙ replaced xs i (Some after) is.within in
    record {
      counted = omega (arith, x.counted, left, taken_is, given_is, now);
      fits = omega (arith, x.counted, x.fits, left, taken_is, given_is, room, same);
    }

-- ---- new turns

pub none_held : (n : ℕ) → held_by (replicate n None) ≡ 0
none_held zero = refl
none_held (suc n) = none_held n

-- what is heard changes nothing of what is held
pub held_still : (bytes : Option (List ℕ)) (h : History) → held (after_hearing bytes h) ≡ held h
held_still None h = refl
held_still (Some bytes) h = elim h.ended as (λ b. held (cond b h (after_taken (record h { ended = false }) bytes)) ≡ held h) [ true ↦ refl | false ↦ refl ]

-- ---- what happens

module _ {S : Type 0} (k : Keeping S) (config : TurnsConfig) where
  goes_fit : (slot : ℕ) (bytes : Option (List ℕ)) (old new : Server S) (order : Order)
      → GoesOn k (room_for config slot old.slots) slot bytes old new order → held_by old.slots ≤ config.max_waiting
      → held_by new.slots ≤ config.max_waiting
  goes_fit slot bytes old new order g few =
      let left = without old.slots slot g.was g.is_in in
      let mid : held g.mid.history ≤ room_for config slot old.slots = g.advances.fits (omega (arith, left, few)) in
      let same : held g.after.history ≡ held g.mid.history = ap (λ (c : ConnectionView). held c.history) g.hands.dropped in
      let kept : held_in (slot_after order.next g.after) ≤ held g.after.history =
      elim (order.next == 2) as (λ b. held_in (cond b None (Some g.after)) ≤ held g.after.history) [ true ↦ omega arith | false ↦ omega arith ] in
      omega (
        arith,
        ap held_by g.slots,
        replaced old.slots slot (slot_after order.next g.after) g.is_in.within,
        mid,
        same,
        kept,
        left,
        few,
      )

  does_fit : (t : ReportView) (old new : Server S) (os : List Order) → Does k config t old new os
      → held_by old.slots ≤ config.max_waiting → held_by new.slots ≤ config.max_waiting
  does_fit t old new os (hello kind how still) few = omega (arith, ap held_by still.0, few)
  does_fit t old new os (ticked kind how still) few = omega (arith, ap held_by still.0, few)
  does_fit t old new os (listed kind how still) few = omega (arith, ap held_by still.0, few)
  does_fit t old new os (measured kind same still) few = omega (arith, ap held_by still.0, few)
  does_fit t old new os (opened kind opening same is) few =
      omega (arith, ap held_by opening.slots, into_free old.slots t.slot (Some (new_connection config.connection t.bytes)) opening.free, few)
  does_fit t old new os (gone kind ends same is) few =
      omega (arith, ap held_by ends.slots, without old.slots t.slot ends.gone ends.is_in, few)
  does_fit t old new os (got kind order goes is) few = goes_fit t.slot (Some t.bytes) old new order goes few
  does_fit t old new os (sent kind order goes is) few = goes_fit t.slot None old new order goes few

  pub happens_fit : (es : List Event) (old new : Server S) (os : List Order) → held_by old.slots ≤ config.max_waiting
      → Happens k config es old new os → held_by new.slots ≤ config.max_waiting
  happens_fit [] old new os few h = subst (λ (s : Server S). held_by s.slots ≤ config.max_waiting) (sym h.0) few
  happens_fit (report t ∷ es) old new os few h =
      happens_fit es h.0 new h.2 (does_fit t (server old.slots h.3.ready) h.0 h.1 h.3.does few) h.4
  happens_fit (commit ∷ es) old new os few h = happens_fit es (server old.slots h.0) new os few h.2

pub bodies_fit : {S : Type 0} (k : Keeping S) → BodiesFit k
bodies_fit k = record {
  first = λ config. none_held 4096;
  always = λ config events old new orders few h. happens_fit k config events old new orders few h;
}
