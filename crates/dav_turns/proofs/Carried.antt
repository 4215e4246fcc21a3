-- What each thing that a keeper does carries from state to state, a turn carries.
use Rattle.std.proofs.Common.{ℕ, Option, List, [], ◌∷◌, ◌++◌, sym, subst}
use Rattle.http_server.specs.declared.response.Response.{Response}
use Rattle.dav_wire.specs.declared.answer.Asked.{Asked}
use Rattle.dav_wire.specs.declared.answer.Rejection.{Rejection}
use Rattle.dav_wire.specs.Exchange.{Act, judged, answered, Chain}
use Rattle.dav_turns.specs.Connections.{TurnsView}
use Rattle.dav_turns.specs.Frames.{Order, ReportView}
use Rattle.dav_turns.specs.Turns.{Does, GoesOn, Heard, HeardAll, Keeping, Server, Turn, got, gone, hello, listed, measured, opened, sent, server, ticked}
use Rattle.dav_turns.specs.declared.config.TurnsConfig.{TurnsConfig}

-- a relation between states holds of each thing that a keeper does, of doing nothing, and of two things after each other
pub record Carries {S : Type 0} (k : Keeping S) (R : S → S → Type 0) : Type 0 where
  pub same : (s : S) → R s s
  pub joined : (a b c : S) → R a b → R b c → R a c
  pub judges : (a : S) (head : List ℕ) (verdict : Option Rejection) (b : S) → k.judges a head verdict b → R a b
  pub answers : (a : S) (asked : Asked) (response : Response) (b : S) → k.answers a asked response b → R a b
  pub greeted : (a : S) (bytes : List ℕ) (b : S) → k.greeted a bytes b → R a b
  pub listed : (a : S) (bytes : List ℕ) (b : S) → k.listed a bytes b → R a b
  pub placed : (a : S) (address : List ℕ) (b : S) → k.placed a address b → R a b
  pub passed : (a : S) (seconds date : ℕ) (b : S) → k.passed a seconds date b → R a b
  pub marked : (a b : S) → k.marked a b → R a b
  pub kept : (a b : S) → k.kept a b → R a b

module _ {S : Type 0} (k : Keeping S) (R : S → S → Type 0) (c : Carries k R) where
  chain_carries : (first last : S) (acts : List Act) → Chain k.judges k.answers first acts last → R first last
  chain_carries first last [] is = subst (R first) (sym is) (c.same first)
  chain_carries first last (judged x ∷ xs) (second, did, later) = c.joined first second last (c.judges first x.0 x.1 second did) (chain_carries second last xs later)
  chain_carries first last (answered x ∷ xs) (second, did, later) = c.joined first second last (c.answers first x.0 x.1 second did) (chain_carries second last xs later)

  slot_carries : (room slot : ℕ) (bytes : _) (old new : Server S) (order : Order) → GoesOn k room slot bytes old new order → R old.keeper new.keeper
  slot_carries room slot bytes old new order g =
      let a = g.advances in
      c.joined old.keeper a.ready new.keeper (c.placed old.keeper g.was.address a.ready a.placed) (chain_carries a.ready new.keeper a.acts.0 a.acts.3)

  does_carries : (config : TurnsConfig) (t : ReportView) (old new : Server S) (orders : List Order) → Does k config t old new orders → R old.keeper new.keeper
  does_carries config t old new orders (hello is greets still) = c.greeted old.keeper t.bytes new.keeper greets
  does_carries config t old new orders (opened is opens same ordered) = subst (R old.keeper) (sym same) (c.same old.keeper)
  does_carries config t old new orders (got is order goes ordered) = slot_carries _ t.slot _ old new order goes
  does_carries config t old new orders (sent is order goes ordered) = slot_carries _ t.slot _ old new order goes
  does_carries config t old new orders (gone is ends same ordered) = subst (R old.keeper) (sym same) (c.same old.keeper)
  does_carries config t old new orders (ticked is marks still) = c.marked old.keeper new.keeper marks
  does_carries config t old new orders (listed is lists still) = c.listed old.keeper t.bytes new.keeper lists
  does_carries config t old new orders (measured is same still) = subst (R old.keeper) (sym same) (c.same old.keeper)

  heard_carries : (config : TurnsConfig) (t : ReportView) (old new : Server S) (orders : List Order) → Heard k config t old new orders → R old.keeper new.keeper
  heard_carries config t old new orders h =
      c.joined old.keeper h.ready new.keeper (c.passed old.keeper t.seconds t.date h.ready h.passes) (does_carries config t (server old.slots h.ready) new orders h.does)

  all_carries : (config : TurnsConfig) (ts : List ReportView) (old new : Server S) (orders : List Order) → HeardAll k config ts old new orders → R old.keeper new.keeper
  all_carries config [] old new orders (same, none) = subst (λ (s : Server S). R old.keeper s.keeper) (sym same) (c.same old.keeper)
  all_carries config (t ∷ ts) old new orders (mid, first, later, heard, more, joined) =
      c.joined old.keeper mid.keeper new.keeper (heard_carries config t old mid first heard) (all_carries config ts mid new later more)

  -- what each of its parts carries, a turn carries
  pub turn_carries : (input : List ℕ) (used : ℕ) (old new : TurnsView) (was now : S) (orders : List Order) → Turn k input used old was new now orders → R was now
  turn_carries input used old new was now orders t =
      c.joined was t.last now (all_carries old.config (t.hears.long ++ t.hears.short) (server old.slots was) (server new.slots t.last) orders t.hears.heard) (c.kept t.last now t.keeps)
