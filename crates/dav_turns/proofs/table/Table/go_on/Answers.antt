use Rattle.std.proofs.Common.{rules, set, set-set, sym, ap, ◌∙◌}
use Rattle.dav_wire.specs.History.{held}
use Rattle.dav_turns.specs.Connections.{ConnectionView}
use Rattle.dav_turns.proofs.RoomLemmas.{room_is, in_room, counts_back}
use Rattle.dav_turns.proofs.TurnLemmas.{is_in, slot_open}
use Rattle.dav_turns.proofs.table.Table.go_on.Goals as goal

pub returns-then-next-ne-CLOSE-clause-goes : goal.returns-then-next-ne-CLOSE-clause-goes
returns-then-next-ne-CLOSE-clause-goes g c = (
  record { slot = c.args.slot; next = c.in_ok-next.next; bytes = c.in_ok-next.ensures.0 },
  record {
    was = c.in-Some.connection;
    is_in = is_in c.args.self.now.slots.items c.args.slot _ _ (search rules) c.index_mut.ensures.value (sym c.in-Some.ensures.value);
    mid = c.advance.new.self;
    advances = in_room
        (room_is c.args.self.now.config c.args.self.now.waiting c.held.result c.args.self.now.slots.items c.args.slot c.in-Some.connection c.held.ensures c.requires
        (is_in c.args.self.now.slots.items c.args.slot _ _ (search rules) c.index_mut.ensures.value (sym c.in-Some.ensures.value))) c.in_ok-advance.ensures;
    after = c.hand_out.new.self;
    hands = c.in_ok-next.ensures.1;
    slot_is = search rules;
    slots =
        set-set c.args.self.now.slots.items c.args.slot _ _
        ∙ ap (λ place. set c.args.self.now.slots.items c.args.slot place) (sym (slot_open c.in_ok-next.next c.hand_out.new.self c.if-next-ne-CLOSE.true));
  },
  c.in_ok-next.ensures.2,
)

pub returns-else-next-ne-CLOSE-clause-goes : goal.returns-else-next-ne-CLOSE-clause-goes
returns-else-next-ne-CLOSE-clause-goes g c = (
  record { slot = c.args.slot; next = c.in_ok-next.next; bytes = c.in_ok-next.ensures.0 },
  record {
    was = c.in-Some.connection;
    is_in = is_in c.args.self.now.slots.items c.args.slot _ _ (search rules) c.index_mut.ensures.value (sym c.in-Some.ensures.value);
    mid = c.advance.new.self;
    advances = in_room
        (room_is c.args.self.now.config c.args.self.now.waiting c.held.result c.args.self.now.slots.items c.args.slot c.in-Some.connection c.held.ensures c.requires
        (is_in c.args.self.now.slots.items c.args.slot _ _ (search rules) c.index_mut.ensures.value (sym c.in-Some.ensures.value))) c.in_ok-advance.ensures;
    after = c.hand_out.new.self;
    hands = c.in_ok-next.ensures.1;
    slot_is = search rules;
    slots = search rules;
  },
  c.in_ok-next.ensures.2,
)

pub returns-then-next-ne-CLOSE-clause-counts : goal.returns-then-next-ne-CLOSE-clause-counts
returns-then-next-ne-CLOSE-clause-counts g c =
    let self = c.args.self.now in
    let it = is_in self.slots.items c.args.slot _ _ (search rules) c.index_mut.ensures.value (sym c.in-Some.ensures.value) in
    let advanced = in_room
    (room_is self.config self.waiting c.held.result self.slots.items c.args.slot c.in-Some.connection c.held.ensures c.requires it) c.in_ok-advance.ensures in
    counts_back self.config self.waiting c.held.result c.held-then-next-ne-CLOSE.result self.slots.items c.args.slot c.in-Some.connection
    c.advance.new.self c.hand_out.new.self c.take.new.self c.requires it c.held.ensures c.held-then-next-ne-CLOSE.ensures
    advanced.fits (ap (λ (d : ConnectionView). held d.history) c.in_ok-next.ensures.1.dropped)
