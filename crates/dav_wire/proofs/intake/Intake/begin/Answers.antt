use Rattle.std.proofs.Common.{true, ◌≤◌, length, rules, refl, sym, ap, ◌∙◌, arith}
use Rattle.dav_wire.specs.declared.spot.Spot.TheVariants.{Size}
use Rattle.dav_wire.specs.Place.{place}
use Rattle.dav_wire.proofs.Bodies.{too_long_ahead, no_room_ahead, knows}
use Rattle.dav_wire.proofs.Events.{has_coding, head_work, begins, head_less, states_within, head_read, unjudged}
use Rattle.dav_wire.proofs.intake.Intake.begin.Goals as goal

pub returns-then-has_codings-clause-finds : goal.returns-then-has_codings-clause-finds
returns-then-has_codings-clause-finds c = λ stream interim x.
    (has_coding x (sym c.has_codings.ensures ∙ c.if-has_codings.true), head_work x c.args.self.now.ended, tt)

pub returns-then-states_more-clause-finds : goal.returns-then-states_more-clause-finds
returns-then-states_more-clause-finds c = λ stream interim x.
    let begun = begins x (sym c.has_codings.ensures ∙ c.if-has_codings.false) c.advance.new.self.items c.extend_from_slice.new.self.items
    c.of-method.result.now c.is_head-self.result c.most_of-self.result c.args.self.now.stated (search rules) (search rules) (search rules) (search rules) (search rules) in
    let long = c.states_more.ensures.long c.if-states_more.true in
    (too_long_ahead begun long.0 long.1 long.2, head_work x c.args.self.now.ended, knows begun)

pub returns-then-states_more-2-clause-finds : goal.returns-then-states_more-2-clause-finds
returns-then-states_more-2-clause-finds c = λ stream interim x.
    let begun = begins x (sym c.has_codings.ensures ∙ c.if-has_codings.false) c.advance.new.self.items c.extend_from_slice.new.self.items
    c.of-method.result.now c.is_head-self.result c.most_of-self.result c.args.self.now.stated (search rules) (search rules) (search rules) (search rules) (search rules) in
    let long = c.states_more-2.ensures.long c.if-states_more-2.true in
    (no_room_ahead begun c.args.room long.0 long.1 long.2, head_work x c.args.self.now.ended, knows begun)

pub returns-clause-fits : goal.returns-clause-fits
returns-clause-fits c = λ x. record {
  stated = c.len_stated-self.ensures.within c.args.room (c.states_more-2.ensures.short c.if-states_more-2.false);
  body = x.body;
}

pub returns-clause-finds : goal.returns-clause-finds
returns-clause-finds c = λ stream interim x.
    let begun = begins x (sym c.has_codings.ensures ∙ c.if-has_codings.false) c.advance.new.self.items c.extend_from_slice.new.self.items
    c.of-method.result.now c.is_head-self.result c.most_of-self.result c.len_stated-self.result (search rules) (search rules) (search rules) (search rules) (search rules) in
    let fits : length c.args.self.now.body.items ≤ c.most_of-self.result = omega (arith, ap length x.body) in
    let q = record (place c.args.self.now) {
      unread = c.advance.new.self.items;
      within = true;
      head = c.extend_from_slice.new.self.items;
      is_head = c.is_head-self.result;
      most = c.most_of-self.result;
      stated = c.len_stated-self.result;
      spot = Size 0;
    } in
    let stated = states_within x q c.of-method.result.now c.most_of-self.result refl x.body refl (search rules) (search rules)
    c.len_stated-self.ensures.known
    (c.len_stated-self.ensures.within c.most_of-self.result (c.states_more.ensures.short c.if-states_more.false)) in (
      head_read x _ c.expects_continue.result c.expects_continue.ensures refl refl begun fits stated,
      unjudged x,
      head_less x c.advance.new.self.items (search rules) c.requires.section.len_fits,
    )
