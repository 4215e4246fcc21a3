use Rattle.std.proofs.Common.{◌∙◌, map, sym, ap}
use Rattle.dav_engine.proofs.GroupLemmas.{group_of, told_found, told_new}
use Rattle.dav_engine.proofs.methods.proppatch.changes.tell_under.Goals as goal

pub returns-in_ok-push : goal.returns-in_ok-push
returns-in_ok-push c =
    rw (← c.as_u16-status.ensures.value)
    (ap (map group_of) (c.get_mut.follows.holds c.push.new.self).0
    ∙ told_found c.as_u16-status.result c.args.element c.args.groups.now.entries c.in-Some.elements.now c.push.new.self c.in-Some.ensures.ordered (sym c.in-Some.ensures.value) c.in_ok-push.ensures.items)

pub returns-in_ok-insert : goal.returns-in_ok-insert
returns-in_ok-insert c =
    let was = c.get_mut.follows.holds-at-none in
    rw (← c.as_u16-status.ensures.value)
    (ap (map group_of) (rw was at c.in_ok-insert.ensures.entries)
    ∙ told_new c.as_u16-status.result c.args.element c.args.groups.now.entries c.in_ok-vec.field-0 (sym c.in_default.ensures.value) c.in_ok-vec.ensures.items)
