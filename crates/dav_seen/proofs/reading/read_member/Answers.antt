use Rattle.std.proofs.Common.{map, ap, ◌∙◌}
use Rattle.std.specs.Option.{option_copied}
use Rattle.dav_engine.specs.Caller.{Caller}
use Rattle.dav_core.specs.ElementView.{node_tree}
use Rattle.dav_seen.proofs.MemberLemmas.{member_read, member_unread}
use Rattle.dav_seen.proofs.reading.read_member.Goals as goal

pub returns-then-not-branch-clause-told : goal.returns-then-not-branch-clause-told
returns-then-not-branch-clause-told c =
    member_unread c.args.rules.now c.args.handler.now.server c.args.body.now c.args.caller.now c.args.path.now (map node_tree c.new.result.items)
    c.prefix-prefix.result.now c.deref.result.now (option_copied c.caller.inside.principal) c.in_ok-is_reading.field-0
    c.prefix-prefix.ensures (c.deref.ensures.value ∙ c.in_ok-head.ensures) (ap (λ (w : Caller). w.principal) c.caller.view_is) c.in_ok-is_reading.ensures
    c.if-not-branch.true (ap (map node_tree) c.new.ensures.items)

pub returns-clause-told : goal.returns-clause-told
returns-clause-told c =
    member_read c.args.rules.now c.args.handler.now.server c.args.body.now c.args.caller.now c.args.path.now (map node_tree c.responses_of.result.items)
    c.prefix-prefix.result.now c.deref.result.now (option_copied c.caller.inside.principal) c.in_ok-is_reading.field-0
    c.prefix-prefix.ensures (c.deref.ensures.value ∙ c.in_ok-head.ensures) (ap (λ (w : Caller). w.principal) c.caller.view_is) c.in_ok-is_reading.ensures
    c.deref-2.result.now c.in_ok-clone.field-0 c.in_ok-reply.reply c.if-not-branch.false
    (c.deref-2.ensures.value ∙ c.in_ok-head.ensures) c.in_ok-clone.ensures.cases c.in_ok-reply.ensures.step c.responses_of.ensures
