use Rattle.std.proofs.Common.{bytes_eq, List, map, sym, ap, ◌∙◌}
use Rattle.std.specs.List.{list_any}
use Rattle.dav_headers.specs.declared.if_header.IfCondition.{IfCondition}
use Rattle.dav_headers.specs.If.{ConditionList, tokens_among}
use Rattle.dav_headers.specs.IfView.{condition_value, list_value}
use Rattle.dav_server.proofs.NamingLemmas.{any_found, any_passed, any_end}
use Rattle.dav_server.proofs.naming.is_in_lists.Goals as goal

pub returns-then-is_in_conditions : goal.returns-then-is_in_conditions
returns-then-is_in_conditions c =
    let p = bytes_eq c.args.token.now in
    any_found p (λ (l : ConditionList). tokens_among l.conditions) list_value c.args.lists.now c.loop-list.list-index c.list-item.result _
    c.loop-list-test.true c.list-item.is c.loop-list.invariant
    (ap (λ (cs : List IfCondition). list_any p (tokens_among (map condition_value cs))) (sym c.deref.ensures.value) ∙ sym c.is_in_conditions.ensures ∙ c.if-is_in_conditions.true)

pub loop-list-preserved : goal.loop-list-preserved
loop-list-preserved c =
    let p = bytes_eq c.args.token.now in
    any_passed p (λ (l : ConditionList). tokens_among l.conditions) list_value c.args.lists.now c.loop-list.list-index c.list-item.result _
    c.loop-list-test.true c.list-item.is c.loop-list.invariant
    (ap (λ (cs : List IfCondition). list_any p (tokens_among (map condition_value cs))) (sym c.deref.ensures.value) ∙ sym c.is_in_conditions.ensures ∙ c.if-is_in_conditions.false)

pub returns : goal.returns
returns c =
    any_end (bytes_eq c.args.token.now) (λ (l : ConditionList). tokens_among l.conditions) list_value c.args.lists.now c.loop-list.list-index _
    c.loop-list-test.false c.loop-list.invariant
