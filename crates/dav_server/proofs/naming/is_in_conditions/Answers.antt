use Rattle.std.proofs.Common.{bytes_eq, sym, ◌∙◌}
use Rattle.dav_headers.specs.If.{Condition, tokens_in}
use Rattle.dav_headers.specs.IfView.{condition_value}
use Rattle.dav_server.proofs.NamingLemmas.{any_found, any_passed, any_end}
use Rattle.dav_server.proofs.naming.is_in_conditions.Goals as goal

pub returns-then-is_item : goal.returns-then-is_item
returns-then-is_item c =
    any_found (bytes_eq c.args.token.now) (λ (x : Condition). tokens_in x.item) condition_value c.args.conditions.now c.loop-condition.condition-index c.condition-item.result _
    c.loop-condition-test.true c.condition-item.is c.loop-condition.invariant (sym c.is_item.ensures ∙ c.if-is_item.true)

pub loop-condition-preserved : goal.loop-condition-preserved
loop-condition-preserved c =
    any_passed (bytes_eq c.args.token.now) (λ (x : Condition). tokens_in x.item) condition_value c.args.conditions.now c.loop-condition.condition-index c.condition-item.result _
    c.loop-condition-test.true c.condition-item.is c.loop-condition.invariant (sym c.is_item.ensures ∙ c.if-is_item.false)

pub returns : goal.returns
returns c =
    any_end (bytes_eq c.args.token.now) (λ (x : Condition). tokens_in x.item) condition_value c.args.conditions.now c.loop-condition.condition-index _
    c.loop-condition-test.false c.loop-condition.invariant
