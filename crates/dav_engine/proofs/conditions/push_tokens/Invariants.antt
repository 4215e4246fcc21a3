use Rattle.std.proofs.Common.{◌≡◌, ◌++◌, map, drop}
use Rattle.dav_headers.specs.If.{tokens_among}
use Rattle.dav_headers.specs.IfView.{condition_value}
use Rattle.dav_engine.specs.ConditionView.{texts_of}
use Rattle.dav_engine.proofs.conditions.push_tokens.Given as goal

abbrev pub invariant-loop-condition : goal.invariant-loop-condition
invariant-loop-condition l =
    texts_of l.tokens ++ tokens_among (map condition_value (drop l.condition-index l.conditions))
    ≡ texts_of l.initial.tokens ++ tokens_among (map condition_value l.conditions)
