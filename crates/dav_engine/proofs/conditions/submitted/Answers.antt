use Rattle.std.proofs.Common.{◌++◌, ◌∙◌, map, List, Some, Option, Vec, string_bytes, ap, sym}
use Rattle.std.specs.Global.{Global}
use Rattle.std.specs.Option.{option_map}
use Rattle.dav_headers.specs.declared.if_header.IfCondition.{IfCondition}
use Rattle.dav_headers.specs.If.{tokens_among}
use Rattle.dav_headers.specs.IfView.{condition_value}
use Rattle.dav_engine.specs.declared.conditions.Addressed.{Addressed}
use Rattle.dav_engine.specs.Conditions as spec
use Rattle.dav_engine.specs.ConditionView.{texts_of, list_of}
use Rattle.dav_engine.proofs.ConditionLemmas.{submitted_at, submitted_end}
use Rattle.dav_engine.proofs.conditions.submitted.Goals as goal
use Rattle.dav_engine.proofs.conditions.submitted.Goals.{in-Some+else-loop-list-test, in_default}

pub loop-list-preserved : goal.loop-list-preserved
loop-list-preserved c =
    submitted_at (texts_of c.loop-list.tokens) (texts_of c.push_tokens.new.tokens) c.deref-list-items.result.now c.loop-list.list-index c.list-item.result _
    c.loop-list-test.true c.list-item.is
    (c.in_ok-push_tokens.ensures ∙ ap (λ (cs : List IfCondition). texts_of c.loop-list.tokens ++ tokens_among (map condition_value cs)) c.deref.ensures.value)
    c.loop-list.invariant

pub returns : goal.returns
returns c = elim c.match-lists.branch [
  | in-Some+else-loop-list-test w ↦
      ap texts_of w.tokens-is
      ∙ submitted_end (texts_of w.loop-list.tokens) w.deref-list-items.result.now w.loop-list.list-index _ w.loop-list-test.false w.loop-list.invariant
      ∙ ap (λ (xs : List Addressed). spec.submitted (Some (map list_of xs))) w.deref-list-items.ensures.value
      ∙ ap (λ (o : Option (Vec Addressed Global)). spec.submitted (option_map (λ l. map list_of l.items) o)) (sym w.in-Some.is)
  | in_default w ↦
      ap texts_of w.tokens-is
      ∙ ap (map string_bytes) c.new-tokens.ensures.items
      ∙ ap (λ (o : Option (Vec Addressed Global)). spec.submitted (option_map (λ l. map list_of l.items) o)) (sym w.in_default.is)
]
