use Rattle.std.proofs.Common.{refl}
use Rattle.dav_headers.specs.IfTexts.{item_view, condition_view}
use Rattle.dav_headers.specs.IfView.{item_value, condition_value}
use Rattle.dav_headers.specs.IfWritten.{SaysItem, SaysCondition}
use Rattle.dav_headers.proofs.ReadingLemmas.{passed_on}
use Rattle.dav_headers.proofs.if_header.meaning.meant_condition.Goals as goal

pub returns-in_err-item : goal.returns-in_err-item
returns-in_err-item c =
    passed_on item_value condition_value SaysItem SaysCondition (item_view c.args.condition.item) (condition_view c.args.condition) c.in_err-item.field-0.0 c.from_residual.result c.from_residual.ensures.1
    (λ (i, says). (record { negated = c.args.condition.not; item = i }, (refl, says)))
    (λ (m, (_, says)). (m.item, says))
    c.in_err-item.ensures
