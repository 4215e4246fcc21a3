use Rattle.std.proofs.Common.{◌∙◌, ap, arith, length, length-append, rules}
use Rattle.dav_kept.proofs.batch.Batch.is_empty.Goals as goal

pub returns-in_default : goal.returns-in_default
returns-in_default c = (
  λ holds. search rules,
  λ none. absurd (omega (arith, c.in_default.len_at_least, ap length c.as_slice.ensures.value, length-append c.self.inside.text.items c.self.inside.body, ap length (c.self.view_is ∙ none))),
)
