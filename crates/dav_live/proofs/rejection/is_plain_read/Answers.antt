use Rattle.std.proofs.Common.{◌∙◌, sym, true≢false}
use Rattle.dav_live.proofs.PlainLemmas.{is_plain}
use Rattle.dav_live.proofs.rejection.is_plain_read.Goals as goal

pub returns : goal.returns
returns c = λ yes r is.
    is_plain c.args.head.now r is (c.begins_to_read.ensures.0 yes) (λ has. true≢false (sym (c.has_line.ensures.1 has) ∙ c.if-has_line.false))
    (λ has. true≢false (sym (c.has_line-2.ensures.1 has) ∙ c.if-has_line-2.false))
