use Rattle.std.proofs.Common.{ap, sym, ◌∙◌}
use Rattle.dav_live.specs.Words.{is_of_content}
use Rattle.dav_live.proofs.WordsLemmas.{some_at}
use Rattle.dav_live.proofs.words.has_content_field.Goals as goal

pub returns-then-is_of_content : goal.returns-then-is_of_content
returns-then-is_of_content c =
    sym (some_at (λ h. is_of_content h.0) c.args.headers.now c.loop-header.header-index c.header-item.result c.loop-header-test.true c.header-item.is
    (ap is_of_content (sym c.as_str.ensures.value) ∙ sym c.is_of_content.ensures ∙ c.if-is_of_content.true))
