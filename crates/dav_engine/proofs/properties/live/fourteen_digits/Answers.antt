use Rattle.std.proofs.Common.{ap, ◌∙◌}
use Rattle.std.specs.Fmt.{decimal, styled_decimal}
use Rattle.dav_engine.proofs.TellingLemmas.{zeros}
use Rattle.dav_engine.proofs.properties.live.fourteen_digits.Goals as goal

pub returns : goal.returns
returns c = c.in_ok-text.ensures.ok ∙ ap (λ layout. styled_decimal layout c.args.number) c.laid_out.ensures ∙ zeros 14 (decimal c.args.number)
