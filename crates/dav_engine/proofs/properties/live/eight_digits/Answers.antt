use Rattle.std.proofs.Common.{false}
use Rattle.std.specs.Fmt.{digits, digits_output, padded_integral, radix_prefix, shown_prefix}
use Rattle.dav_engine.proofs.TellingLemmas.{laid_out_as, zeros}
use Rattle.dav_engine.proofs.properties.live.eight_digits.Goals as goal

pub returns : goal.returns
returns c =
    laid_out_as (λ x numeral. padded_integral x false (shown_prefix x (radix_prefix c.in_radix.result.base)) numeral) (digits_output c.in_radix.result) c.laid_out.result _ _
    (digits 16 false c.args.number) _ c.in_radix.ensures c.laid_out.ensures (zeros 8 (digits 16 false c.args.number)) c.in_ok-text.ensures.ok
