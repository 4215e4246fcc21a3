use Rattle.std.proofs.Common.{◌∙◌, sym, true≢false}
use Rattle.dav_live.specs.Hosts.{alone, before_port}
use Rattle.dav_live.proofs.HostLemmas.{no_colon_no_port, no_port, of_none}
use Rattle.dav_live.proofs.hosts.host_of.Goals as goal

pub returns-in_default : goal.returns-in_default
returns-in_default c = alone (no_colon_no_port c.args.authority.now (of_none _ _ c.split_at_colon.result c.in_default.is c.split_at_colon.ensures))

pub returns-then-are_digits : goal.returns-then-are_digits
returns-then-are_digits c = before_port c.in-Some.host.now c.in-Some.port.now c.in-Some.ensures.0 (c.are_digits.ensures.0 c.if-are_digits.true)

pub returns-else-are_digits : goal.returns-else-are_digits
returns-else-are_digits c =
    alone (no_port c.args.authority.now c.in-Some.host.now c.in-Some.port.now c.in-Some.ensures.0 c.in-Some.ensures.1 (λ digits. true≢false (sym (c.are_digits.ensures.1 digits) ∙ c.if-are_digits.false)))
