use Rattle.std.proofs.Common.{refl}
use Rattle.dav_live.proofs.HostLemmas.{bad_after, bad_without}
use Rattle.dav_live.proofs.hosts.has_bad_port.Goals as goal

pub returns-in-Some : goal.returns-in-Some
returns-in-Some c =
    bad_after c.args.authority.now _ c.in-Some.port.now c.is_bad_port.result c.in-Some.ensures.0 c.in-Some.ensures.1 c.is_bad_port.ensures

pub returns-in-None : goal.returns-in-None
returns-in-None c = bad_without c.args.authority.now _ c.in-None.ensures refl
