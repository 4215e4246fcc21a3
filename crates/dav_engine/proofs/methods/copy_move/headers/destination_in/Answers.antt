use Rattle.std.proofs.Common.{ap, string_bytes}
use Rattle.std.specs.Option.{option_map}
use Rattle.dav_engine.proofs.CopyHeaderLemmas.{destination_absent, destination_inside, destination_refused}
use Rattle.dav_engine.proofs.methods.copy_move.headers.destination_in.Goals as goal

pub returns-in_default : goal.returns-in_default
returns-in_default c = destination_absent c.args.request.now.path.prefix _ _ (ap (option_map (λ d. string_bytes d.0)) c.in_default.is) c.in_ok-destination.ensures

pub returns-in-Ok : goal.returns-in-Ok
returns-in-Ok c =
    destination_inside c.args.request.now.path.prefix _ _ (string_bytes c.in-Some.destination.0) c.in-Ok.path (ap (option_map (λ d. string_bytes d.0)) c.in-Some.is) c.in_ok-destination.ensures
    (rw (c.deref.ensures, c.prefix.ensures) at c.in-Ok.ensures.ok)

pub returns : goal.returns
returns c =
    destination_refused c.args.request.now.path.prefix _ _ (string_bytes c.in-Some.destination.0) c.in-Err.error c.no_destination.result (ap (option_map (λ d. string_bytes d.0)) c.in-Some.is) c.in_ok-destination.ensures
    (rw (c.deref.ensures, c.prefix.ensures) at c.in-Err.ensures.err) c.no_destination.ensures
