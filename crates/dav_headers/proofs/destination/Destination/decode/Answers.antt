use Rattle.std.proofs.Common.{subst, sym, IsSomeAnd}
use Rattle.dav_headers.specs.Destination.{IsDestination, IsDestinationText}
use Rattle.dav_headers.proofs.ReadingLemmas.{out_of_memory}
use Rattle.dav_headers.proofs.destination.Destination.decode.Goals as goal

pub returns-in_default-path_of : goal.returns-in_default-path_of
returns-in_default-path_of c = λ path h.
    c.in_default-path_of.ensures path (subst (λ o. IsSomeAnd o (λ t. IsDestinationText t path)) (sym c.in-Some.ensures) h)

pub returns-in_err-from_str : goal.returns-in_err-from_str
returns-in_err-from_str c =
    let path = c.in-Some-path_of.path.now in
    let reads = subst (λ o. IsSomeAnd o (λ t. IsDestinationText t path)) c.in-Some.ensures c.in-Some-path_of.ensures in
    out_of_memory _ IsDestination c.args.values.now _ c.from_residual.ensures.1 (path, reads)
