use Rattle.std.proofs.Common.{◌∙◌, subst, sym}
use Rattle.std.proofs.lemmas.Bool.{false≢true}
use Rattle.dav_headers.specs.Destination.{IsHttp}
use Rattle.dav_headers.proofs.DestinationLemmas.{at_colon}
use Rattle.dav_headers.proofs.destination.after_scheme.Goals as goal

pub returns-in_err-after-clause-none : goal.returns-in_err-after-clause-none
returns-in_err-after-clause-none c =
    rw c.from_residual-in_err-after.ensures
    (λ scheme after http e.
    let at = at_colon c.args.text.now _ _ scheme after c.in_ok-scheme.ensures.found http e in
    c.in_err-after.ensures.cases after at.1)

pub returns-else-is_http-clause-none : goal.returns-else-is_http-clause-none
returns-else-is_http-clause-none c = λ scheme after http e.
    let at = at_colon c.args.text.now _ _ scheme after c.in_ok-scheme.ensures.found http e in
    false≢true (sym c.if-is_http.false ∙ c.is_http.ensures.1 (subst IsHttp (sym at.0) http))
