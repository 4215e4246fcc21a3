use Rattle.std.proofs.Common.{◌++◌, ◌∙◌, ap, sym}
use Rattle.std.specs.Prelude.{codes}
use Rattle.dav_headers.proofs.ETagLemmas.{none_behind_mark, none_alone}
use Rattle.dav_headers.proofs.etag.parts.Goals as goal

pub returns-in_err-unquoted-in-Some-clause-none : goal.returns-in_err-unquoted-in-Some-clause-none
returns-in_err-unquoted-in-Some-clause-none c =
    let cut = c.in-Some.ensures.cases in
    let behind = cut.1.1 ∙ ap (λ rest. codes "W/" ++ rest) (sym cut.2) in
    rw c.from_residual.ensures (none_behind_mark c.args.text.now c.in-Some.rest.now behind c.in_err-unquoted-in-Some.ensures.none)

pub returns-in_err-unquoted-in-None-clause-none : goal.returns-in_err-unquoted-in-None-clause-none
returns-in_err-unquoted-in-None-clause-none c =
    rw c.from_residual-in_err-unquoted-in-None.ensures (none_alone c.args.text.now c.in-None.ensures.cases c.in_err-unquoted-in-None.ensures.none)

pub returns-in_ok-unquoted-in-Some-clause-found : goal.returns-in_ok-unquoted-in-Some-clause-found
returns-in_ok-unquoted-in-Some-clause-found c =
    let cut = c.in-Some.ensures.cases in
    let tag = c.in_ok-unquoted-in-Some.ensures.found in
    (tag.0, cut.1.1 ∙ ap (λ rest. codes "W/" ++ rest) (sym cut.2 ∙ tag.1))

pub returns-in_ok-unquoted-in-None-clause-found : goal.returns-in_ok-unquoted-in-None-clause-found
returns-in_ok-unquoted-in-None-clause-found c = c.in_ok-unquoted-in-None.ensures.found
