use Rattle.std.proofs.Common.{◌≡◌, List, sym, ap, ◌∙◌, subst, codes}
use Rattle.std.specs.Option.{ok_or}
use Rattle.http_header.specs.HeaderMap.{get_all}
use Rattle.http_header.specs.FieldValue.{FieldValue}
use Rattle.dav_headers.specs.If.{IsIfHeader}
use Rattle.dav_headers.specs.declared.errors.HeaderError.TheVariants as HeaderError
use Rattle.dav_engine.proofs.conditions.lists_in.Goals as goal

pub returns : goal.returns
returns c = λ lists says.
    let same : get_all c.args.request.now.headers (codes "if") ≡ c.deref.result.now =
    sym (c.deref.ensures.value ∙ c.in_ok-values.ensures ∙ ap (get_all c.args.request.now.headers) c.IF.ensures) in
    let invalid = c.in_ok-header.ensures.ok ∙ ap (λ header. ok_or header HeaderError.Invalid) c.in-None.is in
    c.decode.ensures.invalid invalid says.0 (subst (λ (values : List FieldValue). IsIfHeader values says.0) same says.1)
