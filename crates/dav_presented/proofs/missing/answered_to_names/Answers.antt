use Rattle.std.proofs.Common.{◌≡◌, ◌∙◌, List, subst}
use Rattle.std.specs.Result.{IfOk}
use Rattle.dav_core.specs.Element.{ElementTree, child_elements}
use Rattle.dav_presented.specs.Missing.{named_once, untold, with_missing}
use Rattle.dav_presented.specs.Responses.{each_response}
use Rattle.dav_presented.proofs.NameSetLemmas.{each_lacks}
use Rattle.dav_presented.proofs.missing.answered_to_names.Goals as goal

pub returns : goal.returns
returns c =
    let sent = c.each_response.result in
    let once : IfOk sent (λ tree. tree ≡ each_response (λ response. with_missing response (untold response (named_once (child_elements c.args.prop.now)))) c.args.told) =
    subst (λ (es : List ElementTree). IfOk sent (λ tree. tree ≡ each_response (λ response. with_missing response (untold response es)) c.args.told)) (c.deref.ensures.value ∙ c.in_ok-asked.ensures) c.each_response.ensures in
    subst (λ (told : ElementTree). IfOk sent (λ tree. tree ≡ told)) (each_lacks c.args.prop.now c.args.told) once
