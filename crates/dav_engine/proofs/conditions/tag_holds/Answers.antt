use Rattle.std.proofs.Common.{◌≡◌, ◌∙◌, ◌∷◌, [], true, Some, None, Ok, ap, sym}
use Rattle.std.specs.Result.{result_ok}
use Rattle.std.proofs.lemmas.Result.{err_from_is_err_and}
use Rattle.dav_headers.specs.ETagList.{tags}
use Rattle.dav_engine.specs.Conditions as spec
use Rattle.dav_engine.proofs.Following.{follows_ask, follows_done, follows_up_to}
use Rattle.dav_engine.proofs.ConditionLemmas.{one_tag}
use Rattle.dav_engine.proofs.conditions.tag_holds.Goals as goal

pub returns-in_err-current : goal.returns-in_err-current
returns-in_err-current g c = λ ls.
    let p = err_from_is_err_and c.from_residual.result c.from_residual.ensures.1 in
    follows_ask c.metadata.ensures.asks (rw p.1 follows_up_to)

pub returns-in-Some : goal.returns-in-Some
returns-in-Some g c = λ ls.
    let found : Some c.in-Some.current ≡ spec.tag_found (result_ok c.metadata.result) = sym c.in-Some.is ∙ c.in_ok-current.ensures ∙ ap spec.tag_found (c.as_ref.ensures.value ∙ c.ok-found.ensures.value) in
    follows_ask c.metadata.ensures.asks (follows_done (ap Ok (one_tag c.strong_eq.result c.args.tag.now c.in-Some.current c.strong_eq.ensures
    ∙ ap (spec.matches (tags (c.args.tag.now ∷ [])) true) found)))

pub returns-in-None : goal.returns-in-None
returns-in-None g c = λ ls.
    let found : None ≡ spec.tag_found (result_ok c.metadata.result) = sym c.in-None.is ∙ c.in_ok-current.ensures ∙ ap spec.tag_found (c.as_ref.ensures.value ∙ c.ok-found.ensures.value) in
    follows_ask c.metadata.ensures.asks (follows_done (ap Ok (ap (spec.matches (tags (c.args.tag.now ∷ [])) true) found)))
