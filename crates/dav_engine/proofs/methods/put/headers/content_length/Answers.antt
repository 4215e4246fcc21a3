use Rattle.std.proofs.Common.{IfOk, ap, ◌∙◌, subst}
use Rattle.http_header.specs.HeaderMap.{get_all}
use Rattle.dav_headers.specs.Length.{IsContentLength}
use Rattle.dav_engine.specs.Headers.{Decodes}
use Rattle.dav_engine.proofs.methods.put.headers.content_length.Goals as goal

pub returns : goal.returns
returns c = subst (λ values. IfOk c.decoded.result (Decodes IsContentLength values))
    (c.deref.ensures.value ∙ c.in_ok-values.ensures ∙ ap (get_all c.args.headers.now) c.CONTENT_LENGTH.ensures) c.decoded.ensures
