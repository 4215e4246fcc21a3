use Rattle.std.proofs.Common.{◌∙◌, Some, ap}
use Rattle.http_header.specs.HeaderMap.{get}
use Rattle.dav_engine.specs.Headers.{text_in}
use Rattle.dav_engine.proofs.methods.put.headers.checksum_in.Goals as goal

pub returns-in_default : goal.returns-in_default
returns-in_default c = ap text_in c.in_default.ensures.value ∙ ap (λ name. text_in (get c.args.headers.now name)) c.from_static.ensures

pub returns-in_ok-from_str-in-Some-text_of : goal.returns-in_ok-from_str-in-Some-text_of
returns-in_ok-from_str-in-Some-text_of c = ap Some c.in_ok-from_str-in-Some-text_of.ensures.ok ∙ c.in-Some-text_of.ensures ∙ ap text_in c.in-Some.ensures.value ∙ ap (λ name. text_in (get c.args.headers.now name)) c.from_static.ensures

pub returns-in-None : goal.returns-in-None
returns-in-None c = c.in-None.ensures ∙ ap text_in c.in-Some.ensures.value ∙ ap (λ name. text_in (get c.args.headers.now name)) c.from_static.ensures
