use Rattle.std.proofs.Common.{◌∙◌, ap, map, string_bytes}
use Rattle.dav_headers.specs.Elements.{joined}
use Rattle.dav_headers.specs.Timeout.{timeout_text}
use Rattle.dav_headers.proofs.TextLemmas.{written_is, written_unless}
use Rattle.dav_headers.proofs.TimeoutLemmas.{timeout_visible}
use Rattle.dav_headers.proofs.timeout.Timeout.encode.Goals as goal

pub returns-clause-ok : goal.returns-clause-ok
returns-clause-ok c =
    let times = ap joined c.in_ok-texts.ensures ∙ ap timeout_text c.deref.ensures.value in
    let same = c.deref-3.ensures ∙ c.in_ok-text.ensures ∙ ap (λ xs. joined (map string_bytes xs)) c.deref-2.ensures.value ∙ times in
    written_is c.written.result c.deref-3.result.now (timeout_text c.args.self.now.0.items) same c.written.ensures

pub returns-clause-err : goal.returns-clause-err
returns-clause-err c =
    let times = ap joined c.in_ok-texts.ensures ∙ ap timeout_text c.deref.ensures.value in
    let same = c.deref-3.ensures ∙ c.in_ok-text.ensures ∙ ap (λ xs. joined (map string_bytes xs)) c.deref-2.ensures.value ∙ times in
    written_unless c.written.result c.deref-3.result.now (timeout_text c.args.self.now.0.items) same (timeout_visible c.args.self.now.0.items) c.written.ensures
