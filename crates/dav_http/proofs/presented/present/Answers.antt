use Rattle.std.proofs.Common.{ap, sym, ◌∙◌}
use Rattle.dav_http.specs.Presented.{file, modified_in}
use Rattle.dav_http.proofs.PresentedLemmas.{on_ok}
use Rattle.dav_http.proofs.presented.present.Goals as goal

pub returns-in-Some : goal.returns-in-Some
returns-in-Some c =
    on_ok c.show_file.result
    (λ shows. file (c.is_of_file.ensures.0 c.if-not-is_of_file.false) c.in-Some.modified (sym (c.in-Some.ensures ∙ ap (λ r. modified_in r.headers) c.reply.view_is)) shows)
    c.show_file.ensures
