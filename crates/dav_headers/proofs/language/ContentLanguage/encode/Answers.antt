use Rattle.std.proofs.Common.{◌∙◌}
use Rattle.dav_headers.proofs.TextLemmas.{languages_are_text, never_invalid}
use Rattle.dav_headers.proofs.language.ContentLanguage.encode.Goals as goal

pub returns-clause-err : goal.returns-clause-err
returns-clause-err c =
    let text = languages_are_text _ c.self.invariant in
    let same = c.deref-2.ensures ∙ c.in_ok-text.ensures in
    never_invalid c.written.result c.deref-2.result.now (rw (same, c.deref.ensures.value) text) c.written.ensures
