use Rattle.std.proofs.Common.{◌∙◌, string_bytes, rules}
use Rattle.http_header.specs.FieldValue.{IsFieldValue}
use Rattle.dav_engine.proofs.LanguageLemmas.{no_value, judged_by_reading}
use Rattle.dav_engine.proofs.methods.proppatch.changes.are_languages.Goals as goal

pub returns-in-Err-Invalid : goal.returns-in-Err-Invalid
returns-in-Err-Invalid c =
    let hidden : ¬ (IsFieldValue (string_bytes c.args.text)) = search rules in
    no_value (string_bytes c.args.text) hidden

pub returns : goal.returns
returns c =
    c.is_some.ensures ∙ judged_by_reading (string_bytes c.args.text) c.in-Ok.value c.from_ref.result.now c.in_ok-absent_if_invalid.field-0 c.decode-languages.result
    c.in-Ok.ensures.ok c.from_ref.ensures.value c.in_ok-absent_if_invalid.ensures.ok c.decode-languages.ensures
