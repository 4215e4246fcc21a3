use Rattle.std.proofs.Common.{◌∙◌, Some, ap, refl, sym}
use Rattle.std.proofs.lemmas.Bool.{false≢true}
use Rattle.http_header.specs.FieldValue.{IsVisibleAscii}
use Rattle.dav_headers.proofs.ValueLemmas.{only_text_found, only_text_none}
use Rattle.dav_presented.proofs.fields.only_text.Goals as goal

pub returns-in-Ok : goal.returns-in-Ok
returns-in-Ok c =
    let visible : IsVisibleAscii c.value-item.result.bytes = c.in-Ok.ensures.succeeds.0 refl in
    let found = only_text_found c.args.values.now c.value-item.result c.in-len1.len_at_least c.in-len1.len_below c.value-item.is visible in
    ap Some c.in-Ok.ensures.ok ∙ sym found

pub returns-in-Err : goal.returns-in-Err
returns-in-Err c =
    let hidden = λ (h : IsVisibleAscii c.value-item.result.bytes). false≢true (c.in-Err.ensures.succeeds.1 h) in
    sym (only_text_none c.args.values.now c.value-item.result c.in-len1.len_at_least c.in-len1.len_below c.value-item.is hidden)
