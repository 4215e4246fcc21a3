use Rattle.std.proofs.Common.{◌∙◌, Some, ap, sym, rules}
use Rattle.http_header.specs.FieldValue.{IsVisibleAscii}
use Rattle.dav_engine.proofs.HeaderLemmas.{text_found, text_none}
use Rattle.dav_engine.proofs.headers.text_of.Goals as goal

pub returns-in-Ok : goal.returns-in-Ok
returns-in-Ok c =
    let visible : IsVisibleAscii c.args.value.now.bytes = search rules in
    ap Some c.in-Ok.ensures.ok ∙ sym (text_found c.args.value.now visible)

pub returns-in-Err : goal.returns-in-Err
returns-in-Err c =
    let hidden : ¬ (IsVisibleAscii c.args.value.now.bytes) = search rules in
    sym (text_none c.args.value.now hidden)
