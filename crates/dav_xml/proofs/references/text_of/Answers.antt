use Rattle.std.proofs.Common.{◌∙◌, ap, sym, Ok}
use Rattle.dav_xml.proofs.Utf8.{utf8_ok}
use Rattle.dav_xml.proofs.references.text_of.Goals as goal

pub returns-in-Ok : goal.returns-in-Ok
returns-in-Ok c = utf8_ok c.args.bytes.now c.in-Ok.ensures.cases.1 ∙ ap (λ t. Ok t) (sym c.in-Ok.ensures.cases.0)
