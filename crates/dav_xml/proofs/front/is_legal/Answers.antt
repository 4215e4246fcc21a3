use Rattle.std.proofs.Common.{ap, ◌∙◌}
use Rattle.dav_xml.specs.Front.{are_chars}
use Rattle.dav_xml.proofs.ReadLegal.{chars_are_legal}
use Rattle.dav_xml.proofs.front.is_legal.Goals as goal

pub returns : goal.returns
returns c = chars_are_legal c.are_chars.result c.args.text.now (c.are_chars.ensures ∙ ap are_chars c.as_bytes.ensures.value)
