use Rattle.std.proofs.Common.{◌∙◌}
use Rattle.dav_core.proofs.UrlLemmas.{encoded}
use Rattle.dav_core.proofs.davpath.url_text.escaped.Goals as goal

pub returns : goal.returns
returns c = c.percent_encode.ensures.text ∙ encoded c.args.bytes.now
