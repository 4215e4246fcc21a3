use Rattle.std.proofs.Common.{◌≡◌, ◌≢◌, ap, ◌∙◌, rules}
use Rattle.std.proofs.lemmas.List.{take-append-drop}
use Rattle.percent_encoding.specs.Iter.{encoded_text}
use Rattle.dav_core.specs.Path.{star, full_bytes}
use Rattle.dav_core.specs.UrlText.{path_text}
use Rattle.dav_core.proofs.PathLemmas.{text_other}
use Rattle.dav_core.proofs.davpath.DavPathDisplay.fmt.Goals as goal

pub returns-else-is_star-clause-writes : goal.returns-else-is_star-clause-writes
returns-else-is_star-clause-writes g c = λ plain ok.
    let whole : full_bytes c.args.self.now ≡ c.self.inside.full.items = search (rules, take-append-drop c.self.inside.prefix_len c.self.inside.full.items) in
    let other : c.self.inside.full.items ≢ star = search rules in
    let text : path_text (full_bytes c.args.self.now) ≡ encoded_text c.escaped-text.result = ap path_text whole ∙ text_other c.self.inside.full.items other ∙ search rules in
    rw text (c.write-else-is_star.ensures.writes plain ok)
