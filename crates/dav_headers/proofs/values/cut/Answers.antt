use Rattle.std.proofs.lemmas.Str.Pattern.{split_parts}
use Rattle.dav_headers.proofs.CutLemmas.{cut_found, cut_none}
use Rattle.dav_headers.proofs.values.cut.Goals as goal

pub returns : goal.returns
returns c =
    let parts = split_parts c.args.sign c.args.text.now c.split_once.result c.split_once.ensures.cases c.requires in
    record {
      found = cut_found c.args.sign c.args.text.now c.split_once.result parts;
      none = cut_none c.args.sign c.args.text.now c.split_once.result parts;
    }
