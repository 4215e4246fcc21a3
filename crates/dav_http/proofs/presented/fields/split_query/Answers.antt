use Rattle.std.proofs.Common.{arith}
use Rattle.std.proofs.lemmas.Str.Pattern.{split_parts}
use Rattle.dav_http.proofs.PresentedLemmas.{query_parts}
use Rattle.dav_http.proofs.presented.fields.split_query.Goals as goal

pub returns : goal.returns
returns c = query_parts c.args.target.now c.split_once.result (split_parts 63 c.args.target.now c.split_once.result c.split_once.ensures.cases (omega arith))
