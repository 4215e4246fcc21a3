use Rattle.std.proofs.Common.{◌∙◌, sym, lit<}
use Rattle.std.proofs.lemmas.Str.Pattern.{find_char}
use Rattle.std.proofs.lemmas.Option.{MatchOption-at_none, MatchOption-at_some}
use Rattle.dav_headers.proofs.DestinationLemmas.{from_slash_at, from_slash_none}
use Rattle.dav_headers.proofs.destination.path_after.Goals as goal

pub returns-in-Some : goal.returns-in-Some
returns-in-Some c =
    let found = find_char 47 c.args.authority.now c.find.result c.find.ensures.cases (lit< tt) in
    let at = MatchOption-at_some _ _ c.in-Some.i c.in-Some.is found in
    c.split_at.ensures.back ∙ sym (from_slash_at c.args.authority.now c.in-Some.i at.0 at.1 at.2)

pub returns-in-None : goal.returns-in-None
returns-in-None c =
    let found = find_char 47 c.args.authority.now c.find.result c.find.ensures.cases (lit< tt) in
    sym (from_slash_none c.args.authority.now (MatchOption-at_none _ _ c.in-None.is found))
