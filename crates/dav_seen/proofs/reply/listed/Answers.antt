use Rattle.std.proofs.Common.{Bor, List, option_map, ℕ}
use Rattle.dav_seen.proofs.ListingLemmas.{listed_nothing}
use Rattle.dav_seen.proofs.reply.listed.Goals as goal

pub returns-in-Nothing-clause-reply : goal.returns-in-Nothing-clause-reply
returns-in-Nothing-clause-reply c =
    listed_nothing c.args.rules.now c.args.handler.now.server c.args.path.now (option_map (λ (d : Bor (List ℕ)). d.now) c.args.depth) c.args.body.now c.args.caller.now c.is_deep.result
    c.is_deep.ensures c.in_ok-propfind.field-0 c.listing-in-Nothing.result c.if-is_deep.false c.in-Nothing.is c.in_ok-propfind.ensures c.listing-in-Nothing.ensures.reply
