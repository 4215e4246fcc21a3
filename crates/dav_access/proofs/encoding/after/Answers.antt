use Rattle.std.proofs.Common.{◌≡◌, rules}
use Rattle.dav_access.proofs.EncodingLemmas.{cut_after, cut_front}
use Rattle.dav_access.proofs.encoding.after.Goals as goal

pub returns-then-eq : goal.returns-then-eq
returns-then-eq c =
    let cases = c.in_ok-found.ensures.cases in
    cut_after c.args.text.now c.args.front.now c.in_ok-found.found.now c.in_ok-found.rest.now cases.1 cases.2 (search rules)

pub returns-else-eq : goal.returns-else-eq
returns-else-eq c rest is =
    let same : c.in_ok-found.found.now ≡ c.args.front.now =
    cut_front c.args.text.now c.args.front.now c.in_ok-found.found.now rest c.in_ok-found.ensures.cases.1 is in
    search rules
