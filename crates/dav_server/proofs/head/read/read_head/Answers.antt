use Rattle.std.proofs.Common.{rules}
use Rattle.dav_server.proofs.HeadLemmas.{headers_of_head}
use Rattle.dav_server.proofs.head.read.read_head.Goals as goal

pub invariant_of-result-2 : goal.invariant_of-result-2
invariant_of-result-2 c =
    let found = rw c.in-Ok-Complete.field-0-is at c.in-Ok-Complete.ensures.complete in
    let within = rw c.in-Ok-Complete.field-0-is at c.in-Ok-Complete.ensures.within in
    (search rules, headers_of_head c.args.head.now c.parse_request.new.headers c.in-Ok-Complete.spans found within (search rules) (search rules))
