use Rattle.std.proofs.Common.{ap, ◌∙◌}
use Rattle.dav_server.specs.Head.{Request}
use Rattle.dav_server.proofs.HeadLemmas.{one_head}
use Rattle.dav_http.proofs.handler.method_of.Goals as goal

pub returns-in-Some : goal.returns-in-Some
returns-in-Some c = λ r is. c.method.ensures ∙ ap (λ (q : Request). q.method) (one_head c.args.head.now c.in-Some.head r c.in-Some.ensures is)

pub returns-in-None : goal.returns-in-None
returns-in-None c = λ r is. absurd (c.in-None.ensures r is)
