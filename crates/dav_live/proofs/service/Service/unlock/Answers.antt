use Rattle.std.proofs.Common.{◌≡◌, ◌∙◌, List, ℕ, None, ap, subst, rules}
use Rattle.dav_kept.specs.Records.{RequestView}
use Rattle.dav_live.specs.Serving.{IsRun, held_of, own_request}
use Rattle.dav_live.proofs.service.Service.unlock.Goals as goal

pub returns-clause-run : goal.returns-clause-run
returns-clause-run g c =
    let request : c.request_of-request.result ≡ own_request c.args.now c.args.head.now =
    c.request_of-request.ensures ∙ ap (λ (b : List ℕ). record { moment = c.args.now; principal = None; token = None; head = c.args.head.now; body = b }) c.from_static-body.ensures in (
      c.change.new.response,
      subst (λ (q : RequestView). IsRun g.H.Handles.answers (held_of c.args.self.now) q c.change.new.response (held_of c.change.new.self)) request c.in_ok-change.ensures.run,
      search rules,
    )
