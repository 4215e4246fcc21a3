use Rattle.std.proofs.Common.{List, ℕ, refl, subst, sym}
use Rattle.dav_server.specs.Head.{IsHead, Request}
use Rattle.dav_live.specs.Serving.{headless, kept_of, no_head}
use Rattle.dav_live.proofs.RunLemmas.{goes_on_same}
use Rattle.dav_live.proofs.service.Service.respond.Goals as goal

pub returns-in-None-clause-replies : goal.returns-in-None-clause-replies
returns-in-None-clause-replies g c =
    let none : (r : Request) → ¬ IsHead c.args.asked.now.head r =
    λ r is. c.in-None.ensures r (subst (λ (b : List ℕ). IsHead b r) (sym c.as_slice.ensures) is) in
    headless none (no_head none (record { status = refl; headers = c.requires.headers; body = c.requires.body }) refl) refl

pub returns-in-None-clause-goes_on : goal.returns-in-None-clause-goes_on
returns-in-None-clause-goes_on g c = goes_on_same g.H.Handles.answers g.J.Keeps.is_clean g.J.Keeps.kept (kept_of c.args.self.now) c.args.self.now.kept refl
