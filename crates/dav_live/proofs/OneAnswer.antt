-- A record leads from one server to one server.
use Rattle.std.proofs.Common.{◌≡◌, ℕ, List, refl, ap, ◌∙◌}
use Rattle.http_server.specs.declared.response.Response.{Response}
use Rattle.dav_server.specs.Server.{Server}
use Rattle.dav_http.specs.Saved.{Loads}
use Rattle.dav_http.proofs.OneAnswer.{steps_are_one}
use Rattle.dav_http.proofs.SavedLaws.{loads_one_server}
use Rattle.dav_kept.specs.Kept.{answer_step}
use Rattle.dav_kept.specs.Life.{IsDetermined}
use Rattle.dav_kept.specs.Records.{RequestView}
use Rattle.dav_kept.proofs.LifeLemmas.{runs_are_one}
use Rattle.dav_live.specs.Answers.{IsAnswer, caller_of, replied, shown}
use Rattle.dav_live.specs.Life.{RestartsChangeNothing}

one_end : (q : RequestView) (old one other : Server) (x y : Response) → IsAnswer old q x one → IsAnswer old q y other → one ≡ other
one_end q old one other x y (replied r step sent) (replied s also sent') = (steps_are_one q.head q.body (caller_of q) old one other r s step also).1
one_end q old one _ x y (replied r step sent) (shown s sees also status page) = (steps_are_one q.head q.body (caller_of q) old one old r s step also).1
one_end q old _ other x y (shown r sees step status page) (replied s also sent) = (steps_are_one q.head q.body (caller_of q) old old other r s step also).1
one_end q old _ _ x y (shown r sees step status page) (shown s sees' also status' page') = refl

pub answers_are_one : IsDetermined (answer_step IsAnswer)
answers_are_one old r one other (x, status, is) (y, status', also) = one_end r.request old one other x y is also

pub restarts_change_nothing : RestartsChangeNothing
restarts_change_nothing first start blocks a b x y batch =
    let one = runs_are_one IsAnswer Loads first start blocks a b x y batch in
    let state : a.state ≡ b.state = one.3 answers_are_one loads_one_server in
    ap (λ (s : Server). record { state = s; batch = a.batch; tokens = a.tokens; latest = a.latest }) state
    ∙ ap (λ (l : List ℕ). record { state = b.state; batch = l; tokens = a.tokens; latest = a.latest }) batch
    ∙ ap (λ (n : ℕ). record { state = b.state; batch = b.batch; tokens = n; latest = a.latest }) one.1
    ∙ ap (λ (n : ℕ). record { state = b.state; batch = b.batch; tokens = b.tokens; latest = n }) one.2
