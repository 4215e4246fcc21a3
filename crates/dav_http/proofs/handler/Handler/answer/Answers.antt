use Rattle.std.proofs.Common.{List, Option, ap, subst, sym, ◌≡◌, ◌∙◌, false}
use Rattle.std.specs.Prelude.{IfOk}
use Rattle.dav_core.specs.Asking.{StoreState}
use Rattle.dav_core.specs.Locks.{Lock}
use Rattle.dav_engine.specs.Reply.{Reply}
use Rattle.dav_server.specs.Server.{HandlerView, Server}
use Rattle.dav_store.specs.Store.{Store}
use Rattle.dav_http.specs.Leaves.{Leaves}
use Rattle.dav_http.specs.Steps.{AnsweredInParts}
use Rattle.dav_http.proofs.HandingLemmas.{told_leaves}
use Rattle.dav_http.proofs.LeavesSteps.{left_as_it_was}
use Rattle.dav_http.proofs.SentSteps.{server_answers, server_stops}
use Rattle.dav_http.proofs.handler.Handler.answer.Goals.{in-Ok+else-was_short-2, in-Err}
use Rattle.dav_http.proofs.handler.Handler.answer.Goals as goal

pub invariant_of-self : goal.invariant_of-self
invariant_of-self g c = (server_answers _ _ _ _ _ c.self.invariant c.requires.moment c.requires.sendable c.in-Ok.ensures.ok.answers).1

pub invariant_of-self-2 : goal.invariant_of-self-2
invariant_of-self-2 g c = elim c.match-handle_to.branch [
  | in-Ok+else-was_short-2 w ↦ (server_answers _ _ _ _ _ c.self.invariant c.requires.moment c.requires.sendable w.in-Ok.ensures.ok.answers).1
  | in-Err w ↦ server_stops _ _ _ _ c.self.invariant c.requires.moment c.requires.sendable w.in-Err.ensures.err.cut
]

pub returns-clause-parts : goal.returns-clause-parts
returns-clause-parts g c =
    let Told : Server → Reply × Option g.row.T.Denot → Type 0 =
    λ old told. AnsweredInParts g.T.Takes.opened g.T.Takes.taken c.args.to old c.args.exchange.now told.0 told.1 c.handle_to.new.self.server in
    elim c.match-handle_to.branch [
      | in-Ok+else-was_short-2 w ↦
          subst (λ r. IfOk r (Told c.args.self.now.server)) (sym w.result-is)
          (subst (λ (h : HandlerView Store (List Lock)). Told h.server w.in-Ok.told) c.self.view_is (record {
            whole = w.in-Ok.ensures.ok.whole;
            answers = w.in-Ok.ensures.ok.answers;
            same = w.in-Ok.ensures.same;
            ample = ap (λ (u : StoreState). u.short) (sym w.fs-in-Ok.ensures.state) ∙ sym w.if-was_short-2.ensures;
            sendable = (server_answers _ _ _ _ _ c.self.invariant c.requires.moment c.requires.sendable w.in-Ok.ensures.ok.answers).0;
            handed = w.in-Ok.ensures.ok.handed;
          }))
      | in-Err w ↦ subst (λ r. IfOk r (Told c.args.self.now.server)) (sym w.result-is) tt
    ]

pub returns-clause-left : goal.returns-clause-left
returns-clause-left g c =
    let Left : Reply × Option g.row.T.Denot → Type 0 = λ told. Leaves c.args.exchange.now.head told.0 → c.handle_to.new.self.server ≡ c.args.self.now.server in
    elim c.match-handle_to.branch [
      | in-Ok+else-was_short-2 w ↦
          subst (λ r. IfOk r Left) (sym w.result-is)
          (λ left.
          left_as_it_was c.self.inside.handler.server c.handle_to.new.self.server c.args.exchange.now w.in-Ok.ensures.ok.whole c.fs.result.now w.fs-in-Ok.result.now w.in-Ok.ensures.same w.in-Ok.ensures.ok.answers
          w.in-Ok.ensures.reading c.self.invariant.world c.requires.moment c.fs.ensures.state w.fs-in-Ok.ensures.state (sym c.if-was_short.ensures) (sym w.if-was_short-2.ensures)
          (told_leaves g.T.Takes.opened g.T.Takes.taken c.args.to w.in-Ok.ensures.ok.whole w.in-Ok.told.0 w.in-Ok.told.1 w.in-Ok.ensures.ok.handed c.args.exchange.now.head left)
          ∙ ap (λ (h : HandlerView Store (List Lock)). h.server) c.self.view_is)
      | in-Err w ↦ subst (λ r. IfOk r Left) (sym w.result-is) tt
    ]
