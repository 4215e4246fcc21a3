use Rattle.std.proofs.Common.{◌≡◌, ◌↔◌, ◌∙◌, ◌+◌, ◌++◌, ◌∷◌, ◌≤◌, List, [], IsTrue, map, take, length, sym, subst, true≢false, arith}
use Rattle.std.proofs.lemmas.List.{take_all}
use Rattle.dav_core.specs.Locks.{Lock}
use Rattle.dav_server.specs.Isolation.{HolderTurns, alone_none}
use Rattle.dav_server.specs.Naming.{NamesLock}
use Rattle.dav_server.specs.Run.{Turn}
use Rattle.dav_run.specs.declared.request.Request as request
use Rattle.dav_run.specs.Play.{MayBeGranted, turn_for}
use Rattle.dav_run.specs.Script.{script_request}
use Rattle.dav_run.proofs.AloneLemmas.{other_more, own_more, turn_of_request}
use Rattle.dav_run.proofs.play.own_steps.Goals as goal
use Rattle.dav_run.proofs.play.own_steps.Goals.{then-branch+in_ok-push, else-branch}

pub loop-request-init : goal.loop-request-init
loop-request-init c = λ h may. subst (λ (l : List Turn). HolderTurns h [] l) (sym c.new-steps.ensures.items) alone_none

pub loop-request-preserved : goal.loop-request-preserved
loop-request-preserved c =
    let grant : Turn = turn_for (script_request c.args.grant.now) in
    let names : (h : Lock) → MayBeGranted grant h → (IsTrue c.in_ok-is_own.field-0 ↔ NamesLock h (turn_of_request c.request-item.result).asked) =
    λ h may. subst (λ (t : Turn). IsTrue c.in_ok-is_own.field-0 ↔ NamesLock h t.asked) c.in_ok-step.ensures (c.in_ok-is_own.ensures h may) in
    let So_far : List Turn → Type 0 = λ steps. (h : Lock) → MayBeGranted grant h
    → HolderTurns h (map turn_for (map script_request (take (c.loop-request.request-index + 1) c.args.requests.now))) steps in
    elim c.if-branch.branch [
      | then-branch+in_ok-push w ↦
          let grown : c.if-branch.steps.items ≡ c.loop-request.steps.items ++ turn_of_request c.request-item.result ∷ [] = cc (w.steps-is, w.in_ok-push.ensures.items, c.in_ok-step.ensures) in
          subst So_far (sym grown)
          (own_more c.args.requests.now c.loop-request.request-index c.request-item.result grant c.loop-request.steps.items c.loop-request-test.true c.request-item.is
          (λ h may. (names h may).0 w.if-branch.true) c.loop-request.invariant)
      | else-branch w ↦
          let same : c.if-branch.steps.items ≡ c.loop-request.steps.items = cc (w.steps-is) in
          subst So_far (sym same)
          (other_more c.args.requests.now c.loop-request.request-index c.request-item.result grant c.loop-request.steps.items c.loop-request-test.true c.request-item.is
          (λ h may named. true≢false (sym ((names h may).1 named) ∙ w.if-branch.false)) c.loop-request.invariant)
    ]

pub returns : goal.returns
returns c =
    let past : length c.args.requests.now ≤ c.loop-request.request-index = omega arith in
    let all : take c.loop-request.request-index c.args.requests.now ≡ c.args.requests.now = take_all _ _ past in
    λ h may. subst (λ (rs : List request.Request). HolderTurns h (map turn_for (map script_request rs)) c.loop-request.steps.items) all (c.loop-request.invariant h may)
