use Rattle.std.proofs.Common.{◌≡◌, ap, rules, subst, sym, true≢false, ℕ, ◌∙◌}
use Rattle.std.specs.Option.{option_copied}
use Rattle.dav_http.specs.Refused.{Tells}
use Rattle.dav_live.specs.Answers.{IsNotRun, IsRefused, barred, barred_status, full, refused}
use Rattle.dav_live.proofs.MachineLemmas.{run_within}
use Rattle.dav_live.proofs.machine.MachineEnds.refusal.Goals as goal

pub returns-then-branch : goal.returns-then-branch
returns-then-branch c =
    let who : option_copied c.request.inside.principal ≡ c.args.request.now.principal = search rules in
    subst (λ (n : ℕ). IsNotRun (option_copied c.args.rules) c.args.limits.now c.args.self.now c.args.head.now c.args.request.now n) (sym (c.barred_status.ensures ∙ ap barred_status who))
    (barred (c.in_ok-is_barred.ensures.0 c.if-branch.true))

pub returns-in-Some : goal.returns-in-Some
returns-in-Some c =
    refused (λ bars. true≢false (sym (c.in_ok-is_barred.ensures.1 bars) ∙ c.if-branch.false))
    (subst (Tells (IsRefused c.args.self.now c.args.request.now)) c.in-Some.is c.in_ok-status.ensures)

pub returns-then-branch-2 : goal.returns-then-branch-2
returns-then-branch-2 c =
    full (λ bars. true≢false (sym (c.in_ok-is_barred.ensures.1 bars) ∙ c.if-branch.false))
    (subst (Tells (IsRefused c.args.self.now c.args.request.now)) c.in_default.is c.in_ok-status.ensures)
    (c.in_ok-is_past.ensures.0 c.if-branch-2.true)

pub returns : goal.returns
returns c =
    run_within (option_copied c.args.rules) c.args.limits.now c.args.self.now c.args.head.now c.args.request.now
    (λ bars. true≢false (sym (c.in_ok-is_barred.ensures.1 bars) ∙ c.if-branch.false))
    (subst (Tells (IsRefused c.args.self.now c.args.request.now)) c.in_default.is c.in_ok-status.ensures)
    (λ past. true≢false (sym (c.in_ok-is_past.ensures.1 past) ∙ c.if-branch-2.false))
