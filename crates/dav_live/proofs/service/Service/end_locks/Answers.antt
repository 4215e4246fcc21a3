use Rattle.std.proofs.Common.{ℕ, ap, refl, subst, ◌∙◌}
use Rattle.dav_live.specs.Admission.{AdmissionView}
use Rattle.dav_live.specs.Serving.{IsEnded, admission_of, held_of, kept_of, none}
use Rattle.dav_live.proofs.RunLemmas.{goes_on_same, goes_on_then}
use Rattle.dav_live.proofs.ServingLemmas.{ends_one}
use Rattle.dav_live.proofs.service.Service.end_locks.Goals as goal

pub loop-init : goal.loop-init
loop-init g c = (none, refl, refl, goes_on_same g.H.Handles.answers g.J.Keeps.is_clean g.J.Keeps.kept (kept_of c.args.self.now) (kept_of c.args.self.now) refl)

pub loop-preserved : goal.loop-preserved
loop-preserved g c =
    let before = c.loop.invariant in
    let ended = c.in_ok-end_lock.ensures.ended c.if-not-branch.false in (
      ends_one g.H.Handles.answers g.H.Ends.ends (admission_of c.args.self.now) (admission_of c.loop.self) (held_of c.args.self.now) (held_of c.loop.self)
          (held_of c.end_lock.new.self) before.0 before.1 ended,
      c.in_ok-end_lock.ensures.same ∙ before.1,
      c.in_ok-end_lock.ensures.logins ∙ before.2,
      goes_on_then g.H.Handles.answers g.J.Keeps.is_clean g.J.Keeps.kept (kept_of c.args.self.now) (kept_of c.loop.self) (kept_of c.end_lock.new.self) before.3 c.in_ok-end_lock.ensures.goes_on,
    )

pub returns-then-not-branch-clause-ended : goal.returns-then-not-branch-clause-ended
returns-then-not-branch-clause-ended g c =
    let before = c.loop.invariant in (
      held_of c.loop.self,
      before.0,
      subst (λ (n : ℕ). IsEnded g.H.Handles.answers g.H.Ends.ends n (held_of c.loop.self) (held_of c.end_lock.new.self)) (ap (λ (a : AdmissionView). a.moment) before.1)
          (c.in_ok-end_lock.ensures.last c.if-not-branch.true),
    )

pub returns-then-not-branch-clause-goes_on : goal.returns-then-not-branch-clause-goes_on
returns-then-not-branch-clause-goes_on g c =
    goes_on_then g.H.Handles.answers g.J.Keeps.is_clean g.J.Keeps.kept (kept_of c.args.self.now) (kept_of c.loop.self) (kept_of c.end_lock.new.self) c.loop.invariant.3
    c.in_ok-end_lock.ensures.goes_on
