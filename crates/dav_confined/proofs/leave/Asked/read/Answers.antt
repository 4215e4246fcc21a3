use Rattle.std.proofs.Common.{List, Ok, Err, subst, ℕ}
use Rattle.dav_core.specs.Path.{PathText}
use Rattle.dav_server.specs.Method.{GivesServed}
use Rattle.dav_server.specs.Target.{TargetNames}
use Rattle.dav_confined.proofs.ReadingLemmas.{at_none, no_head, no_method, no_target}
use Rattle.dav_confined.proofs.leave.Asked.read.Goals as goal

pub returns-in_default : goal.returns-in_default
returns-in_default c = λ s x at is. no_head s x c.args.prefix.now c.args.head.now at is c.in_default.ensures.err.1

pub returns-in_default-method_of : goal.returns-in_default-method_of
returns-in_default-method_of c = λ s x at is.
    no_method s x c.args.prefix.now c.args.head.now at is c.in-Ok.view c.in-Ok.ensures.ok c.in_default-method_of.field-0
    (subst (λ (t : List ℕ). GivesServed t (Err c.in_default-method_of.field-0)) c.method.ensures c.in_default-method_of.ensures)

pub returns-in_default-2 : goal.returns-in_default-2
returns-in_default-2 c = λ s x at is.
    no_target s x c.args.prefix.now c.args.head.now at is c.in-Ok.view c.in-Ok.ensures.ok c.in-Ok-method_of.method
    (subst (λ (t : List ℕ). GivesServed t (Ok c.in-Ok-method_of.method)) c.method.ensures c.in-Ok-method_of.ensures)
    (subst (λ (t : List ℕ). (p : PathText) → ¬ TargetNames c.args.prefix.now c.in-Ok-method_of.method t (Ok p)) c.target.ensures (at_none _ _ c.in_default-2.is c.in_ok-path.ensures))
