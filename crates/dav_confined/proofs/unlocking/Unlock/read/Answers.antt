use Rattle.std.proofs.Common.{◌≡◌, List, Ok, codes, subst, sym, true≢false, ℕ, string_bytes, ◌∙◌}
use Rattle.dav_core.specs.Path.{PathText}
use Rattle.dav_core.specs.declared.method.DavMethod.TheVariants.{Unlock}
use Rattle.dav_server.specs.Target.{TargetNames}
use Rattle.dav_confined.proofs.ReadingLemmas.{at_none, at_some, names_by, names_none, no_head, no_target, no_token, other_names_none, token_said, token_unsaid}
use Rattle.dav_confined.proofs.unlocking.Unlock.read.Goals as goal

pub returns-in_default : goal.returns-in_default
returns-in_default c = λ s x at is. names_none s x c.args.prefix.now c.args.head.now at is (no_head s x c.args.prefix.now c.args.head.now at is c.in_default.ensures.err.1)

pub returns-then-not-is_unlock : goal.returns-then-not-is_unlock
returns-then-not-is_unlock c = λ s x at is.
    other_names_none s x c.args.prefix.now c.args.head.now at is c.in-Ok.view c.in-Ok.ensures.ok
    (λ unlock. true≢false (sym (c.is_unlock.ensures.1 (c.method.ensures ∙ unlock)) ∙ c.if-not-is_unlock.true))

pub returns-in_default-2 : goal.returns-in_default-2
returns-in_default-2 c = λ s x at is.
    names_none s x c.args.prefix.now c.args.head.now at is
    (no_target s x c.args.prefix.now c.args.head.now at is c.in-Ok.view c.in-Ok.ensures.ok Unlock (tt, sym c.method.ensures ∙ c.is_unlock.ensures.0 c.if-not-is_unlock.false)
    (subst (λ (t : List ℕ). (p : PathText) → ¬ TargetNames c.args.prefix.now Unlock t (Ok p)) c.target.ensures (at_none _ _ c.in_default-2.is c.in_ok-path.ensures)))

pub returns-in-Some-2 : goal.returns-in-Some-2
returns-in-Some-2 c = λ s x at is.
    names_by s x c.args.prefix.now c.args.head.now at is c.in-Ok.view c.in-Ok.ensures.ok (sym c.method.ensures ∙ c.is_unlock.ensures.0 c.if-not-is_unlock.false) c.in_ok-headers.headers c.in_ok-headers.ensures
    (record { path = c.in-Some.path; token = string_bytes c.in-Some-2.token })
    (subst (λ (t : List ℕ). TargetNames c.args.prefix.now Unlock t (Ok c.in-Some.path)) c.target.ensures (at_some _ _ _ c.in-Some.path c.in-Some.is c.in_ok-path.ensures))
    (token_said string_bytes c.in_ok-headers.headers _ c.in-Some-2.token c.in-Some-2.is c.in_ok-token.ensures)

pub returns-in-None : goal.returns-in-None
returns-in-None c = λ s x at is.
    no_token s x c.args.prefix.now c.args.head.now at is c.in-Ok.view c.in-Ok.ensures.ok (sym c.method.ensures ∙ c.is_unlock.ensures.0 c.if-not-is_unlock.false) c.in_ok-headers.headers c.in_ok-headers.ensures
    (token_unsaid string_bytes c.in_ok-headers.headers _ c.in-None.is c.in_ok-token.ensures)
