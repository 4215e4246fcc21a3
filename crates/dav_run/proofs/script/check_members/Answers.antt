use Rattle.std.proofs.Common.{◌∙◌, All, sym, subst, true≢false}
use Rattle.std.specs.Prelude.{Option, IsSomeAnd}
use Rattle.serde_json.specs.Data.{Members}
use Rattle.dav_run.specs.Script.{IsMemberOf, member_names}
use Rattle.dav_run.proofs.Members.{all_names, all_keys}
use Rattle.dav_run.proofs.script.check_members.Goals as goal

pub returns-then-has_members-clause-ok : goal.returns-then-has_members-clause-ok
returns-then-has_members-clause-ok c =
    let Holds : Option Members → Type 0 = λ o. IsSomeAnd o (λ members. All (IsMemberOf c.args.form) (member_names members)) in
    subst Holds c.in-Some.ensures
    (all_names (IsMemberOf c.args.form) c.in-Some.members.now.entries (c.has_members.ensures.0 c.if-has_members.true))

pub returns-else-has_members-clause-none : goal.returns-else-has_members-clause-none
returns-else-has_members-clause-none c = λ h.
    let Holds : Option Members → Type 0 = λ o. IsSomeAnd o (λ members. All (IsMemberOf c.args.form) (member_names members)) in
    let names = subst Holds (sym c.in-Some.ensures) h in
    true≢false
    (sym (c.has_members.ensures.1 (all_keys (IsMemberOf c.args.form) c.in-Some.members.now.entries names))
    ∙ c.if-has_members.false)
