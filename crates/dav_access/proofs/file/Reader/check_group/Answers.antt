use Rattle.std.proofs.Common.{◌∙◌, ap, map, not, sym, subst}
use Rattle.std.specs.Option.{option_copied}
use Rattle.dav_access.specs.RulesText.{AllUsers}
use Rattle.dav_access.specs.RulesFaults.{IsGroupFault, NamesDoubleGroup, NamesNoUser, nobody}
use Rattle.dav_access.proofs.RulesTextLemmas.{double_is, fault_as, member_unknown, nil_now, now_at, some_now, user_too, when_none, when_some, whole_now, within_now}
use Rattle.std.proofs.Common.{eqb-true}
use Rattle.dav_access.proofs.file.Reader.check_group.Goals as goal

pub returns-then-is_some : goal.returns-then-is_some
returns-then-is_some c =
    let m = when_some _ _ c.members_of.result (sym c.is_some.ensures ∙ c.if-is_some.true) c.members_of.ensures in
    fault_as _ _ c.double_group.result (double_is (option_copied c.args.self.now.users) c.args.before.now c.args.group.now (map (λ w. w.now) c.args.members.now) _ m.1) c.double_group.ensures

pub returns-then-is_empty : goal.returns-then-is_empty
returns-then-is_empty c =
    nobody (when_none _ _ c.members_of.result (sym c.is_some.ensures ∙ c.if-is_some.false) c.members_of.ensures)
    (nil_now c.args.members.now (eqb-true _ _ (sym c.is_empty.ensures ∙ c.if-is_empty.true)))

pub returns-then-is_none : goal.returns-then-is_none
returns-then-is_none c =
    let words = c.args.members.now in
    let place = c.loop-word.word-index in
    let none_before = when_none _ _ c.members_of.result (sym c.is_some.ensures ∙ c.if-is_some.false) c.members_of.ensures in
    let unlisted = when_none _ _ c.in_ok-user_of.field-0 (c.is_none.ensures ∙ ap not c.if-is_none.true) c.in_ok-user_of.ensures in
    fault_as _ _ c.no_user.result
    (member_unknown (option_copied c.args.self.now.users) c.args.before.now c.args.group.now (map (λ w. w.now) words) place _ (within_now words place c.loop-word-test.true)
    (now_at words place _ c.loop-word-test.true) none_before c.loop-word.invariant unlisted)
    c.no_user.ensures

pub loop-word-preserved : goal.loop-word-preserved
loop-word-preserved c =
    let words = c.args.members.now in
    let place = c.loop-word.word-index in
    let known = when_some _ _ c.in_ok-user_of.field-0 (c.is_none.ensures ∙ ap not c.if-is_none.false) c.in_ok-user_of.ensures in
    user_too (option_copied c.args.self.now.users) (map (λ w. w.now) words) place _ (within_now words place c.loop-word-test.true) (now_at words place _ c.loop-word-test.true) c.loop-word.invariant known.1.0

pub returns : goal.returns
returns c = (
  when_none _ _ c.members_of.result (sym c.is_some.ensures ∙ c.if-is_some.false) c.members_of.ensures,
  some_now c.args.members.now (sym c.is_empty.ensures ∙ c.if-is_empty.false),
  subst (AllUsers (option_copied c.args.self.now.users)) (whole_now c.args.members.now c.loop-word.word-index c.loop-word-test.false) c.loop-word.invariant,
)
