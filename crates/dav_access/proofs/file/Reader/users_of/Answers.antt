use Rattle.std.proofs.Common.{◌∙◌, map, sym, ap, subst}
use Rattle.std.specs.Option.{option_copied}
use Rattle.dav_access.specs.RulesText.{Means, group, users_among}
use Rattle.dav_access.proofs.RulesTextLemmas.{now_at, user_added, user_left_out, whole_now, within_now}
use Rattle.dav_access.proofs.file.Reader.users_of.Goals as goal
use Rattle.dav_access.proofs.file.Reader.users_of.Goals.{in-Some-2+in_ok-push, in_default-2}

pub loop-word-preserved : goal.loop-word-preserved
loop-word-preserved c =
    let words = c.in-Some.members.now in
    let place = c.loop-word.word-index in
    let users = option_copied c.args.self.now.users in
    elim c.match-branch-2.branch [
      | in-Some-2+in_ok-push w ↦
          let known = rw w.in-Some-2.is at c.in_ok-name.ensures in
          rw (w.whom-is, w.in_ok-push.ensures.items)
          (user_added users (map (λ w. w.now) words) place _ (within_now words place c.loop-word-test.true) (now_at words place _ c.loop-word-test.true) w.in-Some-2.name c.loop-word.whom.items
          known.0 known.1 c.loop-word.invariant)
      | in_default-2 w ↦
          let unlisted = rw w.in_default-2.is at c.in_ok-name.ensures in
          rw w.whom-is
          (user_left_out users (map (λ w. w.now) words) place _ (within_now words place c.loop-word-test.true) (now_at words place _ c.loop-word-test.true) c.loop-word.whom.items unlisted c.loop-word.invariant)
    ]

pub returns : goal.returns
returns c =
    let users = option_copied c.args.self.now.users in
    subst (Means users c.args.self.now.lines.now c.args.group.now)
    (sym (c.loop-word.invariant ∙ ap (users_among users) (whole_now c.in-Some.members.now c.loop-word.word-index c.loop-word-test.false))) (group c.in-Some.ensures)
