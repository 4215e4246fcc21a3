use Rattle.std.proofs.Common.{sym, ◌∙◌, map, string_bytes, false}
use Rattle.std.specs.Option.{option_copied}
use Rattle.std.proofs.lemmas.Result.{err_from_is_err_and}
use Rattle.dav_core.specs.Locks.{requester_of}
use Rattle.dav_core.specs.Path.{names}
use Rattle.dav_engine.specs.MembersView.{members_change}
use Rattle.dav_engine.proofs.GuardLemmas.{parent_unasked, parent_short, parent_goes, parent_locked}
use Rattle.dav_engine.proofs.locks.parent_allowed.Goals as goal

pub returns-then-not-change : goal.returns-then-not-change
returns-then-not-change g c = parent_unasked (requester_of (map string_bytes c.args.tokens.now) false (option_copied c.args.principal)) (names c.args.path.now) c.args.locked (members_change c.args.members) (sym c.change.ensures ∙ c.if-not-change.true)

pub returns-in_err-is_parent_open : goal.returns-in_err-is_parent_open
returns-in_err-is_parent_open g c =
    let p = err_from_is_err_and c.from_residual.result c.from_residual.ensures.1 in
    rw (p.1, p.2) (parent_short (requester_of (map string_bytes c.args.tokens.now) false (option_copied c.args.principal)) (names c.args.path.now) c.args.locked (members_change c.args.members))

pub returns-then-branch : goal.returns-then-branch
returns-then-branch g c =
    parent_goes (requester_of (map string_bytes c.args.tokens.now) false (option_copied c.args.principal)) (names c.args.path.now) c.args.locked (members_change c.args.members) _ (sym c.change.ensures ∙ c.if-not-change.false) c.in_ok-is_parent_open.ensures c.if-branch.true

pub returns-else-branch : goal.returns-else-branch
returns-else-branch g c =
    parent_locked (requester_of (map string_bytes c.args.tokens.now) false (option_copied c.args.principal)) (names c.args.path.now) c.args.locked (members_change c.args.members) _ (sym c.change.ensures ∙ c.if-not-change.false) c.in_ok-is_parent_open.ensures c.if-branch.false
