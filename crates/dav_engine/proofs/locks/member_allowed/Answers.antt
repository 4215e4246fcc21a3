use Rattle.std.proofs.Common.{map, string_bytes, false}
use Rattle.std.specs.Option.{option_copied}
use Rattle.dav_core.specs.Locks.{requester_of}
use Rattle.dav_core.specs.Path.{names}
use Rattle.dav_engine.specs.MembersView.{members_change}
use Rattle.dav_engine.specs.Reach.{reaches_below}
use Rattle.dav_engine.proofs.GuardLemmas.{member_locked, member_goes}
use Rattle.dav_engine.proofs.locks.member_allowed.Goals as goal

pub returns-then-not-is_open : goal.returns-then-not-is_open
returns-then-not-is_open g c =
    member_locked (requester_of (map string_bytes c.args.tokens.now) false (option_copied c.args.principal)) (names c.args.path.now) c.args.locked (reaches_below c.args.reach) (members_change c.args.members) c.is_open.result c.is_open.ensures c.if-not-is_open.true

pub returns : goal.returns
returns g c =
    member_goes (requester_of (map string_bytes c.args.tokens.now) false (option_copied c.args.principal)) (names c.args.path.now) c.args.locked (reaches_below c.args.reach) (members_change c.args.members) c.is_open.result c.is_open.ensures c.if-not-is_open.false c.parent_allowed.ensures
