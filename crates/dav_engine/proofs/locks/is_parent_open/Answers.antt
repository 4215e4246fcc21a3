use Rattle.std.proofs.Common.{map, string_bytes, false}
use Rattle.std.specs.Option.{option_copied}
use Rattle.dav_core.specs.Locks.{requester_of}
use Rattle.dav_core.specs.Path.{names}
use Rattle.dav_core.proofs.Theorems.{parent_names}
use Rattle.dav_engine.proofs.GuardLemmas.{root_open, parent_open}
use Rattle.dav_engine.proofs.locks.is_parent_open.Goals as goal

pub returns-then-is_root : goal.returns-then-is_root
returns-then-is_root g c =
    root_open (requester_of (map string_bytes c.args.tokens.now) false (option_copied c.args.principal)) (names c.args.path.now) _ c.is_root.result c.is_root.ensures c.if-is_root.true

pub returns : goal.returns
returns g c =
    parent_open (requester_of (map string_bytes c.args.tokens.now) false (option_copied c.args.principal)) (names c.args.path.now) (names c.in_ok-parent.parent) _ c.is_root.result c.is_open.result c.is_root.ensures c.if-is_root.false
    (parent_names c.args.path.now.bytes c.in_ok-parent.parent.bytes c.in_ok-parent.ensures.parent) c.is_open.ensures
