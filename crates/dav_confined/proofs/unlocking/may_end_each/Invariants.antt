use Rattle.std.proofs.Common.{take}
use Rattle.std.specs.List.{AllByRecursion}
use Rattle.std.specs.Option.{option_copied}
use Rattle.dav_confined.specs.Unlocking.{MayEndNamed}
use Rattle.dav_confined.proofs.unlocking.may_end_each.Given as goal

-- the locks so far may be ended, where they are named
abbrev pub invariant-loop-place : goal.invariant-loop-place
invariant-loop-place l = AllByRecursion (MayEndNamed l.rules (option_copied l.who) l.unlock) (take l.place l.locks)
