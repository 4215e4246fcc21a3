use Rattle.std.proofs.Common.{◌+◌, ◌++◌, ℕ, List, [], drop, take}
use Rattle.std.specs.Option.{option_copied}
use Rattle.dav_access.specs.declared.fault.Fault.{Fault}
use Rattle.dav_access.specs.declared.grant.Grant.{Grant}
use Rattle.dav_access.specs.RulesText.{Grants, Limits}
use Rattle.dav_access.specs.RulesFaults.{HasFirstFault}
use Rattle.dav_access.proofs.file.Reader.read_lines.Given as goal

abbrev pub invariant-loop-place : goal.invariant-loop-place
invariant-loop-place l =
    ((more : List Grant) → Grants (option_copied l.fn.self.users) l.fn.self.lines.now (take l.place l.fn.self.lines.now) (drop l.place l.fn.self.lines.now) more
    → Grants (option_copied l.fn.self.users) l.fn.self.lines.now [] l.fn.self.lines.now (l.grants.items ++ more))
    × ((number : ℕ) (fault : Fault) → HasFirstFault (option_copied l.fn.self.users) l.fn.self.lines.now (take l.place l.fn.self.lines.now) (drop l.place l.fn.self.lines.now) number fault
    → HasFirstFault (option_copied l.fn.self.users) l.fn.self.lines.now [] l.fn.self.lines.now (l.place + number) fault)
    × Limits (take l.place l.fn.self.lines.now) l.limits.items
