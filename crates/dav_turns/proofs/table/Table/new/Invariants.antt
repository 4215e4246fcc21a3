use Rattle.std.proofs.Common.{◌≡◌, None, replicate}
use Rattle.dav_turns.proofs.table.Table.new.Given as goal

abbrev pub invariant-loop : goal.invariant-loop
invariant-loop l = l.slots.items ≡ replicate l.counter None
