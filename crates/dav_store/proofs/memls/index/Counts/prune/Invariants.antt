use Rattle.std.proofs.Common.{◌≡◌}
use Rattle.dav_store.specs.LockIndex.{Key, count_of}
use Rattle.dav_store.proofs.memls.index.Counts.prune.Given as goal

-- no count has changed
abbrev pub invariant-loop-name : goal.invariant-loop-name
invariant-loop-name l = (k : Key) → count_of l.self k ≡ count_of l.initial.self k
