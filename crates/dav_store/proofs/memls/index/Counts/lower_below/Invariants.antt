use Rattle.std.proofs.Common.{◌≡◌, ◌-◌, take}
use Rattle.std.specs.List.{filter}
use Rattle.dav_core.specs.Path.{names, is_at_or_under}
use Rattle.dav_store.specs.LockIndex.{Key, count_of, tally}
use Rattle.dav_store.proofs.memls.index.Counts.lower_below.Given as goal

-- each key has lost what the locks so far have
abbrev pub invariant-loop-kept : goal.invariant-loop-kept
invariant-loop-kept l =
    (k : Key) → count_of l.self k ≡ count_of l.initial.self k - tally k (filter (λ m. is_at_or_under (names m.path) (names l.path)) (take l.kept-index l.locks))
