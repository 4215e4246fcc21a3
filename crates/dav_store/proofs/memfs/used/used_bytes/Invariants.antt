use Rattle.std.proofs.Common.{◌≡◌, take}
use Rattle.dav_store.specs.Subtrees.{under}
use Rattle.dav_store.specs.Used.{used_bytes}
use Rattle.dav_store.proofs.memfs.used.used_bytes.Given as goal

-- the bytes of the files so far
abbrev pub invariant-loop-path : goal.invariant-loop-path
invariant-loop-path l = l.used ≡ used_bytes (take l.path-index (under l.top l.entries.nodes))
