use Rattle.std.proofs.Common.{◌≡◌, map}
use Rattle.dav_core.specs.Path.{names}
use Rattle.dav_store.proofs.memfs.list.Given as goal

-- the members so far are listed, each in the folder
abbrev pub invariant-loop-name : goal.invariant-loop-name
invariant-loop-name l =
    (map (λ e. (e.name, e.dir)) l.list.items ≡ l.yielded)
    × (map (λ e. e.folder) l.list.items ≡ map (λ _. names l.path) l.list.items)
