-- The numbers of a store: those under which its nodes were created, and those of its tree.
use Rattle.std.specs.Prelude.{ℕ, ◌<◌, ◌≤◌, ◌≢◌}
use Rattle.std.specs.List.{AllByRecursion}
use Rattle.dav_core.specs.World.{Nodes}
use Rattle.dav_store.specs.Entries.{Held}

-- every node was created under a change number below this one
abbrev pub AreMadeBefore : ℕ → Nodes → Type 0
AreMadeBefore n ns = AllByRecursion (λ e. e.1.made < n) ns

-- no node was created under this change number
abbrev pub IsUnmade : ℕ → Nodes → Type 0
IsUnmade n ns = AllByRecursion (λ e. e.1.made ≢ n) ns

-- The nodes of a store were created under change numbers below its next one, and the last number that its tree handed out is at most the
-- next one, since each node that is added takes one of either.
pub record IsNumbered (next : ℕ) (held : Held) : Type 0 where
  pub made : AreMadeBefore next held.nodes
  pub tree : held.last ≤ next
