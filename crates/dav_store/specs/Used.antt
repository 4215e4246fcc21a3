-- How much a store holds: files and folders, and bytes (RFC 4331, section 4).
use Rattle.std.specs.Prelude.{ℕ, ◌+◌, Option, Some, None, length, min}
use Rattle.std.specs.List.{sum_by}
use Rattle.dav_core.specs.Numbers.{max_u64}
use Rattle.dav_core.specs.Path.{Path}
use Rattle.dav_core.specs.World.{Node, Nodes, bytes_of}
use Rattle.dav_store.specs.Sizes.{properties_len}
use Rattle.dav_store.specs.Subtrees.{under}
use Rattle.dav_store.specs.declared.memfs.used.Amount.{Amount}
use Rattle.dav_store.specs.declared.memfs.used.Stored.{Stored}

-- how many bytes a node has: those of a file, and those of its properties
abbrev pub size_of : Node → ℕ
size_of n = length (bytes_of n.kind) + properties_len n.properties

-- how many bytes what is at a path has
abbrev pub len_of : Path × Node → ℕ
len_of e = size_of e.1

-- the bytes of all nodes together, or the largest number of 64 bits where they are more
abbrev pub used_bytes : Nodes → ℕ
used_bytes ns = min (sum_by len_of ns) max_u64

-- how many files and folders these are, and how many bytes they have
abbrev pub amount_of : Nodes → Amount
amount_of ns = record { files = length ns; bytes = used_bytes ns }

-- how much is at a path and below it
abbrev pub amount_at : Path → Nodes → Amount
amount_at p ns = amount_of (under p ns)

-- how much a node is by itself; nothing where there is none
abbrev pub amount_alone : Option Node → Amount
amount_alone None = record { files = 0; bytes = 0 }
amount_alone (Some n) = record { files = 1; bytes = min (size_of n) max_u64 }

-- how many bytes a file has; none where no file is
abbrev pub file_len : Option Node → ℕ
file_len None = 0
file_len (Some n) = length (bytes_of n.kind)

-- how many dead properties a node has, and how many bytes these have; none where nothing is
abbrev pub properties_of : Option Node → Stored
properties_of None = record { count = 0; bytes = 0 }
properties_of (Some n) = record { count = length n.properties; bytes = min (properties_len n.properties) max_u64 }
