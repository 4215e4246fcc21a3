-- How many dead properties the body of a PROPPATCH sets, at most, and how many bytes they have (RFC 4918, sections 9.2 and 14.26).
use Rattle.std.specs.Prelude.{ℕ, ◌*◌, Bool, List, Result, Ok, Err, cond, codes, length, min}
use Rattle.std.specs.List.{sum_by}
use Rattle.dav_core.specs.Element.{ElementTree, children_of, is_named}
use Rattle.dav_core.specs.Numbers.{max_u64}
use Rattle.dav_store.specs.Sizes.{tree_len}
use Rattle.dav_store.specs.declared.memfs.used.Stored.{Stored}
use Rattle.dav_xml.specs.declared.error.Fault.{Fault}
use Rattle.dav_xml.specs.Namespaces.{document}

-- an element that sets properties
abbrev pub is_set : ElementTree → Bool
is_set t = is_named (codes "set") t

-- a sum over the elements of a body that set properties
abbrev pub sum_of_sets : (ElementTree → ℕ) → ElementTree → ℕ
sum_of_sets f tree = sum_by (λ t. cond (is_set t) (f t) 0) (children_of tree)

-- how many properties are within what an element has
abbrev pub within_set : ElementTree → ℕ
within_set t = sum_by (λ p. length (children_of p)) (children_of t)

-- how many properties a body sets, at most
abbrev pub set_count : ElementTree → ℕ
set_count tree = sum_of_sets within_set tree

-- how many bytes they have, at most: each has an element, and is known by that element's namespace and name
abbrev pub set_bytes : ElementTree → ℕ
set_bytes tree = 2 * sum_of_sets tree_len tree

-- both, as far as they are counted
abbrev pub set_by : ElementTree → Stored
set_by tree = record { count = min (set_count tree) max_u64; bytes = min (set_bytes tree) max_u64 }

-- the same of what is read; none where it isn't read
abbrev pub set_of : Result ElementTree Fault → Stored
set_of (Ok tree) = set_by tree
set_of (Err fault) = record { count = 0; bytes = 0 }

-- how many properties a body sets, at most, and how many bytes they have
abbrev pub set_in : List ℕ → Stored
set_in body = set_of (document body)
