use Rattle.std.proofs.Common.{◌≡◌, ◌++◌, map, drop, string_bytes}
use Rattle.dav_headers.proofs.language.copied.Given as goal

abbrev pub invariant-loop-item : goal.invariant-loop-item
invariant-loop-item l =
    map string_bytes l.copies.items ++ map string_bytes (drop l.item-index l.items.items)
    ≡ map string_bytes l.items.items
