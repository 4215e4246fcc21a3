use Rattle.std.proofs.Common.{◌≡◌, false, not, map, string_bytes, take}
use Rattle.std.specs.List.{list_any}
use Rattle.std.specs.Option.{option_copied}
use Rattle.dav_core.specs.Locks.{is_free_for, requester_of}
use Rattle.dav_core.specs.Path.{names}
use Rattle.dav_live.proofs.locked.first_in_way.Given as goal

-- no lock is in the way at the places so far
abbrev pub invariant-loop-place : goal.invariant-loop-place
invariant-loop-place l =
    list_any (λ place. not (is_free_for place.deep (requester_of (map string_bytes l.tokens) false (option_copied l.principal)) (names place.path) l.ls))
    (take l.place-index l.places) ≡ false
