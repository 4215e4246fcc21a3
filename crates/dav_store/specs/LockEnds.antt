-- When locks end (RFC 4918, section 6.6).
use Rattle.std.specs.Prelude.{ℕ, nat_le, Bool, false, List, Option, Some, None}
use Rattle.std.specs.List.{find as first}
use Rattle.dav_core.specs.Locks.{Lock}

-- whether an end is at this moment or before; what never ends has none (RFC 4918, section 10.7)
abbrev pub is_past : ℕ → Option ℕ → Bool
is_past now None = false
is_past now (Some end) = nat_le end now

-- whether the time of a lock ended at this moment or before (RFC 4918, section 6.6)
abbrev pub has_ended : ℕ → Lock → Bool
has_ended now l = is_past now l.timeout_at

-- the first lock of the list whose time ended, if there is one
abbrev pub first_ended : ℕ → List Lock → Option Lock
first_ended now ls = first (has_ended now) ls
