-- What a request does to the members of the folder above a path.
use Rattle.std.specs.Prelude.{Bool, true, false}
use Rattle.dav_engine.specs.declared.locks.Members.{Members}
use Rattle.dav_engine.specs.declared.locks.Members.TheVariants.{Change, Stay}

-- whether the folder's list of members changes, which a lock on it protects (RFC 4918, section 7.4)
abbrev pub members_change : Members → Bool
members_change Change = true
members_change Stay = false
