-- What contracts see of the terms of a lock that is read.
use Rattle.dav_saved.specs.declared.locks.Terms.{Terms}
use Rattle.dav_saved.specs.Locks as spelled

-- the terms of a lock, as they are saved
abbrev pub terms_view : Terms → spelled.Terms
terms_view t = (t.timeout_at, (t.timeout, (t.shared, t.deep)))
