-- A file that another process writes.
use Rattle.std.specs.Prelude.{Bool}
use Rattle.dav_follow.specs.declared.shown.Shown.{Shown}

-- it can be read: no sync of it failed
abbrev pub can_be_read : Shown → Bool
can_be_read s = s.is_usable
