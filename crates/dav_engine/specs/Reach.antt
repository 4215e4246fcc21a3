-- What of a path a request is for.
use Rattle.std.specs.Prelude.{Bool, true, false}
use Rattle.dav_engine.specs.declared.depth.Reach.{Reach}
use Rattle.dav_engine.specs.declared.depth.Reach.TheVariants.{Alone, WithAllBelow}

-- whether everything below the path belongs to it too (RFC 4918, section 10.2)
abbrev pub reaches_below : Reach → Bool
reaches_below Alone = false
reaches_below WithAllBelow = true
