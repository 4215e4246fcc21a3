-- How the logic stores what contracts see of a store in memory: its world, and whether an allocation in it ever failed.
use Rattle.std.specs.Prelude.{Bool, refl}
use Rattle.std.specs.Coded.{Coded, code_by, coded_bool, coded×}
use Rattle.dav_core.specs.World.{World}
use Rattle.dav_core.specs.WorldCode.{coded_world}
use Rattle.dav_store.specs.Store.{Store}

-- how the logic encodes what contracts see of a store in memory: as the pair of its fields
abbrev pub coded_store : Coded Store
coded_store = code_by (World × Bool) (coded× coded_world coded_bool) (λ s. (s.world, s.short)) (λ p. record { world = p.0; short = p.1 }) (λ _. refl)
