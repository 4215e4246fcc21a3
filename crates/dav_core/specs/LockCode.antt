-- How the logic stores a lock: as the tuple of its fields.
use Rattle.std.specs.Prelude.{ℕ, Bool, List, Option, refl}
use Rattle.std.specs.Coded.{Coded, code_by, coded_ℕ, coded_bool, coded_option, coded×}
use Rattle.dav_core.specs.Element.{ElementTree}
use Rattle.dav_core.specs.ElementCode.{bytes_code, coded_tree}
use Rattle.dav_core.specs.Path.{PathText}
use Rattle.dav_core.specs.Locks.{Lock}

abbrev path_code : Coded PathText
path_code = code_by (List ℕ × List ℕ) (coded× bytes_code bytes_code) (λ p. (p.prefix, p.bytes)) (λ t. record { prefix = t.0; bytes = t.1 }) (λ _. refl)

-- when a lock ends, after how many seconds, whether it is shared, and whether it is of infinite depth
abbrev Reach : Type 0
Reach = Option ℕ × (Option ℕ × (Bool × Bool))

abbrev reach_code : Coded Reach
reach_code = coded× (coded_option coded_ℕ) (coded× (coded_option coded_ℕ) (coded× coded_bool coded_bool))

abbrev Fields : Type 0
Fields = List ℕ × (PathText × (Option (List ℕ) × (Option ElementTree × Reach)))

-- How the logic stores a lock, one to one; nothing but the checker needs it.
abbrev pub lock_code : Coded Lock
lock_code =
    code_by Fields (coded× bytes_code (coded× path_code (coded× (coded_option bytes_code) (coded× (coded_option coded_tree) reach_code))))
    (λ l. (l.token, (l.path, (l.principal, (l.owner, (l.timeout_at, (l.timeout, (l.shared, l.deep))))))))
    (λ t. record {
      token = t.0;
      path = t.1.0;
      principal = t.1.1.0;
      owner = t.1.1.1.0;
      timeout_at = t.1.1.1.1.0;
      timeout = t.1.1.1.1.1.0;
      shared = t.1.1.1.1.1.1.0;
      deep = t.1.1.1.1.1.1.1;
    }) (λ _. refl)
