-- Prefixes.
use Rattle.std.specs.Prelude.{◌≡◌, ◌⊎◌, ℕ, List, []}
use Rattle.dav_core.specs.Target.{Reads}
use Rattle.dav_server.specs.Target.{BeginsWithSlash}

-- what a server takes as the prefix of its paths: nothing, or a text that begins with a slash and names a path of exactly its own bytes
abbrev pub IsPrefix : List ℕ → Type 0
IsPrefix prefix = (prefix ≡ []) ⊎ (BeginsWithSlash prefix × Reads prefix prefix)
