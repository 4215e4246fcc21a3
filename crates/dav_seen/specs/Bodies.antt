-- What is read of the body of a PROPFIND, as the code has it.
use Rattle.std.specs.Prelude.{◌≡◌, ℕ, List, None, Some}
use Rattle.std.specs.Result.{result_ok}
use Rattle.dav_xml.specs.Namespaces.{document}
use Rattle.dav_seen.specs.Ways.{IsBodyRefused}
use Rattle.dav_seen.specs.declared.reply.Read.{Read}
use Rattle.dav_seen.specs.declared.reply.Read.TheVariants.{Nothing, Refused, Tree}

-- this was read of these bytes
abbrev pub IsRead : List ℕ → Read → Type 0
IsRead bytes (Tree propfind) = (result_ok (document bytes) ≡ Some propfind) × (¬ IsBodyRefused bytes)
IsRead bytes Nothing = (result_ok (document bytes) ≡ None) × (¬ IsBodyRefused bytes)
IsRead bytes Refused = IsBodyRefused bytes
