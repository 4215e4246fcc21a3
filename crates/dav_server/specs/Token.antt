-- What the constructor of tokens returns for a text.
use Rattle.std.specs.Prelude.{◌≡◌, ℕ, List, Result, Ok, Err}
use Rattle.dav_server.specs.declared.exchange.TokenError.{TokenError}
use Rattle.dav_server.specs.declared.exchange.TokenError.TheVariants.{Refused, Memory}
use Rattle.dav_server.specs.GrantToken.{IsGrantToken}

-- the result is the token of the text; `Refused` exactly where a lock can't be granted with this token, so `Memory` only where it can
abbrev pub GivesToken : List ℕ → Result (List ℕ) TokenError → Type 0
GivesToken text (Ok token) = IsGrantToken text × (token ≡ text)
GivesToken text (Err Refused) = ¬ IsGrantToken text
GivesToken text (Err Memory) = IsGrantToken text
