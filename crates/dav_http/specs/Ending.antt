-- The request that ends a lock whose time has passed (RFC 4918, sections 6.6 and 9.11).
use Rattle.std.specs.Prelude.{◌≡◌, List, ℕ, ◌++◌, codes}
use Rattle.dav_core.specs.Locks.{Lock}
use Rattle.dav_core.specs.Path.{full_bytes}
use Rattle.dav_core.specs.UrlText.{IsTextOf}

-- the head of an UNLOCK for a path, with a token (RFC 4918, sections 9.11 and 10.5)
abbrev pub unlock_text : List ℕ → List ℕ → List ℕ
unlock_text path token = codes "UNLOCK " ++ path ++ codes " HTTP/1.1\r\nLock-Token: <" ++ token ++ codes ">\r\n\r\n"

-- the head of an UNLOCK of a lock: the text of its path in a URL, and its token (RFC 4918, section 9.11)
abbrev pub IsUnlockHead : Lock → List ℕ → Type 0
IsUnlockHead l head = (path : List ℕ) × IsTextOf (full_bytes l.path) path × (head ≡ unlock_text path l.token)
