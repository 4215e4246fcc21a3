-- What the calls of a list of locks in memory mean by a requester, and by a token and a path.
use Rattle.std.specs.Prelude.{◌≡◌, ℕ, List, Option, Some, None, map, string_bytes}
use Rattle.std.specs.List.{position}
use Rattle.dav_core.specs.Path.{Path}
use Rattle.std.specs.Option.{option_copied}
use Rattle.dav_core.specs.Locks.{Lock, Requester as Seen, requester_of, lock_front, has_token_at}
use Rattle.dav_store.specs.declared.memls.Requester.{Requester}

-- the client as a list of locks sees it: the tokens that it submits, and its principal, where this isn't to be ignored (RFC 4918,
-- sections 6.4 and 7.5)
abbrev pub requester_in : Requester → Seen
requester_in who = requester_of (map string_bytes who.tokens.now) who.ignore_principal (option_copied who.principal)

-- the place in the list of the lock that a token and a path mean: that of the shortest front of the path at which a lock has the token;
-- none where they mean none (RFC 4918, section 9.11)
abbrev pub IsNamedPlace : List ℕ → Path → List Lock → Option ℕ → Type 0
IsNamedPlace token p ls None = lock_front token p ls ≡ None
IsNamedPlace token p ls (Some i) = (q : Path) × (lock_front token p ls ≡ Some q) × (position (has_token_at token q) ls ≡ Some i)
