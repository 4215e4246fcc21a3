-- Write locks (RFC 4918, sections 6 and 7): one list, in order of granting.
use Rattle.std.specs.Prelude.{◌≡◌, ℕ, ◌+◌, ◌&&◌, ◌||◌, Bool, true, not, if◌then◌else◌, bytes_eq, List, Contains, Option, Result, Ok, Err}
use denote.Ref.{Bor}
use Rattle.std.specs.List.{filter, flat_map, list_any, list_all, find as first}
use Rattle.std.specs.Option.{option_map, option_and_then, option_eq}
use Rattle.dav_core.specs.Element.{ElementTree}
use Rattle.dav_core.specs.Lists.{is_empty, without_first, change_first}
use Rattle.dav_core.specs.Path.{Path, PathText, names, is_root, parent_of, is_same_path, is_under, is_at_or_under, fronts}

-- A lock: its token, the path that it is on, its principal, the element in which its owner describes itself, when it ends
-- and after how many seconds, whether it is shared, and whether it is of infinite depth, on everything below its path too
-- (RFC 4918, sections 6.1 to 6.6).
pub record Lock : Type 0 where
  pub token : List ℕ
  pub path : PathText
  pub principal : Option (List ℕ)
  pub owner : Option ElementTree
  pub timeout_at : Option ℕ
  pub timeout : Option ℕ
  pub shared : Bool
  pub deep : Bool

-- Whether a lock covers a path: its own path, and if it is of infinite depth everything below that (RFC 4918, section 6.1).
abbrev pub covers : Lock → Path → Bool
covers l p = is_same_path (names l.path) p || (l.deep && is_under p (names l.path))

-- the locks of the list that cover a path (RFC 4918, section 6.1)
abbrev pub covering : Path → List Lock → List Lock
covering p ls = filter (λ l. covers l p) ls

-- The locks of the list whose path is below p.
abbrev pub locks_below : Path → List Lock → List Lock
locks_below p ls = filter (λ l. is_under (names l.path) p) ls

-- Who may hold a lock: anyone who submits its token, or only the one with this principal, which may be none (RFC 4918, section 6.4).
pub data Claimant : Type 0 where
  Anyone : Claimant
  By : Option (List ℕ) → Claimant

-- A requester: the tokens that it submits, and the principal that it claims, where that is checked (RFC 4918, sections 6.4 and 7.5).
pub record Requester : Type 0 where
  pub tokens : List (List ℕ)
  pub principal : Claimant

-- the requester that submits these tokens, with a principal that is ignored or checked (RFC 4918, section 6.4)
abbrev pub requester_of : List (List ℕ) → Bool → Option (List ℕ) → Requester
requester_of tokens ignored principal = record { tokens = tokens; principal = if ignored then Anyone else By principal }

-- Whether two principals are the same; none is the same as none.
abbrev pub is_same_principal : Option (List ℕ) → Option (List ℕ) → Bool
is_same_principal = option_eq bytes_eq

-- Whether this claimant may hold the lock: anyone, or the one whose principal is the lock's.
abbrev pub is_of : Claimant → Lock → Bool
is_of Anyone l = true
is_of (By principal) l = is_same_principal l.principal principal

-- a requester holds a lock if it submits the lock's token, and is the lock's principal where that is checked (RFC 4918, sections 6.4 and 7.5)
abbrev pub is_held : Requester → Lock → Bool
is_held who l = list_any (bytes_eq l.token) who.tokens && is_of who.principal l

-- Whether a path is free for a requester: it holds every exclusive lock that covers the path and, where locks cover it, at
-- least one of them (RFC 4918, section 7.5).
abbrev pub is_free : Requester → Path → List Lock → Bool
is_free who p ls =
    list_all (λ l. is_held who l || l.shared) (covering p ls)
    && (list_any (is_held who) (covering p ls) || is_empty (covering p ls))

-- a path is free with everything below: it is free, and the requester holds every lock at it or below it (RFC 4918, sections 7.4 and 9.6.1)
abbrev pub is_free_deep : Requester → Path → List Lock → Bool
is_free_deep who p ls = is_free who p ls && list_all (λ l. is_held who l || not (is_at_or_under (names l.path) p)) ls

-- Whether a path is free: with everything below it where `deep` is true, else by itself.
abbrev pub is_free_for : Bool → Requester → Path → List Lock → Bool
is_free_for deep who p ls = if deep then is_free_deep who p ls else is_free who p ls

-- Whether a member may be added to the folder of p, removed or replaced there: p is the root, or its parent is free by itself
-- (RFC 4918, section 7.4).
abbrev pub is_free_parent : Requester → Path → List Lock → Bool
is_free_parent who p ls = is_root p || is_free who (parent_of p) ls

-- Whether a lock conflicts: the requester doesn't hold it, and it covers the path and either is exclusive or no covering lock
-- is held; or, where the path is checked with everything below, the lock is at it or below it (RFC 4918, sections 7.4 and 7.5).
abbrev pub conflicts : Bool → Requester → Path → List Lock → Lock → Bool
conflicts deep who p ls l =
    not (is_held who l)
    && ((covers l p && (not l.shared || not (list_any (is_held who) (covering p ls))))
    || (deep && is_at_or_under (names l.path) p))

-- The answer to a check whether a path is free: yes, or one lock that conflicts (RFC 4918, section 16).
pub data Checks (deep : Bool) (who : Requester) (p : Path) (ls : List Lock) : Result (Unit {0}) Lock → Type 0 where
  free : is_free_for deep who p ls ≡ true → Checks deep who p ls (Ok tt)
  conflicting : {l : Lock} → Contains ls l → conflicts deep who p ls l ≡ true → Checks deep who p ls (Err l)

-- The answer to a check with the lent lock itself, if one conflicts.
abbrev pub lent : Result (Unit {0}) (Bor Lock) → Result (Unit {0}) Lock
lent (Ok u) = Ok u
lent (Err l) = Err l.now

-- A lock may be granted: an exclusive one where no lock covers its path, a shared one where no exclusive lock does;
-- and one of infinite depth only where no lock is below its path either (RFC 4918, sections 9.10.3 and 9.10.5).
abbrev pub is_grantable : Lock → List Lock → Bool
is_grantable new ls =
    list_all (λ l. l.shared && new.shared) (covering (names new.path) ls)
    && (not new.deep || is_empty (locks_below (names new.path) ls))

-- The moment at which a lock ends that gets this timeout, in seconds, at `now`; none without a timeout (RFC 4918, section 6.6).
abbrev pub ends_at : ℕ → Option ℕ → Option ℕ
ends_at now timeout = option_map (λ seconds. now + seconds) timeout

-- The lock that is granted at this moment with these parts (RFC 4918, section 9.10.1).
abbrev pub new_lock : List ℕ → PathText → Option (List ℕ) → Option ElementTree → Option ℕ → Bool → Bool → ℕ → Lock
new_lock token path principal owner timeout shared deep now = record {
  token = token;
  path = path;
  principal = principal;
  owner = owner;
  timeout_at = ends_at now timeout;
  timeout = timeout;
  shared = shared;
  deep = deep;
}

-- The lock with a new timeout, which begins at this moment; nothing else of it changes (RFC 4918, section 9.10.2).
abbrev pub refreshed_lock : Option ℕ → ℕ → Lock → Lock
refreshed_lock timeout now l = record l { timeout_at = ends_at now timeout; timeout = timeout }

-- Whether a lock has this token and is on this path.
abbrev pub has_token_at : List ℕ → Path → Lock → Bool
has_token_at token p l = bytes_eq l.token token && is_same_path (names l.path) p

-- The path of the lock that a token and a path name: the shortest front of the path at which a lock has the token
-- (RFC 4918, sections 9.10.2 and 9.11).
abbrev pub lock_front : List ℕ → Path → List Lock → Option Path
lock_front token p ls = first (λ q. list_any (has_token_at token q) ls) (fronts p)

-- The lock that a token and a path name: of those with the token at the shortest front of the path where one has it, the one
-- granted first (RFC 4918, sections 9.10.2 and 9.11).
abbrev pub named_lock : List ℕ → Path → List Lock → Option Lock
named_lock token p ls = option_and_then (λ q. first (has_token_at token q) ls) (lock_front token p ls)

-- The list without the lock that the token and the path name; none where they name none (RFC 4918, section 9.11).
abbrev pub unlocked : List ℕ → Path → List Lock → Option (List Lock)
unlocked token p ls = option_map (λ q. without_first (has_token_at token q) ls) (lock_front token p ls)

-- The list with a new timeout of the lock that the token and the path name; none where they name none (RFC 4918, section 9.10.2).
abbrev pub refreshed : List ℕ → Path → Option ℕ → ℕ → List Lock → Option (List Lock)
refreshed token p timeout now ls = option_map (λ q. change_first (has_token_at token q) (refreshed_lock timeout now) ls) (lock_front token p ls)

-- The locks that cover a path, the shortest path first, and of one path the first granted first (RFC 4918, section 6.8).
abbrev pub discovered : Path → List Lock → List Lock
discovered p ls = flat_map (λ q. filter (λ l. is_same_path (names l.path) q && covers l p) ls) (fronts p)

-- The list without the locks at a path and below it (RFC 4918, section 9.6).
abbrev pub deleted : Path → List Lock → List Lock
deleted p ls = filter (λ l. not (is_at_or_under (names l.path) p)) ls
