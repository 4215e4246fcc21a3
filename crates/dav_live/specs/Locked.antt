-- What is told to a request that a lock keeps out (RFC 4918, sections 11.3 and 16).
use Rattle.std.specs.Prelude.{◌≡◌, ◌∷◌, ◌++◌, ℕ, Bool, true, false, not, List, [], Contains, codes, Option, Some, None}
use Rattle.std.specs.List.{list_any}
use Rattle.http_header.specs.FieldValue.{plain_value}
use Rattle.http_header.specs.HeaderMap.{insert}
use Rattle.dav_core.specs.Element.{ElementTree}
use Rattle.dav_core.specs.Locks.{Lock, Requester, conflicts, is_free_for, requester_of}
use Rattle.dav_core.specs.Path.{Path, PathText, names, parent_of}
use Rattle.dav_core.specs.declared.method.DavMethod.{DavMethod}
use Rattle.dav_core.specs.declared.method.DavMethod.TheVariants.{Copy, Delete, Lock as LockMethod, Move}
use Rattle.dav_engine.specs.Conditions.{AreConditions, Conditions, submitted}
use Rattle.dav_engine.specs.Headers.{Headers}
use Rattle.dav_engine.specs.Multistatus.{dav_element, declares_dav, href, xml_type}
use Rattle.dav_engine.specs.Plan.{Locks}
use Rattle.dav_engine.specs.declared.reply.ReplyBody.TheVariants.{Nothing, Tree}
use Rattle.dav_engine.specs.Reply.{Reply, headers_in}
use Rattle.dav_confined.specs.Asked.{AskedView, IsAsked, IsUnread}
use Rattle.dav_server.specs.Head.{IsHead, Request}
use Rattle.dav_server.specs.Headers.{headers_of}
use Rattle.dav_server.specs.Machine.{Exchange, Settings}
use Rattle.dav_live.specs.declared.locked.Place.{Place}

-- ---- where a request meets locks

-- whether a request with this method changes what is at its target, as all do that meet a lock but a COPY
abbrev pub changes_target : DavMethod → Bool
changes_target Copy = false
changes_target _ = true

-- whether it changes what is below that too, or would lock it (RFC 4918, sections 9.6.1, 9.9 and 9.10.3)
abbrev pub goes_below : DavMethod → Bool
goes_below Delete = true
goes_below Move = true
goes_below LockMethod = true
goes_below _ = false

-- whether it changes what is at its destination and below it (RFC 4918, sections 9.8 and 9.9)
abbrev pub has_destination : DavMethod → Bool
has_destination Copy = true
has_destination Move = true
has_destination _ = false

-- A path and the folder that it is in, whose members may change (RFC 4918, section 7.4), come after these places.
abbrev pub IsAround : PathText → Bool → List Place → List Place → Type 0
IsAround path deep before after =
    (folder : PathText) × (names folder ≡ parent_of (names path))
    × (after ≡ before ++ record { path = path; deep = deep } ∷ record { path = folder; deep = false } ∷ [])

-- the places around the target
abbrev pub AreAtTarget : Bool → DavMethod → PathText → List Place → Type 0
AreAtTarget true m path places = IsAround path (goes_below m) [] places
AreAtTarget false m path places = places ≡ []

-- and after these those around the destination, where one is named
abbrev pub AreWithDestination : Bool → Option PathText → List Place → List Place → Type 0
AreWithDestination true (Some destination) before after = IsAround destination true before after
AreWithDestination true None before after = after ≡ before
AreWithDestination false destination before after = after ≡ before

-- the places where a request with this method, target and destination meets locks, in the order in which they are looked at
abbrev pub ArePlaces : DavMethod → PathText → Option PathText → List Place → Type 0
ArePlaces m path destination places =
    (target : List Place) × AreAtTarget (changes_target m) m path target
    × AreWithDestination (has_destination m) destination target places

-- ---- who makes it

-- the If of a request with this head submits these tokens; none where it is no head (RFC 4918, section 10.4)
abbrev pub AreSubmitted : List ℕ → PathText → List (List ℕ) → Type 0
AreSubmitted head path tokens =
    ((r : Request) → IsHead head r → (c : Conditions) × AreConditions (headers_of r.fields) path.prefix (names path) c × (tokens ≡ submitted c.lists))
    × (((r : Request) → ¬ IsHead head r) → tokens ≡ [])

-- whether tokens count for a request with this method: a LOCK gets no lock beside those that are there by holding them
abbrev pub counts_tokens : DavMethod → Bool
counts_tokens LockMethod = false
counts_tokens _ = true

-- the tokens that count, where some do
abbrev pub AreCounted : Bool → List ℕ → PathText → List (List ℕ) → Type 0
AreCounted true head path tokens = AreSubmitted head path tokens
AreCounted false head path tokens = tokens ≡ []

-- the tokens that count for a request with this method
abbrev pub AreTokensOf : DavMethod → List ℕ → PathText → List (List ℕ) → Type 0
AreTokensOf method head path tokens = AreCounted (counts_tokens method) head path tokens

-- ---- what is told

-- this lock of a list conflicts with a request at one of these places (RFC 4918, section 7.5)
abbrev pub IsInWay : Requester → List Lock → List Place → Lock → Type 0
IsInWay who ls places l =
    (place : Place) × Contains places place × Contains ls l × (conflicts place.deep who (names place.path) ls l ≡ true)

-- none does
abbrev pub IsNoneInWay : Requester → List Lock → List Place → Type 0
IsNoneInWay who ls places = list_any (λ place. not (is_free_for place.deep who (names place.path) ls)) places ≡ false

-- the condition that isn't met: a LOCK conflicts with a lock that is there, all else needs its token (RFC 4918, section 16)
abbrev pub precondition : DavMethod → List ℕ
precondition LockMethod = codes "D:no-conflicting-lock"
precondition _ = codes "D:lock-token-submitted"

abbrev pub precondition_name : DavMethod → List ℕ
precondition_name LockMethod = codes "no-conflicting-lock"
precondition_name _ = codes "lock-token-submitted"

-- the error: the condition with the address that the lock is on
abbrev pub locked_error : DavMethod → Lock → ElementTree
locked_error m l = declares_dav (dav_element (codes "error") (dav_element (precondition_name m) (href l.path ∷ []) ∷ []))

-- a reply with this element tree, and its type, besides what it was
pub record IsWithTree (own : Reply) (tree : ElementTree) (told : Reply) : Type 0 where
  pub status : told.status ≡ own.status
  pub headers : Headers
  pub own_headers : own.headers ≡ headers_in headers
  pub told_headers : told.headers ≡ headers_in (insert headers (codes "content-type") (plain_value xml_type.1))
  pub body : told.body ≡ Tree tree

-- a reply says that its request is locked out, and no more
abbrev pub IsBare423 : Reply → Type 0
IsBare423 r = (r.status ≡ 423) × (r.body ≡ Nothing)

-- The reply to what was asked: the error with a lock of these that conflicts at one of the places where the request meets locks; as it
-- was where none does.
pub data IsToldBy (ls : List Lock) (head : List ℕ) (asked : AskedView) (principal : Option (List ℕ)) (own told : Reply) : Type 0 where
  named : (tokens : List (List ℕ)) (places : List Place) (l : Lock) → AreTokensOf asked.method head asked.path tokens
      → ArePlaces asked.method asked.path asked.destination places → IsInWay (requester_of tokens false principal) ls places l
      → IsWithTree own (locked_error asked.method l) told → IsToldBy ls head asked principal own told
  unnamed : (tokens : List (List ℕ)) (places : List Place) → AreTokensOf asked.method head asked.path tokens
      → ArePlaces asked.method asked.path asked.destination places → IsNoneInWay (requester_of tokens false principal) ls places
      → told ≡ own → IsToldBy ls head asked principal own told

-- The reply that a client is shown of one to a request with this head, below this prefix, by this principal: one of 423 with the lock
-- that keeps the request out, each other as it was.
pub data IsTold (locks : Locks) (prefix head : List ℕ) (principal : Option (List ℕ)) (own told : Reply) : Type 0 where
  as_it_was : ¬ IsBare423 own → told ≡ own → IsTold locks prefix head principal own told
  without_locks : locks ≡ None → told ≡ own → IsTold locks prefix head principal own told
  unread : ((s : Settings) (x : Exchange) → s.prefix ≡ prefix → x.head ≡ head → IsUnread s x) → told ≡ own → IsTold locks prefix head principal own told
  locked : (ls : List Lock) (asked : AskedView) → IsBare423 own → locks ≡ Some ls
      → ((s : Settings) (x : Exchange) → s.prefix ≡ prefix → x.head ≡ head → IsAsked s x asked)
      → IsToldBy ls head asked principal own told → IsTold locks prefix head principal own told
