-- The head that is run and kept of one that came: without what shows who asks, and what speaks of the connection alone (RFC 9110,
-- sections 7.2, 11.6.2 and 11.7.2; RFC 9112, section 6.1; RFC 6265, section 5.4).
use Rattle.std.specs.Prelude.{◌≡◌, ◌≢◌, ℕ, min, Bool, true, false, ◌||◌, ◌&&◌, ◌==◌, not, if◌then◌else◌, List, [], ◌∷◌, ◌++◌, map, codes, Option, Some}
use Rattle.std.specs.List.{filter, list_any}
use Rattle.http_header.specs.HeaderMap.{get_all}
use Rattle.httparse.specs.Grammar.{RequestHead, ReadsRequest}
use Rattle.dav_headers.specs.Timeout.{IsTimeout, time_type_text}
use Rattle.dav_headers.specs.Value.{Decodes}
use Rattle.dav_headers.specs.declared.timeout.DavTimeout.{DavTimeout}
use Rattle.dav_headers.specs.declared.timeout.DavTimeout.TheVariants.{Seconds}
use Rattle.dav_engine.specs.LockHeaders.{preferred}
use Rattle.dav_server.specs.Head.{Request, is_same_name, request_of_head, values_of}
use Rattle.dav_server.specs.Headers.{headers_of}

-- the names of the fields that aren't kept: those by which a client shows who it is, and those that speak of the connection, of which the
-- machine reads nothing
abbrev pub left_out : List (List ℕ)
left_out =
    codes "authorization" ∷ codes "proxy-authorization" ∷ codes "cookie" ∷ codes "host" ∷ codes "transfer-encoding" ∷ []

-- whether the fields of a name are kept, in letters of either case; of a LOCK its Timeout isn't, in whose place another comes (RFC 9110,
-- section 5.1)
abbrev pub is_kept : Bool → List ℕ → Bool
is_kept is_lock name = not (list_any (is_same_name name) left_out || (is_lock && is_same_name name (codes "timeout")))

-- whether a text begins with a slash
abbrev pub is_rooted : List ℕ → Bool
is_rooted [] = false
is_rooted (b ∷ bs) = b == 47

-- Bytes of an If in which each address of a resource is a whole URL, which the machine reads: one that is written as a path gets a scheme
-- and a host, of which the machine reads nothing; what stands between quotes stays (RFC 4918, section 10.4.2; RFC 3986, section 4.2).
abbrev pub addressed : Bool → List ℕ → List ℕ
addressed quoted [] = []
addressed quoted (b ∷ bs) =
    (if not quoted && (b == 60 && is_rooted bs) then codes "<http://localhost" else b ∷ []) ++ addressed (if b == 34 then not quoted else quoted) bs

-- a field as it is kept: in an If each address of a resource is a whole URL
abbrev pub kept_field : List ℕ × List ℕ → List ℕ × List ℕ
kept_field field = if is_same_name field.0 (codes "if") then (field.0, addressed false field.1) else field

-- the fields that are kept, in order
abbrev pub kept_fields : Bool → List (List ℕ × List ℕ) → List (List ℕ × List ℕ)
kept_fields is_lock fields = map kept_field (filter (λ field. is_kept is_lock field.0) fields)

-- for how many seconds a lock is asked for at most: the time that is preferred, where it ends before `most` (RFC 4918, section 10.7)
abbrev pub lowered : ℕ → Option DavTimeout → ℕ
lowered most (Some (Seconds n)) = min n most
lowered most time = most

-- a Timeout of so many seconds, as a field (RFC 4918, section 10.7)
abbrev pub timeout_field : ℕ → List ℕ × List ℕ
timeout_field n = (codes "timeout", time_type_text (Seconds n))

-- a Depth of 1, as a field (RFC 4918, section 10.2)
abbrev pub depth_field : List ℕ × List ℕ
depth_field = (codes "depth", codes "1")

-- a PROPFIND that doesn't say how deep it goes (RFC 4918, section 9.1)
abbrev pub IsDepthless : Request → Type 0
IsDepthless r = (r.method ≡ codes "PROPFIND") × (values_of (codes "depth") r.fields ≡ [])

-- it gets a Depth, unless the machine's own answer to it is wanted
abbrev pub GetsDepth : Bool → Request → Type 0
GetsDepth strict r = (strict ≡ false) × IsDepthless r

-- The request that is run and kept of one that came, where a lock is granted for at most so many seconds: its method, its target and the
-- fields that are kept; of a LOCK the time that the machine reads in its Timeout is lowered; and a PROPFIND without a Depth, which the
-- standard lets a server refuse as one of infinite depth, has one of 1, as its clients mean it, but where that is left to the machine
-- (`strict`).
pub data IsKeptOf (most : ℕ) (strict : Bool) (came : Request) : Request → Type 0 where
  other : came.method ≢ codes "LOCK" → ¬ GetsDepth strict came → IsKeptOf most strict came (record came { fields = kept_fields false came.fields })
  depthless : GetsDepth strict came → IsKeptOf most strict came (record came { fields = kept_fields false came.fields ++ depth_field ∷ [] })
  lock : came.method ≡ codes "LOCK" → (times : Option (List DavTimeout))
      → Decodes IsTimeout (get_all (headers_of came.fields) (codes "timeout")) times
      → IsKeptOf most strict came (record came { fields = kept_fields true came.fields ++ timeout_field (lowered most (preferred times)) ∷ [] })

-- These bytes are a head that says this, however many they are (RFC 9112, sections 2 to 5).
abbrev pub Says : List ℕ → Request → Type 0
Says bytes r = (h : RequestHead) × ReadsRequest bytes h [] × (r ≡ request_of_head h)
