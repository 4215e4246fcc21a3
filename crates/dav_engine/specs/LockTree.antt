-- Locks as element trees (RFC 4918, sections 14 and 15).
use Rattle.std.specs.Prelude.{ℕ, ◌++◌, Bool, true, false, List, [], ◌∷◌, map, codes, if◌then◌else◌, Option, Some, None}
use Rattle.std.specs.Option.{option_to_list}
use Rattle.dav_core.specs.Element.{ElementTree}
use Rattle.dav_core.specs.Locks.{Lock, discovered}
use Rattle.dav_core.specs.Path.{Path}
use Rattle.dav_headers.specs.Timeout.{time_type_text}
use Rattle.dav_headers.specs.declared.timeout.DavTimeout.{DavTimeout}
use Rattle.dav_headers.specs.declared.timeout.DavTimeout.TheVariants.{Seconds, Infinite}
use Rattle.dav_engine.specs.Multistatus.{dav_element, dav_text, declares_dav, href}
use Rattle.dav_engine.specs.Plan.{Locks}

-- The element that says whether a lock is shared (RFC 4918, section 14.13).
abbrev pub lock_scope : Bool → ElementTree
lock_scope shared = dav_element (codes "lockscope") (dav_element (if shared then codes "shared" else codes "exclusive") [] ∷ [])

-- The element that says that a lock is a write lock (RFC 4918, section 14.15).
abbrev pub lock_type : ElementTree
lock_type = dav_element (codes "locktype") (dav_element (codes "write") [] ∷ [])

-- The element that says how deep a lock goes (RFC 4918, section 14.4).
abbrev pub lock_depth : Bool → ElementTree
lock_depth deep = dav_text (codes "depth") (if deep then codes "Infinity" else codes "0")

-- A number of seconds as the header Timeout has it; infinite without one (RFC 4918, section 10.7).
abbrev pub time_type : Option ℕ → DavTimeout
time_type None = Infinite
time_type (Some seconds) = Seconds seconds

-- The element that says after how many seconds a lock ends (RFC 4918, section 14.29).
abbrev pub lock_timeout : Option ℕ → ElementTree
lock_timeout timeout = dav_text (codes "timeout") (time_type_text (time_type timeout))

-- The element with the token of a lock (RFC 4918, section 14.14).
abbrev pub lock_token : List ℕ → ElementTree
lock_token token = dav_element (codes "locktoken") (dav_text (codes "href") token ∷ [])

-- What is said of each lock: its scope, its type, its depth, its timeout, its token, and its lock root, the path that it is on
-- (RFC 4918, sections 14.1 and 14.12).
abbrev pub lock_parts : Lock → List ElementTree
lock_parts l =
    lock_scope l.shared
    ∷ lock_type
    ∷ lock_depth l.deep
    ∷ lock_timeout l.timeout
    ∷ lock_token l.token
    ∷ dav_element (codes "lockroot") (href l.path ∷ [])
    ∷ []

-- The element that describes a lock, with its owner where it has one (RFC 4918, section 14.1).
abbrev pub active_lock : Lock → ElementTree
active_lock l = dav_element (codes "activelock") (lock_parts l ++ option_to_list l.owner)

-- The property `lockdiscovery` with these locks, in order (RFC 4918, section 15.8).
abbrev pub lock_discovery : List Lock → ElementTree
lock_discovery ls = dav_element (codes "lockdiscovery") (map active_lock ls)

-- The property `lockdiscovery` of a path: the locks that cover it; none without a lock system (RFC 4918, section 15.8).
abbrev pub locks_found : Locks → Path → ElementTree
locks_found None p = lock_discovery []
locks_found (Some ls) p = lock_discovery (discovered p ls)

-- The `lockentry` of a kind of write lock that is supported, shared or exclusive (RFC 4918, section 14.10).
abbrev pub lock_entry : Bool → ElementTree
lock_entry shared = dav_element (codes "lockentry") (lock_scope shared ∷ lock_type ∷ [])

-- The property `supportedlock`: exclusive and shared write locks; none without a lock system (RFC 4918, section 15.10).
abbrev pub locks_supported : Locks → ElementTree
locks_supported None = dav_element (codes "supportedlock") []
locks_supported (Some ls) = dav_element (codes "supportedlock") (lock_entry false ∷ lock_entry true ∷ [])

-- The body of the reply to a LOCK: the lock that was granted or refreshed (RFC 4918, section 9.10.1).
abbrev pub lock_reply : Lock → ElementTree
lock_reply l = declares_dav (dav_element (codes "prop") (lock_discovery (l ∷ []) ∷ []))
