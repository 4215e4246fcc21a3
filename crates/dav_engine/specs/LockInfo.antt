-- What the body of a LOCK asks for (RFC 4918, section 14.11).
use Rattle.std.specs.Prelude.{ℕ, ◌&&◌, ◌||◌, Bool, List, bytes_eq, codes, if◌then◌else◌, Option, Some, None}
use Rattle.std.specs.List.{filter, filter_map, last_or, list_all, list_any, slice_get}
use Rattle.std.specs.Option.{is_some, option_and_then, option_eq, option_map}
use Rattle.dav_core.specs.Element.{ElementTree, element, text, child_elements, name_of}
use Rattle.dav_engine.specs.declared.lock_scope.LockScope.{LockScope}
use Rattle.dav_engine.specs.declared.lock_scope.LockScope.TheVariants.{Exclusive, Shared}
use Rattle.dav_engine.specs.declared.request.Body.{Body}
use Rattle.dav_engine.specs.declared.request.Body.TheVariants as body

-- The write lock that a body asks for: whether it is to be shared, and the element in which its owner describes itself (RFC 4918, section 14.11).
pub record LockInfo : Type 0 where
  pub scope : LockScope
  pub owner : Option ElementTree

-- The name of the first element in an element, if there is one.
abbrev pub first_name : ElementTree → Option (List ℕ)
first_name e = option_map name_of (slice_get (child_elements e) 0)

-- Whether the scope of this name is shared or exclusive; none for another name (RFC 4918, section 14.13).
abbrev pub scope_named : List ℕ → Option LockScope
scope_named name = if bytes_eq name (codes "exclusive") then Some Exclusive else if bytes_eq name (codes "shared") then Some Shared else None

-- The scope that a `lockscope` states; none for another element (RFC 4918, section 14.13).
abbrev pub scope_of : ElementTree → Option LockScope
scope_of e = if bytes_eq (name_of e) (codes "lockscope") then option_and_then scope_named (first_name e) else None

-- Whether an element is a `locktype` that states a write lock (RFC 4918, section 14.15).
abbrev pub is_write_type : ElementTree → Bool
is_write_type e = bytes_eq (name_of e) (codes "locktype") && option_eq bytes_eq (first_name e) (Some (codes "write"))

-- Whether an element is an `owner` (RFC 4918, section 14.17).
abbrev pub is_owner : ElementTree → Bool
is_owner e = bytes_eq (name_of e) (codes "owner")

-- Whether an element is one that a `lockinfo` may hold (RFC 4918, section 14.11).
abbrev pub is_known : ElementTree → Bool
is_known e = is_some (scope_of e) || is_write_type e || is_owner e

-- Whether an element is a `lockinfo` that states a write lock and holds nothing unknown (RFC 4918, section 14.11).
abbrev pub is_lock_info : ElementTree → Bool
is_lock_info e =
    bytes_eq (name_of e) (codes "lockinfo") && list_all is_known (child_elements e) && list_any is_write_type (child_elements e)

-- The scope that is stated last, if one is.
abbrev pub last_scope : List ElementTree → Option LockScope
last_scope es = last_or None (filter_map scope_of es)

-- The last `owner`, if there is one.
abbrev pub last_owner : List ElementTree → Option ElementTree
last_owner es = last_or None (filter is_owner es)

-- The element as it came, but with the prefix `D`.
abbrev pub with_dav_prefix : ElementTree → ElementTree
with_dav_prefix (element name prefix namespace attributes children) = element name (Some (codes "D")) namespace attributes children
with_dav_prefix (text bytes) = text bytes

-- What the child elements of a `lockinfo` ask for: of several scopes and owners the last counts; none without a scope (RFC 4918, section 14.11).
abbrev pub asked_by : List ElementTree → Option LockInfo
asked_by es = option_map (λ scope. record { scope = scope; owner = option_map with_dav_prefix (last_owner es) }) (last_scope es)

-- What the body of a LOCK asks for; none where it isn't a `lockinfo` as `is_lock_info` has it. Names count, and namespaces
-- don't (RFC 4918, section 14.11).
abbrev pub lock_info : Body → Option LockInfo
lock_info (body.Tree tree) = if is_lock_info tree then asked_by (child_elements tree) else None
lock_info content = None
