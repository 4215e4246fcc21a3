-- Why a call on locks is refused.
use Rattle.std.specs.Prelude.{◌≡◌, Bool, true, false, Option, None, IsSome}
use Rattle.dav_core.specs.declared.ls.LockRefusal.{LockRefusal}
use Rattle.dav_core.specs.declared.ls.LockRefusal.TheVariants as grant
use Rattle.dav_core.specs.declared.ls.RefreshRefusal.{RefreshRefusal}
use Rattle.dav_core.specs.declared.ls.RefreshRefusal.TheVariants as refresh

-- Why a lock isn't granted: it isn't grantable; or it is, and memory ran out (RFC 4918, section 9.10.5).
abbrev pub IsRefusedGrant : LockRefusal → Bool → Type 0
IsRefusedGrant grant.Conflict grantable = grantable ≡ false
IsRefusedGrant grant.Memory grantable = grantable ≡ true

-- Why no lock is refreshed: the token and the path name none; or they name one, and memory ran out (RFC 4918, section 9.10.2).
abbrev pub IsRefusedRefresh : {A : Type 0} → RefreshRefusal → Option A → Type 0
IsRefusedRefresh refresh.NotThere found = found ≡ None
IsRefusedRefresh refresh.Memory found = IsSome found
