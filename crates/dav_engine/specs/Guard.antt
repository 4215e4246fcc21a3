-- A lock that guards a folder: exclusive, and of infinite depth (RFC 4918, sections 6.1 and 7).
use Rattle.std.specs.Prelude.{◌≡◌, ◌≢◌, ℕ, ◌++◌, Bool, true, false, List, [], ◌∷◌, All, Some, None}
use Rattle.dav_core.specs.LockLaws.{CoveringAreShared}
use Rattle.dav_core.specs.Locks.{Lock, Requester, covers, is_held, is_free_for, is_free_parent, is_grantable}
use Rattle.dav_core.specs.Path.{Path, names, is_under, is_at_or_under}
use Rattle.dav_headers.specs.If.{state_token}
use Rattle.dav_engine.specs.Conditions.{Addressed}
use Rattle.dav_engine.specs.Plan.{Locks}

-- The path that a lock is on, its lock root (RFC 4918, section 6.1).
abbrev pub folder_of : Lock → Path
folder_of h = names h.path

-- The path is the lock's folder or below it.
abbrev pub IsInReach : Lock → Path → Type 0
IsInReach h p = is_at_or_under p (folder_of h) ≡ true

-- The path is strictly below the lock's folder.
abbrev pub IsInside : Lock → Path → Type 0
IsInside h p = is_under p (folder_of h) ≡ true

-- The lock is exclusive and of infinite depth (RFC 4918, sections 6.1 and 6.2).
pub record IsGuard (h : Lock) : Type 0 where
  pub exclusive : h.shared ≡ false
  pub deep : h.deep ≡ true

-- l is the lock h, perhaps with a new timeout: a lock that is refreshed stays the lock that it was (RFC 4918, section 9.10.2)
abbrev pub IsSameLock : Lock → Lock → Type 0
IsSameLock h l = l ≡ record h { timeout_at = l.timeout_at; timeout = l.timeout }

-- The lock h is in the list, perhaps with a new timeout.
pub data IsListed (h : Lock) : List Lock → Type 0 where
  listed_here : {l : Lock} {ls : List Lock} → IsSameLock h l → IsListed h (l ∷ ls)
  listed_later : {l : Lock} {ls : List Lock} → IsListed h ls → IsListed h (l ∷ ls)

-- l has another token than h, and covers neither the path of h nor anything below it.
pub record IsElsewhere (h l : Lock) : Type 0 where
  pub token : l.token ≢ h.token
  pub apart : (rest : Path) → covers l (folder_of h ++ rest) ≡ false

-- All locks of the list have other tokens than h, and cover neither its path nor anything below it.
pub data AllElsewhere (h : Lock) : List Lock → Type 0 where
  no_others : AllElsewhere h []
  another : {l : Lock} {ls : List Lock} → IsElsewhere h l → AllElsewhere h ls → AllElsewhere h (l ∷ ls)

-- The lock h is in the list once, and all others have other tokens and cover neither its path nor anything below it.
pub data Guards (h : Lock) : List Lock → Type 0 where
  guards_here : {l : Lock} {ls : List Lock} → IsSameLock h l → AllElsewhere h ls → Guards h (l ∷ ls)
  guards_later : {l : Lock} {ls : List Lock} → IsElsewhere h l → Guards h ls → Guards h (l ∷ ls)

-- There is a list of locks, and G holds of it.
abbrev pub OnList : (List Lock → Type 0) → Locks → Type 0
OnList G None = ⊥
OnList G (Some ls) = G ls

-- There is a list of locks, and the lock is in it, perhaps with a new timeout.
abbrev pub Stands : Lock → Locks → Type 0
Stands h = OnList (IsListed h)

-- There is a list of locks, in which the lock guards its folder.
abbrev pub Guarded : Lock → Locks → Type 0
Guarded h = OnList (Guards h)

-- If the lock is in the list, it guards its folder there.
abbrev pub StillGuards : Lock → List Lock → Type 0
StillGuards h ls = IsListed h ls → Guards h ls

-- The lists of an If header that submits the lock's token alone: each list has one condition, which is the token without
-- `Not`, and applies to a path at the lock's folder or below it (RFC 4918, section 10.4).
pub data SubmitOnly (h : Lock) : List Addressed → Type 0 where
  no_list : SubmitOnly h []
  a_list : {ls : List Addressed} (rest : Path) → SubmitOnly h ls → SubmitOnly h (record { path = Some (folder_of h ++ rest); conditions = record { negated = false; item = state_token h.token } ∷ [] } ∷ ls)

-- At a guarded folder and below it, a path is free exactly for the requester that holds the guard, whether or not it is checked
-- with everything below (RFC 4918, section 7.5).
abbrev pub FreeIsHeld : Type 0
FreeIsHeld =
    (h : Lock) (deep : Bool) (who : Requester) (rest : Path) (ls : List Lock)
    → IsGuard h → Guards h ls → is_free_for deep who (folder_of h ++ rest) ls ≡ is_held who h

-- Strictly below a guarded folder, the parent of a path is free exactly for the requester that holds the guard (RFC 4918, sections 7.4 and 7.5).
abbrev pub ParentFreeIsHeld : Type 0
ParentFreeIsHeld =
    (h : Lock) (who : Requester) (x : List ℕ) (rest : Path) (ls : List Lock)
    → IsGuard h → Guards h ls → is_free_parent who (folder_of h ++ x ∷ rest) ls ≡ is_held who h

-- A path that is free with everything below it, for a requester that doesn't hold the guard, is neither the guarded folder, nor
-- below it, nor above it (RFC 4918, section 7.5).
abbrev pub FreeIsApart : Type 0
FreeIsApart =
    (h : Lock) (who : Requester) (p : Path) (ls : List Lock)
    → IsGuard h → Guards h ls → is_held who h ≡ false → is_free_for true who p ls ≡ true
    → (is_at_or_under p (folder_of h) ≡ false) × (is_at_or_under (folder_of h) p ≡ false)

-- What is free for a requester that doesn't hold an exclusive lock is not covered by the lock, whatever else is in the list
-- (RFC 4918, section 7.5).
abbrev pub FreeIsUncovered : Type 0
FreeIsUncovered =
    (h : Lock) (deep : Bool) (who : Requester) (p : Path) (ls : List Lock)
    → h.shared ≡ false → is_held who h ≡ false → IsListed h ls → is_free_for deep who p ls ≡ true → covers h p ≡ false

-- An exclusive lock of infinite depth that is grantable guards its folder once it is at the end of the list, where the locks
-- before it have other tokens (RFC 4918, section 6.2).
abbrev pub GrantedGuards : Type 0
GrantedGuards =
    (h : Lock) (ls : List Lock)
    → IsGuard h → All (λ l. l.token ≢ h.token) ls → is_grantable h ls ≡ true → Guards h (ls ++ h ∷ [])

-- An exclusive lock of infinite depth at the end of a list guards its folder, where any two locks of the list that cover one
-- path are both shared, and the locks before it have other tokens (RFC 4918, section 6.2).
abbrev pub SharedGuards : Type 0
SharedGuards =
    (h : Lock) (ls : List Lock)
    → IsGuard h → All (λ l. l.token ≢ h.token) ls → CoveringAreShared (ls ++ h ∷ []) → Guards h (ls ++ h ∷ [])
