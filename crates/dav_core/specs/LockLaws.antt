-- What holds of every list of locks: the statements of the laws.
use Rattle.std.specs.Prelude.{◌≡◌, ◌≢◌, ◌↔◌, ℕ, ◌++◌, ◌∷◌, [], Bool, true, false, not, List, All, AllPairs, Contains, Option, Some}
use Rattle.std.specs.Option.{is_some}
use Rattle.std.specs.List.{list_all}
use Rattle.dav_core.specs.Path.{Path, names, is_at_or_under}
use Rattle.dav_core.specs.Locks.{Lock, Requester, covers, is_held, is_free, is_free_deep, is_free_for, conflicts, is_grantable, unlocked, refreshed, refreshed_lock, discovered, deleted}

-- where a path is free, the requester holds each exclusive lock that covers it (RFC 4918, section 7.5)
abbrev pub FreeHoldsExclusive : Type 0
FreeHoldsExclusive =
    (who : Requester) (p : Path) (ls : List Lock) (l : Lock)
    → is_free who p ls ≡ true → Contains ls l → covers l p ≡ true → l.shared ≡ false → is_held who l ≡ true

-- where a path is free, the requester holds each exclusive lock that is on it, whatever the lock's depth is (RFC 4918, section 7.5)
abbrev pub FreeHoldsOwn : Type 0
FreeHoldsOwn =
    (who : Requester) (p : Path) (ls : List Lock) (l : Lock)
    → is_free who p ls ≡ true → Contains ls l → names l.path ≡ p → l.shared ≡ false → is_held who l ≡ true

-- Where a path is free with everything below it, the requester holds each lock at it or below it (RFC 4918, section 7.5).
abbrev pub FreeDeepHoldsBelow : Type 0
FreeDeepHoldsBelow =
    (who : Requester) (p : Path) (ls : List Lock) (l : Lock)
    → is_free_deep who p ls ≡ true → Contains ls l → is_at_or_under (names l.path) p ≡ true → is_held who l ≡ true

-- A path is free, by itself or with everything below it, exactly where no lock of the list conflicts (RFC 4918, section 7.5).
abbrev pub FreeIsNoConflict : Type 0
FreeIsNoConflict =
    (deep : Bool) (who : Requester) (p : Path) (ls : List Lock)
    → is_free_for deep who p ls ≡ list_all (λ l. not (conflicts deep who p ls l)) ls

-- a lock that was just granted can be unlocked by its token and path (RFC 4918, section 9.11)
abbrev pub GrantedCanBeUnlocked : Type 0
GrantedCanBeUnlocked =
    (l : Lock) (ls : List Lock) → is_some (unlocked l.token (names l.path) (ls ++ l ∷ [])) ≡ true

-- where no other lock has its token, granting a lock and taking it back leaves the list as it was before (RFC 4918, section 9.11)
abbrev pub TakenBack : Type 0
TakenBack =
    (l : Lock) (ls : List Lock)
    → All (λ m. m.token ≢ l.token) ls → unlocked l.token (names l.path) (ls ++ l ∷ []) ≡ Some ls

-- Locks exclude one another: any two of the list that cover one path are both shared (RFC 4918, section 6.2).
abbrev pub CoveringAreShared : List Lock → Type 0
CoveringAreShared = AllPairs (λ l m. (p : Path) → covers l p ≡ true → covers m p ≡ true → (l.shared ≡ true) × (m.shared ≡ true))

-- Any two locks that cover one path are still both shared after one more was granted that is grantable (RFC 4918, section 6.2).
abbrev pub GrantedAreShared : Type 0
GrantedAreShared =
    (new : Lock) (ls : List Lock)
    → CoveringAreShared ls → is_grantable new ls ≡ true → CoveringAreShared (ls ++ new ∷ [])

-- Any two locks that cover one path are still both shared after one was unlocked (RFC 4918, section 6.2).
abbrev pub UnlockedAreShared : Type 0
UnlockedAreShared =
    (token : List ℕ) (p : Path) (ls left : List Lock)
    → CoveringAreShared ls → unlocked token p ls ≡ Some left → CoveringAreShared left

-- Any two locks that cover one path are still both shared after one got a new timeout (RFC 4918, section 6.2).
abbrev pub RefreshedAreShared : Type 0
RefreshedAreShared =
    (token : List ℕ) (p : Path) (timeout : Option ℕ) (now : ℕ) (ls new : List Lock)
    → CoveringAreShared ls → refreshed token p timeout now ls ≡ Some new → CoveringAreShared new

-- Any two locks that cover one path are still both shared after those at a path and below it were deleted (RFC 4918, section 6.2).
abbrev pub DeletedAreShared : Type 0
DeletedAreShared = (p : Path) (ls : List Lock) → CoveringAreShared ls → CoveringAreShared (deleted p ls)

-- A lock that a token and a path may name: it has the token, and its path is p or above p (RFC 4918, sections 9.10.2 and 9.11).
pub record IsNamedLock (token : List ℕ) (p : Path) (l : Lock) : Type 0 where
  pub token_is : l.token ≡ token
  pub above : is_at_or_under p (names l.path) ≡ true

-- An unlock removes one lock that the token and the path name, and leaves all others in their places (RFC 4918, section 9.11).
abbrev pub UnlockTakesOne : Type 0
UnlockTakesOne =
    (token : List ℕ) (p : Path) (ls left : List Lock)
    → unlocked token p ls ≡ Some left
    → (l : Lock) × (front : List Lock) × (back : List Lock) × IsNamedLock token p l × (ls ≡ front ++ l ∷ back) × (left ≡ front ++ back)

-- A refresh gives one lock that the token and the path name a new timeout, and changes nothing else of it; all locks keep their
-- places (RFC 4918, section 9.10.2).
abbrev pub RefreshChangesOne : Type 0
RefreshChangesOne =
    (token : List ℕ) (p : Path) (timeout : Option ℕ) (now : ℕ) (ls new : List Lock)
    → refreshed token p timeout now ls ≡ Some new
    → (l : Lock) × (front : List Lock) × (back : List Lock) × IsNamedLock token p l
    × (ls ≡ front ++ l ∷ back) × (new ≡ front ++ refreshed_lock timeout now l ∷ back)

-- The locks that are listed for a path are exactly those that cover it (RFC 4918, section 6.8).
abbrev pub DiscoveredAreCovering : Type 0
DiscoveredAreCovering = (p : Path) (ls : List Lock) (l : Lock) → Contains (discovered p ls) l ↔ (Contains ls l × (covers l p ≡ true))
