-- Who may read and write which folders: a list of grants. A grant holds at its path and at all
-- paths below it; no grant takes another back.
use Rattle.std.specs.Prelude.{◌≡◌, ℕ, ◌++◌, ◌&&◌, ◌||◌, Bool, true, false, bytes_eq, List, Option, Some, None}
use Rattle.std.specs.List.{list_any}
use Rattle.std.specs.Option.{is_some}
use Rattle.dav_core.specs.Path.{Path, is_at_or_under, is_under, names}
use Rattle.dav_access.specs.declared.grant.Grant.{Grant}
use Rattle.dav_access.specs.declared.grant.Right.{Right}
use Rattle.dav_access.specs.declared.grant.Right.TheVariants.{See, Read, Write, Admin}
use Rattle.dav_access.specs.declared.grant.Whom.{Whom}
use Rattle.dav_access.specs.declared.grant.Whom.TheVariants.{Everybody, EachUser, User}

-- the rules of a server: all its grants, in any order; what none of them grants is refused
abbrev pub Rules : Type 0
Rules = List Grant

-- Whether a grant for these is one for this principal: everybody, also who shows no name; each user
-- who has shown a name and its password; or the user with this name.
abbrev pub is_for : Whom → Option (List ℕ) → Bool
is_for Everybody who = true
is_for EachUser who = is_some who
is_for (User name) None = false
is_for (User name) (Some principal) = bytes_eq name principal

-- whether a right includes another: see, read, write, admin, each with those before it
abbrev pub includes : Right → Right → Bool
includes Admin right = true
includes Write Admin = false
includes Write right = true
includes Read Admin = false
includes Read Write = false
includes Read right = true
includes See See = true
includes See right = false

-- whether a grant gives a principal a right at a path: at the grant's path or below it
abbrev pub gives : Option (List ℕ) → Right → Path → Grant → Bool
gives who right p g =
    is_for g.whom who && (includes g.right right && is_at_or_under p (names g.path))

-- whether a principal has a grant below a path, so that the path is on the way to it
abbrev pub leads_to : Option (List ℕ) → Path → Grant → Bool
leads_to who p g = is_for g.whom who && is_under (names g.path) p

-- whether a principal may see that something is at a path: it is granted, or is on the way to what
-- is
abbrev pub may_see : Rules → Option (List ℕ) → Path → Bool
may_see rules who p = list_any (gives who See p) rules || list_any (leads_to who p) rules

-- whether a principal may read what is at a path and below it
abbrev pub may_read : Rules → Option (List ℕ) → Path → Bool
may_read rules who p = list_any (gives who Read p) rules

-- whether a principal may change what is at a path and below it
abbrev pub may_write : Rules → Option (List ℕ) → Path → Bool
may_write rules who p = list_any (gives who Write p) rules

-- whether a principal may end the locks of others at a path and below it
abbrev pub may_admin : Rules → Option (List ℕ) → Path → Bool
may_admin rules who p = list_any (gives who Admin p) rules

-- whether a principal has a right at a path
abbrev pub has_right : Rules → Option (List ℕ) → Right → Path → Bool
has_right rules who See p = may_see rules who p
has_right rules who Read p = may_read rules who p
has_right rules who Write p = may_write rules who p
has_right rules who Admin p = may_admin rules who p

-- Who has a right at a path has there each right that it includes.
abbrev pub RightsAreOrdered : Type 0
RightsAreOrdered =
    (rules : Rules) (who : Option (List ℕ)) (right less : Right) (p : Path)
    → includes right less ≡ true → has_right rules who right p ≡ true
    → has_right rules who less p ≡ true

-- Who may read, write or end locks at a path may do so at each path below it.
abbrev pub RightsReachDown : Type 0
RightsReachDown =
    (rules : Rules) (who : Option (List ℕ)) (right : Right) (p q : Path)
    → includes right Read ≡ true → is_at_or_under q p ≡ true
    → has_right rules who right p ≡ true → has_right rules who right q ≡ true

-- More grants allow more: who has a right by some of them has it by all.
abbrev pub GrantsAdd : Type 0
GrantsAdd =
    (rules more : Rules) (who : Option (List ℕ)) (right : Right) (p : Path)
    → has_right rules who right p ≡ true → has_right (rules ++ more) who right p ≡ true
