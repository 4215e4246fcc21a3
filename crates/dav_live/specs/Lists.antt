-- The list of users and the rules of access, as they are read together.
use Rattle.std.specs.Prelude.{◌≡◌, ◌≢◌, ◌⊎◌, ℕ, false, List, [], ◌∷◌, Contains, Option, Some, None}
use Rattle.std.specs.Str.{IsUtf8}
use Rattle.dav_access.specs.Reading.{IsReadFault}
use Rattle.dav_access.specs.Rules.{Rules}
use Rattle.dav_access.specs.declared.limit.Limit.{Limit}
use Rattle.dav_access.specs.RulesFaults.{IsAccessFault}
use Rattle.dav_access.specs.RulesText.{AreLimitsOf, AreRulesOf, UserList, has_taken_name}
use Rattle.dav_access.specs.Texts.{IsSplit}
use Rattle.dav_access.specs.Users.{ListsUsers}
use Rattle.dav_access.specs.declared.error.UsersError.{UsersError}
use Rattle.dav_access.specs.declared.fault.AccessError.{AccessError}
use Rattle.dav_live.specs.declared.lists.ListsError.{ListsError}
use Rattle.dav_live.specs.declared.lists.ListsError.TheVariants.{Access, Memory, Users}

-- the users of a text, of which there are some; none without a text
abbrev pub AreUsers : Option (List ℕ) → UserList → Type 0
AreUsers None users = users ≡ None
AreUsers (Some text) None = ⊥
AreUsers (Some text) (Some users) = ListsUsers text users × (users ≢ [])

-- the rules of a text by these users, and its limits; none without a text
abbrev pub AreRules : UserList → Option (List ℕ) → Option Rules → List Limit → Type 0
AreRules users None rules limits = (rules ≡ None) × (limits ≡ [])
AreRules users (Some text) None limits = ⊥
AreRules users (Some text) (Some rules) limits = (has_taken_name users ≡ false) × AreRulesOf users text rules × AreLimitsOf text limits

-- the users, the rules and the limits of two texts, each of which may be missing
abbrev pub AreLists : Option (List ℕ) → Option (List ℕ) → UserList → Option Rules → List Limit → Type 0
AreLists list access users rules limits = AreUsers list users × AreRules users access rules limits

-- why there are none: the first text is no list of users, or the second one has no rules by these users
abbrev pub IsUnlisted : Option (List ℕ) → Option (List ℕ) → ListsError → Type 0
IsUnlisted list access (Users fault) = (text : List ℕ) × (list ≡ Some text) × (IsUtf8 text → IsReadFault text fault)
IsUnlisted list access (Access fault) =
    (users : UserList) × (text : List ℕ) × AreUsers list users × (access ≡ Some text) × IsAccessFault users text fault
IsUnlisted list access Memory = Unit {0}

-- a text, where it has bytes
abbrev pub text_if_any : List ℕ → Option (List ℕ)
text_if_any [] = None
text_if_any (b ∷ bs) = Some (b ∷ bs)

-- The texts of a report: all of it lists users; or what comes before the first byte 0 does, if that is anything, and what follows that byte
-- has the rules.
pub data AreTexts (report : List ℕ) : Option (List ℕ) → Option (List ℕ) → Type 0 where
  alone : ¬ Contains report 0 → AreTexts report (Some report) None
  both : (list access : List ℕ) → IsSplit 0 report list access → AreTexts report (text_if_any list) (Some access)

-- a report has these users, rules and limits
abbrev pub Reports : List ℕ → UserList → Option Rules → List Limit → Type 0
Reports report users rules limits =
    (list : Option (List ℕ)) × (access : Option (List ℕ)) × AreTexts report list access × AreLists list access users rules limits

-- why a report has none
abbrev pub IsFaulty : List ℕ → ListsError → Type 0
IsFaulty report fault = (list : Option (List ℕ)) × (access : Option (List ℕ)) × AreTexts report list access × IsUnlisted list access fault

-- an error of the list of users
abbrev pub IsOfUsers : UsersError → ListsError → Type 0
IsOfUsers error of = (of ≡ Users error) ⊎ (of ≡ Memory)

-- an error of the rules
abbrev pub IsOfAccess : AccessError → ListsError → Type 0
IsOfAccess error of = (of ≡ Access error) ⊎ (of ≡ Memory)
