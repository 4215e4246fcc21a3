-- Who makes a request: nobody where the server has no users, and else a user who shows the
-- password.
use Rattle.std.specs.Prelude.{◌≡◌, ◌⊎◌, ℕ, List, [], Option, Some, None, string_bytes}
use Rattle.dav_access.specs.declared.error.Refusal.{Refusal}
use Rattle.dav_access.specs.declared.error.Refusal.TheVariants.{Unknown, Memory}
use Rattle.dav_access.specs.Basic.{IsBasic}
use Rattle.dav_access.specs.Crypt.{Fits}
use Rattle.dav_access.specs.Users.{Admits, IsListed}

-- The name of who makes a request whose field Authorization has this value, if it has one: a user
-- of the list who shows, in Basic credentials, a password that is let in; none where there is no
-- list.
abbrev pub IsPrincipal : Option (List (List ℕ × List ℕ)) → Option (List ℕ) → Option (List ℕ)
    → Type 0
IsPrincipal None shown name = name ≡ None
IsPrincipal (Some users) (Some value) (Some name) =
    (password : List ℕ) × IsBasic value name password × Admits users name password
IsPrincipal (Some users) (Some value) None = ⊥
IsPrincipal (Some users) None name = ⊥

-- No user is shown with the password: there are no Basic credentials, and no name is shown; or they
-- show this name, and the first user of that name has a secret that the password doesn't have, or
-- there is none.
abbrev pub ShowsNoUser : Option (List (List ℕ × List ℕ)) → Option (List ℕ) → List ℕ → Type 0
ShowsNoUser None shown name = ⊥
ShowsNoUser (Some users) None name = name ≡ []
ShowsNoUser (Some users) (Some value) name =
    (((n password : List ℕ) → ¬ IsBasic value n password) × (name ≡ []))
    ⊎ ((password : List ℕ) × IsBasic value name password
    × ((secret : List ℕ) → IsListed users name secret → ¬ Fits password secret))

-- why a request isn't let in
abbrev pub IsRefusal : Option (List (List ℕ × List ℕ)) → Option (List ℕ) → Refusal → Type 0
IsRefusal users shown (Unknown name) = ShowsNoUser users shown (string_bytes name)
IsRefusal users shown Memory = Unit {0}
