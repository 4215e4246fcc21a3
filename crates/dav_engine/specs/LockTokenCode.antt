-- What the code that reads a Lock-Token gives.
use Rattle.std.specs.Prelude.{◌≡◌, ℕ, ◌++◌, ◌∷◌, [], List, All, Option, Some, None}
use Rattle.dav_engine.specs.LockToken.{IsAngle, BeginsBare, EndsBare, IsBetweenAngles}

-- the rest of a text, after one `<` or `>`
abbrev pub IsAfterAngle : List ℕ → List ℕ → Type 0
IsAfterAngle text rest = (b : ℕ) × IsAngle b × (text ≡ b ∷ rest)

-- the rest of a text, before one `<` or `>`
abbrev pub IsBeforeAngle : List ℕ → List ℕ → Type 0
IsBeforeAngle text rest = (b : ℕ) × IsAngle b × (text ≡ rest ++ b ∷ [])

-- the rest of a text, after all `<` and `>` at its start
pub record IsAfterAngles (text rest : List ℕ) : Type 0 where
  pub front : List ℕ
  pub opening : All IsAngle front
  pub whole : text ≡ front ++ rest
  pub bare : BeginsBare rest

-- the rest of a text, before all `<` and `>` at its end
pub record IsBeforeAngles (text rest : List ℕ) : Type 0 where
  pub back : List ℕ
  pub closing : All IsAngle back
  pub whole : text ≡ rest ++ back
  pub bare : EndsBare rest

-- The token of a text, where there is a text (RFC 4918, section 10.5).
abbrev pub IsTokenIn : Option (List ℕ) → Option (List ℕ) → Type 0
IsTokenIn None None = Unit {0}
IsTokenIn (Some text) (Some token) = IsBetweenAngles text token
IsTokenIn _ _ = ⊥
