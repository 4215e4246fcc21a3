-- Lock-Token (RFC 4918, section 10.5).
use Rattle.std.specs.Prelude.{◌≡◌, ℕ, ◌++◌, ◌⊎◌, List, [], ◌∷◌, All, codes}
use Rattle.http_header.specs.HeaderMap.{get_all}
use Rattle.dav_headers.specs.Value.{IsOnlyText}
use Rattle.dav_engine.specs.Headers.{Headers}

-- The byte is `<` or `>`.
abbrev pub IsAngle : ℕ → Type 0
IsAngle b = (b ≡ 60) ⊎ (b ≡ 62)

-- a text doesn't begin with `<` or `>`
abbrev pub BeginsBare : List ℕ → Type 0
BeginsBare text = (b : ℕ) (rest : List ℕ) → text ≡ b ∷ rest → ¬ IsAngle b

-- a text doesn't end with `<` or `>`
abbrev pub EndsBare : List ℕ → Type 0
EndsBare text = (front : List ℕ) (b : ℕ) → text ≡ front ++ b ∷ [] → ¬ IsAngle b

-- The token is the text without all `<` and `>` at its ends (RFC 4918, section 10.5).
pub record IsBetweenAngles (text token : List ℕ) : Type 0 where
  pub front : List ℕ
  pub back : List ℕ
  pub opening : All IsAngle front
  pub closing : All IsAngle back
  pub whole : text ≡ front ++ (token ++ back)
  pub begins : BeginsBare token
  pub ends : EndsBare token

-- The token that Lock-Token says: its only value, where that is text, without the angle brackets. Two values say none, nor does
-- one that isn't text: a header that doesn't decode counts as absent (RFC 4918, section 10.5).
abbrev pub SaysLockToken : Headers → List ℕ → Type 0
SaysLockToken headers token = (text : List ℕ) × IsOnlyText (get_all headers (codes "lock-token")) text × IsBetweenAngles text token
