-- What holds for every text of an If header: the statements of the laws.
use Rattle.std.specs.Prelude.{◌≡◌, ℕ, ◌<◌, ◌++◌, List, [], ◌∷◌, length, All, IsUtf8, false, None}
use Rattle.dav_headers.specs.IfTokens.{IsInside}
use Rattle.dav_headers.specs.If.{state_token, ConditionList, IsIf, tokens_of}

-- a text is read as an If header in one way at most
abbrev pub SaysOneIf : Type 0
SaysOneIf = (text : List ℕ) (ls ms : List ConditionList) → IsIf text ls → IsIf text ms → ls ≡ ms

-- an If header has at least one list, and each of its lists at least one condition (RFC 4918, section 10.4.2)
abbrev pub HasConditions : Type 0
HasConditions =
    (text : List ℕ) (ls : List ConditionList) → IsIf text ls
    → (0 < length ls) × All (λ l. 0 < length l.conditions) ls

-- the state tokens of an If header are UTF-8
abbrev pub TokensAreText : Type 0
TokensAreText = (text : List ℕ) (ls : List ConditionList) → IsIf text ls → All IsUtf8 (tokens_of ls)

-- the list without a resource tag whose one condition is this state token
abbrev pub asks_for : List ℕ → ConditionList
asks_for token = record { resource = None; conditions = record { negated = false; item = state_token token } ∷ [] }

-- The text `(<TOKEN>)`, where TOKEN is UTF-8 that may be in `<>`, is an If header of one list with TOKEN as its one condition, and TOKEN
-- is its only state token (RFC 4918, section 10.4.2).
abbrev pub TokenIsAskedFor : Type 0
TokenIsAskedFor =
    (token : List ℕ) → IsInside 62 false token → IsUtf8 token
    → IsIf (40 ∷ 60 ∷ (token ++ 62 ∷ 41 ∷ [])) (asks_for token ∷ []) × (tokens_of (asks_for token ∷ []) ≡ token ∷ [])
