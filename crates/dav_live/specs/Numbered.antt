-- The numbers of tokens (RFC 4918, section 6.5).
use Rattle.std.specs.Prelude.{◌≡◌, ◌<◌, ◌^◌, ◌+◌, ℕ, List, [], ◌∷◌, Option, Some, None}
use Rattle.dav_kept.specs.Records.{RecordView, token_count}
use Rattle.dav_live.specs.Tokens.{AreSixteen, token_text}

-- a token, if there is one, is that of this number, with some random bytes
abbrev pub HasNumber : ℕ → Option (List ℕ) → Type 0
HasNumber n None = Unit {0}
HasNumber n (Some token) = (random : List ℕ) × AreSixteen random × (n < 2 ^ 64) × (token ≡ token_text random n)

-- The tokens of records are those of the numbers from this one on, one after another.
abbrev pub AreNumbered : ℕ → List RecordView → Type 0
AreNumbered n [] = Unit {0}
AreNumbered n (r ∷ rs) = HasNumber n r.request.token × AreNumbered (n + token_count r.request.token) rs
