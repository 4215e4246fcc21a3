-- The text that is listed of a password: `$5$`, the rounds where they aren't the usual 5,000, a
-- salt and a digest (U. Drepper, "Unix crypt using SHA-256 and SHA-512", "Specification").
use Rattle.std.specs.Prelude.{◌≡◌, ℕ, ◌<◌, ◌≤◌, ◌^◌, ◌++◌, List, codes, length, max, min}
use Rattle.std.specs.Str.Parse.{IsNumeral, digits_value, without_leading_plus}
use Rattle.dav_access.specs.Texts.{IsSplit}

-- A text that begins with `rounds=`, a decimal number below 2 ^ 32, with or without a plus, and
-- `$`; what follows that is `rest`.
pub record AsksRounds (text : List ℕ) (asked : ℕ) (rest : List ℕ) : Type 0 where
  pub number : List ℕ
  pub after : List ℕ
  pub begins : text ≡ codes "rounds=" ++ after
  pub ends : IsSplit 36 after number rest
  pub decimal : IsNumeral 10 (without_leading_plus number)
  pub value : asked ≡ digits_value 10 (without_leading_plus number)
  pub small : asked < 2 ^ 32

-- The rounds of a text, and what follows them: those that it asks for, at least 1,000 and at most
-- 1,000,000; else 5,000.
pub data HasRounds (text : List ℕ) : ℕ → List ℕ → Type 0 where
  asked : {rounds : ℕ} {rest : List ℕ} → AsksRounds text rounds rest
      → HasRounds text (min (max rounds 1000) 1000000) rest
  usual : ((rounds : ℕ) (rest : List ℕ) → ¬ AsksRounds text rounds rest) → HasRounds text 5000 text

-- A secret, in its parts: `$5$`, the rounds, a salt of at most 16 bytes, `$`, and 43 bytes, the
-- digest.
pub record IsSecretOf (secret : List ℕ) (rounds : ℕ) (salt digest : List ℕ) : Type 0 where
  pub after : List ℕ
  pub rest : List ℕ
  pub begins : secret ≡ codes "$5$" ++ after
  pub runs : HasRounds after rounds rest
  pub parts : IsSplit 36 rest salt digest
  pub short : length salt ≤ 16
  pub whole : length digest ≡ 43

-- a text that is a secret
abbrev pub IsSecret : List ℕ → Type 0
IsSecret secret =
    (rounds : ℕ) × (salt : List ℕ) × (digest : List ℕ) × IsSecretOf secret rounds salt digest
