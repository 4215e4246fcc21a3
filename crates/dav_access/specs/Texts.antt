-- Where a text is split.
use Rattle.std.specs.Prelude.{◌≡◌, ℕ, ◌<◌, ◌==◌, List, length}
use Rattle.std.specs.List.{after_first, before_first, position_or_len}

-- the text has this byte, and these are what comes before the first one and what follows it
pub record IsSplit (byte : ℕ) (text before after : List ℕ) : Type 0 where
  pub has : position_or_len (λ b. b == byte) text < length text
  pub front : before ≡ before_first (λ b. b == byte) text
  pub back : after ≡ after_first (λ b. b == byte) text
