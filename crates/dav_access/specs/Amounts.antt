-- How much of something: a number that may end in a letter for 1,024, its square or its cube.
use Rattle.std.specs.Prelude.{◌≡◌, ◌⊎◌, ℕ, ◌*◌, ◌<◌, ◌^◌, List, ◌++◌, codes}
use Rattle.std.specs.Str.Parse.{IsNumeral, digits_value}

-- one or more decimal digits, and so many times their number, which is below 2 ^ 64
pub record IsTimes (digits : List ℕ) (times number : ℕ) : Type 0 where
  pub decimal : IsNumeral 10 digits
  pub value : number ≡ digits_value 10 digits * times
  pub small : number < 2 ^ 64

-- a word is this, and then a letter, small or capital
abbrev pub EndsIn : List ℕ → List ℕ → List ℕ → List ℕ → Type 0
EndsIn letter capital word front = (word ≡ front ++ letter) ⊎ (word ≡ front ++ capital)

-- A word that is a number below 2 ^ 64: decimal digits, which may end in `k`, `m` or `g`, or the
-- capital letter, for 2 ^ 10, 2 ^ 20 or 2 ^ 30 times as much.
pub data IsAmount (word : List ℕ) (number : ℕ) : Type 0 where
  ones : IsTimes word 1 number → IsAmount word number
  kilo : {digits : List ℕ} → EndsIn (codes "k") (codes "K") word digits
      → IsTimes digits 1024 number → IsAmount word number
  mega : {digits : List ℕ} → EndsIn (codes "m") (codes "M") word digits
      → IsTimes digits 1048576 number → IsAmount word number
  giga : {digits : List ℕ} → EndsIn (codes "g") (codes "G") word digits
      → IsTimes digits 1073741824 number → IsAmount word number
