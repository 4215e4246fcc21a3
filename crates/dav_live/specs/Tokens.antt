-- The tokens that locks are granted with (RFC 4918, section 6.5; RFC 9562, section 5.8).
use Rattle.std.specs.Prelude.{◌≡◌, ◌<◌, ◌^◌, ℕ, List, [], ◌∷◌, ◌++◌, length, slice_index}
use Rattle.std.specs.List.{All}
use Rattle.std.specs.Int.{w64, to_be_bytes}
use Rattle.sha2.specs.Sha256.{sha256}
use Rattle.uuid.specs.Parts.{with_variant, with_version}
use Rattle.uuid.specs.Text.{lower, urn_text}
use Rattle.uuid.specs.declared.Variant.TheVariants.{RFC4122}
use Rattle.uuid.specs.declared.Version.TheVariants.{Custom}

-- What can't be guessed of the token of a number, whoever knows those of other numbers (RFC 9562, section 6.9): the SHA-256 of the random
-- bytes that the front told, and then the number's eight, the first the highest.
abbrev pub token_digest : List ℕ → ℕ → List ℕ
token_digest random number = sha256 (random ++ to_be_bytes w64 number)

-- The bytes of a digest and those of a number as they are in a token: the number's, whole, where neither version nor variant is written.
abbrev pub token_bytes : List ℕ → List ℕ → List ℕ
token_bytes r n =
    slice_index r 0 ∷ slice_index r 1 ∷ slice_index r 2 ∷ slice_index r 3 ∷ slice_index r 4 ∷ slice_index r 5 ∷ slice_index r 6 ∷ slice_index n 0
    ∷ slice_index r 7 ∷ slice_index n 1 ∷ slice_index n 2 ∷ slice_index n 3 ∷ slice_index n 4 ∷ slice_index n 5 ∷ slice_index n 6 ∷ slice_index n 7 ∷ []

-- the token of a number: the URN of a UUID of version 8, of 58 bits of its digest and the 64 of the number
unfoldable pub token_text : List ℕ → ℕ → List ℕ
token_text random number = urn_text lower (with_version (with_variant (token_bytes (token_digest random number) (to_be_bytes w64 number)) RFC4122) Custom)

-- sixteen bytes, as random ones are
abbrev pub AreSixteen : List ℕ → Type 0
AreSixteen bytes = (length bytes ≡ 16) × All (λ b. b < 256) bytes

-- tokens of two numbers differ, whatever random bytes they are made of
abbrev pub TokensDiffer : Type 0
TokensDiffer = (r s : List ℕ) (m n : ℕ) → m < 2 ^ 64 → n < 2 ^ 64 → token_text r m ≡ token_text s n → m ≡ n
