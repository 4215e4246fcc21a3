-- Two tokens of which one text is.
use Rattle.std.proofs.Common.{◌≡◌, ◌<◌, ◌∙◌, ℕ, zero, suc, List, [], ◌∷◌, ◌++◌, length, slice_index, Option, Some, ◌%◌, ◌+◌, ◌/◌, All, ap, sym, refl, inl, arith, unwrap_or}
use Rattle.std.proofs.lemmas.List.Elements.{All-append, All-from_recursion, All-nil}
use Rattle.std.proofs.lemmas.Nat.{from_be_bytes-to_be_bytes_8}
use Rattle.std.specs.Int.{w32, w64, to_be_bytes, from_be_bytes}
use Rattle.sha2.specs.Sha256.{digest_bytes, sha256}
use Rattle.sha2.proofs.Facts256.{length-sha256}
use Rattle.uuid.proofs.RoundTrips.{parses_urn}
use Rattle.uuid.specs.Parts.{with_variant, with_version}
use Rattle.uuid.specs.Text.{lower, parsed}
use Rattle.uuid.specs.declared.Variant.TheVariants.{RFC4122}
use Rattle.uuid.specs.declared.Version.TheVariants.{Custom}
use Rattle.dav_live.specs.Tokens.{TokensDiffer, token_bytes, token_digest, token_text}

-- ---- a digest has bytes

four_bytes : (x : ℕ) → All (λ b. b < 256) (to_be_bytes w32 x)
four_bytes x =
    let byte : (x : ℕ) → x % 256 < 256 = λ x. omega arith in
    All-from_recursion (λ b. b < 256) (to_be_bytes w32 x) (byte (x / 16777216), (byte (x / 65536), (byte (x / 256), (byte x, tt))))

digest_is_bytes : (h : List ℕ) (n : ℕ) → All (λ b. b < 256) (digest_bytes h n)
unfolding digest_bytes
digest_is_bytes h zero = All-nil (λ b. b < 256)
digest_is_bytes h (suc n) = All-append (λ b. b < 256) (digest_bytes h n) (to_be_bytes w32 (slice_index h n)) (digest_is_bytes h n) (four_bytes (slice_index h n))

sha256_is_bytes : (m : List ℕ) → All (λ b. b < 256) (sha256 m)
unfolding sha256
sha256_is_bytes m = digest_is_bytes _ 8

-- ---- the bytes of a token

abbrev uuid_of : List ℕ → ℕ → List ℕ
uuid_of r n = with_version (with_variant (token_bytes (token_digest r n) (to_be_bytes w64 n)) RFC4122) Custom

are_bytes : (r : List ℕ) (n : ℕ) → All (λ b. b < 256) (uuid_of r n)
are_bytes random n =
    let r = token_digest random n in
    let small : All (λ b. b < 256) r = sha256_is_bytes (random ++ to_be_bytes w64 n) in
    let len : length r ≡ 32 = length-sha256 (random ++ to_be_bytes w64 n) in
    let at : (i : ℕ) → i < 16 → slice_index r i < 256 = λ i within. small i 0 (omega arith) in
    let byte : (x : ℕ) → x % 256 < 256 = λ x. omega arith in
    let version : (x : ℕ) → x % 16 + 128 < 256 = λ x. omega arith in
    let variant : (x : ℕ) → x % 64 + 128 < 256 = λ x. omega arith in
    All-from_recursion (λ b. b < 256) (uuid_of random n)
    (at 0 (omega arith), (at 1 (omega arith), (at 2 (omega arith), (at 3 (omega arith), (at 4 (omega arith), (at 5 (omega arith), (version (slice_index r 6), (byte (n / 72057594037927936), (variant (slice_index r 7), (byte (n / 281474976710656), (byte (n / 1099511627776), (byte (n / 4294967296), (byte (n / 16777216), (byte (n / 65536), (byte (n / 256), (byte n, tt))))))))))))))))

-- the number of a token, by its bytes
abbrev number_in : List ℕ → List ℕ
number_in u = slice_index u 7 ∷ slice_index u 9 ∷ slice_index u 10 ∷ slice_index u 11 ∷ slice_index u 12 ∷ slice_index u 13 ∷ slice_index u 14 ∷ slice_index u 15 ∷ []

pub tokens_differ : TokensDiffer
unfolding token_text
tokens_differ r s m n small small' same =
    let one : Some (uuid_of r m) ≡ parsed (token_text r m) = parses_urn lower (uuid_of r m) (inl refl) refl (are_bytes r m) in
    let other : Some (uuid_of s n) ≡ parsed (token_text s n) = parses_urn lower (uuid_of s n) (inl refl) refl (are_bytes s n) in
    let uuids : uuid_of r m ≡ uuid_of s n = ap (λ (o : Option (List ℕ)). unwrap_or o []) (one ∙ ap parsed same ∙ sym other) in
    let numbers : to_be_bytes w64 m ≡ to_be_bytes w64 n = ap number_in uuids in
    sym (from_be_bytes-to_be_bytes_8 m small) ∙ ap (from_be_bytes w64) numbers ∙ from_be_bytes-to_be_bytes_8 n small'
