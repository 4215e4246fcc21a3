-- SHA-256-crypt, the method `$5$` of crypt(3): U. Drepper, "Unix crypt using SHA-256 and SHA-512".
-- The numbers are those of its steps.
use Rattle.std.specs.Prelude.{◌≡◌, ℕ, zero, suc, ◌+◌, ◌-◌, ◌*◌, ◌/◌, ◌%◌, ◌^◌, ◌≤◌, ◌==◌, if◌then◌else◌, List, [], ◌∷◌, ◌++◌, codes, length, slice_index, take}
use Rattle.std.specs.Int.{leading_zeros, w64}
use Rattle.std.specs.List.{flat_map, range_with_len, repeat}
use Rattle.sha2.specs.Sha256.{sha256}
use Rattle.dav_access.specs.Secrets.{IsSecretOf}

-- so many bytes of a digest of 32 bytes, begun anew each time it ends (9 and 10, 16, 20)
abbrev pub spread : ℕ → List ℕ → List ℕ
spread count digest = repeat (count / 32) digest ++ take (count % 32) digest

-- digest B (4 to 8)
abbrev pub digest_b : List ℕ → List ℕ → List ℕ
digest_b password salt = sha256 (password ++ salt ++ password)

-- for each bit of the password's length, the lowest first, up to the highest that is 1: a digest
-- where it is 1, else the password (11)
abbrev pub by_bits : List ℕ → List ℕ → List ℕ
by_bits password digest =
    flat_map (λ i. if length password / 2 ^ i % 2 == 1 then digest else password)
    (range_with_len 0 (64 - leading_zeros w64 (length password)))

-- digest A (1 to 12)
abbrev pub digest_a : List ℕ → List ℕ → List ℕ
digest_a password salt =
    let b = digest_b password salt in
    sha256 (password ++ salt ++ spread (length password) b ++ by_bits password b)

-- the sequence P (13 to 16)
abbrev pub sequence_p : List ℕ → List ℕ
sequence_p password = spread (length password) (sha256 (repeat (length password) password))

-- the sequence S (17 to 20)
abbrev pub sequence_s : List ℕ → List ℕ → List ℕ
sequence_s salt a = spread (length salt) (sha256 (repeat (16 + slice_index a 0) salt))

-- what round k takes the digest of, after the digest of the round before (21)
abbrev pub round_message : ℕ → List ℕ → List ℕ → List ℕ → List ℕ
round_message k last p s =
    (if k % 2 == 0 then last else p) ++ (if k % 3 == 0 then [] else s)
    ++ (if k % 7 == 0 then [] else p) ++ (if k % 2 == 1 then last else p)

-- the digest after so many rounds, the first of which is round 0 and follows digest A (21)
unfoldable pub after_rounds : ℕ → List ℕ → List ℕ → List ℕ → List ℕ
after_rounds zero a p s = a
after_rounds (suc k) a p s = sha256 (round_message k (after_rounds k a p s) p s)

-- the digest of a password under a salt
abbrev pub crypt_of : List ℕ → List ℕ → ℕ → List ℕ
crypt_of password salt rounds =
    let a = digest_a password salt in
    after_rounds rounds a (sequence_p password) (sequence_s salt a)

-- the 64 digits in which a digest is written (22)
abbrev pub alphabet : List ℕ
alphabet = codes "./0123456789ABCDEFGHIJKLMNOPQRSTUVWXYZabcdefghijklmnopqrstuvwxyz"

-- 24 bits, as four digits of six bits, the lowest first
abbrev pub four_digits : ℕ → List ℕ
four_digits bits =
    slice_index alphabet (bits % 64) ∷ slice_index alphabet (bits / 64 % 64)
    ∷ slice_index alphabet (bits / 64 ^ 2 % 64) ∷ slice_index alphabet (bits / 64 ^ 3 % 64) ∷ []

-- the bytes of a digest in threes, as they are written (22)
abbrev pub groups : List (ℕ × ℕ × ℕ)
groups =
    (0, 10, 20) ∷ (21, 1, 11) ∷ (12, 22, 2) ∷ (3, 13, 23) ∷ (24, 4, 14)
    ∷ (15, 25, 5) ∷ (6, 16, 26) ∷ (27, 7, 17) ∷ (18, 28, 8) ∷ (9, 19, 29) ∷ []

-- three bytes of a digest as 24 bits, the first the highest
abbrev pub bits_at : List ℕ → (ℕ × ℕ × ℕ) → ℕ
bits_at digest (high, middle, low) =
    slice_index digest high * 2 ^ 16 + slice_index digest middle * 2 ^ 8 + slice_index digest low

-- how a digest is written: in groups of three bytes, and the last two as three digits (22)
unfoldable pub encoding_of : List ℕ → List ℕ
encoding_of digest =
    flat_map (λ g. four_digits (bits_at digest g)) groups
    ++ take 3 (four_digits (slice_index digest 31 * 2 ^ 8 + slice_index digest 30))

-- the secret is that of the password
pub record IsCryptOf (password secret : List ℕ) : Type 0 where
  pub rounds : ℕ
  pub salt : List ℕ
  pub digest : List ℕ
  pub parts : IsSecretOf secret rounds salt digest
  pub written : digest ≡ encoding_of (crypt_of password salt rounds)

-- a password that is looked at, of at most 72 bytes, whose secret this is
pub record Fits (password secret : List ℕ) : Type 0 where
  pub short : length password ≤ 72
  pub crypt : IsCryptOf password secret
