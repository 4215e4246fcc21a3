-- Numbers that are written twice.
use Rattle.std.proofs.Common.{◌≡◌, ◌⊎◌, ℕ, zero, suc, ◌+◌, ◌-◌, ◌<◌, ◌^◌, length, slice_index, take, sym, refl, ◌∙◌, ap, inl, inr, arith}
use Rattle.std.proofs.lemmas.List.{ext_get_or, get_or_append_left}
use Rattle.std.proofs.lemmas.Nat.{from_be_bytes-to_be_bytes_8}
use Rattle.std.specs.Int.{w64, to_be_bytes, from_be_bytes}
use Rattle.dav_journal.specs.Block.{twice}

pub length-twice : (n : ℕ) → length (twice n) ≡ 16
unfolding twice
length-twice n = refl

-- a byte, and what was written beside it, where each may have been lost
pub pair_same : (x y a b : ℕ) → x + y ≡ 255 → a + b ≡ 255 → (x ≡ 0) ⊎ (x ≡ a) → (y ≡ 0) ⊎ (y ≡ b) → x ≡ a
pair_same x y a b e f (inr same) q = same
pair_same x y a b e f (inl none) (inl lost) = absurd (omega (arith, e, none, lost))
pair_same x y a b e f (inl none) (inr same) = omega (arith, e, f, none, same)

-- bytes and complements
pub twice_sums : (n i : ℕ) → n < 2 ^ 64 → i < 8 → slice_index (twice n) i + slice_index (twice n) (8 + i) ≡ 255
unfolding twice
twice_sums n zero small low = omega arith
twice_sums n (suc zero) small low = omega arith
twice_sums n (suc (suc zero)) small low = omega arith
twice_sums n (suc (suc (suc zero))) small low = omega arith
twice_sums n (suc (suc (suc (suc zero)))) small low = omega arith
twice_sums n (suc (suc (suc (suc (suc zero))))) small low = omega arith
twice_sums n (suc (suc (suc (suc (suc (suc zero)))))) small low = omega arith
twice_sums n (suc (suc (suc (suc (suc (suc (suc zero))))))) small low = omega arith
twice_sums n (suc (suc (suc (suc (suc (suc (suc (suc i)))))))) small low = absurd (omega arith)

-- a number that was written twice is there, or it shows that bytes are lost
pub twice_same : (n m : ℕ) → n < 2 ^ 64 → m < 2 ^ 64 → ((i : ℕ) → i < 16 → (slice_index (twice m) i ≡ 0) ⊎ (slice_index (twice m) i ≡ slice_index (twice n) i)) → m ≡ n
unfolding twice
twice_same n m small fits each =
    let bytes : to_be_bytes w64 m ≡ to_be_bytes w64 n = ext_get_or 0 (to_be_bytes w64 m) (to_be_bytes w64 n) refl (λ i low.
    let low8 : i < 8 = low in
    let mine = get_or_append_left (to_be_bytes w64 m) (to_be_bytes w64 (2 ^ 64 - 1 - m)) 0 i low in
    let other = get_or_append_left (to_be_bytes w64 n) (to_be_bytes w64 (2 ^ 64 - 1 - n)) 0 i low in
    sym mine ∙ pair_same (slice_index (twice m) i) (slice_index (twice m) (8 + i)) (slice_index (twice n) i) (slice_index (twice n) (8 + i)) (twice_sums m i fits low8) (twice_sums n i small low8) (each i (omega (arith, low8))) (each (8 + i) (omega (arith, low8))) ∙ other) in
    sym (from_be_bytes-to_be_bytes_8 m fits) ∙ ap (from_be_bytes w64) bytes ∙ from_be_bytes-to_be_bytes_8 n small

-- the number in it
pub twice_part : (n : ℕ) → take 8 (twice n) ≡ to_be_bytes w64 n
unfolding twice
twice_part n = refl

pub twice_number : (n : ℕ) → n < 2 ^ 64 → from_be_bytes w64 (take 8 (twice n)) ≡ n
twice_number n small = ap (from_be_bytes w64) (twice_part n) ∙ from_be_bytes-to_be_bytes_8 n small
