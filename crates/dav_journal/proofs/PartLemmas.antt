-- Parts that are added one behind the other.
use Rattle.std.proofs.Common.{◌≡◌, ◌<◌, ◌^◌, ℕ, List, ◌∷◌, ◌++◌, ◌∙◌, length, refl, ap, append_assoc}
use Rattle.std.proofs.lemmas.Nat.{from_be_bytes-to_be_bytes_8}
use Rattle.std.specs.Int.{w64, to_be_bytes, from_be_bytes}
use Rattle.std.specs.List.{slice_range}
use Rattle.dav_journal.specs.Block.{head_of, twice}

pub two_parts : (a b c xs ys : List ℕ) → b ≡ a ++ xs → c ≡ b ++ ys → c ≡ a ++ (xs ++ ys)
two_parts a b c xs ys first second = second ∙ ap (λ (l : List ℕ). l ++ ys) first ∙ append_assoc a xs ys

pub three_parts : (a b c d xs ys zs : List ℕ) → b ≡ a ++ xs → c ≡ b ++ ys → d ≡ c ++ zs → d ≡ a ++ (xs ++ (ys ++ zs))
three_parts a b c d xs ys zs first second third =
    two_parts a b d xs (ys ++ zs) first (two_parts b c d ys zs second third)

-- the length that a head tells
pub len_part : (key place : ℕ) (content : List ℕ) → slice_range (1 ∷ head_of key place content) 1 9 ≡ to_be_bytes w64 (length content)
unfolding head_of twice
len_part key place content = refl

pub len_told : (key place : ℕ) (content head part : List ℕ) (n : ℕ) → length content < 2 ^ 64 → head ≡ 1 ∷ head_of key place content
    → part ≡ slice_range head 1 9 → n ≡ from_be_bytes w64 part → n ≡ length content
len_told key place content head part n small is part_is read =
    read ∙ ap (from_be_bytes w64) (part_is ∙ ap (λ (l : List ℕ). slice_range l 1 9) is ∙ len_part key place content) ∙ from_be_bytes-to_be_bytes_8 (length content) small

pub head_long : (key place : ℕ) (content head : List ℕ) → head ≡ 1 ∷ head_of key place content → length head ≡ 49
unfolding head_of twice
head_long key place content head is = ap length is
