-- A file stands for one list of contents.
use Rattle.std.proofs.Common.{◌≡◌, ℕ, ◌+◌, ◌<◌, ◌^◌, List, [], ◌∷◌, length, sym, refl, ◌∙◌, ap, subst, arith}
use Rattle.std.proofs.lemmas.Nat.{from_be_bytes-to_be_bytes_8}
use Rattle.std.specs.Int.{w64, to_be_bytes, from_be_bytes}
use Rattle.std.specs.List.{slice_range}
use Rattle.sqlite_disk.specs.Disk.{Holds}
use Rattle.dav_journal.specs.Block.{AreBlocks, IsBlock, IsNoBlock, end_of, front_of, head_of, twice}
use Rattle.dav_journal.specs.File.{Recovers}
use Rattle.dav_journal.proofs.BlockLemmas.{block_content, block_head, holds_first, length-front, length-head, same_held}
use Rattle.dav_journal.proofs.PartLemmas.{len_part}

pub key_part : (key : ℕ) → slice_range (front_of key) 8 16 ≡ to_be_bytes w64 key
unfolding twice
key_part key = refl

-- a front has one key
pub one_key : (file : List ℕ) (k l : ℕ) → k < 2 ^ 64 → l < 2 ^ 64 → Holds file 0 (front_of k) → Holds file 0 (front_of l) → k ≡ l
one_key file k l small fits h g =
    let same = same_held file 0 (front_of k) (front_of l) h g (omega (arith, length-front k, length-front l)) in
    sym (from_be_bytes-to_be_bytes_8 k small) ∙ ap (from_be_bytes w64) (sym (key_part k) ∙ ap (λ (bs : List ℕ). slice_range bs 8 16) same ∙ key_part l) ∙ from_be_bytes-to_be_bytes_8 l fits

-- a place has one block
pub one_block : (key : ℕ) (file : List ℕ) (at : ℕ) (x y : List ℕ) → IsBlock key file at x → IsBlock key file at y → x ≡ y
one_block key file at x y a b =
    let heads = block_head key file at (1 ∷ head_of key at x) y b (holds_first file at (1 ∷ head_of key at x) x a.holds) (omega (arith, length-head key at x)) in
    let lengths : length x ≡ length y = sym (from_be_bytes-to_be_bytes_8 (length x) a.small) ∙ ap (from_be_bytes w64) (sym (len_part key at x) ∙ ap (λ (bs : List ℕ). slice_range bs 1 9) heads ∙ len_part key at y) ∙ from_be_bytes-to_be_bytes_8 (length y) b.small in
    same_held file (at + 49) x y (block_content key file at x a) (block_content key file at y b) lengths

-- and a file one list of them, where no block follows
pub one_list : (key : ℕ) (file : List ℕ) (at : ℕ) (xs ys : List (List ℕ)) (end last : ℕ) → AreBlocks key file at xs end → AreBlocks key file at ys last → IsNoBlock key file end → IsNoBlock key file last
    → (xs ≡ ys) × (end ≡ last)
one_list key file at [] [] end last a b none nothing = (refl, sym a ∙ b)
one_list key file at [] (y ∷ ys) end last a (b, more) none nothing = absurd (none y (subst (λ p. IsBlock key file p y) a b))
one_list key file at (x ∷ xs) [] end last (a, more) b none nothing = absurd (nothing x (subst (λ p. IsBlock key file p x) b a))
one_list key file at (x ∷ xs) (y ∷ ys) end last (a, more) (b, rest) none nothing =
    let same = one_block key file at x y a b in
    let tails = one_list key file (end_of at (length x)) xs ys end last more (subst (λ (z : List ℕ). AreBlocks key file (end_of at (length z)) ys last) (sym same) rest) none nothing in
    (ap (λ (z : List ℕ). z ∷ xs) same ∙ ap (λ (zs : List (List ℕ)). y ∷ zs) (tails.0), tails.1)

pub one_recovered : (file : List ℕ) (xs ys : List (List ℕ)) → Recovers file xs → Recovers file ys → xs ≡ ys
one_recovered file xs ys a b =
    let same = one_key file a.key b.key a.small b.small a.front b.front in
    (one_list a.key file 72 xs ys a.end b.end a.blocks (subst (λ k. AreBlocks k file 72 ys b.end) (sym same) b.blocks) a.nothing (subst (λ k. IsNoBlock k file b.end) (sym same) b.nothing)).0
