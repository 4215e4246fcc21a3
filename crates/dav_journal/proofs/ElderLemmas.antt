-- Files of the elder format.
use Rattle.std.proofs.Common.{◌≡◌, ℕ, ◌+◌, ◌<◌, ◌≤◌, ◌^◌, List, [], ◌∷◌, ◌++◌, length, slice_index, Option, Some, None, replicate, drop, sym, refl, ◌∙◌, ap, subst, inl, inr, arith, length-append}
use Rattle.std.proofs.lemmas.List.{ext_get_or, get_or-append-add, get_or-drop, length-drop, length-replicate}
use Rattle.std.proofs.lemmas.Nat.{from_be_bytes-to_be_bytes_8}
use Rattle.std.specs.Int.{w64, to_be_bytes, from_be_bytes}
use Rattle.std.specs.List.{slice_range}
use Rattle.sqlite_disk.specs.Disk.{Holds}
use Rattle.sqlite_disk.specs.declared.Disk.{Ghosts}
use Rattle.dav_journal.specs.declared.journal.Journal.{Journal}
use Rattle.dav_journal.specs.Elder.{AreElder, IsElder, IsNoElder, IsReadingElder, elder_bytes, elder_end, elder_head}
use Rattle.dav_journal.specs.Journal.{Stays}
use Rattle.dav_journal.specs.Mark.{IsFaint}
use Rattle.dav_journal.specs.Write.{HasZeros}
use Rattle.dav_journal.proofs.BlockLemmas.{holds_first, holds_join, no_some, same_held, same_some}
use Rattle.dav_journal.proofs.WriteLemmas.{zero_at}

pub length-elder : (key place : ℕ) (content : List ℕ) → length (elder_head key place content) ≡ 24
unfolding elder_head
length-elder key place content = refl

-- the length that a head tells
pub elder_len_part : (key place : ℕ) (content : List ℕ) → slice_range (elder_head key place content) 0 8 ≡ to_be_bytes w64 (length content)
unfolding elder_head
elder_len_part key place content = refl

pub length-elder_bytes : (key place : ℕ) (content : List ℕ) → length (elder_bytes key place content) ≡ 24 + length content
length-elder_bytes key place content = omega (arith, length-append (elder_head key place content) content, length-elder key place content)

-- the content of a block
pub elder_content : (key : ℕ) (file : List ℕ) (at : ℕ) (content : List ℕ) → IsElder key file at content → Holds file (at + 24) content
unfolding elder_head
elder_content key file at content b =
    record {
      within = omega (arith, b.holds.within, length-elder_bytes key at content);
      each = λ i low.
          let here : at + 24 + i ≡ at + (24 + i) = omega arith in
          ap (slice_index file) here ∙ b.holds.each (24 + i) (omega (arith, length-elder_bytes key at content))
          ∙ get_or-append-add (elder_head key at content) content i 0;
    }

-- the head of a block, as it was read
pub elder_head_read : (key : ℕ) (file : List ℕ) (at : ℕ) (head content : List ℕ) → IsElder key file at content → Holds file at head → length head ≡ 24 → head ≡ elder_head key at content
elder_head_read key file at head content b h long =
    same_held file at head (elder_head key at content) h (holds_first file at (elder_head key at content) content b.holds) (omega (arith, long, length-elder key at content))

-- what was read is a block
pub read_elder : (key : ℕ) (file : List ℕ) (at : ℕ) (head content : List ℕ) → 0 < length content → length content < 2 ^ 64 → Holds file at head → head ≡ elder_head key at content
    → Holds file (at + 24) content → IsElder key file at content
read_elder key file at head content some small h is held =
    let front : Holds file at (elder_head key at content) = subst (λ (l : List ℕ). Holds file at l) is h in
    let long : at + length (elder_head key at content) ≡ at + 24 = omega (arith, length-elder key at content) in
    record { some = some; small = small; holds = holds_join file at (elder_head key at content) content front (subst (λ (p : ℕ). Holds file p content) (sym long) held) }

-- what a head told, in a file where the content fits
abbrev Tells : ℕ → List ℕ → ℕ → List ℕ → Option ℕ → Type 0
Tells key file at head told = (content : List ℕ) → 0 < length content → length content < 2 ^ 64 → head ≡ elder_head key at content → at + 24 + length content ≤ length file → told ≡ Some (length content)

pub no_elder_told : (key : ℕ) (file : List ℕ) (at : ℕ) (head : List ℕ) (told : Option ℕ) → Holds file at head → length head ≡ 24 → Tells key file at head told → told ≡ None → IsNoElder key file at
no_elder_told key file at head told h long tells none content b =
    let is = elder_head_read key file at head content b h long in
    no_some (sym none ∙ tells content b.some b.small is (omega (arith, b.holds.within, length-elder_bytes key at content)))

pub no_elder_read : (key : ℕ) (file : List ℕ) (at : ℕ) (head found : List ℕ) (n : ℕ) (told : Option ℕ) → Holds file at head → length head ≡ 24 → Tells key file at head told → told ≡ Some n
    → length found ≡ n → Holds file (at + 24) found → (head ≡ elder_head key at found → ⊥) → IsNoElder key file at
no_elder_read key file at head found n told h long tells some len held other content b =
    let is = elder_head_read key file at head content b h long in
    let same : length content ≡ n = same_some (sym (tells content b.some b.small is (omega (arith, b.holds.within, length-elder_bytes key at content))) ∙ some) in
    let text : content ≡ found = same_held file (at + 24) content found (elder_content key file at content b) held (omega (arith, same, len)) in
    other (is ∙ ap (λ (l : List ℕ). elder_head key at l) text)

pub no_elder_short : (key : ℕ) (file : List ℕ) (at : ℕ) → length file < at + 24 → IsNoElder key file at
no_elder_short key file at short content b = absurd (omega (arith, b.holds.within, length-elder_bytes key at content))

pub elder_more : (key : ℕ) (file : List ℕ) (at : ℕ) (bs : List (List ℕ)) (end : ℕ) (b : List ℕ) → AreElder key file at bs end → IsElder key file end b
    → AreElder key file at (bs ++ b ∷ []) (elder_end end (length b))
elder_more key file at [] end b is block = (subst (λ p. IsElder key file p b) (sym is) block, ap (λ p. elder_end p (length b)) is)
elder_more key file at (x ∷ xs) end b (is, more) block = (is, elder_more key file (elder_end at (length x)) xs end b more block)

pub elder_stays : {D : Type 0} (g : Ghosts D) (old new : Journal D) (contents : List (List ℕ)) → Stays g old new → IsReadingElder g old contents → IsReadingElder g new contents
elder_stays g old new contents s r = record {
  small = rw s.key r.small;
  front = rw (s.reads.seen, s.key) r.front;
  blocks = rw (s.reads.seen, s.key, s.end) r.blocks;
  only = λ c may. r.only c (s.reads.crash c may) ∙ sym s.reads.seen;
  whole = ap length s.reads.seen ∙ r.whole ∙ sym s.len;
}

-- a place has one block
pub one_elder : (key : ℕ) (file : List ℕ) (at : ℕ) (x y : List ℕ) → IsElder key file at x → IsElder key file at y → x ≡ y
one_elder key file at x y a b =
    let heads = elder_head_read key file at (elder_head key at x) y b (holds_first file at (elder_head key at x) x a.holds) (length-elder key at x) in
    let lengths : length x ≡ length y = sym (from_be_bytes-to_be_bytes_8 (length x) a.small) ∙ ap (from_be_bytes w64) (sym (elder_len_part key at x) ∙ ap (λ (bs : List ℕ). slice_range bs 0 8) heads ∙ elder_len_part key at y) ∙ from_be_bytes-to_be_bytes_8 (length y) b.small in
    same_held file (at + 24) x y (elder_content key file at x a) (elder_content key file at y b) lengths

-- and a file one list of them, where no block follows
pub one_elder_list : (key : ℕ) (file : List ℕ) (at : ℕ) (xs ys : List (List ℕ)) (end last : ℕ) → AreElder key file at xs end → AreElder key file at ys last → IsNoElder key file end → IsNoElder key file last
    → xs ≡ ys
one_elder_list key file at [] [] end last a b none nothing = refl
one_elder_list key file at [] (y ∷ ys) end last a (b, more) none nothing = absurd (none y (subst (λ p. IsElder key file p y) a b))
one_elder_list key file at (x ∷ xs) [] end last (a, more) b none nothing = absurd (nothing x (subst (λ p. IsElder key file p x) b a))
one_elder_list key file at (x ∷ xs) (y ∷ ys) end last (a, more) (b, rest) none nothing =
    let same = one_elder key file at x y a b in
    let tails = one_elder_list key file (elder_end at (length x)) xs ys end last more (subst (λ (z : List ℕ). AreElder key file (elder_end at (length z)) ys last) (sym same) rest) none nothing in
    ap (λ (z : List ℕ). z ∷ xs) same ∙ ap (λ (zs : List (List ℕ)). y ∷ zs) tails

-- a file has one key
pub one_elder_key : (file : List ℕ) (k l : ℕ) → k < 2 ^ 64 → l < 2 ^ 64 → Holds file 8 (to_be_bytes w64 k) → Holds file 8 (to_be_bytes w64 l) → k ≡ l
one_elder_key file k l small fits h g =
    let same = same_held file 8 (to_be_bytes w64 k) (to_be_bytes w64 l) h g refl in
    sym (from_be_bytes-to_be_bytes_8 k small) ∙ ap (from_be_bytes w64) same ∙ from_be_bytes-to_be_bytes_8 l fits

-- digests that are all zeros
pub zero_digests : (key : ℕ) (former head : List ℕ) → head ≡ elder_head key 16 former → ((i : ℕ) → i < 16 → slice_index (elder_head key 16 former) (8 + i) ≡ 0) → drop 8 head ≡ replicate 16 0
zero_digests key former head is zeros =
    ext_get_or 0 (drop 8 head) (replicate 16 0) (length-drop 8 head ∙ omega (arith, ap length is, length-elder key 16 former, length-replicate {A = ℕ} 16 0)) (λ i low.
    let few : i < 16 = omega (arith, low, length-drop 8 head, ap length is, length-elder key 16 former) in
    get_or-drop 8 head i 0 ∙ ap (λ (l : List ℕ). slice_index l (8 + i)) is ∙ zeros i few ∙ sym (zero_at 16 i))

-- what a crash left of bytes, as it was read
pub faint_there : (file : List ℕ) (at : ℕ) (found were : List ℕ) → Holds file at found → length were ≤ length found → IsFaint found 0 were → IsFaint file at were
faint_there file at found were h long faint i low =
    let read = h.each i (omega (arith, low, long)) in
    let here : slice_index found (0 + i) ≡ slice_index found i = ap (slice_index found) (omega arith) in
    elim (faint i low) [
      | inl lost ↦ inl (read ∙ sym here ∙ lost)
      | inr same ↦ inr (read ∙ sym here ∙ same)
    ]

pub faint_found : (file : List ℕ) (at : ℕ) (found were : List ℕ) → Holds file at found → length were ≤ length found → IsFaint file at were → IsFaint found 0 were
faint_found file at found were h long faint i low =
    let read = h.each i (omega (arith, low, long)) in
    let here : slice_index found (0 + i) ≡ slice_index found i = ap (slice_index found) (omega arith) in
    elim (faint i low) [
      | inl lost ↦ inl (here ∙ sym read ∙ lost)
      | inr same ↦ inr (here ∙ sym read ∙ same)
    ]

-- a version of zeros, as it was read
pub zero_version : (file found : List ℕ) → Holds file 0 found → length found ≡ 8 → HasZeros file 0 8 → found ≡ replicate 8 0
zero_version file found h long zeros =
    ext_get_or 0 found (replicate 8 0) (long ∙ sym (length-replicate {A = ℕ} 8 0)) (λ i low.
    sym (h.each i low) ∙ zeros.1 (0 + i) (omega arith) (omega (arith, low, long)) ∙ sym (zero_at 8 i))
