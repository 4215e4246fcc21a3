-- Blocks, and what a write behind them may leave.
use Rattle.std.proofs.Common.{◌≡◌, ◌≢◌, ◌⊎◌, ℕ, ◌+◌, ◌-◌, ◌<◌, ◌≤◌, ◌^◌, List, [], ◌∷◌, ◌++◌, length, slice_index, Option, Some, None, unwrap_or, MatchOption, sym, refl, ◌∙◌, ap, subst, inl, inr, arith, add-zero, length-append}
use Rattle.std.specs.Bool.{⊤}
use Rattle.std.proofs.lemmas.Bool.{cases_lt}
use Rattle.std.proofs.lemmas.List.{ext_get_or, get_or_at, get_or_append_left, get_or-append-add}
use Rattle.sqlite_disk.specs.Disk.{Holds}
use Rattle.dav_journal.specs.Block.{AreBlocks, IsBlock, IsNoBlock, block_bytes, end_of, front_of, head_of, twice}
use Rattle.dav_journal.specs.File.{Recovers}
use Rattle.dav_journal.specs.Journal.{Rests}
use Rattle.dav_journal.specs.Write.{KeepsFront, AllOrShut}
use Rattle.dav_journal.proofs.MarkLemmas.{marks_kept}

pub length-head : (key place : ℕ) (content : List ℕ) → length (head_of key place content) ≡ 48
unfolding head_of twice
length-head key place content = refl

pub length-block : (key place : ℕ) (content : List ℕ) → length (block_bytes key place content) ≡ 49 + length content
length-block key place content = omega (arith, length-append (head_of key place content) content, length-head key place content)

pub length-front : (key : ℕ) → length (front_of key) ≡ 24
unfolding twice
length-front key = refl

pub holds_kept : (n a : ℕ) (bytes old new : List ℕ) → Holds old a bytes → KeepsFront n old new → a + length bytes ≤ n → Holds new a bytes
holds_kept n a bytes old new h k low = record { within = omega (arith, k.within); each = λ i below. k.each (a + i) (omega arith) ∙ h.each i below }

-- the first part of what a file holds
pub holds_first : (file : List ℕ) (at : ℕ) (xs ys : List ℕ) → Holds file at (xs ++ ys) → Holds file at xs
holds_first file at xs ys h = record {
  within = omega (arith, h.within, length-append xs ys);
  each = λ i low. h.each i (omega (arith, length-append xs ys)) ∙ get_or_append_left xs ys 0 i low;
}

pub no_block : (key : ℕ) (file : List ℕ) (at : ℕ) → slice_index file at ≢ 1 → IsNoBlock key file at
no_block key file at shut content b =
    shut (ap (slice_index file) (sym (add-zero at)) ∙ b.holds.each 0 (omega (arith, length-block key at content)))

pub blocks_le : (key : ℕ) (file : List ℕ) (at : ℕ) (bs : List (List ℕ)) (end : ℕ) → AreBlocks key file at bs end → at ≤ end
blocks_le key file at [] end is = omega (arith, is)
blocks_le key file at (b ∷ bs) end (is, more) = omega (arith, blocks_le key file (end_of at (length b)) bs end more)

pub blocks_kept : (key : ℕ) (old new : List ℕ) (at : ℕ) (bs : List (List ℕ)) (end n : ℕ) → AreBlocks key old at bs end → end ≤ n → KeepsFront n old new → AreBlocks key new at bs end
blocks_kept key old new at [] end n is low k = is
blocks_kept key old new at (b ∷ bs) end n (is, more) low k = (
  record {
    small = is.small;
    holds = holds_kept n at (block_bytes key at b) old new is.holds k (omega (arith, length-block key at b, blocks_le key old (end_of at (length b)) bs end more));
  },
  blocks_kept key old new (end_of at (length b)) bs end n more low k,
)

pub blocks_more : (key : ℕ) (file : List ℕ) (at : ℕ) (bs : List (List ℕ)) (end : ℕ) (b : List ℕ) → AreBlocks key file at bs end → IsBlock key file end b
    → AreBlocks key file at (bs ++ b ∷ []) (end_of end (length b))
blocks_more key file at [] end b is block = (subst (λ p. IsBlock key file p b) (sym is) block, ap (λ p. end_of p (length b)) is)
blocks_more key file at (x ∷ bs) end b (is, more) block = (is, blocks_more key file (end_of at (length x)) bs end b more block)

-- the bytes of a block, and the gate behind it
pub whole_block : (key : ℕ) (file : List ℕ) (at : ℕ) (content : List ℕ) → length content < 2 ^ 64 → Holds file at (block_bytes key at content ++ 0 ∷ []) → IsBlock key file at content
whole_block key file at content small h = record { small = small; holds = holds_first file at (block_bytes key at content) (0 ∷ []) h }

pub gate_behind : (key : ℕ) (file : List ℕ) (at : ℕ) (content : List ℕ) → Holds file at (block_bytes key at content ++ 0 ∷ []) → slice_index file (end_of at (length content)) ≡ 0
gate_behind key file at content h =
    let long = length-block key at content in
    let place : at + (49 + length content) ≡ end_of at (length content) = omega arith in
    ap (slice_index file) (sym place) ∙ h.each (49 + length content) (omega (arith, length-append (block_bytes key at content) (0 ∷ []), long))
    ∙ get_or_at (block_bytes key at content) 0 [] 0 (49 + length content) long

pub shut_if_zero : {n : ℕ} → n ≡ 0 → n ≢ 1
shut_if_zero is one = absurd (omega (arith, is, one))

-- A file at rest stands for its contents.
pub rests_recovers : (key : ℕ) (contents : List (List ℕ)) (end upto : ℕ) (file : List ℕ) → key < 2 ^ 64 → Rests key contents end upto file → Recovers file contents
rests_recovers key contents end upto file small r = record {
  key = key;
  small = small;
  front = r.front;
  end = end;
  blocks = r.blocks;
  more = omega (arith, r.some, r.within);
  marks = r.marks;
  nothing = no_block key file end (shut_if_zero (r.blank end (omega arith) r.some));
}

-- what a write of a block behind it may leave
pub leaves_one_more : (key : ℕ) (contents : List (List ℕ)) (content bytes : List ℕ) (end upto : ℕ) (old new : List ℕ) → key < 2 ^ 64 → length content < 2 ^ 64
    → bytes ≡ block_bytes key end content ++ 0 ∷ [] → Rests key contents end upto old → AllOrShut end bytes old new
    → Recovers new contents ⊎ Recovers new (contents ++ content ∷ [])
leaves_one_more key contents content bytes end upto old new small fits is r step =
    let after = step (omega (arith, r.some, r.within)) (shut_if_zero (r.blank end (omega arith) r.some)) in
    let low = blocks_le key old 72 contents end r.blocks in
    let front = holds_kept end 0 (front_of key) old new r.front (after.0) (omega (arith, low, length-front key)) in
    let blocks = blocks_kept key old new 72 contents end end r.blocks (omega arith) (after.0) in
    elim (after.2) [
      | inl shut ↦ inl (record {
        key = key;
        small = small;
        front = front;
        end = end;
        blocks = blocks;
        more = omega (arith, r.some, r.within, after.1);
        marks = marks_kept end end end old new low (omega arith) r.marks (after.0);
        nothing = no_block key new end shut;
      })
      | inr whole ↦
          let held : Holds new end (block_bytes key end content ++ 0 ∷ []) = subst (λ (bs : List ℕ). Holds new end bs) is whole in
          inr (record {
            key = key;
            small = small;
            front = front;
            end = end_of end (length content);
            blocks = blocks_more key new 72 contents end content blocks (whole_block key new end content fits held);
            more = omega (arith, held.within, length-append (block_bytes key end content) (0 ∷ []), length-block key end content);
            marks = marks_kept end end (end_of end (length content)) old new low (omega arith) r.marks (after.0);
            nothing = no_block key new (end_of end (length content)) (shut_if_zero (gate_behind key new end content held));
          })
    ]

-- and once it is written, the file is at rest with one more
pub rests_more : (key : ℕ) (contents : List (List ℕ)) (content bytes : List ℕ) (end upto end' upto' : ℕ) (old new : List ℕ) → length content < 2 ^ 64
    → bytes ≡ block_bytes key end content ++ 0 ∷ [] → upto' ≡ end + length bytes → end' + 1 ≡ upto' → Rests key contents end upto old → KeepsFront end old new → Holds new end bytes
    → Rests key (contents ++ content ∷ []) end' upto' new
rests_more key contents content bytes end upto end' upto' old new fits is zeros_is end_is r k whole =
    let held : Holds new end (block_bytes key end content ++ 0 ∷ []) = subst (λ (bs : List ℕ). Holds new end bs) is whole in
    let low = blocks_le key old 72 contents end r.blocks in
    let long : length bytes ≡ 49 + length content + 1 = ap length is ∙ omega (arith, length-append (block_bytes key end content) (0 ∷ []), length-block key end content) in
    let place : end_of end (length content) ≡ end' = omega arith in
    record {
      front = holds_kept end 0 (front_of key) old new r.front k (omega (arith, low, length-front key));
      blocks = subst (λ (e : ℕ). AreBlocks key new 72 (contents ++ content ∷ []) e) place (blocks_more key new 72 contents end content (blocks_kept key old new 72 contents end end r.blocks (omega arith) k) (whole_block key new end content fits held));
      within = omega (arith, whole.within);
      some = omega arith;
      marks = marks_kept end end end' old new low (omega arith) r.marks k;
      blank = λ i from below. let here : i ≡ end_of end (length content) = omega arith in ap (slice_index new) here ∙ gate_behind key new end content held;
    }

pub content_small : (key end : ℕ) (content bytes : List ℕ) → bytes ≡ block_bytes key end content ++ 0 ∷ [] → end + length bytes < 2 ^ 64 → length content < 2 ^ 64
content_small key end content bytes is fits =
    let long : length bytes ≡ 49 + length content + 1 = ap length is ∙ omega (arith, length-append (block_bytes key end content) (0 ∷ []), length-block key end content) in
    omega arith

pub more_than_one : (key end : ℕ) (content bytes : List ℕ) → bytes ≡ block_bytes key end content ++ 0 ∷ [] → 1 < length bytes
more_than_one key end content bytes is =
    let long : length bytes ≡ 49 + length content + 1 = ap length is ∙ omega (arith, length-append (block_bytes key end content) (0 ∷ []), length-block key end content) in
    omega arith

pub holds_join : (file : List ℕ) (at : ℕ) (xs ys : List ℕ) → Holds file at xs → Holds file (at + length xs) ys → Holds file at (xs ++ ys)
holds_join file at xs ys h k = record {
  within = omega (arith, k.within, length-append xs ys);
  each = λ i low. elim (cases_lt i (length xs)) [
    | inl early ↦ h.each i early ∙ sym (get_or_append_left xs ys 0 i early)
    | inr late ↦
        let here : at + i ≡ at + length xs + (i - length xs) = omega arith in
        let there : length xs + (i - length xs) ≡ i = omega arith in
        ap (slice_index file) here ∙ k.each (i - length xs) (omega (arith, length-append xs ys)) ∙ sym (get_or-append-add xs ys (i - length xs) 0) ∙ ap (slice_index (xs ++ ys)) there
  ];
}

-- two texts of one length in one place are the same
pub same_held : (file : List ℕ) (at : ℕ) (xs ys : List ℕ) → Holds file at xs → Holds file at ys → length xs ≡ length ys → xs ≡ ys
same_held file at xs ys h k same = ext_get_or 0 xs ys same (λ i low. sym (h.each i low) ∙ k.each i (omega (arith, same)))

pub holds_nothing : (file : List ℕ) (at : ℕ) (xs : List ℕ) → length xs ≡ 0 → at ≤ length file → Holds file at xs
holds_nothing file at xs none within = record { within = omega arith; each = λ i low. absurd (omega arith) }

-- the content of a block
pub block_content : (key : ℕ) (file : List ℕ) (at : ℕ) (content : List ℕ) → IsBlock key file at content → Holds file (at + 49) content
unfolding head_of twice
block_content key file at content b =
    record {
      within = omega (arith, b.holds.within, length-block key at content);
      each = λ i low.
          let here : at + 49 + i ≡ at + (49 + i) = omega arith in
          ap (slice_index file) here ∙ b.holds.each (49 + i) (omega (arith, length-block key at content))
          ∙ get_or-append-add (1 ∷ head_of key at content) content i 0;
    }

-- the gate and the head of a block, as they were read
pub block_head : (key : ℕ) (file : List ℕ) (at : ℕ) (head content : List ℕ) → IsBlock key file at content → Holds file at head → length head ≡ 49 → head ≡ 1 ∷ head_of key at content
block_head key file at head content b h long =
    same_held file at head (1 ∷ head_of key at content) h (holds_first file at (1 ∷ head_of key at content) content b.holds) (omega (arith, long, length-head key at content))

-- what was read is a block
pub read_block : (key : ℕ) (file : List ℕ) (at : ℕ) (head content : List ℕ) → length content < 2 ^ 64 → Holds file at head → head ≡ 1 ∷ head_of key at content → at + 49 + length content ≤ length file
    → (0 < length content → Holds file (at + 49) content) → IsBlock key file at content
read_block key file at head content small h is within held =
    let front : Holds file at (1 ∷ head_of key at content) = subst (λ (l : List ℕ). Holds file at l) is h in
    let long : at + length (1 ∷ head_of key at content) ≡ at + 49 = omega (arith, length-head key at content) in
    let back : Holds file (at + 49) content = elim (cases_lt 0 (length content)) [
      | inl some ↦ held some
      | inr none ↦ holds_nothing file (at + 49) content (omega arith) (omega arith)
    ] in
    record { small = small; holds = holds_join file at (1 ∷ head_of key at content) content front (subst (λ (p : ℕ). Holds file p content) (sym long) back) }

pub no_some : {n : ℕ} → ◌≡◌ {A = Option ℕ} None (Some n) → ⊥
no_some e = subst (λ (o : Option ℕ). MatchOption o ⊤ (λ n. ⊥)) e tt

pub same_some : {n m : ℕ} → ◌≡◌ {A = Option ℕ} (Some n) (Some m) → n ≡ m
same_some {n} {m} e = ap (λ (o : Option ℕ). unwrap_or o 0) e

-- what a head told, in a file where the content fits
abbrev Tells : ℕ → List ℕ → ℕ → List ℕ → Option ℕ → Type 0
Tells key file at head told = (content : List ℕ) → length content < 2 ^ 64 → head ≡ 1 ∷ head_of key at content → at + 49 + length content ≤ length file → told ≡ Some (length content)

pub no_block_told : (key : ℕ) (file : List ℕ) (at : ℕ) (head : List ℕ) (told : Option ℕ) → Holds file at head → length head ≡ 49 → Tells key file at head told → told ≡ None → IsNoBlock key file at
no_block_told key file at head told h long tells none content b =
    let is = block_head key file at head content b h long in
    no_some (sym none ∙ tells content b.small is (omega (arith, b.holds.within, length-block key at content)))

pub no_block_read : (key : ℕ) (file : List ℕ) (at : ℕ) (head found : List ℕ) (n : ℕ) (told : Option ℕ) → Holds file at head → length head ≡ 49 → Tells key file at head told → told ≡ Some n
    → length found ≡ n → (0 < n → Holds file (at + 49) found) → (head ≡ 1 ∷ head_of key at found → ⊥) → IsNoBlock key file at
no_block_read key file at head found n told h long tells some len held other content b =
    let is = block_head key file at head content b h long in
    let same : length content ≡ n = same_some (sym (tells content b.small is (omega (arith, b.holds.within, length-block key at content))) ∙ some) in
    let text : content ≡ found = elim (cases_lt 0 n) [
      | inl more ↦ same_held file (at + 49) content found (block_content key file at content b) (held more) (omega (arith, same, len))
      | inr none ↦ ext_get_or 0 content found (omega (arith, same, len)) (λ i low. absurd (omega (arith, same)))
    ] in
    other (is ∙ ap (λ (l : List ℕ). 1 ∷ head_of key at l) text)

pub no_block_short : (key : ℕ) (file : List ℕ) (at : ℕ) → length file < at + 49 → IsNoBlock key file at
no_block_short key file at short content b = absurd (omega (arith, b.holds.within, length-block key at content))

-- a write behind the zeros
pub rests_below : (key : ℕ) (contents : List (List ℕ)) (end upto : ℕ) (old new : List ℕ) → Rests key contents end upto old → KeepsFront upto old new → Rests key contents end upto new
rests_below key contents end upto old new r k =
    let low = blocks_le key old 72 contents end r.blocks in
    record {
      front = holds_kept upto 0 (front_of key) old new r.front k (omega (arith, low, r.some, length-front key));
      blocks = blocks_kept key old new 72 contents end upto r.blocks (omega (arith, r.some)) k;
      within = k.within;
      some = r.some;
      marks = marks_kept upto end end old new (omega (arith, low, r.some)) (omega arith) r.marks k;
      blank = λ i from below. k.each i below ∙ r.blank i from below;
    }

pub front_less : (n m : ℕ) (old new : List ℕ) → n ≤ m → KeepsFront m old new → KeepsFront n old new
front_less n m old new low k = record { within = omega (arith, k.within); each = λ i below. k.each i (omega arith) }
