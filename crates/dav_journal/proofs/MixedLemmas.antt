-- A block that is written at once over zeros, on a disk that leaves each byte as it was or as it was written.
use Rattle.std.proofs.Common.{◌≡◌, ◌≢◌, ◌⊎◌, ℕ, suc, ◌+◌, ◌-◌, ◌<◌, ◌≤◌, ◌^◌, List, [], ◌∷◌, ◌++◌, length, slice_index, sym, refl, ◌∙◌, ap, subst, inl, inr, arith, add-zero, length-append}
use Rattle.std.proofs.lemmas.Bool.{cases_eq, cases_lt}
use Rattle.std.proofs.lemmas.Bool.Decides.{nat_tests}
use Rattle.std.proofs.lemmas.List.{get_or_append_left, get_or-append-add, get_or_at}
use Rattle.std.specs.Int.{w64, to_be_bytes}
use Rattle.sqlite_disk.specs.Disk.{Holds, Mixed, Torn}
use Rattle.sqlite_disk.specs.Digest.{digest}
use Rattle.dav_journal.specs.Block.{IsBlock, block_bytes, digest_at, end_of, front_of, head_of, twice, zeros_in}
use Rattle.dav_journal.specs.File.{Recovers}
use Rattle.dav_journal.specs.Mark.{IsFaint}
use Rattle.dav_journal.specs.Journal.{Rests}
use Rattle.dav_journal.specs.Write.{KeepsFront}
use Rattle.dav_journal.proofs.MarkLemmas.{marks_kept}
use Rattle.dav_journal.proofs.TwiceLemmas.{twice_same}
use Rattle.dav_journal.proofs.BlockLemmas.{blocks_kept, blocks_le, blocks_more, holds_kept, length-block, length-front, no_block, rests_more, shut_if_zero}

pub zeros_none : (b : ℕ) (bs : List ℕ) → b ≡ 0 → zeros_in (b ∷ bs) ≡ suc (zeros_in bs)
zeros_none b bs is = grind (arith, nat_tests)

pub zeros_some : (b : ℕ) (bs : List ℕ) → b ≢ 0 → zeros_in (b ∷ bs) ≡ zeros_in bs
zeros_some b bs some = grind (arith, nat_tests)

-- each byte is 0 or as in the other list
abbrev pub Fades : List ℕ → List ℕ → Type 0
Fades [] ys = ys ≡ []
Fades (x ∷ xs) [] = ⊥
Fades (x ∷ xs) (y ∷ ys) = ((y ≡ 0) ⊎ (y ≡ x)) × Fades xs ys

pub fades_more : (xs ys : List ℕ) → Fades xs ys → zeros_in xs ≤ zeros_in ys
fades_more [] ys is = omega (arith, ap zeros_in is)
fades_more (x ∷ xs) [] none = absurd none
fades_more (x ∷ xs) (y ∷ ys) (byte, more) =
    let low = fades_more xs ys more in
    elim (cases_eq x 0) [
      | inl none ↦ elim (cases_eq y 0) [
        | inl lost ↦ omega (arith, low, zeros_none x xs none, zeros_none y ys lost)
        | inr some ↦ elim byte [ inl lost ↦ absurd (some lost) | inr same ↦ absurd (some (same ∙ none)) ]
      ]
      | inr kept ↦ elim (cases_eq y 0) [
        | inl lost ↦ omega (arith, low, zeros_some x xs kept, zeros_none y ys lost)
        | inr some ↦ omega (arith, low, zeros_some x xs kept, zeros_some y ys some)
      ]
    ]

-- where as many are 0, none is lost
pub fades_same : (xs ys : List ℕ) → Fades xs ys → zeros_in ys ≡ zeros_in xs → ys ≡ xs
fades_same [] ys is count = is
fades_same (x ∷ xs) [] none count = absurd none
fades_same (x ∷ xs) (y ∷ ys) (byte, more) count =
    let low = fades_more xs ys more in
    elim (cases_eq x 0) [
      | inl none ↦ elim (cases_eq y 0) [
        | inl lost ↦ cons_same y x ys xs (lost ∙ sym none) (fades_same xs ys more (omega (arith, count, zeros_none x xs none, zeros_none y ys lost)))
        | inr some ↦ elim byte [ inl lost ↦ absurd (some lost) | inr same ↦ absurd (some (same ∙ none)) ]
      ]
      | inr kept ↦ elim (cases_eq y 0) [
        | inl lost ↦ absurd (omega (arith, count, low, zeros_some x xs kept, zeros_none y ys lost))
        | inr some ↦ elim byte [
          | inl lost ↦ absurd (some lost)
          | inr same ↦ cons_same y x ys xs same (fades_same xs ys more (omega (arith, count, zeros_some x xs kept, zeros_some y ys some)))
        ]
      ]
    ]
  where
    cons_same : (b a : ℕ) (bs cs : List ℕ) → b ≡ a → bs ≡ cs → b ∷ bs ≡ a ∷ cs
    cons_same b a bs cs e f = ap (λ (n : ℕ). n ∷ bs) e ∙ ap (λ (l : List ℕ). a ∷ l) f

pub zeros_few : (bs : List ℕ) → zeros_in bs ≤ length bs
zeros_few [] = omega arith
zeros_few (b ∷ bs) = elim (cases_eq b 0) [
  | inl none ↦ omega (arith, zeros_few bs, zeros_none b bs none)
  | inr some ↦ omega (arith, zeros_few bs, zeros_some b bs some)
]

fades_from : (xs ys : List ℕ) → length ys ≡ length xs → ((i : ℕ) → i < length xs → (slice_index ys i ≡ 0) ⊎ (slice_index ys i ≡ slice_index xs i)) → Fades xs ys
fades_from [] [] e each = refl
fades_from [] (y ∷ ys) e each = absurd (omega (arith, e))
fades_from (x ∷ xs) [] e each = absurd (omega (arith, e))
fades_from (x ∷ xs) (y ∷ ys) e each = (each 0 (omega arith), fades_from xs ys (omega (arith, e)) (λ i low. each (suc i) (omega (arith, low))))

-- where the parts of a block stand in it
abbrev digests : ℕ → ℕ → List ℕ → List ℕ
digests key at content = to_be_bytes w64 (digest key content) ++ to_be_bytes w64 (digest_at key at (length content) (digest key content))

block_at_len : (key at : ℕ) (content : List ℕ) (i : ℕ) → i < 16 → slice_index (block_bytes key at content) (1 + i) ≡ slice_index (twice (length content)) i
unfolding head_of twice
block_at_len key at content i low =
    get_or-append-add (1 ∷ []) (head_of key at content ++ content) i 0
    ∙ get_or_append_left (head_of key at content) content 0 i (omega (arith, low))
    ∙ get_or_append_left (twice (length content)) (twice (zeros_in content) ++ digests key at content) 0 i low

block_at_zeros : (key at : ℕ) (content : List ℕ) (i : ℕ) → i < 16 → slice_index (block_bytes key at content) (17 + i) ≡ slice_index (twice (zeros_in content)) i
unfolding head_of twice
block_at_zeros key at content i low =
    get_or-append-add (1 ∷ twice (length content)) ((twice (zeros_in content) ++ digests key at content) ++ content) i 0
    ∙ get_or_append_left (twice (zeros_in content) ++ digests key at content) content 0 i (let low32 : i < 32 = omega (arith, low) in low32)
    ∙ get_or_append_left (twice (zeros_in content)) (digests key at content) 0 i low

block_at_content : (key at : ℕ) (content : List ℕ) (i : ℕ) → slice_index (block_bytes key at content) (49 + i) ≡ slice_index content i
unfolding head_of twice
block_at_content key at content i = get_or-append-add (1 ∷ head_of key at content) content i 0

-- a block that is there where another one was written over zeros is that one
pub faint_block : (key : ℕ) (file : List ℕ) (at : ℕ) (content found : List ℕ) → length content < 2 ^ 64 → IsFaint file at (block_bytes key at content) → IsBlock key file at found → found ≡ content
faint_block key file at content found small faint b = same
  where
    long : length (block_bytes key at content) ≡ 49 + length content
    long = length-block key at content

    long' : length (block_bytes key at found) ≡ 49 + length found
    long' = length-block key at found

    part : (k i x y : ℕ) → k + i < 49 + length content → k + i < 49 + length found → slice_index (block_bytes key at found) (k + i) ≡ y → slice_index (block_bytes key at content) (k + i) ≡ x → (y ≡ 0) ⊎ (y ≡ x)
    part k i x y low low' is is' = elim (faint (k + i) (omega (arith, low, long))) [
      | inl lost ↦ inl (sym is ∙ sym (b.holds.each (k + i) (omega (arith, low', long'))) ∙ lost)
      | inr kept ↦ inr (sym is ∙ sym (b.holds.each (k + i) (omega (arith, low', long'))) ∙ kept ∙ is')
    ]

    len : length found ≡ length content
    len = twice_same (length content) (length found) small b.small (λ i low. part 1 i _ _ (omega (arith, low)) (omega (arith, low)) (block_at_len key at found i low) (block_at_len key at content i low))

    count : zeros_in found ≡ zeros_in content
    count = twice_same (zeros_in content) (zeros_in found) (omega (arith, small, zeros_few content)) (omega (arith, b.small, zeros_few found))
        (λ i low. part 17 i _ _ (omega (arith, low)) (omega (arith, low)) (block_at_zeros key at found i low) (block_at_zeros key at content i low))

    same : found ≡ content
    same = fades_same content found (fades_from content found len (λ i low. part 49 i _ _ (omega (arith, low)) (omega (arith, low, len)) (block_at_content key at found i) (block_at_content key at content i))) count

-- what a write of a block over zeros may leave
pub mixed_leaves : (key : ℕ) (contents : List (List ℕ)) (content bytes : List ℕ) (end upto : ℕ) (old new : List ℕ) → key < 2 ^ 64 → length content < 2 ^ 64
    → bytes ≡ block_bytes key end content ++ 0 ∷ [] → end + length bytes ≤ upto → Rests key contents end upto old → Mixed end bytes old new
    → (IsBlock key new end content → ⊥) ⊎ IsBlock key new end content
    → Recovers new contents ⊎ Recovers new (contents ++ content ∷ [])
mixed_leaves key contents content bytes end upto old new small fits is room r m known =
    let low = blocks_le key old 72 contents end r.blocks in
    let long : length bytes ≡ 49 + length content + 1 = ap length is ∙ omega (arith, length-append (block_bytes key end content) (0 ∷ []), length-block key end content) in
    let keeps : KeepsFront end old new = record { within = omega (arith, m.torn.no_shorter, r.within, r.some); each = λ i below. m.torn.below i (omega (arith, r.within, r.some)) below } in
    let front = holds_kept end 0 (front_of key) old new r.front keeps (omega (arith, low, length-front key)) in
    let blocks = blocks_kept key old new 72 contents end end r.blocks (omega arith) keeps in
    let faint : IsFaint new end bytes = λ i below. elim (m.each i below (omega (arith, room, r.within))) [
      | inl was ↦ inl (was ∙ r.blank (end + i) (omega arith) (omega (arith, room)))
      | inr put ↦ inr put
    ] in
    let block : IsFaint new end (block_bytes key end content) = λ i below. elim (faint i (omega (arith, long, length-block key end content))) [
      | inl lost ↦ inl lost
      | inr put ↦ inr (put ∙ ap (λ (l : List ℕ). slice_index l i) is ∙ get_or_append_left (block_bytes key end content) (0 ∷ []) 0 i below)
    ] in
    let last : slice_index bytes (49 + length content) ≡ 0 = ap (λ (l : List ℕ). slice_index l (49 + length content)) is ∙ get_or_at (block_bytes key end content) 0 [] 0 (49 + length content) (length-block key end content) in
    let place : end + (49 + length content) ≡ end_of end (length content) = omega arith in
    let gate : slice_index new (end_of end (length content)) ≡ 0 = ap (slice_index new) (sym place) ∙ elim (faint (49 + length content) (omega (arith, long))) [ inl lost ↦ lost | inr put ↦ put ∙ last ] in
    elim known [
      | inl other ↦ inl (record {
        key = key;
        small = small;
        front = front;
        end = end;
        blocks = blocks;
        more = omega (arith, m.torn.no_shorter, r.within, r.some);
        marks = marks_kept end end end old new low (omega arith) r.marks keeps;
        nothing = λ found b. other (subst (λ (l : List ℕ). IsBlock key new end l) (faint_block key new end content found fits block b) b);
      })
      | inr whole ↦ inr (record {
        key = key;
        small = small;
        front = front;
        end = end_of end (length content);
        blocks = blocks_more key new 72 contents end content blocks whole;
        more = omega (arith, m.torn.no_shorter, r.within, room, long);
        marks = marks_kept end end (end_of end (length content)) old new low (omega arith) r.marks keeps;
        nothing = no_block key new (end_of end (length content)) (shut_if_zero gate);
      })
    ]

-- whether a text stands in a file
pub holds_known : (file : List ℕ) (at : ℕ) (bytes : List ℕ) → (Holds file at bytes → ⊥) ⊎ Holds file at bytes
holds_known file at [] = elim (cases_lt (length file) at) [
  | inl past ↦ inl (λ h. absurd (omega (arith, h.within, past)))
  | inr inside ↦ inr (record { within = omega (arith, inside); each = λ i low. absurd (omega (arith, low)) })
]
holds_known file at (x ∷ xs) = elim (cases_eq (slice_index file at) x) [
  | inr other ↦ inl (λ h. other (ap (slice_index file) (sym (add-zero at)) ∙ h.each 0 (omega arith)))
  | inl same ↦ elim (holds_known file (at + 1) xs) [
    | inl out ↦ inl (λ h. out (record { within = omega (arith, h.within); each = λ i low. let here : at + 1 + i ≡ at + suc i = omega arith in ap (slice_index file) here ∙ h.each (suc i) (omega (arith, low)) }))
    | inr more ↦ inr (record {
      within = omega (arith, more.within);
      each = λ i low. elim (cases_eq i 0) [
        | inl first ↦ rw (first, add-zero) same
        | inr later ↦
            let here : at + i ≡ at + 1 + (i - 1) = omega arith in
            let there : i ≡ suc (i - 1) = omega arith in
            ap (slice_index file) here ∙ more.each (i - 1) (omega (arith, low)) ∙ ap (slice_index (x ∷ xs)) (sym there)
      ];
    })
  ]
]

pub block_known : (key : ℕ) (file : List ℕ) (at : ℕ) (content : List ℕ) → length content < 2 ^ 64 → (IsBlock key file at content → ⊥) ⊎ IsBlock key file at content
block_known key file at content small = elim (holds_known file at (block_bytes key at content)) [
  | inl out ↦ inl (λ b. out b.holds)
  | inr there ↦ inr (record { small = small; holds = there })
]

-- once it is written, the file is at rest with one more, and the zeros behind it are there
pub rests_once : (key : ℕ) (contents : List (List ℕ)) (content bytes : List ℕ) (end upto end' : ℕ) (old new : List ℕ) → length content < 2 ^ 64
    → bytes ≡ block_bytes key end content ++ 0 ∷ [] → end' + 1 ≡ end + length bytes → end' + 1 ≤ upto → Rests key contents end upto old → Torn end (length bytes) old new → Holds new end bytes
    → Rests key (contents ++ content ∷ []) end' upto new
rests_once key contents content bytes end upto end' old new fits is ends room r t whole =
    let keeps : KeepsFront end old new = record { within = omega (arith, t.no_shorter, r.within, r.some); each = λ i below. t.below i (omega (arith, r.within, r.some)) below } in
    let once = rests_more key contents content bytes end upto end' (end + length bytes) old new fits is refl ends r keeps whole in
    record {
      front = once.front;
      blocks = once.blocks;
      within = omega (arith, r.within, t.no_shorter);
      some = omega arith;
      marks = once.marks;
      blank = λ i from below. elim (cases_lt i (end + length bytes)) [
        | inl near ↦ once.blank i from near
        | inr far ↦ t.above i (omega (arith, below, r.within)) far ∙ r.blank i (omega arith) below
      ];
    }
