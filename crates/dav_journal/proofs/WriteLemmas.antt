-- Two writes with a gate.
use Rattle.std.proofs.Common.{◌≡◌, ◌⊎◌, ℕ, ◌+◌, ◌-◌, ◌<◌, ◌≤◌, List, length, slice_index, slice_range, replicate, take, refl, sym, ◌∙◌, ap, inl, inr, arith, rules, add-zero}
use Rattle.std.proofs.lemmas.Bool.{cases_eq, cases_lt}
use Rattle.std.proofs.lemmas.List.{places, get_or-replicate, get_or_past, length-replicate}
use Rattle.sqlite_disk.specs.Disk.{Holds, Torn}
use Rattle.dav_journal.specs.Write.{HasZeros, KeepsBelow, KeepsFront, AllOrShut}

pub front_torn : (at p n : ℕ) (old new : List ℕ) → at ≤ p → at ≤ length old → Torn p n old new → KeepsFront at old new
front_torn at p n old new low in_old t = record { within = omega (arith, t.no_shorter); each = λ i below. t.below i (omega arith) (omega arith) }

pub front_then : (at : ℕ) (old mid new : List ℕ) → KeepsFront at old mid → KeepsFront at mid new → KeepsFront at old new
front_then at old mid new a b = record { within = b.within; each = λ i low. b.each i low ∙ a.each i low }

-- all but the gate, and then the gate
pub opened : (at : ℕ) (bytes mid new : List ℕ) → 1 < length bytes → Holds mid (at + 1) (slice_range bytes 1 (length bytes)) → Torn at 1 mid new
    → slice_index new at ≡ slice_index bytes 0 → Holds new at bytes
opened at bytes mid new some behind torn gate =
    let back : length (slice_range bytes 1 (length bytes)) ≡ length bytes - 1 = search (rules, places) in
    record {
      within = omega (arith, behind.within, torn.no_shorter);
      each = λ i low. elim (cases_eq i 0) [
        | inl first ↦ rw (first, add-zero) gate
        | inr later ↦
            let inside : i - 1 < length (slice_range bytes 1 (length bytes)) = omega arith in
            let read : slice_index (slice_range bytes 1 (length bytes)) (i - 1) ≡ slice_index bytes (1 + (i - 1)) = search (rules, places) in
            let here : at + i ≡ at + 1 + (i - 1) = omega arith in
            let there : 1 + (i - 1) ≡ i = omega arith in
            torn.above (at + i) (omega (arith, behind.within)) (omega arith) ∙ ap (slice_index mid) here ∙ behind.each (i - 1) inside ∙ read ∙ ap (slice_index bytes) there
      ];
    }

-- a write behind the gate leaves it shut
pub behind_shut : (at n : ℕ) (bytes old new : List ℕ) → Torn (at + 1) n old new → AllOrShut at bytes old new
behind_shut at n bytes old new t inside shut =
    (front_torn at (at + 1) n old new (omega arith) (omega arith) t, t.no_shorter, inl (λ is. shut (sym (t.below at inside (omega arith)) ∙ is)))

-- whatever lands on the gate, it is open, and then all is there, or it is shut
pub gate_decides : (at n : ℕ) (bytes old mid new : List ℕ) → 1 < length bytes → slice_index bytes 0 ≡ 1 → Torn (at + 1) n old mid → Holds mid (at + 1) (slice_range bytes 1 (length bytes))
    → Torn at 1 mid new → AllOrShut at bytes old new
gate_decides at n bytes old mid new some opens first behind second inside shut = (
  front_then at old mid new (front_torn at (at + 1) n old mid (omega arith) (omega arith) first) (front_torn at at 1 mid new (omega arith) (omega (arith, first.no_shorter)) second),
  omega (arith, first.no_shorter, second.no_shorter),
  elim (cases_eq (slice_index new at) 1) [
    | inl is_open ↦ inr (opened at bytes mid new some behind second (is_open ∙ sym opens))
    | inr other ↦ inl other
  ],
)

pub one_byte : (bytes : List ℕ) → 1 < length bytes → length (take 1 bytes) ≡ 1
one_byte bytes some = search (rules, places)

-- the gate is written
pub gate_written : (at : ℕ) (bytes new : List ℕ) → 1 < length bytes → Holds new at (take 1 bytes) → slice_index new at ≡ slice_index bytes 0
gate_written at bytes new some h =
    let one : length (take 1 bytes) ≡ 1 = search (rules, places) in
    let read : slice_index (take 1 bytes) 0 ≡ slice_index bytes 0 = search (rules, places) in
    ap (slice_index new) (sym (add-zero at)) ∙ h.each 0 (omega arith) ∙ read

pub below_same : (n : ℕ) (file : List ℕ) → KeepsBelow n file file
below_same n file within = record { within = within; each = λ i low. refl }

pub below_then : (n p m : ℕ) (old mid new : List ℕ) → n ≤ p → KeepsBelow n old mid → Torn p m mid new → KeepsBelow n old new
below_then n p m old mid new low k t within =
    let first = k within in
    front_then n old mid new first (front_torn n p m mid new low first.within t)

-- more zeros behind zeros
pub zeros_more : (from at : ℕ) (piece old new : List ℕ) (next : ℕ) → HasZeros old from at → Torn at (length piece) old new → Holds new at piece → ((i : ℕ) → i < length piece → slice_index piece i ≡ 0)
    → next ≤ at + length piece → HasZeros new from next
zeros_more from at piece old new next (within, blank) t h none low = (
  omega (arith, low, h.within),
  λ i past below. elim (cases_lt i at) [
    | inl early ↦ t.below i (omega (arith, early, within)) early ∙ blank i past early
    | inr late ↦
        let here : i ≡ at + (i - at) = omega arith in
        ap (slice_index new) here ∙ h.each (i - at) (omega arith) ∙ none (i - at) (omega arith)
  ],
)

-- a part of zeros
pub zero_at : (n k : ℕ) → slice_index (replicate n 0) k ≡ 0
zero_at n k = go (cases_lt k n)
  where
    zeros : List ℕ
    zeros = replicate n 0

    long : length zeros ≡ n
    long = length-replicate {A = ℕ} n 0

    go : (k < n) ⊎ (n ≤ k) → slice_index zeros k ≡ 0
    go (inl low) = get_or-replicate n k 0 0 low
    go (inr past) = let le : length zeros ≤ k = omega (arith, long, past) in get_or_past zeros k 0 le

pub zero_part : (n a b i : ℕ) → slice_index (slice_range (replicate n 0) a b) i ≡ 0
zero_part n a b i = go (cases_lt i (length part))
  where
    zeros : List ℕ
    zeros = replicate n 0

    part : List ℕ
    part = slice_range zeros a b

    go : (i < length part) ⊎ (length part ≤ i) → slice_index part i ≡ 0
    go (inl inside) = let read : slice_index part i ≡ slice_index zeros (a + i) = search (rules, places) in read ∙ zero_at n (a + i)
    go (inr out) = get_or_past part i 0 out
