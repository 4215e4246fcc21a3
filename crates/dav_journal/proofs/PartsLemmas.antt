-- Parts that are written one behind another.
use Rattle.std.proofs.Common.{◌≡◌, ℕ, suc, ◌+◌, ◌-◌, ◌<◌, ◌^◌, List, [], ◌∷◌, ◌++◌, length, slice_index, slice_range, take, drop, take-append-drop, subst, sym, refl, ◌∙◌, ap, inl, inr, arith, max, length-append}
use Rattle.std.proofs.lemmas.Bool.{cases_eq, cases_lt}
use Rattle.std.proofs.lemmas.List.{get_or_append_left, get_or-append-add, append_assoc, take_all}
use Rattle.std.proofs.lemmas.List.Sums.{fold-append}
use Rattle.std.specs.Hash.DefaultHasher as sip
use Rattle.std.specs.Int.{w64, to_le_bytes}
use Rattle.std.specs.List.{fold}
use Rattle.sqlite_disk.specs.Digest.{digest}
use Rattle.sqlite_disk.specs.Disk.{Holds, Mixed, Torn}
use Rattle.dav_journal.specs.Block.{head_of, zeros_in}
use Rattle.dav_journal.specs.Parts.{IsGated, PartsView, bytes_in}
use Rattle.dav_journal.proofs.BlockLemmas.{length-head}
use Rattle.dav_journal.proofs.MixedLemmas.{zeros_none, zeros_some}

-- no byte is written
pub torn_none : (at : ℕ) (file : List ℕ) → Torn at 0 file file
torn_none at file = record { no_shorter = omega arith; no_longer = omega arith; below = λ i inside low. refl; above = λ i inside past. refl }

pub mixed_none : (at : ℕ) (bytes file : List ℕ) → length bytes ≡ 0 → Mixed at bytes file file
mixed_none at bytes file none = record {
  torn = record { no_shorter = omega arith; no_longer = omega arith; below = λ i inside low. refl; above = λ i inside past. refl };
  each = λ i low inside. absurd (omega (arith, none, low));
}

-- a part is written, and no more
pub torn_first : (at : ℕ) (a b old new : List ℕ) → Torn at (length a) old new → Torn at (length (a ++ b)) old new
torn_first at a b old new t =
    let long = length-append a b in
    record {
      no_shorter = t.no_shorter;
      no_longer = omega (arith, t.no_longer, long);
      below = λ i inside low. t.below i inside low;
      above = λ i inside past. t.above i inside (omega (arith, past, long));
    }

-- a part is written behind another one
pub torn_then : (at : ℕ) (a b old mid new : List ℕ) → Torn at (length a) old mid → Torn (at + length a) (length b) mid new → Torn at (length (a ++ b)) old new
torn_then at a b old mid new t u =
    let long = length-append a b in
    record {
      no_shorter = omega (arith, t.no_shorter, u.no_shorter);
      no_longer = omega (arith, t.no_longer, u.no_longer, long);
      below = λ i inside low. u.below i (omega (arith, inside, t.no_shorter)) (omega (arith, low)) ∙ t.below i inside low;
      above = λ i inside past. u.above i (omega (arith, inside, t.no_shorter)) (omega (arith, past, long)) ∙ t.above i inside (omega (arith, past, long));
    }

-- the same where each byte is as it was or as it was written
pub mixed_first : (at : ℕ) (a b old new : List ℕ) → Mixed at a old new → Mixed at (a ++ b) old new
mixed_first at a b old new m = record {
  torn = torn_first at a b old new m.torn;
  each = λ i low inside. elim (cases_lt i (length a)) [
    | inl early ↦ elim (m.each i early inside) [
      | inl was ↦ inl was
      | inr is ↦ inr (is ∙ sym (get_or_append_left a b 0 i early))
    ]
    | inr late ↦ inl (m.torn.above (at + i) inside (omega (arith, late)))
  ];
}

pub mixed_then : (at : ℕ) (a b old mid new : List ℕ) → Mixed at a old mid → Mixed (at + length a) b mid new → Mixed at (a ++ b) old new
mixed_then at a b old mid new m n = record {
  torn = torn_then at a b old mid new m.torn n.torn;
  each = λ i low inside.
      let within : at + i < length mid = omega (arith, inside, m.torn.no_shorter) in
      elim (cases_lt i (length a)) [
        | inl early ↦
            let same = n.torn.below (at + i) within (omega (arith, early)) in
            elim (m.each i early inside) [
              | inl was ↦ inl (same ∙ was)
              | inr is ↦ inr (same ∙ is ∙ sym (get_or_append_left a b 0 i early))
            ]
        | inr late ↦
            let here : at + i ≡ at + length a + (i - length a) = omega (arith, late) in
            let there : length a + (i - length a) ≡ i = omega (arith, late) in
            let inner : i - length a < length b = omega (arith, late, low, length-append a b) in
            elim (n.each (i - length a) inner (omega (arith, within, here))) [
              | inl was ↦ inl (ap (slice_index new) here ∙ was ∙ ap (slice_index mid) (sym here) ∙ m.torn.above (at + i) inside (omega (arith, late)))
              | inr is ↦ inr (ap (slice_index new) here ∙ is ∙ sym (get_or-append-add a b (i - length a) 0) ∙ ap (slice_index (a ++ b)) there)
            ]
      ];
}

-- what is there stays, and what is written behind it is there
pub holds_then : (at : ℕ) (a b mid new : List ℕ) → Holds mid at a → Torn (at + length a) (length b) mid new → (0 < length b → Holds new (at + length a) b) → Holds new at (a ++ b)
holds_then at a b mid new h t more = record {
  within = elim (cases_eq (length b) 0) [
    | inl none ↦ omega (arith, h.within, t.no_shorter, none, length-append a b)
    | inr some ↦ omega (arith, (more (omega (arith, some))).within, length-append a b)
  ];
  each = λ i low. elim (cases_lt i (length a)) [
    | inl early ↦ t.below (at + i) (omega (arith, early, h.within)) (omega (arith, early)) ∙ h.each i early ∙ sym (get_or_append_left a b 0 i early)
    | inr late ↦
        let here : at + i ≡ at + length a + (i - length a) = omega (arith, late) in
        let there : length a + (i - length a) ≡ i = omega (arith, late) in
        let inner : i - length a < length b = omega (arith, late, low, length-append a b) in
        ap (slice_index new) here ∙ (more (omega (arith, inner))).each (i - length a) inner ∙ sym (get_or-append-add a b (i - length a) 0) ∙ ap (slice_index (a ++ b)) there
  ];
}

-- the third of three parts
pub holds_last : (at : ℕ) (a b d mid new : List ℕ) → Holds mid at (a ++ b) → Torn (at + length a + length b) (length d) mid new → (0 < length d → Holds new (at + length a + length b) d)
    → Holds new at (a ++ (b ++ d))
holds_last at a b d mid new h t more =
    let place : at + length a + length b ≡ at + length (a ++ b) = omega (arith, length-append a b) in
    subst (λ (l : List ℕ). Holds new at l) (append_assoc a b d)
    (holds_then at (a ++ b) d mid new h (subst (λ (n : ℕ). Torn n (length d) mid new) place t) (λ some. subst (λ (n : ℕ). Holds new n d) place (more some)))

-- what three parts have room for
pub first_fits : (at : ℕ) (a b d : List ℕ) → at + length (a ++ (b ++ d)) < 2 ^ 64 → at + length a < 2 ^ 64
first_fits at a b d fits = omega (arith, fits, length-append a (b ++ d))

pub second_fits : (at : ℕ) (a b d : List ℕ) → at + length (a ++ (b ++ d)) < 2 ^ 64 → at + length a + length b < 2 ^ 64
second_fits at a b d fits = omega (arith, fits, length-append a (b ++ d), length-append b d)

pub third_fits : (at : ℕ) (a b d : List ℕ) → at + length (a ++ (b ++ d)) < 2 ^ 64 → at + length a + length b + length d < 2 ^ 64
third_fits at a b d fits = omega (arith, fits, length-append a (b ++ d), length-append b d)

-- all but the first byte
pub behind_first : (a b : List ℕ) → 1 < length a → slice_range a 1 (length a) ++ b ≡ slice_range (a ++ b) 1 (length (a ++ b))
behind_first [] b some = absurd (omega (arith, some))
behind_first (x ∷ a) b some =
    let mine : slice_range (x ∷ a) 1 (suc (length a)) ≡ a = take_all (suc (length a) - 1) a (omega arith) in
    let all : slice_range (x ∷ (a ++ b)) 1 (suc (length (a ++ b))) ≡ a ++ b = take_all (suc (length (a ++ b)) - 1) (a ++ b) (omega arith) in
    ap (λ (l : List ℕ). l ++ b) mine ∙ sym all

pub first_of : (a b : List ℕ) → 1 < length a → take 1 a ≡ take 1 (a ++ b)
first_of [] b some = absurd (omega (arith, some))
first_of (x ∷ a) b some = refl

-- zeros of both
pub zeros_both : (a b : List ℕ) → zeros_in (a ++ b) ≡ zeros_in a + zeros_in b
zeros_both [] b = omega arith
zeros_both (x ∷ a) b = elim (cases_eq x 0) [
  | inl none ↦ omega (arith, zeros_none x (a ++ b) none, zeros_both a b, zeros_none x a none)
  | inr some ↦ omega (arith, zeros_some x (a ++ b) some, zeros_both a b, zeros_some x a some)
]

-- the digest of bytes that are hashed in two parts
pub digest_both : (key : ℕ) (a b : List ℕ) → max 1 (sip.finish (sip.write (sip.write (sip.write sip.initial (to_le_bytes w64 key)) a) b)) ≡ digest key (a ++ b)
unfolding digest sip.write
digest_both key a b = ap (λ s. max 1 (sip.finish s)) (sym (fold-append sip.write_byte (fold sip.write_byte sip.initial (to_le_bytes w64 key)) a b))

-- all bytes begin with the gate that the first part begins with
pub gated_bytes : (p : PartsView) → IsGated p → (1 < length (bytes_in p)) × (slice_index (bytes_in p) 0 ≡ 1)
gated_bytes p gated = (
  omega (arith, gated.some, length-append p.first (p.body ++ p.last)),
  get_or_append_left p.first (p.body ++ p.last) 0 0 (omega (arith, gated.some)) ∙ gated.opens,
)

-- bytes that begin with a gate that is open, and have more
abbrev pub IsGatedText : List ℕ → Type 0
IsGatedText bytes = (1 < length bytes) × (slice_index bytes 0 ≡ 1)

pub gated_head : (key place : ℕ) (content bytes : List ℕ) → bytes ≡ 1 ∷ head_of key place content → IsGatedText bytes
gated_head key place content bytes is = (
  omega (arith, ap length is, length-head key place content),
  ap (λ (l : List ℕ). slice_index l 0) is,
)

pub gated_more : (bytes more : List ℕ) → IsGatedText bytes → IsGatedText (bytes ++ more)
gated_more bytes more (some, opens) = (
  omega (arith, some, length-append bytes more),
  get_or_append_left bytes more 0 0 (omega (arith, some)) ∙ opens,
)

-- zeros of the first bytes, and of those behind them
pub zeros_split : (n : ℕ) (l : List ℕ) → zeros_in l ≡ zeros_in (take n l) + zeros_in (drop n l)
zeros_split n l = ap zeros_in (sym (take-append-drop n l)) ∙ zeros_both (take n l) (drop n l)

-- zeros of eight bytes, one by one
pub zeros_each : (a b c d e f g h : ℕ) → zeros_in (a ∷ b ∷ c ∷ d ∷ e ∷ f ∷ g ∷ h ∷ [])
    ≡ zeros_in (a ∷ []) + zeros_in (b ∷ []) + zeros_in (c ∷ []) + zeros_in (d ∷ []) + (zeros_in (e ∷ []) + zeros_in (f ∷ []) + zeros_in (g ∷ []) + zeros_in (h ∷ []))
zeros_each a b c d e f g h = omega (
  arith,
  zeros_both (a ∷ []) (b ∷ c ∷ d ∷ e ∷ f ∷ g ∷ h ∷ []),
  zeros_both (b ∷ []) (c ∷ d ∷ e ∷ f ∷ g ∷ h ∷ []),
  zeros_both (c ∷ []) (d ∷ e ∷ f ∷ g ∷ h ∷ []),
  zeros_both (d ∷ []) (e ∷ f ∷ g ∷ h ∷ []),
  zeros_both (e ∷ []) (f ∷ g ∷ h ∷ []),
  zeros_both (f ∷ []) (g ∷ h ∷ []),
  zeros_both (g ∷ []) (h ∷ []),
)

-- the same of a list of eight
pub zeros_eight : (l : List ℕ) → length l ≡ 8 → zeros_in l
    ≡ zeros_in (slice_index l 0 ∷ []) + zeros_in (slice_index l 1 ∷ []) + zeros_in (slice_index l 2 ∷ []) + zeros_in (slice_index l 3 ∷ [])
    + (zeros_in (slice_index l 4 ∷ []) + zeros_in (slice_index l 5 ∷ []) + zeros_in (slice_index l 6 ∷ []) + zeros_in (slice_index l 7 ∷ []))
zeros_eight [] len = absurd (omega (arith, len))
zeros_eight (a ∷ []) len = absurd (omega (arith, len))
zeros_eight (a ∷ b ∷ []) len = absurd (omega (arith, len))
zeros_eight (a ∷ b ∷ c ∷ []) len = absurd (omega (arith, len))
zeros_eight (a ∷ b ∷ c ∷ d ∷ []) len = absurd (omega (arith, len))
zeros_eight (a ∷ b ∷ c ∷ d ∷ e ∷ []) len = absurd (omega (arith, len))
zeros_eight (a ∷ b ∷ c ∷ d ∷ e ∷ f ∷ []) len = absurd (omega (arith, len))
zeros_eight (a ∷ b ∷ c ∷ d ∷ e ∷ f ∷ g ∷ []) len = absurd (omega (arith, len))
zeros_eight (a ∷ b ∷ c ∷ d ∷ e ∷ f ∷ g ∷ h ∷ []) len = zeros_each a b c d e f g h
zeros_eight (a ∷ b ∷ c ∷ d ∷ e ∷ f ∷ g ∷ h ∷ i ∷ l) len = absurd (omega (arith, len))
