-- Marks under writes.
use Rattle.std.proofs.Common.{◌≡◌, ◌⊎◌, ℕ, ◌+◌, ◌-◌, ◌<◌, ◌≤◌, ◌^◌, List, length, slice_index, replicate, sym, ◌∙◌, ap, subst, inl, inr, arith}
use Rattle.std.proofs.lemmas.Bool.{cases_lt}
use Rattle.std.proofs.lemmas.List.{get_or_past, length-replicate}
use Rattle.sqlite_disk.specs.Disk.{Holds, Mixed, Torn}
use Rattle.dav_journal.specs.Block.{twice}
use Rattle.dav_journal.specs.Mark.{AreMarks, IsBlank, IsLastMark, IsMark, IsMarkPlace, KeepsOthers, NoneMarkedPast, mark_after}
use Rattle.dav_journal.specs.Write.{KeepsFront}
use Rattle.dav_journal.proofs.TwiceLemmas.{length-twice, twice_same}
use Rattle.dav_journal.proofs.WriteLemmas.{zero_at}

-- where marks are
pub place_low : (at : ℕ) → IsMarkPlace at → 24 ≤ at
place_low at (inl e) = omega (arith, e)
place_low at (inr (inl e)) = omega (arith, e)
place_low at (inr (inr e)) = omega (arith, e)

pub place_high : (at : ℕ) → IsMarkPlace at → at ≤ 56
place_high at (inl e) = omega (arith, e)
place_high at (inr (inl e)) = omega (arith, e)
place_high at (inr (inr e)) = omega (arith, e)

pub after_place : (at : ℕ) → IsMarkPlace at → IsMarkPlace (mark_after at)
after_place at (inl e) = inr (inl (ap mark_after e))
after_place at (inr (inl e)) = inr (inr (ap mark_after e))
after_place at (inr (inr e)) = inl (ap mark_after e)

-- two marks don't meet
abbrev pub AreApart : ℕ → ℕ → Type 0
AreApart p q = (p + 16 ≤ q) ⊎ (q + 16 ≤ p)

pub apart_after : (at : ℕ) → IsMarkPlace at → AreApart at (mark_after at)
apart_after at (inl e) = inl (omega (arith, e, ap mark_after e))
apart_after at (inr (inl e)) = inl (omega (arith, e, ap mark_after e))
apart_after at (inr (inr e)) = inr (omega (arith, e, ap mark_after e))

pub apart_twice : (at : ℕ) → IsMarkPlace at → AreApart at (mark_after (mark_after at))
apart_twice at (inl e) = inl (omega (arith, e, ap (λ p. mark_after (mark_after p)) e))
apart_twice at (inr (inl e)) = inr (omega (arith, e, ap (λ p. mark_after (mark_after p)) e))
apart_twice at (inr (inr e)) = inr (omega (arith, e, ap (λ p. mark_after (mark_after p)) e))

-- the three of them
pub mark_cases : (p at : ℕ) → IsMarkPlace p → IsMarkPlace at → (at ≡ p) ⊎ ((at ≡ mark_after p) ⊎ (at ≡ mark_after (mark_after p)))
mark_cases p at (inl e) (inl h) = inl (h ∙ sym e)
mark_cases p at (inl e) (inr (inl h)) = inr (inl (h ∙ sym (ap mark_after e)))
mark_cases p at (inl e) (inr (inr h)) = inr (inr (h ∙ sym (ap (λ p. mark_after (mark_after p)) e)))
mark_cases p at (inr (inl e)) (inl h) = inr (inr (h ∙ sym (ap (λ p. mark_after (mark_after p)) e)))
mark_cases p at (inr (inl e)) (inr (inl h)) = inl (h ∙ sym e)
mark_cases p at (inr (inl e)) (inr (inr h)) = inr (inl (h ∙ sym (ap mark_after e)))
mark_cases p at (inr (inr e)) (inl h) = inr (inl (h ∙ sym (ap mark_after e)))
mark_cases p at (inr (inr e)) (inr (inl h)) = inr (inr (h ∙ sym (ap (λ p. mark_after (mark_after p)) e)))
mark_cases p at (inr (inr e)) (inr (inr h)) = inl (h ∙ sym e)

-- a mark whose bytes are as they were
pub mark_same : (old new : List ℕ) (end end' at : ℕ) → end ≤ end' → IsMark old end at → ((i : ℕ) → i < 16 → slice_index new (at + i) ≡ slice_index old (at + i)) → IsMark new end' at
mark_same old new end end' at more m same = record {
  n = m.n;
  small = m.small;
  low = omega (arith, m.low, more);
  faint = λ i low. elim (m.faint i low) [
    | inl lost ↦ inl (same i (omega (arith, low, length-twice m.n)) ∙ lost)
    | inr kept ↦ inr (same i (omega (arith, low, length-twice m.n)) ∙ kept)
  ];
}

pub marks_kept : (n end end' : ℕ) (old new : List ℕ) → 72 ≤ n → end ≤ end' → AreMarks old end → KeepsFront n old new → AreMarks new end'
marks_kept n end end' old new far more marks k at is =
    mark_same old new end end' at more (marks at is) (λ i low. k.each (at + i) (omega (arith, low, far, place_high at is)))

pub blank_kept : (n : ℕ) (old new : List ℕ) (at : ℕ) → 72 ≤ n → IsMarkPlace at → IsBlank old at → KeepsFront n old new → IsBlank new at
blank_kept n old new at far is blank k i low = k.each (at + i) (omega (arith, low, far, place_high at is)) ∙ blank i low

-- zeros are no mark, and may be what is left of one
pub blank_mark : (file : List ℕ) (end at : ℕ) → IsBlank file at → IsMark file end at
blank_mark file end at blank = record {
  n = 0;
  small = omega arith;
  low = omega arith;
  faint = λ i low. inl (blank i (omega (arith, low, length-twice 0)));
}

pub held_mark : (file : List ℕ) (end at n : ℕ) → n < 2 ^ 64 → n ≤ end → Holds file at (twice n) → IsMark file end at
held_mark file end at n small low h = record { n = n; small = small; low = low; faint = λ i below. inr (h.each i below) }

pub blank_written : (file : List ℕ) (at n : ℕ) → 16 ≤ n → Holds file at (replicate n 0) → IsBlank file at
blank_written file at n long h i low = h.each i (omega (arith, low, long, length-replicate {A = ℕ} n 0)) ∙ zero_at n i

-- A mark that a crash may have left says no more than it was.
pub none_past : (file : List ℕ) (end : ℕ) → AreMarks file end → NoneMarkedPast file end
none_past file end marks at is m fits h =
    let mark = marks at is in
    let same : m ≡ mark.n = twice_same mark.n m mark.small fits (λ i low. elim (mark.faint i (omega (arith, low, length-twice mark.n))) [
      | inl lost ↦ inl (sym (h.each i (omega (arith, low, length-twice m))) ∙ lost)
      | inr kept ↦ inr (sym (h.each i (omega (arith, low, length-twice m))) ∙ kept)
    ]) in
    omega (arith, same, mark.low)

-- a write at one mark leaves the others
pub torn_apart : (p at n i : ℕ) (old new : List ℕ) → 72 ≤ length old → n ≡ 16 → at ≤ 56 → i < 16 → AreApart at p → Torn p n old new → slice_index new (at + i) ≡ slice_index old (at + i)
torn_apart p at n i old new long sixteen high low (inl before) t = t.below (at + i) (omega (arith, long, high, low)) (omega (arith, low, before))
torn_apart p at n i old new long sixteen high low (inr past) t = t.above (at + i) (omega (arith, long, high, low)) (omega (arith, low, past, sixteen))

apart_sym : (p q : ℕ) → AreApart p q → AreApart q p
apart_sym p q (inl a) = inr a
apart_sym p q (inr a) = inl a

-- a mark that is written over zeros
pub mark_written : (p end : ℕ) (old new : List ℕ) → IsMarkPlace p → end < 2 ^ 64 → 72 ≤ length old → AreMarks old end → IsBlank old p → Mixed p (twice end) old new → AreMarks new end
mark_written p end old new here small long marks blank m at is = elim (mark_cases p at here is) [
  | inl same ↦ subst (λ q. IsMark new end q) (sym same) (record {
    n = end;
    small = small;
    low = omega arith;
    faint = λ i low. elim (m.each i low (omega (arith, low, long, place_high p here, length-twice end))) [
      | inl was ↦ inl (was ∙ blank i (omega (arith, low, length-twice end)))
      | inr put ↦ inr put
    ];
  })
  | inr (inl next) ↦ other (subst (λ q. AreApart q p) (sym next) (apart_sym _ _ (apart_after p here)))
  | inr (inr last) ↦ other (subst (λ q. AreApart q p) (sym last) (apart_sym _ _ (apart_twice p here)))
]
  where
    other : AreApart at p → IsMark new end at
    other apart = mark_same old new end end at (omega arith) (marks at is) (λ i low. torn_apart p at _ i old new long (length-twice end) (place_high at is) low apart m.torn)

pub torn_others : (at n : ℕ) (old new : List ℕ) → 24 ≤ at → at + n ≤ 72 → 72 ≤ length old → Torn at n old new → KeepsOthers old new
torn_others at n old new from to long t = record {
  same_length = same;
  low = λ i below. t.below i (omega (arith, below, long)) (omega (arith, below, from));
  high = λ i past. elim (cases_lt i (length old)) [
    | inl inside ↦ t.above i inside (omega (arith, past, to))
    | inr out ↦ get_or_past new i 0 (omega (arith, out, same)) ∙ sym (get_or_past old i 0 out)
  ];
}
  where
    same : length new ≡ length old
    same = omega (arith, t.no_shorter, t.no_longer, to, long)

pub others_then : (old mid new : List ℕ) → KeepsOthers old mid → KeepsOthers mid new → KeepsOthers old new
others_then old mid new a b = record {
  same_length = b.same_length ∙ a.same_length;
  low = λ i below. b.low i below ∙ a.low i below;
  high = λ i past. b.high i past ∙ a.high i past;
}

pub others_back : (old new : List ℕ) → KeepsOthers old new → KeepsOthers new old
others_back old new a = record {
  same_length = sym a.same_length;
  low = λ i below. sym (a.low i below);
  high = λ i past. sym (a.high i past);
}

-- the same, and of the marks some bytes are 0 that weren't
pub record MarksFade (old new : List ℕ) : Type 0 where
  pub others : KeepsOthers old new
  pub each : (i : ℕ) → (slice_index new i ≡ 0) ⊎ (slice_index new i ≡ slice_index old i)

pub mixed_fade : (at : ℕ) (bytes old new : List ℕ) → 24 ≤ at → at + length bytes ≤ 72 → 72 ≤ length old → ((i : ℕ) → slice_index bytes i ≡ 0) → Mixed at bytes old new → MarksFade old new
mixed_fade at bytes old new from to long none m = record {
  others = torn_others at (length bytes) old new from to long m.torn;
  each = λ i. elim (cases_lt i at) [
    | inl before ↦ inr (m.torn.below i (omega (arith, before, to, long)) before)
    | inr past ↦ elim (cases_lt i (at + length bytes)) [
      | inl inside ↦ within i past inside
      | inr out ↦ after i out
    ]
  ];
}
  where
    within : (i : ℕ) → at ≤ i → i < at + length bytes → (slice_index new i ≡ 0) ⊎ (slice_index new i ≡ slice_index old i)
    within i past inside =
        let here : i ≡ at + (i - at) = omega (arith, past) in
        elim (m.each (i - at) (omega (arith, past, inside)) (omega (arith, past, inside, to, long))) [
          | inl was ↦ inr (ap (slice_index new) here ∙ was ∙ ap (slice_index old) (sym here))
          | inr put ↦ inl (ap (slice_index new) here ∙ put ∙ none (i - at))
        ]

    after : (i : ℕ) → at + length bytes ≤ i → (slice_index new i ≡ 0) ⊎ (slice_index new i ≡ slice_index old i)
    after i out = elim (cases_lt i (length old)) [
      | inl inside ↦ inr (m.torn.above i inside out)
      | inr gone ↦ inl (get_or_past new i 0 (omega (arith, gone, m.torn.no_longer, to, long)))
    ]

pub fade_then : (old mid new : List ℕ) → MarksFade old mid → MarksFade mid new → MarksFade old new
fade_then old mid new a b = record {
  others = others_then old mid new a.others b.others;
  each = λ i. elim (b.each i) [
    | inl none ↦ inl none
    | inr same ↦ elim (a.each i) [ inl lost ↦ inl (same ∙ lost) | inr kept ↦ inr (same ∙ kept) ]
  ];
}

pub fade_marks : (old new : List ℕ) (end : ℕ) → AreMarks old end → MarksFade old new → AreMarks new end
fade_marks old new end marks f at is = let m = marks at is in record {
  n = m.n;
  small = m.small;
  low = m.low;
  faint = λ i low. elim (f.each (at + i)) [
    | inl none ↦ inl none
    | inr same ↦ elim (m.faint i low) [ inl lost ↦ inl (same ∙ lost) | inr kept ↦ inr (same ∙ kept) ]
  ];
}

-- where no mark is past a place, the last one isn't
pub reached_low : (file : List ℕ) (place number end : ℕ) → number < 2 ^ 64 → IsMarkPlace place → IsLastMark file place number → NoneMarkedPast file end → number ≤ end
reached_low file place number end small at last none = elim (cases_lt end number) [
  | inl low ↦ none place at number small (last.some (omega (arith, low)))
  | inr high ↦ high
]
