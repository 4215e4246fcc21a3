-- A file of the elder format is let go.
use Rattle.std.proofs.Common.{◌≡◌, ◌⊎◌, ℕ, suc, ◌+◌, ◌-◌, ◌<◌, ◌≤◌, ◌^◌, List, [], ◌∷◌, ◌++◌, length, slice_index, replicate, drop, codes, sym, refl, ◌∙◌, ap, subst, inl, inr, arith, length-append}
use Rattle.std.proofs.lemmas.Bool.{cases_lt}
use Rattle.std.proofs.lemmas.List.{ext_get_or, get_or_append_left, get_or-append-add, get_or_past, get_or-drop, length-drop, length-replicate}
use Rattle.std.specs.Int.{w64, to_be_bytes}
use Rattle.sqlite_disk.specs.Disk.{Cut, Holds, Mixed, Torn}
use Rattle.sqlite_disk.specs.declared.Disk.{Ghosts}
use Rattle.dav_journal.specs.declared.journal.Journal.{Journal}
use Rattle.dav_journal.specs.Block.{front_of}
use Rattle.dav_journal.specs.Elder.{AreElder, ElderRecovers, HasElderFront, IsEmptied, IsGoing, IsLetGo, IsNoElder, IsReadingElder, elder_bytes, elder_end, elder_head}
use Rattle.dav_journal.specs.File.{AreZeros, IsBegun, Recovers}
use Rattle.dav_journal.specs.Mark.{IsFaint}
use Rattle.dav_journal.specs.Write.{HasZeros, KeepsFront}
use Rattle.dav_journal.proofs.BlockLemmas.{holds_first, holds_kept, length-front, no_block_short}
use Rattle.dav_journal.proofs.ElderLemmas.{length-elder, length-elder_bytes}
use Rattle.dav_journal.proofs.MarkLemmas.{blank_mark, place_high, place_low}
use Rattle.dav_journal.proofs.MixedLemmas.{holds_known, zeros_none}
use Rattle.dav_journal.proofs.WriteLemmas.{zero_at}

-- a place that is counted from the front
pub at_front : (file : List ℕ) (i : ℕ) → slice_index file (0 + i) ≡ slice_index file i
at_front file i = ap (slice_index file) (omega arith)

-- two files are the same from a place on
pub record SameFrom (n : ℕ) (old new : List ℕ) : Type 0 where
  pub same_length : length new ≡ length old
  pub each : (i : ℕ) → n ≤ i → slice_index new i ≡ slice_index old i

pub torn_from : (n : ℕ) (old new : List ℕ) → n ≤ length old → Torn 0 n old new → SameFrom n old new
torn_from n old new long t = record {
  same_length = same;
  each = λ i past. elim (cases_lt i (length old)) [
    | inl inside ↦ t.above i inside (omega (arith, past))
    | inr out ↦ get_or_past new i 0 (omega (arith, out, same)) ∙ sym (get_or_past old i 0 out)
  ];
}
  where
    same : length new ≡ length old
    same = omega (arith, t.no_shorter, t.no_longer, long)

pub from_back : (n : ℕ) (old new : List ℕ) → SameFrom n old new → SameFrom n new old
from_back n old new s = record { same_length = sym s.same_length; each = λ i past. sym (s.each i past) }

pub holds_from : (n at : ℕ) (bytes old new : List ℕ) → n ≤ at → SameFrom n old new → Holds old at bytes → Holds new at bytes
holds_from n at bytes old new past s h = record { within = omega (arith, h.within, s.same_length); each = λ i low. s.each (at + i) (omega (arith, past)) ∙ h.each i low }

pub elder_from : (n key at : ℕ) (old new : List ℕ) (bs : List (List ℕ)) (end : ℕ) → n ≤ at → SameFrom n old new → AreElder key old at bs end → AreElder key new at bs end
elder_from n key at old new [] end past s is = is
elder_from n key at old new (b ∷ bs) end past s (is, more) = (
  record { some = is.some; small = is.small; holds = holds_from n at (elder_bytes key at b) old new past s is.holds },
  elder_from n key (elder_end at (length b)) old new bs end (omega (arith, past)) s more,
)

pub no_elder_from : (n key at : ℕ) (old new : List ℕ) → n ≤ at → SameFrom n old new → IsNoElder key old at → IsNoElder key new at
no_elder_from n key at old new past s none content b =
    none content (record { some = b.some; small = b.small; holds = holds_from n at (elder_bytes key at content) new old past (from_back n old new s) b.holds })

pub elder_le : (key : ℕ) (file : List ℕ) (at : ℕ) (bs : List (List ℕ)) (end : ℕ) → AreElder key file at bs end → at ≤ end
elder_le key file at [] end is = omega (arith, is)
elder_le key file at (b ∷ bs) end (is, more) = omega (arith, elder_le key file (elder_end at (length b)) bs end more)

-- what the version may become
pub record Fades (old new : List ℕ) : Type 0 where
  pub same : SameFrom 8 old new
  pub each : (i : ℕ) → i < 8 → (slice_index new i ≡ 0) ⊎ (slice_index new i ≡ slice_index old i)

pub mixed_fades : (old new : List ℕ) → 8 ≤ length old → Mixed 0 (replicate 8 0) old new → Fades old new
mixed_fades old new long m = record {
  same = torn_from 8 old new long m.torn;
  each = λ i low. elim (m.each i low (omega (arith, low, long))) [
    | inl was ↦ inr (sym (at_front new i) ∙ was ∙ at_front old i)
    | inr put ↦ inl (sym (at_front new i) ∙ put ∙ zero_at 8 i)
  ];
}

pub held_zeros : (file : List ℕ) (at n : ℕ) → Holds file at (replicate n 0) → HasZeros file at (at + n)
held_zeros file at n h = (
  omega (arith, h.within, length-replicate {A = ℕ} n 0),
  λ i from to. let here : i ≡ at + (i - at) = omega (arith, from) in ap (slice_index file) here ∙ h.each (i - at) (omega (arith, from, to, length-replicate {A = ℕ} n 0)) ∙ zero_at n (i - at),
)

pub written_fades : (old new : List ℕ) → 8 ≤ length old → Torn 0 8 old new → Holds new 0 (replicate 8 0) → Fades old new
written_fades old new long t h = record {
  same = torn_from 8 old new long t;
  each = λ i low. inl ((held_zeros new 0 8 h).1 i (omega arith) low);
}

pub front_fades : (key : ℕ) (old new : List ℕ) → Fades old new → HasElderFront key old → HasElderFront key new
front_fades key old new f front = record {
  version = λ i low. elim (f.each i low) [
    | inl lost ↦ inl (at_front new i ∙ lost)
    | inr kept ↦ elim (front.version i low) [
      | inl lost ↦ inl (at_front new i ∙ kept ∙ sym (at_front old i) ∙ lost)
      | inr same ↦ inr (at_front new i ∙ kept ∙ sym (at_front old i) ∙ same)
    ]
  ];
  key_there = holds_from 8 8 _ old new (omega arith) f.same front.key_there;
}

pub recovers_fades : (contents : List (List ℕ)) (old new : List ℕ) → Fades old new → ElderRecovers old contents → ElderRecovers new contents
recovers_fades contents old new f r = record {
  key = r.key;
  small = r.small;
  front = front_fades r.key old new f r.front;
  end = r.end;
  blocks = elder_from 8 r.key 16 old new contents r.end (omega arith) f.same r.blocks;
  nothing = no_elder_from 8 r.key r.end old new (omega (arith, elder_le r.key old 16 contents r.end r.blocks)) f.same r.nothing;
}

pub let_go_fades : (former old new : List ℕ) → Fades old new → IsLetGo former old → IsLetGo former new
let_go_fades former old new f r = record {
  key = r.key;
  small = r.small;
  whole = omega (arith, r.whole, f.same.same_length);
  version = (
    omega (arith, r.whole, f.same.same_length),
    λ i from low. elim (f.each i low) [ inl lost ↦ lost | inr kept ↦ kept ∙ r.version.1 i from low ],
  );
  key_there = holds_from 8 8 _ old new (omega arith) f.same r.key_there;
  length_there = holds_from 8 16 _ old new (omega arith) f.same r.length_there;
  faint = λ i low. elim (r.faint i low) [ inl lost ↦ inl (f.same.each (16 + i) (omega arith) ∙ lost) | inr kept ↦ inr (f.same.each (16 + i) (omega arith) ∙ kept) ];
  lost = λ h. r.lost (holds_from 8 16 _ new old (omega arith) (from_back 8 old new f.same) h);
}

pub going_fades : (former : List ℕ) (blocks : List (List ℕ)) (old new : List ℕ) → Fades old new → IsGoing former blocks old → IsGoing former blocks new
going_fades former blocks old new f (inl r) = inl (recovers_fades (former ∷ blocks) old new f r)
going_fades former blocks old new f (inr r) = inr (let_go_fades former old new f r)

-- the file is long enough for a first head
pub going_long : (former : List ℕ) (blocks : List (List ℕ)) (file : List ℕ) → IsGoing former blocks file → 40 ≤ length file
going_long former blocks file (inl r) = omega (arith, r.blocks.0.holds.within, length-elder_bytes r.key 16 former)
going_long former blocks file (inr r) = r.whole

-- the head of the first block is there, where it wasn't let go
pub first_head : (former : List ℕ) (blocks : List (List ℕ)) (file : List ℕ) (r : ElderRecovers file (former ∷ blocks)) → Holds file 16 (elder_head r.key 16 former)
first_head former blocks file r = holds_first file 16 (elder_head r.key 16 former) former r.blocks.0.holds

-- the length that the first head tells
pub head_length : (former : List ℕ) (blocks : List (List ℕ)) (file : List ℕ) → ElderRecovers file (former ∷ blocks) → Holds file 16 (to_be_bytes w64 (length former))
unfolding elder_head
head_length former blocks file r = holds_first file 16 (to_be_bytes w64 (length former)) _ (first_head former blocks file r)

-- what zeros over the digests of the first head may leave
pub loses : (former : List ℕ) (blocks : List (List ℕ)) (old new : List ℕ) → HasZeros old 0 8 → IsGoing former blocks old → Mixed 24 (replicate 16 0) old new → IsGoing former blocks new
loses former blocks old new none (inl r) m = elim (holds_known new 16 (elder_head r.key 16 former)) [
  | inl out ↦ inr (record {
    key = r.key;
    small = r.small;
    whole = omega (arith, long, same_length);
    version = (omega (arith, long, same_length), λ i from to. low i (omega (arith, to)) ∙ none.1 i from to);
    key_there = record { within = omega (arith, long, same_length); each = λ i below. low (8 + i) (omega (arith, below)) ∙ r.front.key_there.each i below };
    length_there = record { within = omega (arith, long, same_length); each = λ i below. low (16 + i) (omega (arith, below)) ∙ (head_length former blocks old r).each i below };
    faint = λ i below. elim (cases_lt i 8) [
      | inl early ↦ inr (low (16 + i) (omega (arith, early)) ∙ head.each i below)
      | inr late ↦
          let here : 16 + i ≡ 24 + (i - 8) = omega (arith, late) in
          let few : i - 8 < 16 = omega (arith, below, late, length-elder r.key 16 former) in
          elim (m.each (i - 8) few (omega (arith, few, long))) [
            | inl was ↦ inr (ap (slice_index new) here ∙ was ∙ ap (slice_index old) (sym here) ∙ head.each i below)
            | inr put ↦ inl (ap (slice_index new) here ∙ put ∙ zero_at 16 (i - 8))
          ]
    ];
    lost = out;
  })
  | inr there ↦ inl (subst (λ (f : List ℕ). ElderRecovers f (former ∷ blocks)) (ext_get_or 0 old new (sym same_length) (λ i below. sym (each there i))) r)
]
  where
    head : Holds old 16 (elder_head r.key 16 former)
    head = first_head former blocks old r

    long : 40 ≤ length old
    long = going_long former blocks old (inl r)

    same_length : length new ≡ length old
    same_length = omega (arith, m.torn.no_shorter, m.torn.no_longer, long)

    low : (i : ℕ) → i < 24 → slice_index new i ≡ slice_index old i
    low i below = m.torn.below i (omega (arith, below, long)) below

    each : Holds new 16 (elder_head r.key 16 former) → (i : ℕ) → slice_index new i ≡ slice_index old i
    each there i = elim (cases_lt i 24) [
      | inl early ↦ low i early
      | inr late ↦ elim (cases_lt i 40) [
        | inl mid ↦
            let here : i ≡ 16 + (i - 16) = omega (arith, late) in
            let below : i - 16 < length (elder_head r.key 16 former) = omega (arith, late, mid, length-elder r.key 16 former) in
            ap (slice_index new) here ∙ there.each (i - 16) below ∙ sym (head.each (i - 16) below) ∙ ap (slice_index old) (sym here)
        | inr far ↦ elim (cases_lt i (length old)) [
          | inl inside ↦ m.torn.above i inside far
          | inr out ↦ get_or_past new i 0 (omega (arith, out, same_length)) ∙ sym (get_or_past old i 0 out)
        ]
      ]
    ]
loses former blocks old new none (inr r) m = inr (record {
  key = r.key;
  small = r.small;
  whole = omega (arith, r.whole, m.torn.no_shorter);
  version = (omega (arith, r.whole, m.torn.no_shorter), λ i from to. low i (omega (arith, to)) ∙ none.1 i from to);
  key_there = record { within = omega (arith, r.whole, m.torn.no_shorter); each = λ i below. low (8 + i) (omega (arith, below)) ∙ r.key_there.each i below };
  length_there = record { within = omega (arith, r.whole, m.torn.no_shorter); each = λ i below. low (16 + i) (omega (arith, below)) ∙ r.length_there.each i below };
  faint = λ i below. elim (byte i below) [
    | inl lost ↦ inl lost
    | inr kept ↦ elim (r.faint i below) [ inl lost ↦ inl (kept ∙ lost) | inr same ↦ inr (kept ∙ same) ]
  ];
  lost = λ h. r.lost (record {
    within = omega (arith, r.whole, length-elder r.key 16 former);
    each = λ i below. elim (r.faint i below) [
      | inr same ↦ same
      | inl lost ↦ elim (byte i below) [
        | inl zero ↦ lost ∙ sym zero ∙ h.each i below
        | inr kept ↦ sym kept ∙ h.each i below
      ]
    ];
  });
})
  where
    low : (i : ℕ) → i < 24 → slice_index new i ≡ slice_index old i
    low i below = m.torn.below i (omega (arith, below, r.whole)) below

    byte : (i : ℕ) → i < length (elder_head r.key 16 former) → (slice_index new (16 + i) ≡ 0) ⊎ (slice_index new (16 + i) ≡ slice_index old (16 + i))
    byte i below = elim (cases_lt i 8) [
      | inl early ↦ inr (low (16 + i) (omega (arith, early)))
      | inr late ↦
          let here : 16 + i ≡ 24 + (i - 8) = omega (arith, late) in
          let few : i - 8 < 16 = omega (arith, below, late, length-elder r.key 16 former) in
          elim (m.each (i - 8) few (omega (arith, few, r.whole))) [
            | inl was ↦ inr (ap (slice_index new) here ∙ was ∙ ap (slice_index old) (sym here))
            | inr put ↦ inl (ap (slice_index new) here ∙ put ∙ zero_at 16 (i - 8))
          ]
    ]

-- once the digests of the first head are zeros, and weren't, it is let go
pub lost_going : (former : List ℕ) (blocks : List (List ℕ)) (old new : List ℕ) → HasZeros old 0 8 → IsGoing former blocks old → Torn 24 16 old new → Holds new 24 (replicate 16 0)
    → ((key : ℕ) → key < 2 ^ 64 → Holds old 8 (to_be_bytes w64 key) → ((i : ℕ) → i < 16 → slice_index (elder_head key 16 former) (8 + i) ≡ 0) → ⊥) → IsLetGo former new × HasZeros new 24 40
lost_going former blocks old new none going t h some = (go going, zeros)
  where
    long : 40 ≤ length old
    long = going_long former blocks old going

    zeros : HasZeros new 24 40
    zeros = held_zeros new 24 16 h

    low : (i : ℕ) → i < 24 → slice_index new i ≡ slice_index old i
    low i below = t.below i (omega (arith, below, long)) below

    let_go : (key : ℕ) → key < 2 ^ 64 → Holds old 8 (to_be_bytes w64 key) → Holds old 16 (to_be_bytes w64 (length former)) → IsFaint old 16 (elder_head key 16 former) → IsLetGo former new
    let_go key small there told faint = record {
      key = key;
      small = small;
      whole = omega (arith, long, t.no_shorter);
      version = (omega (arith, long, t.no_shorter), λ i from to. low i (omega (arith, to)) ∙ none.1 i from to);
      key_there = record { within = omega (arith, long, t.no_shorter); each = λ i below. low (8 + i) (omega (arith, below)) ∙ there.each i below };
      length_there = record { within = omega (arith, long, t.no_shorter); each = λ i below. low (16 + i) (omega (arith, below)) ∙ told.each i below };
      faint = λ i below. elim (cases_lt i 8) [
        | inl early ↦ elim (faint i below) [ inl lost ↦ inl (low (16 + i) (omega (arith, early)) ∙ lost) | inr same ↦ inr (low (16 + i) (omega (arith, early)) ∙ same) ]
        | inr late ↦ inl (zeros.1 (16 + i) (omega (arith, late)) (omega (arith, below, length-elder key 16 former)))
      ];
      lost = λ held. some key small there (λ i below.
          sym (held.each (8 + i) (omega (arith, below, length-elder key 16 former))) ∙ zeros.1 (16 + (8 + i)) (omega arith) (omega (arith, below)));
    }

    go : IsGoing former blocks old → IsLetGo former new
    go (inl r) = let_go r.key r.small r.front.key_there (head_length former blocks old r) (λ i below. inr ((first_head former blocks old r).each i below))
    go (inr r) = let_go r.key r.small r.key_there r.length_there r.faint

-- what is behind the first head may change
pub let_go_kept : (former old new : List ℕ) → KeepsFront 40 old new → IsLetGo former old → IsLetGo former new
let_go_kept former old new k r = record {
  key = r.key;
  small = r.small;
  whole = k.within;
  version = (omega (arith, k.within), λ i from to. k.each i (omega (arith, to)) ∙ r.version.1 i from to);
  key_there = holds_kept 40 8 _ old new r.key_there k (omega arith);
  length_there = holds_kept 40 16 _ old new r.length_there k (omega arith);
  faint = λ i below. elim (r.faint i below) [
    | inl lost ↦ inl (k.each (16 + i) (omega (arith, below, length-elder r.key 16 former)) ∙ lost)
    | inr same ↦ inr (k.each (16 + i) (omega (arith, below, length-elder r.key 16 former)) ∙ same)
  ];
  lost = λ h. r.lost (record {
    within = omega (arith, r.whole, length-elder r.key 16 former);
    each = λ i below. sym (k.each (16 + i) (omega (arith, below, length-elder r.key 16 former))) ∙ h.each i below;
  });
}

pub torn_forty : (n : ℕ) (old new : List ℕ) → 40 ≤ length old → Torn 40 n old new → KeepsFront 40 old new
torn_forty n old new long t = record { within = omega (arith, long, t.no_shorter); each = λ i low. t.below i (omega (arith, low, long)) low }

pub cut_forty : (old new : List ℕ) → 40 ≤ length old → Cut 73 old new → KeepsFront 40 old new
cut_forty old new long t = record { within = omega (arith, long, t.no_shorter); each = λ i low. t.below i (omega (arith, low, long)) (omega (arith, low)) }

-- zeros up to byte 73, and a cut there
pub emptied : (former old mid new : List ℕ) → IsLetGo former old → HasZeros old 24 40 → Torn 40 33 old mid → Holds mid 40 (replicate 33 0) → Cut 73 mid new → length new ≡ 73 → IsEmptied new
emptied former old mid new r none t h cut whole = record {
  whole = whole;
  version = (omega (arith, whole), λ i from to. late i (omega (arith, to)) ∙ early i (omega (arith, to)) ∙ r.version.1 i from to);
  rest = (
    omega (arith, whole),
    λ i from to. late i to ∙ elim (cases_lt i 40) [
      | inl low ↦ early i low ∙ none.1 i from low
      | inr high ↦ zeros.1 i high (omega (arith, to))
    ],
  );
}
  where
    zeros : HasZeros mid 40 73
    zeros = held_zeros mid 40 33 h

    late : (i : ℕ) → i < 73 → slice_index new i ≡ slice_index mid i
    late i low = cut.below i (omega (arith, low, zeros.0)) low

    early : (i : ℕ) → i < 40 → slice_index mid i ≡ slice_index old i
    early i low = t.below i (omega (arith, low, r.whole)) low

pub are_zeros : (bytes : List ℕ) → ((i : ℕ) → i < length bytes → slice_index bytes i ≡ 0) → AreZeros bytes
are_zeros [] each = refl
are_zeros (b ∷ bs) each =
    zeros_none b bs (each 0 (omega arith)) ∙ omega (arith, are_zeros bs (λ i low. each (suc i) (omega (arith, low))))

-- what a write of a new file over it may leave
pub emptied_begun : (key : ℕ) (bytes old new : List ℕ) → bytes ≡ front_of key ++ replicate 49 0 → IsEmptied old → Mixed 0 bytes old new → IsBegun new
emptied_begun key bytes old new is e m = (omega (arith, long), version, are_zeros (drop 24 new) rest)
  where
    size : length bytes ≡ 73
    size = ap length is ∙ omega (arith, length-append (front_of key) (replicate 49 0), length-front key, length-replicate {A = ℕ} 49 0)

    long : length new ≡ 73
    long = omega (arith, m.torn.no_shorter, m.torn.no_longer, e.whole, size)

    byte : (i : ℕ) → i < 73 → (slice_index new i ≡ slice_index old i) ⊎ (slice_index new i ≡ slice_index bytes i)
    byte i low = elim (m.each i (omega (arith, low, size)) (omega (arith, low, e.whole))) [
      | inl was ↦ inl (sym (at_front new i) ∙ was ∙ at_front old i)
      | inr put ↦ inr (sym (at_front new i) ∙ put)
    ]

    version : IsFaint new 0 (codes "vuldarg2")
    version i low = elim (byte i (omega (arith, low))) [
      | inl was ↦ inl (at_front new i ∙ was ∙ e.version.1 i (omega arith) low)
      | inr put ↦ inr (at_front new i ∙ put ∙ ap (λ (l : List ℕ). slice_index l i) is ∙ get_or_append_left (front_of key) (replicate 49 0) 0 i (omega (arith, low, length-front key)) ∙ get_or_append_left (codes "vuldarg2") _ 0 i low)
    ]

    rest : (i : ℕ) → i < length (drop 24 new) → slice_index (drop 24 new) i ≡ 0
    rest i low =
        let below : 24 + i < 73 = omega (arith, low, length-drop 24 new, long) in
        get_or-drop 24 new i 0 ∙ elim (byte (24 + i) below) [
          | inl was ↦ was ∙ e.rest.1 (24 + i) (omega arith) below
          | inr put ↦ put ∙ behind key bytes is i
        ]
      where
        behind : (key : ℕ) (bytes : List ℕ) → bytes ≡ front_of key ++ replicate 49 0 → (i : ℕ) → slice_index bytes (24 + i) ≡ 0
        behind key bytes is i =
            let here : 24 + i ≡ length (front_of key) + i = omega (arith, length-front key) in
            ap (λ (l : List ℕ). slice_index l (24 + i)) is ∙ ap (slice_index (front_of key ++ replicate 49 0)) here ∙ get_or-append-add (front_of key) (replicate 49 0) i 0 ∙ zero_at 49 i

-- and once it is written, it is a journal without blocks
pub made_recovers : (key : ℕ) (bytes old new : List ℕ) → key < 2 ^ 64 → bytes ≡ front_of key ++ replicate 49 0 → IsEmptied old → Torn 0 (length bytes) old new → Holds new 0 bytes → Recovers new []
made_recovers key bytes old new small is e t h = record {
  key = key;
  small = small;
  front = holds_first new 0 (front_of key) (replicate 49 0) held;
  end = 72;
  blocks = refl;
  more = omega (arith, long);
  nothing = no_block_short key new 72 (omega (arith, long));
  marks = λ at place. blank_mark new 72 at (λ i low. blank (at + i) (omega (arith, place_low at place)) (omega (arith, place_high at place, low)));
}
  where
    size : length bytes ≡ 73
    size = ap length is ∙ omega (arith, length-append (front_of key) (replicate 49 0), length-front key, length-replicate {A = ℕ} 49 0)

    long : length new ≡ 73
    long = omega (arith, t.no_shorter, t.no_longer, e.whole, size)

    held : Holds new 0 (front_of key ++ replicate 49 0)
    held = subst (λ (l : List ℕ). Holds new 0 l) is h

    blank : (i : ℕ) → 24 ≤ i → i < 73 → slice_index new i ≡ 0
    blank i from to =
        let here : i ≡ length (front_of key) + (i - 24) = omega (arith, length-front key, from) in
        let low : i < length (front_of key ++ replicate 49 0) = omega (arith, to, length-append (front_of key) (replicate 49 0), length-front key, length-replicate {A = ℕ} 49 0) in
        sym (at_front new i) ∙ held.each i low ∙ ap (slice_index (front_of key ++ replicate 49 0)) here ∙ get_or-append-add (front_of key) (replicate 49 0) (i - 24) 0 ∙ zero_at 49 (i - 24)

-- where an elder file was read, its version may fade
pub reading_fades : {D : Type 0} (g : Ghosts D) (old new : Journal D) (contents : List (List ℕ)) → IsReadingElder g old contents → Fades (g.seen old.disk) (g.seen new.disk)
    → ((c : List ℕ) → g.may_leave new.disk c → c ≡ g.seen new.disk) → new.key ≡ old.key → new.end ≡ old.end → new.len ≡ old.len → IsReadingElder g new contents
reading_fades g old new contents r f only key_is end_is len_is = record {
  small = rw key_is r.small;
  front = rw key_is (front_fades old.key _ _ f r.front);
  blocks = rw (key_is, end_is) (elder_from 8 old.key 16 _ _ contents old.end (omega arith) f.same r.blocks);
  only = only;
  whole = f.same.same_length ∙ r.whole ∙ sym len_is;
}

pub front_long : (key : ℕ) (file : List ℕ) → HasElderFront key file → 8 ≤ length file
front_long key file front = omega (arith, front.key_there.within)

pub emptied_is_begun : (file : List ℕ) → IsEmptied file → IsBegun file
emptied_is_begun file e = (
  omega (arith, e.whole),
  λ i low. inl (at_front file i ∙ e.version.1 i (omega arith) low),
  are_zeros (drop 24 file) (λ i low. get_or-drop 24 file i 0 ∙ e.rest.1 (24 + i) (omega arith) (omega (arith, low, length-drop 24 file, e.whole))),
)

pub new_long : (key : ℕ) (bytes : List ℕ) → bytes ≡ front_of key ++ replicate 49 0 → length bytes ≡ 73
new_long key bytes is = ap length is ∙ omega (arith, length-append (front_of key) (replicate 49 0), length-front key, length-replicate {A = ℕ} 49 0)
