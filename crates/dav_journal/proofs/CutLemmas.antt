-- The end of a file is cut.
use Rattle.std.proofs.Common.{◌≡◌, ◌≢◌, ℕ, ◌+◌, ◌<◌, ◌≤◌, ◌^◌, List, [], ◌∷◌, length, slice_index, sym, ◌∙◌, ap, subst, inl, inr, arith}
use Rattle.std.proofs.lemmas.Bool.{cases_eq, cases_lt}
use Rattle.sqlite_disk.specs.Disk.{Cut, Holds, Torn}
use Rattle.sqlite_disk.specs.declared.Disk.{Ghosts}
use Rattle.dav_journal.specs.declared.journal.Journal.{Journal}
use Rattle.dav_journal.specs.Block.{AreBlocks, IsNoBlock, front_of}
use Rattle.dav_journal.specs.File.{Recovers}
use Rattle.dav_journal.specs.Journal.{Ends, IsCleared, Rests}
use Rattle.dav_journal.specs.Mark.{AreMarks}
use Rattle.dav_journal.specs.Write.{KeepsFront}
use Rattle.dav_journal.proofs.MarkLemmas.{marks_kept}
use Rattle.dav_journal.proofs.BlockLemmas.{blocks_kept, blocks_le, holds_kept, length-front, no_block, no_block_short, shut_if_zero}

pub ends_recovers : (key : ℕ) (contents : List (List ℕ)) (end : ℕ) (file : List ℕ) → key < 2 ^ 64 → Ends key contents end file → Recovers file contents
ends_recovers key contents end file small e = record {
  key = key;
  small = small;
  front = e.front;
  end = end;
  blocks = e.blocks;
  more = e.more;
  marks = e.marks;
  nothing = elim (e.shut) [ inl shut ↦ no_block key file end shut | inr short ↦ no_block_short key file end short ];
}

pub ends_front : (key : ℕ) (contents : List (List ℕ)) (end : ℕ) (old new : List ℕ) → Holds old 0 (front_of key) → AreBlocks key old 72 contents end → AreMarks old end → KeepsFront end old new
    → Holds new 0 (front_of key) × AreBlocks key new 72 contents end × AreMarks new end
ends_front key contents end old new front blocks marks k =
    let low = blocks_le key old 72 contents end blocks in (
      holds_kept end 0 (front_of key) old new front k (omega (arith, low, length-front key)),
      blocks_kept key old new 72 contents end end blocks (omega arith) k,
      marks_kept end end end old new low (omega arith) marks k,
    )

pub cut_front : (n end : ℕ) (old new : List ℕ) → end ≤ n → end ≤ length old → Cut n old new → KeepsFront end old new
cut_front n end old new low in_old t = record { within = omega (arith, t.no_shorter); each = λ i below. t.below i (omega arith) (omega arith) }

pub torn_front : (end n : ℕ) (old new : List ℕ) → end ≤ length old → Torn end n old new → KeepsFront end old new
torn_front end n old new in_old t = record { within = omega (arith, t.no_shorter); each = λ i below. t.below i (omega arith) below }

-- a cut behind the gate
pub ends_cut : (key : ℕ) (contents : List (List ℕ)) (end : ℕ) (old new : List ℕ) → Ends key contents end old → Cut (end + 1) old new → Ends key contents end new
ends_cut key contents end old new e t =
    let both = ends_front key contents end old new e.front e.blocks e.marks (cut_front (end + 1) end old new (omega arith) (omega (arith, e.more)) t) in
    record {
      front = both.0;
      blocks = both.1;
      more = omega (arith, e.more, t.no_shorter);
      marks = both.2;
      shut = elim (cases_lt end (length old)) [
        | inl there ↦ elim (e.shut) [
          | inl gate ↦ inl (λ is. gate (sym (t.below end there (omega arith)) ∙ is))
          | inr short ↦ inr (omega (arith, short, t.no_longer))
        ]
        | inr none ↦ inr (omega (arith, t.no_longer, none))
      ];
    }

-- a gate that is written at the end of the file
pub ends_gate : (key : ℕ) (contents : List (List ℕ)) (end : ℕ) (old new : List ℕ) → Ends key contents end old → length old ≡ end + 1 → Torn end 1 old new → Ends key contents end new
ends_gate key contents end old new e long t =
    let both = ends_front key contents end old new e.front e.blocks e.marks (torn_front end 1 old new (omega (arith, long)) t) in
    record { front = both.0; blocks = both.1; more = omega (arith, long, t.no_shorter); marks = both.2; shut = inr (omega (arith, long, t.no_longer)) }

pub ends_rests : (key : ℕ) (contents : List (List ℕ)) (end : ℕ) (file : List ℕ) → Ends key contents end file → Holds file end (0 ∷ []) → Rests key contents end (end + 1) file
ends_rests key contents end file e h = record {
  front = e.front;
  blocks = e.blocks;
  within = h.within;
  some = omega arith;
  marks = e.marks;
  blank = λ i from below. let here : i ≡ end + 0 = omega arith in ap (slice_index file) here ∙ h.each 0 (omega arith);
}

-- an open gate in front of what is no block is shut
pub gate_shut : (key : ℕ) (end : ℕ) (old new : List ℕ) → IsNoBlock key old end → end < length old → slice_index old end ≡ 1 → Torn end 1 old new → IsNoBlock key new end
gate_shut key end old new nothing there is_open t = elim (cases_eq (slice_index new end) 1) [
  | inr other ↦ no_block key new end other
  | inl same ↦ λ content b. nothing content (record {
    small = b.small;
    holds = record {
      within = omega (arith, b.holds.within, t.no_longer);
      each = λ i low. elim (cases_eq i 0) [
        | inl first ↦
            let here : end + i ≡ end = omega arith in
            let top : end + 0 ≡ end = omega arith in
            rw (here, first) (is_open ∙ sym same ∙ ap (slice_index new) (sym top) ∙ b.holds.each 0 (omega arith))
        | inr later ↦ sym (t.above (end + i) (omega (arith, b.holds.within, t.no_longer)) (omega arith)) ∙ b.holds.each i low
      ];
    };
  })
]

pub cleared_recovers : {D : Type 0} (g : Ghosts D) (j : Journal D) (contents : List (List ℕ)) (c : List ℕ) → IsCleared g j contents → g.may_leave j.disk c → Recovers c contents
cleared_recovers g j contents c r may = subst (λ (f : List ℕ). Recovers f contents) (sym (r.read.reading.only c may)) (record {
  key = j.key;
  small = r.read.reading.small;
  front = r.read.reading.front;
  end = j.end;
  blocks = r.read.reading.blocks;
  more = r.read.more;
  nothing = r.read.nothing;
  marks = r.marks;
})

-- while the gate is shut
pub shutting : {D : Type 0} (g : Ghosts D) (j : Journal D) (contents : List (List ℕ)) (c : List ℕ) → IsCleared g j contents → slice_index (g.seen j.disk) j.end ≡ 1
    → Torn j.end 1 (g.seen j.disk) c → Recovers c contents
shutting g j contents c r is_open t =
    let reading = r.read.reading in
    let there = r.read.more in
    let both = ends_front j.key contents j.end (g.seen j.disk) c reading.front reading.blocks r.marks (torn_front j.end 1 (g.seen j.disk) c (omega (arith, there)) t) in
    record {
      key = j.key;
      small = reading.small;
      front = both.0;
      end = j.end;
      blocks = both.1;
      more = omega (arith, there, t.no_shorter);
      marks = both.2;
      nothing = gate_shut j.key j.end (g.seen j.disk) c r.read.nothing there is_open t;
    }

-- once it is shut
pub is_shut : {D : Type 0} (g : Ghosts D) (j : Journal D) (contents : List (List ℕ)) (c : List ℕ) → IsCleared g j contents
    → Torn j.end 1 (g.seen j.disk) c → Holds c j.end (0 ∷ []) → Ends j.key contents j.end c
is_shut g j contents c r t h =
    let reading = r.read.reading in
    let there = r.read.more in
    let both = ends_front j.key contents j.end (g.seen j.disk) c reading.front reading.blocks r.marks (torn_front j.end 1 (g.seen j.disk) c (omega (arith, there)) t) in
    let place : j.end ≡ j.end + 0 = omega arith in
    record { front = both.0; blocks = both.1; more = omega (arith, there, t.no_shorter); marks = both.2; shut = inl (shut_if_zero (ap (slice_index c) place ∙ h.each 0 (omega arith))) }

-- where it was shut already
pub was_shut : {D : Type 0} (g : Ghosts D) (j : Journal D) (contents : List (List ℕ)) (c : List ℕ) → IsCleared g j contents → slice_index (g.seen j.disk) j.end ≢ 1 → g.may_leave j.disk c
    → Ends j.key contents j.end c
was_shut g j contents c r shut may = subst (λ (f : List ℕ). Ends j.key contents j.end f) (sym (r.read.reading.only c may)) (record {
  front = r.read.reading.front;
  blocks = r.read.reading.blocks;
  more = r.read.more;
  shut = inl shut;
  marks = r.marks;
})
