-- Writes over the marks of a file.
use Rattle.std.proofs.Common.{◌≡◌, ℕ, ◌+◌, ◌-◌, ◌<◌, ◌≤◌, ◌^◌, List, [], ◌∷◌, length, slice_index, replicate, sym, ◌∙◌, ap, subst, inl, inr, arith}
use Rattle.std.proofs.lemmas.List.{length-replicate}
use Rattle.sqlite_disk.specs.Disk.{Holds, Mixed, Only}
use Rattle.sqlite_disk.specs.declared.Disk.{Ghosts}
use Rattle.dav_journal.specs.declared.journal.Journal.{Journal}
use Rattle.dav_journal.specs.Block.{AreBlocks, IsNoBlock, block_bytes, end_of, front_of, twice}
use Rattle.dav_journal.specs.File.{Recovers}
use Rattle.dav_journal.specs.Journal.{HasRead, IsCleared, Rests}
use Rattle.dav_journal.specs.Mark.{AreMarks, IsBlank, IsMark, IsMarkPlace, KeepsOthers, mark_after}
use Rattle.dav_journal.proofs.BlockLemmas.{blocks_le, length-front}
use Rattle.dav_journal.proofs.MarkLemmas.{MarksFade, blank_mark, fade_marks, mark_cases, mark_written, mixed_fade, none_past, others_back, place_high, place_low, torn_others}
use Rattle.dav_journal.proofs.TwiceLemmas.{length-twice}
use Rattle.dav_journal.proofs.WriteLemmas.{zero_at}

pub holds_after : (at : ℕ) (bytes old new : List ℕ) → 72 ≤ at → KeepsOthers old new → Holds old at bytes → Holds new at bytes
holds_after at bytes old new past k h = record {
  within = omega (arith, h.within, k.same_length);
  each = λ i low. k.high (at + i) (omega (arith, past)) ∙ h.each i low;
}

pub others_front : (key : ℕ) (old new : List ℕ) → KeepsOthers old new → Holds old 0 (front_of key) → Holds new 0 (front_of key)
others_front key old new k h = record {
  within = omega (arith, h.within, k.same_length);
  each = λ i low. let here : 0 + i ≡ i = omega arith in ap (slice_index new) here ∙ k.low i (omega (arith, low, length-front key)) ∙ ap (slice_index old) (sym here) ∙ h.each i low;
}

pub others_blocks : (key : ℕ) (old new : List ℕ) (at : ℕ) (bs : List (List ℕ)) (end : ℕ) → 72 ≤ at → KeepsOthers old new → AreBlocks key old at bs end → AreBlocks key new at bs end
others_blocks key old new at [] end past k is = is
others_blocks key old new at (b ∷ bs) end past k (is, more) = (
  record { small = is.small; holds = holds_after at (block_bytes key at b) old new past k is.holds },
  others_blocks key old new (end_of at (length b)) bs end (omega (arith, past)) k more,
)

pub others_nothing : (key : ℕ) (old new : List ℕ) (at : ℕ) → 72 ≤ at → KeepsOthers old new → IsNoBlock key old at → IsNoBlock key new at
others_nothing key old new at past k nothing content b =
    nothing content (record { small = b.small; holds = holds_after at (block_bytes key at content) new old past (others_back old new k) b.holds })

-- where marks are lost, the file stands for the same
pub fade_recovers : (old new : List ℕ) (contents : List (List ℕ)) → Recovers old contents → MarksFade old new → Recovers new contents
fade_recovers old new contents r f =
    let past = blocks_le r.key old 72 contents r.end r.blocks in
    record {
      key = r.key;
      small = r.small;
      front = others_front r.key old new f.others r.front;
      end = r.end;
      blocks = others_blocks r.key old new 72 contents r.end (omega arith) f.others r.blocks;
      more = omega (arith, r.more, f.others.same_length);
      nothing = others_nothing r.key old new r.end past f.others r.nothing;
      marks = fade_marks old new r.end r.marks f;
    }

pub fade_rests : (key : ℕ) (contents : List (List ℕ)) (end upto : ℕ) (old new : List ℕ) → Rests key contents end upto old → MarksFade old new → Rests key contents end upto new
fade_rests key contents end upto old new r f =
    let past = blocks_le key old 72 contents end r.blocks in
    record {
      front = others_front key old new f.others r.front;
      blocks = others_blocks key old new 72 contents end (omega arith) f.others r.blocks;
      within = omega (arith, r.within, f.others.same_length);
      some = r.some;
      blank = λ i from below. f.others.high i (omega (arith, past, from)) ∙ r.blank i from below;
      marks = fade_marks old new end r.marks f;
    }

-- and where one is written over zeros
pub rests_marked : (key : ℕ) (contents : List (List ℕ)) (end upto p : ℕ) (old new : List ℕ) → end < 2 ^ 64 → IsMarkPlace p → IsBlank old p → Rests key contents end upto old → Mixed p (twice end) old new
    → Rests key contents end upto new
rests_marked key contents end upto p old new small here blank r m =
    let past = blocks_le key old 72 contents end r.blocks in
    let long : 72 ≤ length old = omega (arith, past, r.some, r.within) in
    let others = torn_others p (length (twice end)) old new (place_low p here) (omega (arith, place_high p here, length-twice end)) long m.torn in
    record {
      front = others_front key old new others r.front;
      blocks = others_blocks key old new 72 contents end (omega arith) others r.blocks;
      within = omega (arith, r.within, others.same_length);
      some = r.some;
      blank = λ i from below. others.high i (omega (arith, past, from)) ∙ r.blank i from below;
      marks = mark_written p end old new here small long r.marks blank m;
    }

-- zeros are written over marks
pub zeros_fade : (at n : ℕ) (old new : List ℕ) → 24 ≤ at → at + n ≤ 72 → 72 ≤ length old → Mixed at (replicate n 0) old new → MarksFade old new
zeros_fade at n old new from to long m = mixed_fade at (replicate n 0) old new from (omega (arith, to, length-replicate {A = ℕ} n 0)) long (zero_at n) m

pub recovers_long : (file : List ℕ) (contents : List (List ℕ)) → Recovers file contents → 72 < length file
recovers_long file contents r = omega (arith, blocks_le r.key file 72 contents r.end r.blocks, r.more)

pub cleared_left : (at n : ℕ) (old new : List ℕ) (contents : List (List ℕ)) → 24 ≤ at → at + n ≤ 72 → Recovers old contents → Mixed at (replicate n 0) old new → Recovers new contents
cleared_left at n old new contents from to r m = fade_recovers old new contents r (zeros_fade at n old new from to (omega (arith, recovers_long old contents r)) m)

-- a journal whose marks alone have changed
pub read_cleared : {D : Type 0} (g : Ghosts D) (old new : Journal D) (contents : List (List ℕ)) → HasRead g old contents → KeepsOthers (g.seen old.disk) (g.seen new.disk) → Only (g.seen new.disk) (g.may_leave new.disk)
    → new.key ≡ old.key → new.end ≡ old.end → new.len ≡ old.len → AreMarks (g.seen new.disk) new.end → IsMarkPlace new.mark → IsBlank (g.seen new.disk) new.mark → IsCleared g new contents
read_cleared g old new contents r k only key_is end_is len_is marks place blank =
    let far = blocks_le old.key (g.seen old.disk) 72 contents old.end r.reading.blocks in
    record {
      read = record {
        reading = record {
          small = rw key_is r.reading.small;
          front = rw key_is (others_front old.key (g.seen old.disk) (g.seen new.disk) k r.reading.front);
          blocks = rw (key_is, end_is) (others_blocks old.key (g.seen old.disk) (g.seen new.disk) 72 contents old.end (omega arith) k r.reading.blocks);
          only = only;
          whole = k.same_length ∙ r.reading.whole ∙ sym len_is;
        };
        nothing = rw (key_is, end_is) (others_nothing old.key (g.seen old.disk) (g.seen new.disk) old.end far k r.nothing);
        more = omega (arith, r.more, k.same_length, end_is);
        unmarked = none_past (g.seen new.disk) new.end marks;
      };
      marks = marks;
      place = place;
      blank = blank;
    }

-- all of the marks are zeros
pub all_blank : (file : List ℕ) (at : ℕ) → Holds file 24 (replicate 48 0) → IsMarkPlace at → IsBlank file at
all_blank file at h is i low =
    let low24 = place_low at is in
    let high56 = place_high at is in
    let here : at + i ≡ 24 + (at - 24 + i) = omega (arith, low24) in
    ap (slice_index file) here ∙ h.each (at - 24 + i) (omega (arith, low, low24, high56, length-replicate {A = ℕ} 48 0)) ∙ zero_at 48 (at - 24 + i)

-- what is left where the one at this place stays, and the others are zeros
pub one_mark : (file : List ℕ) (end p : ℕ) → IsMarkPlace p → IsMark file end p → IsBlank file (mark_after p) → IsBlank file (mark_after (mark_after p)) → AreMarks file end
one_mark file end p here mark next last at is = elim (mark_cases p at here is) [
  | inl same ↦ subst (λ q. IsMark file end q) (sym same) mark
  | inr (inl same) ↦ subst (λ q. IsMark file end q) (sym same) (blank_mark file end (mark_after p) next)
  | inr (inr same) ↦ subst (λ q. IsMark file end q) (sym same) (blank_mark file end (mark_after (mark_after p)) last)
]
