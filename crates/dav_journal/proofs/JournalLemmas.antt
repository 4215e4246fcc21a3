-- A journal that only reads.
use Rattle.std.proofs.Common.{◌+◌, ◌-◌, ◌<◌, inl, inr, ◌≡◌, ℕ, ◌≤◌, List, OnOk, Result, Ok, Err, length, refl, slice_index, sym, ◌∙◌, ap, subst, arith}
use Rattle.std.proofs.lemmas.Bool.{cases_lt}
use Rattle.std.proofs.lemmas.List.{ext_get_or}
use Rattle.sqlite_disk.specs.Disk.{Follows, Holds}
use Rattle.dav_journal.specs.Write.{KeepsBelow}
use Rattle.sqlite_disk.specs.declared.Disk.{Ghosts}
use Rattle.dav_journal.specs.declared.journal.Journal.{Journal}
use Rattle.dav_journal.specs.Block.{AreBlocks, IsNoBlock}
use Rattle.dav_journal.specs.File.{Recovers}
use Rattle.dav_journal.specs.Journal.{HasRead, IsAtEnd, IsKept, IsReading, Stays, blocks_end, blocks_len}
use Rattle.dav_journal.specs.Mark.{NoneMarkedPast}
use Rattle.dav_journal.proofs.BlockLemmas.{blocks_le, rests_below}
use Rattle.dav_journal.proofs.MarkLemmas.{blank_kept, none_past}
use Rattle.dav_journal.proofs.OneLemmas.{one_key, one_list}

pub stays_then : {D : Type 0} (g : Ghosts D) (old mid new : Journal D) → Stays g old mid → Stays g mid new → Stays g old new
stays_then g old mid new a b = record {
  reads = record {
    seen = b.reads.seen ∙ a.reads.seen;
    crash = λ c may. a.reads.crash c (b.reads.crash c may);
    clean = λ clean. a.reads.clean (b.reads.clean clean);
  };
  key = b.key ∙ a.key;
  end = b.end ∙ a.end;
  len = b.len ∙ a.len;
}

pub stays_same : {D : Type 0} (g : Ghosts D) (j : Journal D) → Stays g j j
stays_same g j = record { reads = record { seen = refl; crash = λ c may. may; clean = λ is. is }; key = refl; end = refl; len = refl }

pub reading_stays : {D : Type 0} (g : Ghosts D) (old new : Journal D) (contents : List (List ℕ)) → Stays g old new → IsReading g old contents → IsReading g new contents
reading_stays g old new contents s r = record {
  small = rw s.key r.small;
  front = rw (s.reads.seen, s.key) r.front;
  blocks = rw (s.reads.seen, s.key, s.end) r.blocks;
  only = λ c may. r.only c (s.reads.crash c may) ∙ sym s.reads.seen;
  whole = ap length s.reads.seen ∙ r.whole ∙ sym s.len;
}

pub nothing_stays : {D : Type 0} (g : Ghosts D) (old new : Journal D) → Stays g old new → IsNoBlock old.key (g.seen old.disk) old.end → IsNoBlock new.key (g.seen new.disk) new.end
nothing_stays g old new s none = rw (s.reads.seen, s.key, s.end) none

pub read_stays : {D : Type 0} (g : Ghosts D) (old new : Journal D) (contents : List (List ℕ)) → Stays g old new → HasRead g old contents → HasRead g new contents
read_stays g old new contents s r = record {
  reading = reading_stays g old new contents s r.reading;
  nothing = nothing_stays g old new s r.nothing;
  more = rw (s.reads.seen, s.end) r.more;
  unmarked = rw (s.reads.seen, s.end) r.unmarked;
}

pub more_stays : {D : Type 0} (g : Ghosts D) (old mid new : Journal D) (contents : List (List ℕ)) → Stays g old mid → Stays g mid new → IsReading g old contents → blocks_end mid < blocks_len mid → new.end < length (g.seen new.disk)
more_stays g old mid new contents first later r more =
    let long = reading_stays g old new contents (stays_then g old mid new first later) r in
    omega (arith, long.whole, later.end, later.len, more)

pub unmarked_stays : {D : Type 0} (g : Ghosts D) (mid new : Journal D) → Stays g mid new → NoneMarkedPast (g.seen mid.disk) mid.end → NoneMarkedPast (g.seen new.disk) new.end
unmarked_stays g mid new s none = rw (s.reads.seen, s.end) none

-- where no block follows, a byte does, and no mark says otherwise, all was read
pub ended_read : {D : Type 0} (g : Ghosts D) (old new : Journal D) (contents : List (List ℕ)) → Stays g old new → IsAtEnd g old contents → blocks_end old < blocks_len old → NoneMarkedPast (g.seen old.disk) old.end → HasRead g new contents
ended_read g old new contents s r more unmarked = record {
  reading = reading_stays g old new contents s r.reading;
  nothing = nothing_stays g old new s r.nothing;
  more = let long = reading_stays g old new contents s r.reading in omega (arith, long.whole, s.end, s.len, more);
  unmarked = unmarked_stays g old new s unmarked;
}

-- where no block follows, and yet the file doesn't end as it has to, it stands for nothing
pub damage_stands : {D : Type 0} (g : Ghosts D) (j : Journal D) (contents others : List (List ℕ)) → IsReading g j contents → IsNoBlock j.key (g.seen j.disk) j.end → (NoneMarkedPast (g.seen j.disk) j.end → j.end < j.len → ⊥)
    → Recovers (g.seen j.disk) others → ⊥
damage_stands g j contents others reading nothing damaged r =
    let file = g.seen j.disk in
    let key = one_key file r.key j.key r.small reading.small r.front reading.front in
    let end : r.end ≡ j.end = (one_list j.key file 72 others contents r.end j.end (subst (λ k. AreBlocks k file 72 others r.end) key r.blocks) reading.blocks (subst (λ k. IsNoBlock k file r.end) key r.nothing) nothing).1 in
    damaged (subst (λ e. NoneMarkedPast file e) end (none_past file r.end r.marks)) (omega (arith, end, r.more, reading.whole))

-- zeros were written behind the file
pub kept_grown : {D : Type 0} (g : Ghosts D) (old : Journal D) (disk : D) (len : ℕ) (contents : List (List ℕ)) → g.may_leave old.disk (g.seen old.disk) → old.len ≤ len
    → Follows (KeepsBelow old.zeros) (g.may_leave old.disk) (g.may_leave disk) → KeepsBelow old.zeros (g.seen old.disk) (g.seen disk) → IsKept g old contents
    → IsKept g (record { disk = disk; key = old.key; end = old.end; zeros = old.zeros; len = len; mark = old.mark }) contents
kept_grown g old disk len contents stays low step others kept = record {
  small = kept.small;
  low = omega (arith, kept.low, low);
  outcomes = λ left may.
      let (before, was, same) = step left may in
      let rests = kept.outcomes before was in
      rests_below old.key contents old.end old.zeros before left rests (same rests.within);
  place = kept.place;
  blank =
      let now = kept.outcomes (g.seen old.disk) stays in
      let start = blocks_le old.key (g.seen old.disk) 72 contents old.end now.blocks in
      blank_kept old.zeros (g.seen old.disk) (g.seen disk) old.mark (omega (arith, start, now.some)) kept.place kept.blank (others now.within);
}

-- all of a file was read
pub whole_held : (file bytes : List ℕ) → length bytes ≡ length file → (0 < length bytes → Holds file 0 bytes) → bytes ≡ file
whole_held file bytes long h = ext_get_or 0 bytes file long (λ i low. sym (ap (slice_index file) (omega arith) ∙ (h (omega (arith, low))).each i low))

-- what holds whether or not a call succeeds
pub also_ok : {A E P : Type 0} (r : Result A E) → P → OnOk r P
also_ok (Ok a) p = p
also_ok (Err e) p = tt

-- an error, whatever the result would have been
moved : {A B E : Type 0} → E → Result A E → Result B E
moved x (Ok a) = Err x
moved x (Err e) = Err e

pub err_moved : {A B E : Type 0} (x y : E) → ◌≡◌ {A = Result A E} (Err x) (Err y) → ◌≡◌ {A = Result B E} (Err x) (Err y)
unfolding moved
err_moved x y e = ap (moved x) e

-- after what is used of a part there are zeros, and also after the part
pub rest_zeros : (file window : List ℕ) (from to count : ℕ) → Holds file from window → from + length window ≡ to → ((i : ℕ) → count ≤ i → slice_index window i ≡ 0) → ((i : ℕ) → to ≤ i → slice_index file i ≡ 0) → (i : ℕ) → from + count ≤ i
    → slice_index file i ≡ 0
rest_zeros file window from to count h long none zeros i low = elim (cases_lt i to) [
  | inl inside ↦ let here : i ≡ from + (i - from) = omega (arith, low) in ap (slice_index file) here ∙ h.each (i - from) (omega (arith, low, inside, long)) ∙ none (i - from) (omega (arith, low))
  | inr past ↦ zeros i past
]
