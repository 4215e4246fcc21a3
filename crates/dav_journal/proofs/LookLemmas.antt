-- A pair that only looks keeps what it kept.
use Rattle.std.proofs.Common.{◌≡◌, ◌≢◌, ◌<◌, ◌^◌, ℕ, List, [], ◌∷◌, ap, arith, inl, slice_index, sym, ◌∙◌, subst}
use Rattle.std.specs.Int.{w64, to_be_bytes}
use Rattle.sqlite_disk.specs.Disk.{Holds}
use Rattle.sqlite_disk.specs.declared.Disk.{Ghosts}
use Rattle.dav_journal.specs.declared.journal.Journal.{Journal}
use Rattle.dav_journal.specs.declared.pair.Pair.{Pair}
use Rattle.dav_journal.specs.Journal.{HasRead, IsKept, IsReading, OnlyLooks, Stays}
use Rattle.dav_journal.specs.Pair.{HasAllPair, HasReadPair, IsKeptPair, IsReadingPair, IsSpare, IsUnturned, OnlyLooksPair, OnlyReadsPair, PairLeaves, PairLeavesOnly, with_generation}
use Rattle.dav_journal.proofs.BlockLemmas.{block_content, holds_first}
use Rattle.dav_journal.proofs.JournalLemmas.{nothing_stays, read_stays, reading_stays}
use Rattle.dav_journal.proofs.PairLemmas.{kept_recovers, pair_alone, spare_stays}

pub kept_looks : {D : Type 0} (g : Ghosts D) (old new : Journal D) (contents : List (List ℕ)) → OnlyLooks g old new → IsKept g old contents → IsKept g new contents
kept_looks g old new contents l kept = subst (λ j. IsKept g j contents) (sym l.same) (record {
  small = kept.small;
  low = kept.low;
  outcomes = λ c may. kept.outcomes c (l.reads.crash c may);
  place = kept.place;
  blank = rw l.reads.seen kept.blank;
})

pub pair_looks : {D : Type 0} (g : Ghosts D) (old new : Pair D) (contents : List (List ℕ)) → OnlyLooksPair g old new → IsKeptPair g old contents → IsKeptPair g new contents
pair_looks g old new contents l kept = record {
  small = subst (λ (n : ℕ). n < 2 ^ 64) (sym l.generation) kept.small;
  kept = subst (λ (n : ℕ). IsKept g new.counts (with_generation n contents)) (sym l.generation) (kept_looks g old.counts new.counts _ l.counts kept.kept);
  spare = kept_looks g old.spare new.spare [] l.spare kept.spare;
}

-- what a crash leaves of it
pub looks_only : {D : Type 0} (g : Ghosts D) (old new : Pair D) (contents : List (List ℕ)) → OnlyLooksPair g old new → IsKeptPair g old contents → PairLeavesOnly g new contents
looks_only g old new contents l was c d may might =
    let kept = pair_looks g old new contents l was in
    pair_alone c d new.generation contents kept.small (kept_recovers g new.counts _ kept.kept c may) (kept_recovers g new.spare _ kept.spare d might)

pub looks_leaves : {D : Type 0} (g : Ghosts D) (old new : Pair D) (contents others : List (List ℕ)) → OnlyLooksPair g old new → IsKeptPair g old contents → PairLeaves g new contents others
looks_leaves g old new contents others l was c d may might = inl (looks_only g old new contents l was c d may might)

-- a journal that only looks stays at its place
pub looks_stay : {D : Type 0} (g : Ghosts D) (old new : Journal D) → OnlyLooks g old new → Stays g old new
looks_stay g old new l = record { reads = l.reads; key = ap (λ j. j.key) l.same; end = ap (λ j. j.end) l.same; len = ap (λ j. j.len) l.same }

-- what was read of a pair is what it has, as long as both journals stay
pub read_pair_stays : {D : Type 0} (g : Ghosts D) (old new : Pair D) (contents : List (List ℕ)) → Stays g old.counts new.counts → Stays g old.spare new.spare → new.generation ≡ old.generation
    → HasReadPair g old contents → HasReadPair g new contents
read_pair_stays g old new contents counts spare same was = record {
  small = subst (λ (n : ℕ). n < 2 ^ 64) (sym same) was.small;
  read = subst (λ (n : ℕ). HasRead g new.counts (with_generation n contents)) (sym same) (read_stays g old.counts new.counts _ counts was.read);
  spare = subst (λ (n : ℕ). IsSpare g new.spare n) (sym same) (spare_stays g old.spare new.spare old.generation spare was.spare);
  none = λ none. same ∙ was.none none;
}

-- what a crash leaves of a pair that was only read
pub reads_only : {D : Type 0} (g : Ghosts D) (old new : Pair D) (contents : List (List ℕ)) → OnlyReadsPair g old new → PairLeavesOnly g old contents → PairLeavesOnly g new contents
reads_only g old new contents r leaves c d may might = leaves c d (r.0.crash c may) (r.1.crash d might)

-- what was read of a pair is read where it only looks
pub reading_pair_looks : {D : Type 0} (g : Ghosts D) (old new : Pair D) (contents : List (List ℕ)) → OnlyLooksPair g old new → IsReadingPair g old contents → IsReadingPair g new contents
reading_pair_looks g old new contents looks was = record {
  small = subst (λ (n : ℕ). n < 2 ^ 64) (sym looks.generation) was.small;
  reading = subst (λ (n : ℕ). IsReading g new.counts (with_generation n contents)) (sym looks.generation) (reading_stays g old.counts new.counts (with_generation old.generation contents) (looks_stay g old.counts new.counts looks.counts) was.reading);
  spare = subst (λ (n : ℕ). IsSpare g new.spare n) (sym looks.generation) (spare_stays g old.spare new.spare old.generation (looks_stay g old.spare new.spare looks.spare) was.spare);
}

-- what was read of a pair is all that it has where it only looks
pub all_pair_looks : {D : Type 0} (g : Ghosts D) (old new : Pair D) (contents : List (List ℕ)) → OnlyLooksPair g old new → HasAllPair g old contents → HasAllPair g new contents
all_pair_looks g old new contents looks was = record {
  reading = reading_pair_looks g old new contents looks was.reading;
  all = λ some. read_pair_stays g old new contents (looks_stay g old.counts new.counts looks.counts) (looks_stay g old.spare new.spare looks.spare) looks.generation (was.all some);
}

-- what nobody turned is as it was where it only looks
pub unturned_looks : {D : Type 0} (g : Ghosts D) (old new : Pair D) → OnlyLooksPair g old new → IsUnturned g old → IsUnturned g new
unturned_looks g old new looks was =
    let counts = looks_stay g old.counts new.counts looks.counts in
    let spare = looks_stay g old.spare new.spare looks.spare in
    record {
      gate = ap (λ (f : List ℕ). slice_index f 72) counts.reads.seen ∙ was.gate;
      first = subst (λ (f : List ℕ). Holds f 121 (to_be_bytes w64 new.generation)) (sym counts.reads.seen) (subst (λ (n : ℕ). Holds (g.seen old.counts.disk) 121 (to_be_bytes w64 n)) (sym looks.generation) was.first);
      other = nothing_stays g old.spare new.spare spare was.other;
    }

-- the first block of a pair of which blocks were read
pub first_here : {D : Type 0} (g : Ghosts D) (p : Pair D) (first : List ℕ) (contents : List (List ℕ)) → IsReadingPair g p (first ∷ contents) → (slice_index (g.seen p.counts.disk) 72 ≡ 1) × Holds (g.seen p.counts.disk) 121 (to_be_bytes w64 p.generation)
first_here g p first contents was =
    let block = was.reading.blocks.0 in
    let file = g.seen p.counts.disk in
    (block.holds.each 0 (omega arith), holds_first file 121 (to_be_bytes w64 p.generation) first (block_content p.counts.key file 72 _ block))

-- the same, where blocks end behind where they begin
pub first_of : {D : Type 0} (g : Ghosts D) (p : Pair D) (contents : List (List ℕ)) → p.counts.end ≢ 72 → IsReadingPair g p contents → (slice_index (g.seen p.counts.disk) 72 ≡ 1) × Holds (g.seen p.counts.disk) 121 (to_be_bytes w64 p.generation)
first_of g p [] far was = absurd (far (sym was.reading.blocks))
first_of g p (first ∷ contents) far was = first_here g p first contents was
