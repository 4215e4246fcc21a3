-- Files that another opening went on with.
use Rattle.std.proofs.Common.{◌≡◌, ◌≢◌, ◌⊎◌, ◌<◌, ◌^◌, ℕ, IsErr, OnOk, Result, Ok, Err, inl, inr, List, [], ◌∷◌, ◌++◌, length, ap, refl, sym, ◌∙◌, subst, arith}
use Rattle.std.proofs.lemmas.Nat.{from_be_bytes-to_be_bytes_8}
use Rattle.std.specs.Int.{w64, to_be_bytes, from_be_bytes}
use Rattle.sqlite_disk.specs.Disk.{Holds}
use Rattle.sqlite_disk.specs.declared.Disk.{Ghosts}
use Rattle.dav_journal.specs.declared.pair.Pair.{Pair}
use Rattle.dav_journal.specs.Block.{AreBlocks, IsBlock, end_of}
use Rattle.dav_journal.specs.Pair.{GoesOn, HasGeneration, IsKeptPair, IsOwnPair, IsPassed, Knows, with_generation}
use Rattle.dav_journal.proofs.BlockLemmas.{block_content, blocks_le, holds_first, same_held}

-- the block behind others
pub next_block : (key : ℕ) (file : List ℕ) (at : ℕ) (before more : List (List ℕ)) (opening : List ℕ) (end last : ℕ) → AreBlocks key file at before end
    → AreBlocks key file at (before ++ opening ∷ more) last → IsBlock key file end opening
next_block key file at [] more opening end last is (block, rest) = subst (λ p. IsBlock key file p opening) is block
next_block key file at (b ∷ before) more opening end last (one, others) (same, rest) =
    next_block key file (end_of at (length b)) before more opening end last others rest

-- a place begins with one generation
pub one_begin : (key : ℕ) (file : List ℕ) (own generation : ℕ) → own < 2 ^ 64 → Holds file 121 (to_be_bytes w64 own) → HasGeneration key file generation → generation ≡ own
one_begin key file own generation small h has =
    let content = block_content key file 72 has.block has.is in
    let begins = holds_first file 121 (to_be_bytes w64 generation) has.begins.content (subst (λ (bs : List ℕ). Holds file 121 bs) has.begins.begins content) in
    let same = same_held file 121 (to_be_bytes w64 generation) (to_be_bytes w64 own) begins h refl in
    sym (from_be_bytes-to_be_bytes_8 generation has.small) ∙ ap (from_be_bytes w64) same ∙ from_be_bytes-to_be_bytes_8 own small

pub passed_or_own : {D : Type 0} (g : Ghosts D) (p : Pair D) → IsPassed g p → IsOwnPair g p → ⊥
passed_or_own g p (IsPassed.behind before more opening last known all) own =
    own.0.nothing opening (next_block p.counts.key (g.seen p.counts.disk) 72 before more opening p.counts.end last known all)
passed_or_own g p (IsPassed.anew some small generation other has) own =
    other (one_begin p.counts.key (g.seen p.counts.disk) p.generation generation small ((own.0.first some).1) has)
passed_or_own g p (IsPassed.cleared some none) own = none ((own.0.first some).0)
passed_or_own g p (IsPassed.other block is) own = own.1 block is

-- where blocks end goes by their lengths
one_end : (key other : ℕ) (file old : List ℕ) (at : ℕ) (bs : List (List ℕ)) (end last : ℕ) → AreBlocks key file at bs end → AreBlocks other old at bs last → end ≡ last
one_end key other file old at [] end last a b = sym a ∙ b
one_end key other file old at (b ∷ bs) end last (x, xs) (y, ys) = one_end key other file old (end_of at (length b)) bs end last xs ys

-- the first of blocks
front_of_blocks : (key : ℕ) (file : List ℕ) (at : ℕ) (before more : List (List ℕ)) (last : ℕ) → AreBlocks key file at (before ++ more) last → (end : ℕ) × AreBlocks key file at before end
front_of_blocks key file at [] more last all = (at, refl)
front_of_blocks key file at (b ∷ before) more last (x, xs) =
    let rest = front_of_blocks key file (end_of at (length b)) before more last xs in
    (rest.0, (x, rest.1))

-- contents with one more, as the blocks of a file have them
with_one_more : (generation : ℕ) (contents more : List (List ℕ)) (opening : List ℕ) → (block : List ℕ) × (with_generation generation (contents ++ opening ∷ more) ≡ with_generation generation contents ++ block ∷ more)
with_one_more generation [] more opening = (to_be_bytes w64 generation ++ opening, refl)
with_one_more generation (c ∷ contents) more opening = (opening, refl)

module _ {D : Type 0} (g : Ghosts D) (p : Pair D) where
  -- blocks are behind those that it knows
  passed_behind : (contents more : List (List ℕ)) (opening : List ℕ) (last : ℕ) → Knows p contents → AreBlocks p.counts.key (g.seen p.counts.disk) 72 (with_generation p.generation (contents ++ opening ∷ more)) last → IsPassed g p
  passed_behind contents more opening last knows all =
      let block = with_one_more p.generation contents more opening in
      let these = subst (λ (bs : List (List ℕ)). AreBlocks p.counts.key (g.seen p.counts.disk) 72 bs last) block.1 all in
      let known = front_of_blocks p.counts.key (g.seen p.counts.disk) 72 (with_generation p.generation contents) (block.0 ∷ more) last these in
      let end = one_end p.counts.key p.counts.key (g.seen p.counts.disk) knows.file 72 (with_generation p.generation contents) known.0 p.counts.end known.1 knows.blocks in
      IsPassed.behind (with_generation p.generation contents) more block.0 last
      (subst (λ (n : ℕ). AreBlocks p.counts.key (g.seen p.counts.disk) 72 (with_generation p.generation contents) n) end known.1) these

  -- the file begins with another generation
  passed_anew : (contents more : List (List ℕ)) (opening : List ℕ) (generation last : ℕ) → Knows p contents → generation < 2 ^ 64 → generation ≢ p.generation
      → AreBlocks p.counts.key (g.seen p.counts.disk) 72 (with_generation generation (opening ∷ more)) last → IsPassed g p
  passed_anew [] more opening generation last knows small other all = IsPassed.behind [] more (to_be_bytes w64 generation ++ opening) last knows.blocks all
  passed_anew (c ∷ contents) more opening generation last knows small other all =
      let content = to_be_bytes w64 p.generation ++ c in
      IsPassed.anew (λ none. absurd (omega (arith, none, blocks_le p.counts.key knows.file (end_of 72 (length content)) contents p.counts.end (knows.blocks.1)))) knows.small generation other
      (record { small = small; block = to_be_bytes w64 generation ++ opening; is = all.0; begins = record { content = opening; begins = refl } })

-- what a pair keeps
pub kept_is_known : {D : Type 0} (g : Ghosts D) (p : Pair D) (contents : List (List ℕ)) → g.may_leave p.counts.disk (g.seen p.counts.disk) → g.may_leave p.spare.disk (g.seen p.spare.disk)
    → IsKeptPair g p contents → Knows p contents
kept_is_known g p contents stays same kept = record {
  small = kept.small;
  file = g.seen p.counts.disk;
  blocks = (kept.kept.outcomes _ stays).blocks;
  spare = sym ((kept.spare.outcomes _ same).blocks);
}

pub goes_on_passes : {D : Type 0} (g : Ghosts D) (earlier later : Pair D) (contents blocks : List (List ℕ)) → g.may_leave later.counts.disk (g.seen later.counts.disk)
    → Knows earlier contents → IsKeptPair g later blocks → GoesOn g earlier later contents blocks → IsPassed g earlier
goes_on_passes g earlier later contents _ stays knows kept (GoesOn.with_more opening more one same) =
    let there = (kept.kept.outcomes _ stays).blocks in
    passed_behind g earlier contents more opening later.counts.end knows
    (subst (λ (n : ℕ). AreBlocks earlier.counts.key (g.seen earlier.counts.disk) 72 (with_generation n (contents ++ opening ∷ more)) later.counts.end) same
    (subst (λ (k : ℕ). AreBlocks k (g.seen earlier.counts.disk) 72 (with_generation later.generation (contents ++ opening ∷ more)) later.counts.end) one.key
    (subst (λ (f : List ℕ). AreBlocks later.counts.key f 72 (with_generation later.generation (contents ++ opening ∷ more)) later.counts.end) one.file there)))
goes_on_passes g earlier later contents _ stays knows kept (GoesOn.begun_anew opening more one other) =
    let there = (kept.kept.outcomes _ stays).blocks in
    passed_anew g earlier contents more opening later.generation later.counts.end knows kept.small other
    (subst (λ (k : ℕ). AreBlocks k (g.seen earlier.counts.disk) 72 (with_generation later.generation (opening ∷ more)) later.counts.end) one.key
    (subst (λ (f : List ℕ). AreBlocks later.counts.key f 72 (with_generation later.generation (opening ∷ more)) later.counts.end) one.file there))
goes_on_passes g earlier later contents _ stays knows kept (GoesOn.in_the_other opening more one) =
    let there = ((kept.kept.outcomes _ stays).blocks).0 in
    let block = to_be_bytes w64 later.generation ++ opening in
    IsPassed.other block
    (subst (λ (n : ℕ). IsBlock earlier.spare.key (g.seen earlier.spare.disk) n block) (sym knows.spare)
    (subst (λ (k : ℕ). IsBlock k (g.seen earlier.spare.disk) 72 block) one.key
    (subst (λ (f : List ℕ). IsBlock later.counts.key f 72 block) one.file there)))

pub refused : {T E P : Type 0} (r : Result T E) → (P → ⊥) → OnOk r P → IsErr r
refused (Ok v) not is = absurd (not is)
refused (Err e) not is = refl

pub only_read : {P Q : Type 0} → (Q → ⊥) → P ⊎ Q → P
only_read not (inl is) = is
only_read not (inr is) = absurd (not is)
