-- A file of before is taken over.
use Rattle.std.proofs.Common.{◌≡◌, ℕ, ◌<◌, List, [], ◌∷◌, ◌++◌, length, sym, ap, subst, arith}
use Rattle.std.specs.Int.{w64, to_be_bytes}
use Rattle.sqlite_disk.specs.declared.Disk.{Ghosts}
use Rattle.dav_journal.specs.declared.journal.Journal.{Journal}
use Rattle.dav_journal.specs.Block.{IsBlock}
use Rattle.dav_journal.specs.File.{Recovers}
use Rattle.dav_journal.specs.Journal.{HasFront, HasRead, IsAtEnd, IsOpened, IsReading}
use Rattle.dav_journal.specs.Pair.{PairRecovers}
use Rattle.dav_journal.proofs.BlockLemmas.{blocks_le}
use Rattle.dav_journal.proofs.OneLemmas.{one_block, one_key}
use Rattle.dav_journal.proofs.PairLemmas.{pair_alone, read_recovers, turned}

-- a journal that was opened, and has a byte where the blocks begin
pub opened_read : {D : Type 0} (g : Ghosts D) (j : Journal D) (contents : List (List ℕ)) → IsReading g j contents → 72 < length (g.seen j.disk) → IsOpened g j
opened_read g j contents r long = record {
  small = r.small;
  outcomes = λ c may. subst (λ (f : List ℕ). HasFront j.key f) (sym (r.only c may)) (record { front = r.front; more = long });
}

-- the first block that was read is the first that the file stands for
pub first_read : {D : Type 0} (g : Ghosts D) (j : Journal D) (x y : List ℕ) (ys : List (List ℕ)) → IsReading g j (x ∷ []) → Recovers (g.seen j.disk) (y ∷ ys) → y ≡ x
first_read g j x y ys reading r =
    let key = one_key (g.seen j.disk) r.key j.key r.small reading.small r.front reading.front in
    one_block j.key (g.seen j.disk) 72 y x (subst (λ k. IsBlock k (g.seen j.disk) 72 y) key (r.blocks.0)) (reading.blocks.0)

-- a file where no first block was read has none
pub no_first : {D : Type 0} (g : Ghosts D) (j : Journal D) (y : List ℕ) (ys : List (List ℕ)) → IsAtEnd g j [] → Recovers (g.seen j.disk) (y ∷ ys) → ⊥
no_first g j y ys read r =
    let key = one_key (g.seen j.disk) r.key j.key r.small read.reading.small r.front read.reading.front in
    read.nothing y (subst (λ at. IsBlock j.key (g.seen j.disk) at y) read.reading.blocks (subst (λ k. IsBlock k (g.seen j.disk) 72 y) key (r.blocks.0)))

abbrev later : List (List ℕ) → List (List ℕ)
later [] = []
later (b ∷ bs) = bs

-- the blocks that were copied are those of the file
pub copied_blocks : {D : Type 0} (g : Ghosts D) (j : Journal D) (former : List ℕ) (copied blocks : List (List ℕ)) → HasRead g j (former ∷ copied) → Recovers (g.seen j.disk) (former ∷ blocks) → copied ≡ blocks
copied_blocks g j former copied blocks read r = sym (ap later (read_recovers g j (former ∷ copied) (former ∷ blocks) read r))

-- a file that was read has a byte where the blocks begin
pub long_read : {D : Type 0} (g : Ghosts D) (j : Journal D) (contents : List (List ℕ)) → HasRead g j contents → 72 < length (g.seen j.disk)
long_read g j contents read = omega (arith, blocks_le j.key (g.seen j.disk) 72 contents j.end read.reading.blocks, read.more)

-- the copy counts, beside a file without blocks
pub taken_over : (c d first : List ℕ) (blocks : List (List ℕ)) → Recovers c [] → Recovers d ((to_be_bytes w64 0 ++ first) ∷ blocks) → PairRecovers c d (first ∷ blocks)
taken_over c d first blocks none copy = turned d c (first ∷ blocks) (pair_alone d c 0 (first ∷ blocks) (omega arith) copy none)
