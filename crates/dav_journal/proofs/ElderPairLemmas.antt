-- A file of the elder format is taken over.
use Rattle.std.proofs.Common.{◌≡◌, ℕ, ◌+◌, List, [], ◌∷◌, slice_index, codes, sym, ◌∙◌, ap, subst, inl, inr, arith}
use Rattle.std.proofs.lemmas.List.{get_or_append_left}
use Rattle.sqlite_disk.specs.declared.Disk.{Ghosts}
use Rattle.dav_journal.specs.declared.journal.Journal.{Journal}
use Rattle.dav_journal.specs.Block.{twice}
use Rattle.dav_journal.specs.File.{Recovers}
use Rattle.dav_journal.specs.Elder.{AreElder, ElderRecovers, HasElderFront, HasReadElder, IsElder, IsLetGo, IsNoElder, IsReadingElder, elder_head}
use Rattle.dav_journal.proofs.BlockLemmas.{holds_first, length-front}
use Rattle.dav_journal.proofs.ElderLemmas.{one_elder_key, one_elder_list}
use Rattle.dav_journal.proofs.GoingLemmas.{at_front, first_head}
use Rattle.sqlite_disk.specs.Disk.{Holds}

-- a file that was let go doesn't stand for its blocks any more
pub not_going : (file former : List ℕ) (blocks : List (List ℕ)) → ElderRecovers file (former ∷ blocks) → IsLetGo former file → ⊥
not_going file former blocks r gone =
    let key = one_elder_key file r.key gone.key r.small gone.small r.front.key_there gone.key_there in
    gone.lost (subst (λ k. Holds file 16 (elder_head k 16 former)) key (first_head former blocks file r))

-- a file that was let go still has the front
pub let_go_front : (former file : List ℕ) (r : IsLetGo former file) → HasElderFront r.key file
let_go_front former file r = record {
  version = λ i low. inl (at_front file i ∙ r.version.1 i (omega arith) low);
  key_there = r.key_there;
}

-- what was read is of this file
pub read_nothing : {D : Type 0} (g : Ghosts D) (j : Journal D) (former : List ℕ) (blocks : List (List ℕ)) → HasReadElder g j [] → ElderRecovers (g.seen j.disk) (former ∷ blocks) → ⊥
read_nothing g j former blocks read r =
    let key = one_elder_key (g.seen j.disk) r.key j.key r.small read.reading.small r.front.key_there read.reading.front.key_there in
    read.nothing former (subst (λ p. IsElder j.key (g.seen j.disk) p former) read.reading.blocks (subst (λ k. IsElder k (g.seen j.disk) 16 former) key (r.blocks.0)))

pub read_elder_blocks : {D : Type 0} (g : Ghosts D) (j : Journal D) (xs ys : List (List ℕ)) → HasReadElder g j xs → ElderRecovers (g.seen j.disk) ys → ys ≡ xs
read_elder_blocks g j xs ys read r =
    let key = one_elder_key (g.seen j.disk) r.key j.key r.small read.reading.small r.front.key_there read.reading.front.key_there in
    one_elder_list j.key (g.seen j.disk) 16 ys xs r.end j.end (subst (λ k. AreElder k (g.seen j.disk) 16 ys r.end) key r.blocks) read.reading.blocks (subst (λ k. IsNoElder k (g.seen j.disk) r.end) key r.nothing) read.nothing

-- a file whose first block was read wasn't let go
pub not_let_go : {D : Type 0} (g : Ghosts D) (j : Journal D) (former : List ℕ) (blocks : List (List ℕ)) → IsReadingElder g j (former ∷ blocks) → IsLetGo former (g.seen j.disk) → ⊥
not_let_go g j former blocks reading r =
    let key = one_elder_key (g.seen j.disk) j.key r.key reading.small r.small reading.front.key_there r.key_there in
    r.lost (subst (λ k. Holds (g.seen j.disk) 16 (elder_head k 16 former)) key (holds_first (g.seen j.disk) 16 (elder_head j.key 16 former) former reading.blocks.0.holds))

abbrev rest : List (List ℕ) → List (List ℕ)
rest [] = []
rest (b ∷ bs) = bs

pub same_rest : (x : List ℕ) (xs ys : List (List ℕ)) → x ∷ xs ≡ x ∷ ys → xs ≡ ys
same_rest x xs ys e = ap rest e

-- a journal has another version
pub not_newer : {D : Type 0} (g : Ghosts D) (j : Journal D) (file : List ℕ) (contents xs : List (List ℕ)) → IsReadingElder g j xs → g.seen j.disk ≡ file → Recovers file contents → ⊥
not_newer g j file contents xs reading same r =
    let seven : slice_index file (0 + 7) ≡ 50 = r.front.each 7 (omega (arith, length-front r.key)) ∙ get_or_append_left (codes "vuldarg2") (twice r.key) 0 7 (omega arith) in
    let here : slice_index (g.seen j.disk) (0 + 7) ≡ 50 = ap (λ (f : List ℕ). slice_index f (0 + 7)) same ∙ seven in
    elim (reading.front.version 7 (omega arith)) [
      | inl lost ↦ absurd (omega (arith, here, lost))
      | inr kept ↦ absurd (differ (sym here ∙ kept))
    ]
  where
    differ : 50 ≡ slice_index (codes "vuldarg1") 7 → ⊥
    differ e = absurd (omega (arith, e))
