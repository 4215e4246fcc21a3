-- Two files, of which one counts.
use Rattle.std.proofs.Common.{◌≡◌, ◌≢◌, ◌⊎◌, ℕ, zero, suc, ◌+◌, ◌<◌, ◌^◌, List, [], ◌∷◌, ◌++◌, Option, Some, None, IfSome, MatchOption, length, take, drop, refl, sym, ◌∙◌, ap, subst, inl, inr, arith}
use Rattle.std.proofs.lemmas.Nat.{from_be_bytes-to_be_bytes_8}
use Rattle.std.specs.Int.{w64, to_be_bytes, from_be_bytes}
use Rattle.sqlite_disk.specs.declared.Disk.{Ghosts}
use Rattle.dav_journal.specs.declared.journal.Journal.{Journal}
use Rattle.dav_journal.specs.declared.pair.Pair.{Pair}
use Rattle.dav_journal.specs.Block.{AreBlocks, IsBlock, IsNoBlock, end_of}
use Rattle.dav_journal.specs.File.{IsBegun, Recovers}
use Rattle.dav_journal.specs.Journal.{BeginsBelow, HasFront, HasRead, IsAtEnd, IsBehind, IsClean, IsJournal, IsKept, IsOpened, IsReading, LeavesBehind, LeavesOnly, OnlyReads, Stays, disk_of}
use Rattle.dav_journal.specs.Pair.{BeginsWith, Counts, HasFirst, HasGeneration, HasReadPair, IsBeside, IsCleanPair, IsOfGeneration, IsReadingPair, IsSpare, PairLeavesOnly, PairRecovers, PairStandsFor, StaysPair, WasOpened, WereOpened, counting, generation_of, spare_of, with_generation}
use Rattle.dav_journal.proofs.BlockLemmas.{blocks_le, length-block, rests_recovers}
use Rattle.dav_journal.proofs.FrontLemmas.{recovers_long}
use Rattle.dav_journal.proofs.JournalLemmas.{read_stays}
use Rattle.dav_journal.proofs.OneLemmas.{one_block, one_key, one_list, one_recovered}

-- a generation, and what follows it
pub one_generation : (a b : ℕ) (xs ys : List ℕ) → a < 2 ^ 64 → b < 2 ^ 64 → to_be_bytes w64 a ++ xs ≡ to_be_bytes w64 b ++ ys → (a ≡ b) × (xs ≡ ys)
one_generation a b xs ys small other e =
    let same : to_be_bytes w64 a ≡ to_be_bytes w64 b = ap (take 8) e in
    (sym (from_be_bytes-to_be_bytes_8 a small) ∙ ap (from_be_bytes w64) same ∙ from_be_bytes-to_be_bytes_8 b other, ap (drop 8) e)

-- the first of blocks
abbrev top : List (List ℕ) → List ℕ
top [] = []
top (b ∷ bs) = b

abbrev some : List (List ℕ) → ℕ
some [] = 0
some (b ∷ bs) = 1

pub not_none : (b : List ℕ) (bs : List (List ℕ)) → b ∷ bs ≡ [] → ⊥
not_none b bs e = absurd (omega (arith, ap some e))

-- what is told of contents with their generation is told of them
pub same_contents : (g h : ℕ) (xs ys : List (List ℕ)) → g < 2 ^ 64 → h < 2 ^ 64 → with_generation g xs ≡ with_generation h ys → xs ≡ ys
same_contents g h [] [] small other e = refl
same_contents g h [] (y ∷ ys) small other e = absurd (not_none _ _ (sym e))
same_contents g h (x ∷ xs) [] small other e = absurd (not_none _ _ e)
same_contents g h (x ∷ xs) (y ∷ ys) small other e =
    let heads = (one_generation g h x y small other (ap top e)).1 in
    ap (λ (z : List ℕ). z ∷ xs) heads ∙ ap (λ (zs : List (List ℕ)). y ∷ zs) (ap (drop 1) e)

pub no_contents : (g : ℕ) (xs : List (List ℕ)) → with_generation g xs ≡ [] → xs ≡ []
no_contents g [] e = refl
no_contents g (x ∷ xs) e = absurd (not_none _ _ e)

-- a file that has no block, or older ones
pub none_behind : (generation : ℕ) (file : List ℕ) → Recovers file [] → IsBehind generation file
none_behind generation file r = record {
  key = r.key;
  small = r.small;
  has = record { front = r.front; more = omega (arith, r.blocks, r.more) };
  older = λ block is. absurd (r.nothing block (subst (λ at. IsBlock r.key file at block) r.blocks is));
}

pub older_behind : (g h : ℕ) (file : List ℕ) (xs : List (List ℕ)) → g < h → Recovers file (with_generation g xs) → IsBehind h file
older_behind g h file [] low r = none_behind h file r
older_behind g h file (x ∷ xs) low r = record {
  key = r.key;
  small = r.small;
  has = record { front = r.front; more = recovers_long file _ r };
  older = λ block is. record { own = g; lower = low; content = x; begins = one_block r.key file 72 block _ is (r.blocks.0) };
}

-- what is beside contents
pub beside_behind : (generation : ℕ) (x : List ℕ) (xs : List (List ℕ)) (other : List ℕ) → IsBeside generation (x ∷ xs) other → IsBehind generation other
beside_behind zero x xs other r = none_behind 0 other r
beside_behind (suc n) x xs other b = b

pub behind_beside : (generation : ℕ) (x : List ℕ) (xs : List (List ℕ)) (other : List ℕ) → 0 < generation → IsBehind generation other → IsBeside generation (x ∷ xs) other
behind_beside zero x xs other some b = absurd (omega (arith, some))
behind_beside (suc n) x xs other some b = b

pub none_beside : (generation : ℕ) (contents : List (List ℕ)) (other : List ℕ) → Recovers other [] → IsBeside generation contents other
none_beside zero contents other r = r
none_beside (suc n) [] other r = r
none_beside (suc n) (x ∷ xs) other r = none_behind (suc n) other r

pub beside_none : (generation : ℕ) (other : List ℕ) → IsBeside generation [] other → Recovers other []
beside_none zero other r = r
beside_none (suc n) other r = r

-- which of two generations is lower
pub lower_than : (g h : ℕ) (file : List ℕ) (x : List ℕ) (xs : List (List ℕ)) → g < 2 ^ 64 → h < 2 ^ 64 → IsBehind h file → Recovers file (with_generation g (x ∷ xs)) → g < h
lower_than g h file x xs small other behind r =
    let key = one_key file r.key behind.key r.small behind.small r.front behind.has.front in
    let older = behind.older _ (subst (λ k. IsBlock k file 72 (to_be_bytes w64 g ++ x)) key (r.blocks.0)) in
    let same = (one_generation g older.own x older.content small (omega (arith, older.lower, other)) older.begins).0 in
    omega (arith, same, older.lower)

-- the two orders of a pair
pub turned : (one other : List ℕ) (contents : List (List ℕ)) → PairRecovers one other contents → PairRecovers other one contents
turned one other contents (inl c) = inr c
turned one other contents (inr c) = inl c

one_side : (a b : List ℕ) (xs ys : List (List ℕ)) → Counts a b xs → Counts a b ys → xs ≡ ys
one_side a b xs ys c d = same_contents c.generation d.generation xs ys c.small d.small (one_recovered a _ _ c.counts d.counts)

two_sides : (a b : List ℕ) (xs ys : List (List ℕ)) → Counts a b xs → Counts b a ys → xs ≡ ys
two_sides a b [] ys c d = sym (no_contents d.generation ys (one_recovered b _ _ d.counts (beside_none c.generation b c.beside)))
two_sides a b (x ∷ xs) [] c d = no_contents c.generation (x ∷ xs) (one_recovered a _ _ c.counts (beside_none d.generation a d.beside))
two_sides a b (x ∷ xs) (y ∷ ys) c d =
    let low = lower_than c.generation d.generation a x xs c.small d.small (beside_behind d.generation y ys a d.beside) c.counts in
    let high = lower_than d.generation c.generation b y ys d.small c.small (beside_behind c.generation x xs b c.beside) d.counts in
    absurd (omega (arith, low, high))

pub pair_one_list : (a b : List ℕ) (xs ys : List (List ℕ)) → PairRecovers a b xs → PairRecovers a b ys → xs ≡ ys
pair_one_list a b xs ys (inl c) (inl d) = one_side a b xs ys c d
pair_one_list a b xs ys (inl c) (inr d) = two_sides a b xs ys c d
pair_one_list a b xs ys (inr c) (inl d) = two_sides b a xs ys c d
pair_one_list a b xs ys (inr c) (inr d) = one_side b a xs ys c d

-- each file of a pair is that of a journal
pub recovers_journal : (file : List ℕ) (contents : List (List ℕ)) → Recovers file contents → IsJournal file
recovers_journal file contents r = record { key = r.key; small = r.small; has = record { front = r.front; more = recovers_long file contents r } }

beside_journal : (generation : ℕ) (contents : List (List ℕ)) (other : List ℕ) → IsBeside generation contents other → IsJournal other
beside_journal zero contents other r = recovers_journal other [] r
beside_journal (suc n) [] other r = recovers_journal other [] r
beside_journal (suc n) (x ∷ xs) other b = record { key = b.key; small = b.small; has = b.has }

pub are_journals : (a b : List ℕ) (xs : List (List ℕ)) → PairRecovers a b xs → IsJournal a × IsJournal b
are_journals a b xs (inl c) = (recovers_journal a _ c.counts, beside_journal c.generation xs b c.beside)
are_journals a b xs (inr c) = (beside_journal c.generation xs a c.beside, recovers_journal b _ c.counts)

-- what was read is what a file stands for
pub read_recovers : {D : Type 0} (g : Ghosts D) (j : Journal D) (xs ys : List (List ℕ)) → HasRead g j xs → Recovers (g.seen j.disk) ys → ys ≡ xs
read_recovers g j xs ys read r =
    let key = one_key (g.seen j.disk) r.key j.key r.small read.reading.small r.front read.reading.front in
    (one_list j.key (g.seen j.disk) 72 ys xs r.end j.end (subst (λ k. AreBlocks k (g.seen j.disk) 72 ys r.end) key r.blocks) read.reading.blocks (subst (λ k. IsNoBlock k (g.seen j.disk) r.end) key r.nothing) read.nothing).0

-- a file that doesn't count is behind
pub spare_behind : {D : Type 0} (g : Ghosts D) (j : Journal D) (generation : ℕ) → IsSpare g j generation → IsBehind generation (g.seen j.disk)
spare_behind g j generation s = record { key = j.key; small = s.small; has = s.has; older = s.older }

-- where blocks were read of a pair that stands for something, the file that counts does
pub counting_stands : {D : Type 0} (g : Ghosts D) (p : Pair D) (x : List ℕ) (xs others : List (List ℕ)) → IsReadingPair g p (x ∷ xs) → PairStandsFor g p others → (blocks : List (List ℕ)) × Recovers (g.seen p.counts.disk) blocks
counting_stands g p x xs others reading (inl c) = (_, c.counts)
counting_stands g p x xs [] reading (inr c) = ([], beside_none c.generation _ c.beside)
counting_stands g p x xs (o ∷ os) reading (inr c) =
    let file = g.seen p.counts.disk in
    let low = lower_than c.generation p.generation (g.seen p.spare.disk) o os c.small reading.small (spare_behind g p.spare p.generation reading.spare) c.counts in
    let behind = beside_behind c.generation o os file c.beside in
    let key = one_key file p.counts.key behind.key reading.reading.small behind.small reading.reading.front behind.has.front in
    let older = behind.older _ (subst (λ k. IsBlock k file 72 (to_be_bytes w64 p.generation ++ x)) key (reading.reading.blocks.0)) in
    let same = (one_generation p.generation older.own x older.content reading.small (omega (arith, older.lower, c.small)) older.begins).0 in
    absurd (omega (arith, low, same, older.lower))

pub later_stands : {D : Type 0} (g : Ghosts D) (p : Pair D) (contents others : List (List ℕ)) → p.counts.end ≢ 72 → IsReadingPair g p contents → PairStandsFor g p others → (blocks : List (List ℕ)) × Recovers (g.seen p.counts.disk) blocks
later_stands g p [] others far reading stands = absurd (far (sym reading.reading.blocks))
later_stands g p (x ∷ xs) others far reading stands = counting_stands g p x xs others reading stands

-- and where none was, in the first generation
pub first_stands : {D : Type 0} (g : Ghosts D) (p : Pair D) (others : List (List ℕ)) → p.generation ≡ 0 → IsReadingPair g p [] → PairStandsFor g p others → (blocks : List (List ℕ)) × Recovers (g.seen p.counts.disk) blocks
first_stands g p others first reading (inl c) = (_, c.counts)
first_stands g p [] first reading (inr c) = ([], beside_none c.generation _ c.beside)
first_stands g p (o ∷ os) first reading (inr c) =
    absurd (omega (arith, first, lower_than c.generation p.generation (g.seen p.spare.disk) o os c.small reading.small (spare_behind g p.spare p.generation reading.spare) c.counts))

-- what was read of a pair is what it stands for, and the file counts that was chosen
pub record ReadsAs (a b : List ℕ) (generation : ℕ) (contents others : List (List ℕ)) : Type 0 where
  pub same : others ≡ contents
  pub counts : Recovers a (with_generation generation contents)
  pub beside : IsBeside generation contents b

pub pair_read : {D : Type 0} (g : Ghosts D) (p : Pair D) (contents others : List (List ℕ)) → p.generation < 2 ^ 64 → HasReadPair g p contents → PairStandsFor g p others
    → ReadsAs (g.seen p.counts.disk) (g.seen p.spare.disk) p.generation contents others
pair_read g p contents others small read (inl c) = record {
  same = same;
  counts = subst (λ (bs : List (List ℕ)). Recovers (g.seen p.counts.disk) bs) is c.counts;
  beside = go contents is (subst (λ (xs : List (List ℕ)). IsBeside c.generation xs (g.seen p.spare.disk)) same c.beside);
}
  where
    is : with_generation c.generation others ≡ with_generation p.generation contents
    is = read_recovers g p.counts _ _ read.read c.counts

    same : others ≡ contents
    same = same_contents c.generation p.generation others contents c.small small is

    go : (xs : List (List ℕ)) → with_generation c.generation others ≡ with_generation p.generation xs → IsBeside c.generation xs (g.seen p.spare.disk) → IsBeside p.generation xs (g.seen p.spare.disk)
    go [] e beside = none_beside p.generation [] _ (beside_none c.generation _ beside)
    go (x ∷ xs) e beside = of_first others e
      where
        of_first : (ys : List (List ℕ)) → with_generation c.generation ys ≡ with_generation p.generation (x ∷ xs) → IsBeside p.generation (x ∷ xs) (g.seen p.spare.disk)
        of_first [] f = absurd (not_none _ _ (sym f))
        of_first (y ∷ ys) f = subst (λ n. IsBeside n (x ∷ xs) (g.seen p.spare.disk)) ((one_generation c.generation p.generation y x c.small small (ap top f)).0) beside
pair_read g p contents [] small read (inr c) =
    let counts = beside_none c.generation _ c.beside in
    let is : [] ≡ with_generation p.generation contents = read_recovers g p.counts _ _ read.read counts in
    let none : contents ≡ [] = no_contents p.generation contents (sym is) in
    record {
      same = sym none;
      counts = subst (λ (bs : List (List ℕ)). Recovers (g.seen p.counts.disk) bs) is counts;
      beside = none_beside p.generation contents _ c.counts;
    }
pair_read g p [] (o ∷ os) small read (inr c) =
    absurd (omega (arith, read.none refl, lower_than c.generation p.generation (g.seen p.spare.disk) o os c.small small (spare_behind g p.spare p.generation read.spare) c.counts))
pair_read g p (x ∷ xs) (o ∷ os) small read (inr c) =
    let (blocks, r) = counting_stands g p x xs (o ∷ os) (record { small = small; reading = read.read.reading; spare = read.spare }) (inr c) in
    let counts = subst (λ (bs : List (List ℕ)). Recovers (g.seen p.counts.disk) bs) (read_recovers g p.counts _ _ read.read r) r in
    let low = lower_than p.generation c.generation (g.seen p.counts.disk) x xs small c.small (beside_behind c.generation o os _ c.beside) counts in
    absurd (omega (arith, low, lower_than c.generation p.generation (g.seen p.spare.disk) o os c.small small (spare_behind g p.spare p.generation read.spare) c.counts))

pub pair_counts : (a b : List ℕ) (generation : ℕ) (contents : List (List ℕ)) → generation < 2 ^ 64 → Recovers a (with_generation generation contents) → IsBeside generation contents b → PairRecovers a b contents
pair_counts a b generation contents small counts beside = inl (record { generation = generation; small = small; counts = counts; beside = beside })

-- a pair whose other file has no block
pub pair_alone : (a b : List ℕ) (generation : ℕ) (contents : List (List ℕ)) → generation < 2 ^ 64 → Recovers a (with_generation generation contents) → Recovers b [] → PairRecovers a b contents
pair_alone a b generation contents small counts other = inl (record { generation = generation; small = small; counts = counts; beside = none_beside generation contents b other })

-- a pair of which one has begun anew
pub pair_renewed : (a b : List ℕ) (generation : ℕ) (content : List ℕ) → 0 < generation → generation < 2 ^ 64 → Recovers a ((to_be_bytes w64 generation ++ content) ∷ []) → IsBehind generation b → PairRecovers a b (content ∷ [])
pair_renewed a b generation content some small counts behind = inl (record { generation = generation; small = small; counts = counts; beside = behind_beside generation content [] b some behind })

pub kept_recovers : {D : Type 0} (g : Ghosts D) (j : Journal D) (contents : List (List ℕ)) → IsKept g j contents → LeavesOnly g j contents
kept_recovers g j contents kept c may = rests_recovers j.key contents j.end j.zeros c kept.small (kept.outcomes c may)

pub kept_opened : {D : Type 0} (g : Ghosts D) (j : Journal D) (contents : List (List ℕ)) → IsKept g j contents → IsOpened g j
kept_opened g j contents kept = record {
  small = kept.small;
  outcomes = λ c may.
      let r = kept.outcomes c may in
      record { front = r.front; more = omega (arith, blocks_le j.key c 72 contents j.end r.blocks, r.some, r.within) };
}

pub spare_opened : {D : Type 0} (g : Ghosts D) (j : Journal D) (generation : ℕ) → IsSpare g j generation → IsOpened g j
spare_opened g j generation s = record { small = s.small; outcomes = λ c may. subst (λ (f : List ℕ). HasFront j.key f) (sym (s.only c may)) s.has }

-- where the blocks of a file end with its front, it has none
pub ends_first : (key generation : ℕ) (file : List ℕ) (contents : List (List ℕ)) (end : ℕ) → AreBlocks key file 72 (with_generation generation contents) end → end ≡ 72 → contents ≡ []
ends_first key generation file [] end blocks here = refl
ends_first key generation file (x ∷ xs) end (is, more) here =
    absurd (omega (arith, here, blocks_le key file (end_of 72 (length (to_be_bytes w64 generation ++ x))) xs end more))

pub ends_later : (key generation : ℕ) (file : List ℕ) (contents : List (List ℕ)) (content : List ℕ) (end : ℕ) → AreBlocks key file 72 (with_generation generation contents) end → end ≢ 72
    → with_generation generation contents ++ content ∷ [] ≡ with_generation generation (contents ++ content ∷ [])
ends_later key generation file [] content end is far = absurd (far (sym is))
ends_later key generation file (x ∷ xs) content end is far = refl

-- the first block of a file, and those after it, with one more
pub begins_first : (generation : ℕ) (contents : List (List ℕ)) (content block : List ℕ) → contents ≡ [] → block ≡ to_be_bytes w64 generation ++ content
    → with_generation generation contents ++ block ∷ [] ≡ with_generation generation (contents ++ content ∷ [])
begins_first generation [] content block none is = ap (λ (b : List ℕ). b ∷ []) is
begins_first generation (x ∷ xs) content block none is = absurd (not_none _ _ none)

-- what a crash leaves of a pair that was read
pub counts_left : {D : Type 0} (g : Ghosts D) (p : Pair D) (contents : List (List ℕ)) → HasReadPair g p contents → Recovers (g.seen p.counts.disk) (with_generation p.generation contents)
    → LeavesOnly g p.counts (with_generation p.generation contents)
counts_left g p contents read r c may = subst (λ (f : List ℕ). Recovers f (with_generation p.generation contents)) (sym (read.read.reading.only c may)) r

-- what is beside the file that counts is left beside it
pub beside_left : {D : Type 0} (g : Ghosts D) (j : Journal D) (generation own : ℕ) (contents : List (List ℕ)) (c : List ℕ) → IsSpare g j generation → IsBeside own contents (g.seen j.disk) → g.may_leave j.disk c → IsBeside own contents c
beside_left g j generation own contents c s beside may = subst (λ (f : List ℕ). IsBeside own contents f) (sym (s.only c may)) beside

-- also while it is cleared
pub beside_cleared : {D : Type 0} (g : Ghosts D) (old new : Journal D) (generation own : ℕ) (contents : List (List ℕ)) → IsSpare g old generation → IsBeside own contents (g.seen old.disk)
    → (LeavesOnly g old [] → (c : List ℕ) → g.may_leave new.disk c → Recovers c [] ⊎ Recovers c []) → (LeavesBehind g old own → LeavesBehind g new own) → (c : List ℕ) → g.may_leave new.disk c → IsBeside own contents c
beside_cleared g old new generation zero contents s beside none behind c may =
    elim (none (λ left was. beside_left g old generation 0 contents left s beside was) c may) [ inl r ↦ r | inr r ↦ r ]
beside_cleared g old new generation (suc n) [] s beside none behind c may =
    elim (none (λ left was. beside_left g old generation (suc n) [] left s beside was) c may) [ inl r ↦ r | inr r ↦ r ]
beside_cleared g old new generation (suc n) (x ∷ xs) s beside none behind c may =
    behind (λ left was. beside_left g old generation (suc n) (x ∷ xs) left s beside was) c may

-- what the first block of a file tells
pub first_none : {D : Type 0} (g : Ghosts D) (j : Journal D) → IsAtEnd g j [] → 72 < length (g.seen j.disk) → HasFirst g j None
first_none g j read long = record {
  more = long;
  first = subst (λ at. IsNoBlock j.key (g.seen j.disk) at) (sym read.reading.blocks) read.nothing;
}

pub first_some : {D : Type 0} (g : Ghosts D) (j : Journal D) (block : List ℕ) (generation : ℕ) → IsReading g j (block ∷ []) → generation < 2 ^ 64 → BeginsWith generation block
    → HasFirst g (record { disk = j.disk; key = j.key; end = 72; zeros = j.zeros; len = j.len; mark = j.mark }) (Some generation)
first_some g j block generation reading small begins = record {
  more = omega (arith, reading.blocks.0.holds.within, length-block j.key 72 block);
  first = record { small = small; block = block; is = reading.blocks.0; begins = begins };
}

pub first_stays : {D : Type 0} (g : Ghosts D) (old new : Journal D) (told : Option ℕ) → Stays g old new → HasFirst g old told → HasFirst g new told
first_stays g old new told s has = record { more = rw s.reads.seen has.more; first = rw (s.reads.seen, s.key) has.first }

pub first_spare : {D : Type 0} (g : Ghosts D) (j : Journal D) (told : Option ℕ) (generation : ℕ) → IsReading g j [] → HasFirst g j told → IfSome told (λ h. h < generation) → IsSpare g j generation
first_spare g j told generation reading has low = record {
  small = reading.small;
  has = record { front = reading.front; more = has.more };
  only = reading.only;
  older = go told has.first low;
}
  where
    go : (t : Option ℕ) → MatchOption t (IsNoBlock j.key (g.seen j.disk) 72) (HasGeneration j.key (g.seen j.disk)) → IfSome t (λ h. h < generation)
        → (block : List ℕ) → IsBlock j.key (g.seen j.disk) 72 block → BeginsBelow generation block
    go None none low block b = absurd (none block b)
    go (Some h) f low block b = record {
      own = h;
      lower = low;
      content = f.begins.content;
      begins = one_block j.key (g.seen j.disk) 72 block f.block b f.is ∙ f.begins.begins;
    }

-- what was read of an option
pub match_weaker : {A : Type 0} {P R : Type 0} {Q S : A → Type 0} (o : Option A) → (P → R) → ((a : A) → Q a → S a) → MatchOption o P Q → MatchOption o R S
match_weaker None f h m = f m
match_weaker (Some a) f h m = h a m

-- disks that were only read
pub reads_then : {D : Type 0} (g : Ghosts D) (old mid new : D) → OnlyReads g old mid → OnlyReads g mid new → OnlyReads g old new
reads_then g old mid new a b = record { seen = b.seen ∙ a.seen; crash = λ c may. a.crash c (b.crash c may); clean = λ clean. a.clean (b.clean clean) }

pub reads_same : {D : Type 0} (g : Ghosts D) (d : D) → OnlyReads g d d
reads_same g d = record { seen = refl; crash = λ c may. may; clean = λ clean. clean }

pub pair_left : {D : Type 0} (g : Ghosts D) (one other one' other' : D) (contents : List (List ℕ)) → OnlyReads g one one' → OnlyReads g other other'
    → ((c d : List ℕ) → g.may_leave one c → g.may_leave other d → PairRecovers c d contents) → (c d : List ℕ) → g.may_leave one' c → g.may_leave other' d → PairRecovers c d contents
pair_left g one other one' other' contents first second leaves c d may might = leaves c d (first.crash c may) (second.crash d might)

-- where the two journals of a pair may have changed places
pub turned_left : {D : Type 0} (g : Ghosts D) (old new : Pair D) (contents : List (List ℕ)) → ((counting new ≡ counting old) × (spare_of new ≡ spare_of old)) ⊎ ((counting new ≡ spare_of old) × (spare_of new ≡ counting old))
    → PairLeavesOnly g old contents → PairLeavesOnly g new contents
turned_left g old new contents (inl (one, other)) leaves c d may might =
    leaves c d (subst (λ j. g.may_leave (disk_of j) c) one may) (subst (λ j. g.may_leave (disk_of j) d) other might)
turned_left g old new contents (inr (one, other)) leaves c d may might =
    turned d c contents (leaves d c (subst (λ j. g.may_leave (disk_of j) d) other might) (subst (λ j. g.may_leave (disk_of j) c) one may))

pub turned_clean : {D : Type 0} (g : Ghosts D) (old new : Pair D) → ((counting new ≡ counting old) × (spare_of new ≡ spare_of old)) ⊎ ((counting new ≡ spare_of old) × (spare_of new ≡ counting old))
    → IsCleanPair g new → IsCleanPair g old
turned_clean g old new (inl (one, other)) (a, b) = (subst (λ j. IsClean g j) one a, subst (λ j. IsClean g j) other b)
turned_clean g old new (inr (one, other)) (a, b) = (subst (λ j. IsClean g j) other b, subst (λ j. IsClean g j) one a)

-- a pair that is only read has read what it had
pub pair_read_stays : {D : Type 0} (g : Ghosts D) (old new : Pair D) → StaysPair g old new → (contents : List (List ℕ)) → HasReadPair g old contents → HasReadPair g new contents
pair_read_stays g old new s contents r = record {
  small = subst (λ (n : ℕ). n < 2 ^ 64) (sym s.generation) r.small;
  read = subst (λ (n : ℕ). HasRead g new.counts (with_generation n contents)) (sym s.generation) (read_stays g old.counts new.counts _ s.counts r.read);
  spare = subst (λ (n : ℕ). IsSpare g new.spare n) (sym s.generation) (subst (λ j. IsSpare g j old.generation) (sym s.spare) r.spare);
  none = λ e. s.generation ∙ r.none e;
}

-- files that were opened, and then only read
pub opened_then : {D : Type 0} (g : Ghosts D) (file : List ℕ) (old mid new : D) → IsBegun file ⊎ OnlyReads g old mid → OnlyReads g mid new → IsBegun file ⊎ OnlyReads g old new
opened_then g file old mid new (inl begun) reads = inl begun
opened_then g file old mid new (inr before) reads = inr (reads_then g old mid new before reads)

pub turned_opened : {D : Type 0} (g : Ghosts D) (old mid new : Pair D) → ((counting new ≡ counting mid) × (spare_of new ≡ spare_of mid)) ⊎ ((counting new ≡ spare_of mid) × (spare_of new ≡ counting mid))
    → WasOpened g old.counts mid.counts → WasOpened g old.spare mid.spare → WereOpened g old new
turned_opened g old mid new (inl (one, other)) a b = inl (subst (λ j. WasOpened g old.counts j) (sym one) a, subst (λ j. WasOpened g old.spare j) (sym other) b)
turned_opened g old mid new (inr (one, other)) a b = inr (subst (λ j. WasOpened g old.counts j) (sym other) a, subst (λ j. WasOpened g old.spare j) (sym one) b)

-- in the first generation the other file has no block
pub spare_nothing : {D : Type 0} (g : Ghosts D) (p : Pair D) → p.generation ≡ 0 → IsReadingPair g p [] → IsReading g p.spare [] → IsNoBlock p.spare.key (g.seen p.spare.disk) p.spare.end
spare_nothing g p is reading other block b = absurd (omega (arith, is, (reading.spare.older block (subst (λ at. IsBlock p.spare.key (g.seen p.spare.disk) at block) (sym other.blocks) b)).lower))

-- and stands for none, if the pair stands for something
pub spare_stands : {D : Type 0} (g : Ghosts D) (p : Pair D) (contents : List (List ℕ)) → p.generation ≡ 0 → IsReadingPair g p [] → IsOfGeneration g p.counts p.generation → PairStandsFor g p contents → Recovers (g.seen p.spare.disk) []
spare_stands g p [] is reading of (inl c) = beside_none c.generation _ c.beside
spare_stands g p [] is reading of (inr c) = c.counts
spare_stands g p (x ∷ xs) is reading of (inr c) =
    absurd (omega (arith, is, lower_than c.generation p.generation (g.seen p.spare.disk) x xs c.small reading.small (spare_behind g p.spare p.generation reading.spare) c.counts))
spare_stands g p (x ∷ xs) is reading of (inl c) = subst (λ n. IsBeside n (x ∷ xs) (g.seen p.spare.disk)) first c.beside
  where
    file : List ℕ
    file = g.seen p.counts.disk

    here : IsBlock p.counts.key file 72 (to_be_bytes w64 c.generation ++ x)
    here = subst (λ k. IsBlock k file 72 (to_be_bytes w64 c.generation ++ x)) (one_key file c.counts.key p.counts.key c.counts.small reading.reading.small c.counts.front reading.reading.front) (c.counts.blocks.0)

    first : c.generation ≡ 0
    first = elim of [
      | inl has ↦ (one_generation c.generation p.generation x has.first.begins.content c.small reading.small (one_block p.counts.key file 72 _ _ here has.first.is ∙ has.first.begins.begins)).0 ∙ is
      | inr (none, _) ↦ absurd (none.first _ here)
    ]

-- a file that doesn't count is behind also where it was only read
pub spare_stays : {D : Type 0} (g : Ghosts D) (old new : Journal D) (generation : ℕ) → Stays g old new → IsSpare g old generation → IsSpare g new generation
spare_stays g old new generation s was = record {
  small = rw s.key was.small;
  has = rw (s.key, s.reads.seen) was.has;
  only = λ c may. was.only c (s.reads.crash c may) ∙ sym s.reads.seen;
  older = rw (s.reads.seen, s.key) was.older;
}

-- a pair whose other file alone was read since
pub spare_read_left : {D : Type 0} (g : Ghosts D) (mid new : Pair D) (contents : List (List ℕ)) → counting new ≡ counting mid → Stays g (spare_of mid) (spare_of new) → PairLeavesOnly g mid contents → PairLeavesOnly g new contents
spare_read_left g mid new contents same s leaves c d may might = leaves c d (subst (λ j. g.may_leave (disk_of j) c) same may) (s.reads.crash d might)

pub spare_read_opened : {D : Type 0} (g : Ghosts D) (old mid new : Pair D) → counting new ≡ counting mid → Stays g (spare_of mid) (spare_of new) → WereOpened g old mid → WereOpened g old new
spare_read_opened g old mid new same s (inl (a, b)) = inl (subst (λ j. WasOpened g old.counts j) (sym same) a, opened_then g _ _ _ _ b s.reads)
spare_read_opened g old mid new same s (inr (a, b)) = inr (opened_then g _ _ _ _ a s.reads, subst (λ j. WasOpened g old.spare j) (sym same) b)

pub spare_read_clean : {D : Type 0} (g : Ghosts D) (mid new : Pair D) → counting new ≡ counting mid → Stays g (spare_of mid) (spare_of new) → IsCleanPair g new → IsCleanPair g mid
spare_read_clean g mid new same s (a, b) = (subst (λ j. IsClean g j) same a, s.reads.clean b)

pub spare_read_reading : {D : Type 0} (g : Ghosts D) (mid new : Pair D) → counting new ≡ counting mid → Stays g (spare_of mid) (spare_of new) → generation_of new ≡ generation_of mid → IsReadingPair g mid [] → IsReadingPair g new []
spare_read_reading g mid new same s of r = record {
  small = subst (λ (n : ℕ). n < 2 ^ 64) (sym of) r.small;
  reading = subst (λ j. IsReading g j []) (sym same) r.reading;
  spare = subst (λ (n : ℕ). IsSpare g new.spare n) (sym of) (spare_stays g mid.spare new.spare mid.generation s r.spare);
}

-- what a pair stands for that was only read and turned
pub turned_stands : {D : Type 0} (g : Ghosts D) (old mid new : Pair D) (contents : List (List ℕ)) → ((counting new ≡ counting mid) × (spare_of new ≡ spare_of mid)) ⊎ ((counting new ≡ spare_of mid) × (spare_of new ≡ counting mid))
    → OnlyReads g old.counts.disk mid.counts.disk → OnlyReads g old.spare.disk mid.spare.disk → PairStandsFor g old contents → PairStandsFor g new contents
turned_stands g old mid new contents turn a b stands =
    let here : PairRecovers (g.seen mid.counts.disk) (g.seen mid.spare.disk) contents = rw (a.seen, b.seen) stands in
    elim turn [
      | inl (one, other) ↦ subst (λ j. PairRecovers (g.seen (disk_of j)) (g.seen new.spare.disk) contents) (sym one) (subst (λ j. PairRecovers (g.seen mid.counts.disk) (g.seen (disk_of j)) contents) (sym other) here)
      | inr (one, other) ↦ subst (λ j. PairRecovers (g.seen (disk_of j)) (g.seen new.spare.disk) contents) (sym one) (subst (λ j. PairRecovers (g.seen mid.spare.disk) (g.seen (disk_of j)) contents) (sym other) (turned _ _ contents here))
    ]

pub turned_spare : {D : Type 0} (g : Ghosts D) (mid new : Pair D) → ((counting new ≡ counting mid) × (spare_of new ≡ spare_of mid)) ⊎ ((counting new ≡ spare_of mid) × (spare_of new ≡ counting mid))
    → IsReading g mid.counts [] → IsReading g mid.spare [] → IsReading g new.spare []
turned_spare g mid new (inl (one, other)) a b = subst (λ j. IsReading g j []) (sym other) b
turned_spare g mid new (inr (one, other)) a b = subst (λ j. IsReading g j []) (sym other) a
