-- A journal that is cleared.
use Rattle.std.proofs.Common.{◌≡◌, ◌≢◌, ◌⊎◌, ℕ, ◌<◌, ◌^◌, List, [], slice_index, replicate, refl, sym, ◌∙◌, ap, subst, inl, inr, arith}
use Rattle.std.proofs.lemmas.Bool.{cases_eq, cases_lt}
use Rattle.std.proofs.lemmas.List.{ext_get_or}
use Rattle.sqlite_disk.specs.Disk.{Mixed, Torn}
use Rattle.sqlite_disk.specs.declared.Disk.{Ghosts}
use Rattle.dav_journal.specs.declared.journal.Journal.{Journal}
use Rattle.dav_journal.specs.Block.{block_bytes, front_of}
use Rattle.dav_journal.specs.File.{Recovers}
use Rattle.dav_journal.specs.Journal.{Ends, HasFront, IsBehind, IsOpened, Stays}
use Rattle.dav_journal.specs.Mark.{IsBlank, IsMarkPlace, KeepsOthers}
use Rattle.dav_journal.proofs.BlockLemmas.{holds_kept, length-front}
use Rattle.dav_journal.proofs.CutLemmas.{ends_recovers, torn_front}
use Rattle.dav_journal.proofs.FrontLemmas.{holds_after, others_front}
use Rattle.dav_journal.proofs.MarkLemmas.{blank_kept, blank_mark, others_back, torn_others}

pub opened_stays : {D : Type 0} (g : Ghosts D) (old new : Journal D) → Stays g old new → IsOpened g old → IsOpened g new
opened_stays g old new s o = record { small = rw s.key o.small; outcomes = λ c may. rw s.key (o.outcomes c (s.reads.crash c may)) }

-- a file without marks whose first gate is shut
pub bare_ends : (key : ℕ) (file : List ℕ) → HasFront key file → ((at : ℕ) → IsMarkPlace at → IsBlank file at) → slice_index file 72 ≢ 1 → Ends key [] 72 file
bare_ends key file has blank gate = record {
  front = has.front;
  blocks = refl;
  more = has.more;
  shut = inl gate;
  marks = λ at is. blank_mark file 72 at (blank at is);
}

-- what a write over the first gate leaves but for it
pub torn_has : (key : ℕ) (old new : List ℕ) → HasFront key old → Torn 72 1 old new → HasFront key new
torn_has key old new has t =
    let keeps = torn_front 72 1 old new (omega (arith, has.more)) t in
    record { front = holds_kept 72 0 (front_of key) old new has.front keeps (omega (arith, length-front key)); more = omega (arith, has.more, t.no_shorter) }

pub torn_blank : (key : ℕ) (old new : List ℕ) → HasFront key old → ((at : ℕ) → IsMarkPlace at → IsBlank old at) → Torn 72 1 old new → (at : ℕ) → IsMarkPlace at → IsBlank new at
torn_blank key old new has blank t at is = blank_kept 72 old new at (omega arith) is (blank at is) (torn_front 72 1 old new (omega (arith, has.more)) t)

-- where the first gate is open before and after, nothing has changed
pub gate_same : (key : ℕ) (old new : List ℕ) → HasFront key old → Torn 72 1 old new → slice_index old 72 ≡ 1 → slice_index new 72 ≡ 1 → new ≡ old
gate_same key old new has t before after = ext_get_or 0 new old (omega (arith, has.more, t.no_shorter, t.no_longer)) (λ i low. elim (cases_lt i 72) [
  | inl below ↦ t.below i (omega (arith, below, has.more)) below
  | inr past ↦ elim (cases_eq i 72) [
    | inl here ↦ ap (slice_index new) here ∙ after ∙ sym before ∙ ap (slice_index old) (sym here)
    | inr other ↦ t.above i (omega (arith, low, has.more, t.no_shorter, t.no_longer)) (omega (arith, past, other))
  ]
])

-- while the first gate is shut
pub first_left : (key : ℕ) (old new : List ℕ) (contents : List (List ℕ)) → key < 2 ^ 64 → HasFront key old → ((at : ℕ) → IsMarkPlace at → IsBlank old at) → slice_index old 72 ≡ 1 → Torn 72 1 old new
    → Recovers old contents → Recovers new contents ⊎ Recovers new []
first_left key old new contents small has blank is_open t r = elim (cases_eq (slice_index new 72) 1) [
  | inl same ↦ inl (subst (λ (f : List ℕ). Recovers f contents) (sym (gate_same key old new has t is_open same)) r)
  | inr other ↦ inr (ends_recovers key [] 72 new small (bare_ends key new (torn_has key old new has t) (torn_blank key old new has blank t) other))
]

-- a write of zeros over the marks leaves the front
pub others_has : (key : ℕ) (old new : List ℕ) → KeepsOthers old new → HasFront key old → HasFront key new
others_has key old new k has = record { front = others_front key old new k has.front; more = omega (arith, has.more, k.same_length) }

-- and no other first block
pub others_behind : (generation : ℕ) (old new : List ℕ) → KeepsOthers old new → IsBehind generation old → IsBehind generation new
others_behind generation old new k b = record {
  key = b.key;
  small = b.small;
  has = others_has b.key old new k b.has;
  older = λ block is. b.older block (record { small = is.small; holds = holds_after 72 (block_bytes b.key 72 block) new old (omega arith) (others_back old new k) is.holds });
}

-- also while marks are lost
pub cleared_behind : (generation : ℕ) (old new : List ℕ) → IsBehind generation old → Mixed 24 (replicate 48 0) old new → IsBehind generation new
cleared_behind generation old new b m =
    others_behind generation old new (torn_others 24 48 old new (omega arith) (omega arith) (omega (arith, b.has.more)) m.torn) b

-- and while the first gate is shut
pub behind_left : (key generation : ℕ) (old new : List ℕ) → key < 2 ^ 64 → HasFront key old → slice_index old 72 ≡ 1 → Torn 72 1 old new → IsBehind generation old → IsBehind generation new
behind_left key generation old new small has is_open t b = elim (cases_eq (slice_index new 72) 1) [
  | inl same ↦ subst (λ (f : List ℕ). IsBehind generation f) (sym (gate_same key old new has t is_open same)) b
  | inr other ↦ record { key = key; small = small; has = torn_has key old new has t; older = λ block is. absurd (other (is.holds.each 0 (omega arith))) }
]
