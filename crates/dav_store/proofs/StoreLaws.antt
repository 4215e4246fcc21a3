-- Stores in memory, from what any store promises.
use Rattle.std.proofs.Common.{◌≡◌, Bool, true, Result, Ok, Err, inl, inr, ap, ◌∙◌}
use Rattle.dav_core.specs.declared.errors.FsError.{FsError}
use Rattle.dav_core.specs.declared.errors.FsError.TheVariants.{InsufficientStorage}
use Rattle.dav_core.specs.World.{World}
use Rattle.dav_core.specs.Meaning.{Meaning}
use Rattle.dav_core.specs.Asking.{IsAnswered, meaning, asked, ran_short, answered}
use Rattle.dav_store.specs.Store.{Store, Answers, AnswersExactly, state_of}
use Rattle.dav_store.specs.Laws.{MemoryComesLast, NeverRunsShort}

abbrev store_of : World → Bool → Store
store_of w short = record { world = w; short = short }

is_store_of : (s : Store) (w : World) (short : Bool) → s.world ≡ w → s.short ≡ short → s ≡ record { world = w; short = short }
is_store_of s w short h k = ap (λ v. store_of v s.short) h ∙ ap (store_of w) k

-- an answer by the meaning
exactly : {A : Type 0} (m : Meaning A) (answer : Result A FsError) (old new : Store) → (answer, new.world) ≡ answered old.world m → new.short ≡ old.short
    → AnswersExactly m answer old new
exactly (Err e) answer old new is flag = (ap (λ x. x.0) is, is_store_of new old.world old.short (ap (λ x. x.1) is) flag)
exactly (Ok (a, w)) answer old new is flag = (ap (λ x. x.0) is, is_store_of new w old.short (ap (λ x. x.1) is) flag)

-- the same is an answer of a call that may run out of memory
by_meaning : {A : Type 0} (m : Meaning A) (answer : Result A FsError) (old new : Store) → AnswersExactly m answer old new → Answers m answer old new
by_meaning (Err e) answer old new h = h
by_meaning (Ok (a, w)) answer old new h = inl h

-- and so is the error, where no rule refuses
out_of_memory : {A : Type 0} (m : Meaning A) (answer : Result A FsError) (old new : Store) → IsAnswered m → answer ≡ Err InsufficientStorage
    → new.world ≡ old.world → new.short ≡ true → Answers m answer old new
out_of_memory (Err e) answer old new allowed is same flag = absurd allowed
out_of_memory (Ok (a, w)) answer old new allowed is same flag = inr (is, is_store_of new old.world true same flag)

pub memory_comes_last : MemoryComesLast state_of
memory_comes_last call old new answer (asked h) =
    by_meaning (meaning call old.world) answer old new (exactly (meaning call old.world) answer old new h.as_asked h.short)
memory_comes_last call old new answer (ran_short h) =
    out_of_memory (meaning call old.world) answer old new h.allowed h.answer_is h.world h.short

pub never_runs_short : NeverRunsShort state_of
never_runs_short call old new answer none (asked h) = exactly (meaning call old.world) answer old new h.as_asked h.short
never_runs_short call old new answer none (ran_short h) = absurd (none h.takes_memory)
