-- What callers may rely on of every call of a store in memory, beyond what any store promises.
use Rattle.std.specs.Prelude.{◌≡◌, [], Result}
use Rattle.dav_core.specs.declared.errors.FsError.{FsError}
use Rattle.dav_core.specs.Asking.{Call, Answer, TakesMemory, Asks, StoreState, meaning}
use Rattle.dav_store.specs.Store.{Store, Answers, AnswersExactly}

-- the trait's contracts see of each store in memory its world, no refusals to come, and whether an allocation in it ever failed
abbrev pub RefusesNothing : (Store → StoreState) → Type 0
RefusesNothing state = (s : Store) → state s ≡ record { world = s.world; refusals = []; short = s.short }

-- each call of a store in memory is answered as it means; only where no rule of the call refuses it may it report that memory ran out
abbrev pub MemoryComesLast : (Store → StoreState) → Type 0
MemoryComesLast state =
    (call : Call) (old new : Store) (answer : Result (Answer call) FsError) → Asks call (state old) answer (state new)
    → Answers (meaning call old.world) answer old new

-- a call of a store in memory that allocates nothing is answered exactly as it means, never by an error for memory
abbrev pub NeverRunsShort : (Store → StoreState) → Type 0
NeverRunsShort state =
    (call : Call) (old new : Store) (answer : Result (Answer call) FsError) → (TakesMemory call → ⊥) → Asks call (state old) answer (state new)
    → AnswersExactly (meaning call old.world) answer old new
