-- What contracts see of a store in memory, and what its calls answer.
use Rattle.std.specs.Prelude.{◌≡◌, ◌⊎◌, [], Bool, true, Option, Some, None, Result, Ok, Err}
use Rattle.dav_core.specs.declared.errors.FsError.{FsError}
use Rattle.dav_core.specs.declared.errors.FsError.TheVariants.{InsufficientStorage}
use Rattle.dav_core.specs.World.{World}
use Rattle.dav_core.specs.Meaning.{Meaning}
use Rattle.dav_core.specs.Asking.{StoreState}

-- What contracts see of a store in memory: the world that it holds, and whether an allocation in it ever failed.
pub record Store : Type 0 where
  pub world : World
  pub short : Bool

-- How a call that allocates nothing is answered: as it means, and it leaves the world that it means; after an error the store is as it
-- was.
abbrev pub AnswersExactly : {A : Type 0} → Meaning A → Result A FsError → Store → Store → Type 0
AnswersExactly (Err e) result old new = (result ≡ Err e) × (new ≡ old)
AnswersExactly (Ok (a, w)) result old new = (result ≡ Ok a) × (new ≡ record old { world = w })

-- How a call that allocates is answered: as it means, and it leaves the world that it means; after an error of its rules the store is as
-- it was. Where no rule refuses it, an allocation may still fail: then the answer is InsufficientStorage, and nothing changes but that
-- the store remembers it.
abbrev pub Answers : {A : Type 0} → Meaning A → Result A FsError → Store → Store → Type 0
Answers (Err e) result old new = (result ≡ Err e) × (new ≡ old)
Answers (Ok (a, w)) result old new =
    ((result ≡ Ok a) × (new ≡ record old { world = w })) ⊎ ((result ≡ Err InsufficientStorage) × (new ≡ record old { short = true }))

-- what the trait's contracts see of a store in memory: its world, no refusals to come, and whether an allocation ever failed
abbrev pub state_of : Store → StoreState
state_of s = record { world = s.world; refusals = []; short = s.short }

-- the error by which a rule of a call refuses it; none where no rule does
abbrev pub refusal_in : {A : Type 0} → Meaning A → Option FsError
refusal_in (Ok r) = None
refusal_in (Err e) = Some e
