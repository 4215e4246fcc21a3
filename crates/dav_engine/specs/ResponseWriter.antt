-- What tells properties of resources to what takes the responses, and what each of its steps adds.
use Rattle.std.specs.Prelude.{◌≡◌, List, [], ◌∷◌, None, Result, Ok, Err}
use Rattle.dav_core.specs.Asking.{StoreState, Asks}
use Rattle.dav_core.specs.Element.{ElementTree}
use Rattle.dav_engine.specs.Method.{MethodPlan}
use Rattle.dav_engine.specs.Plan.{Locks, Ran, Cut}
use Rattle.dav_engine.specs.Properties.{Writer, QuotaKnown, WithQuota, told_by}
use Rattle.dav_engine.specs.Taking.{taken_all}

-- The state of what hands responses on: how properties are reported, what is known of the quota, and what takes the responses, after
-- it took those that were handed on.
pub record ResponseWriter (T : Type 0) : Type 0 where
  pub writer : Writer
  pub quota : QuotaKnown
  pub finished : T

-- A writer that handed no response on yet: the multistatus was handed on without any.
abbrev pub started : {T : Type 0} → (opened : T → ElementTree → T) → Writer → T → ResponseWriter T
started opened w to = record { writer = w; quota = None; finished = opened to (told_by w []) }

-- More responses were handed on.
abbrev pub hands_on : {T : Type 0} → (taken : T → ElementTree → T) → ResponseWriter T → List ElementTree → ResponseWriter T
hands_on taken w more = record w { finished = taken_all taken w.finished more }

-- A part of a plan, which begins with what is known of the quota, was carried out with this list of locks, which stays: its
-- responses were added so. Or, where an error is returned, memory ran out in the part.
abbrev pub Tells : {A X E T : Type 0} → Locks → (add : ResponseWriter T → List ElementTree → ResponseWriter T) → (A → List ElementTree) → (QuotaKnown → MethodPlan (WithQuota A))
    → ResponseWriter T → (X → ResponseWriter T) → StoreState → Result X E → StoreState → Type 0
Tells {A} locks add responses part old after s (Ok x) t =
    (told : A) × Ran Asks (part old.quota) s locks (Ok (told, (after x).quota)) t locks
    × (after x ≡ add (record old { quota = (after x).quota }) (responses told))
Tells locks add responses part old after s (Err _) t = Cut Asks locks (part old.quota) s locks t locks

-- A single response, as a list.
abbrev pub alone : ElementTree → List ElementTree
alone response = response ∷ []
