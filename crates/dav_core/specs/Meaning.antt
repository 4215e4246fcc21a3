-- What a call of a store means: its answer and the world after it, or an error. An error carries no world, so a call
-- that is refused changes nothing.
use Rattle.std.specs.Prelude.{ℕ, ◌==◌, Bool, true, false, Option, Some, None, Result, Err}
use Rattle.dav_core.specs.declared.errors.FsError.{FsError}
use Rattle.dav_core.specs.declared.errors.FsError.TheVariants.{NotFound, GeneralFailure}
use Rattle.dav_core.specs.World.{World, Node, last_number}

-- what a call means: an answer and the world after it, or an error, with which nothing changes
abbrev pub Meaning : Type 0 → Type 0
Meaning A = Result (A × World) FsError

-- an error where the test holds; else what follows
abbrev pub refuse_if : {A : Type 0} → Bool → FsError → Meaning A → Meaning A
refuse_if true e m = Err e
refuse_if false e m = m

-- What follows for the node that is there; NotFound where there is none.
abbrev pub at_node : {A : Type 0} → Option Node → (Node → Meaning A) → Meaning A
at_node None f = Err NotFound
at_node (Some n) f = f n

-- What follows with the next change number; GeneralFailure where none is left.
abbrev pub numbered : {A : Type 0} → World → (ℕ → Meaning A) → Meaning A
numbered w f = refuse_if (w.next == last_number) GeneralFailure (f w.next)
