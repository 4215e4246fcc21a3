-- A list of refusals before a store.
use Rattle.std.specs.Prelude.{List, [], ◌∷◌, Option, Some, None}
use Rattle.dav_core.specs.declared.errors.FsError.{FsError}
use Rattle.dav_core.specs.Asking.{StoreState}

-- What contracts see of a store with a list of refusals before it: the store, and the entries that are left of the list,
-- one for each call to come, an error where that call is refused.
pub record RefusingStore (F : Type 0) : Type 0 where
  pub inner : F
  pub coming : List (Option FsError)

-- The refusals to come of a store with a list of refusals before its own. A call that the list refuses doesn't reach the store, and so
-- uses up none of the store's own refusals.
abbrev pub refusals_over : List (Option FsError) → List (Option FsError) → List (Option FsError)
refusals_over [] inner = inner
refusals_over (Some e ∷ list) inner = Some e ∷ refusals_over list inner
refusals_over (None ∷ list) [] = None ∷ refusals_over list []
refusals_over (None ∷ list) (r ∷ inner) = r ∷ refusals_over list inner

-- the state of a store, with a list of refusals before its own
abbrev pub with_refusals : List (Option FsError) → StoreState → StoreState
with_refusals list s = record s { refusals = refusals_over list s.refusals }
