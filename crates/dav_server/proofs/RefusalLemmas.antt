-- What a list of refusals before a store does at the next call.
use Rattle.std.proofs.Common.{◌≡◌, List, [], ◌∷◌, Option, Some, None, refl, ap}
use Rattle.dav_core.specs.declared.errors.FsError.{FsError}
use Rattle.dav_core.specs.Asking.{rest_of, next_refusal}
use Rattle.dav_server.specs.Refusals.{refusals_over}

-- an error at its head refuses the call, and the store's own refusals stay
pub over_refused : (list inner : List (Option FsError)) (e : FsError) → next_refusal list ≡ Some e → (next_refusal (refusals_over list inner) ≡ Some e) × (rest_of (refusals_over list inner) ≡ refusals_over (rest_of list) inner)
over_refused [] inner e h = cc
over_refused (Some x ∷ list) inner e h = (h, refl)
over_refused (None ∷ list) inner e h = cc

-- without one it is the store's own refusals that decide
pub over_passed : (list inner : List (Option FsError)) → next_refusal list ≡ None → (next_refusal (refusals_over list inner) ≡ next_refusal inner) × (rest_of (refusals_over list inner) ≡ refusals_over (rest_of list) (rest_of inner))
over_passed [] inner h = (refl, refl)
over_passed (Some x ∷ list) inner h = cc
over_passed (None ∷ list) [] h = (refl, refl)
over_passed (None ∷ list) (r ∷ inner) h = (refl, refl)

-- before a store that has no refusals of its own, the list is all of them
pub over_none : (list : List (Option FsError)) → refusals_over list [] ≡ list
over_none [] = refl
over_none (Some e ∷ list) = ap (λ (rest : List (Option FsError)). Some e ∷ rest) (over_none list)
over_none (None ∷ list) = ap (λ (rest : List (Option FsError)). None ∷ rest) (over_none list)
