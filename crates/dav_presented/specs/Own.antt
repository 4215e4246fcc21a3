-- What a PROPPATCH sets of the server's own properties (RFC 4918, section 9.2).
use Rattle.std.specs.Prelude.{◌≡◌, ℕ, true, List, Some}
use Rattle.std.specs.List.{AllByRecursion}
use Rattle.dav_core.specs.Element.{ElementTree, namespace_of}
use Rattle.dav_engine.specs.declared.request.Body.TheVariants as body
use Rattle.dav_engine.specs.Proppatch.{Change, changes_in}
use Rattle.dav_presented.specs.Times.{kept, own_space, patch_as}

-- A property of the server's own namespace is a time that is kept, set at this moment.
abbrev pub IsKeptIfOwn : ℕ → ElementTree → Type 0
IsKeptIfOwn moment e = namespace_of e ≡ Some own_space → (name : List ℕ) × (time : ℕ) × (e ≡ kept name time moment)

-- Whatever a client sends as the body of a PROPPATCH: what is set of it in the server's own namespace are times, with the moment of the
-- request. So no client makes a time that outlasts a change.
abbrev pub NoTimeIsForged : Type 0
NoTimeIsForged =
    (moment : ℕ) (tree : ElementTree) (changes : List Change) → changes_in (body.Tree (patch_as moment tree)) ≡ Some changes
    → AllByRecursion (λ c. c.is_set ≡ true → IsKeptIfOwn moment c.property) changes
