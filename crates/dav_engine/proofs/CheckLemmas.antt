-- What the answer of a list of locks says: whether the path isn't locked against the requester.
use Rattle.std.proofs.Common.{◌≡◌, Bool, true, false, not, List, Option, Some, Result, Ok, Err, refl, sym, ◌∙◌}
use Rattle.std.proofs.lemmas.List.Sums.{AllPass-from_list_all}
use Rattle.std.proofs.lemmas.List.Elements.{All-contains}
use Rattle.dav_core.specs.Path.{Path}
use Rattle.dav_core.specs.Locks.{Lock, Requester, Checks, free, conflicting, is_free_for, conflicts}
use denote.Ref.{Bor}
use Rattle.std.specs.Result.{is_ok}
use Rattle.dav_core.specs.Locks.{lent}
use Rattle.dav_engine.specs.ConditionView.{locks_in}
use Rattle.dav_engine.specs.Method.{is_open}
use Rattle.dav_core.proofs.Theorems.{free_is_no_conflict}

-- where a lock conflicts, not every lock is without conflict
not_free : (free blocks : Bool) → blocks ≡ true → (free ≡ true → not blocks ≡ true) → free ≡ false
not_free false blocks b f = refl
not_free true true b f = sym (f refl)
not_free true false b f = sym b

-- a check answers `Ok` exactly where no lock conflicts
pub answered : (deep : Bool) (who : Requester) (p : Path) (ls : List Lock) (r : Result (Unit {0}) (Bor Lock)) → Checks deep who p ls (lent r) → is_ok r ≡ is_free_for deep who p ls
answered deep who p ls (Ok u) (free is) = sym is
answered deep who p ls (Err l) (conflicting here blocks) = sym (not_free (is_free_for deep who p ls) (conflicts deep who p ls l.now) blocks (λ is.
    All-contains (λ m. not (conflicts deep who p ls m) ≡ true) ls l.now
    (AllPass-from_list_all (λ m. not (conflicts deep who p ls m)) ls (sym (free_is_no_conflict deep who p ls) ∙ is)) here))

-- a path on which no borrowed lock conflicts isn't locked against the requester
pub opened : {L : Type 0} (locks : L → List Lock) (deep : Bool) (who : Requester) (p : Path) (ls : Option (Bor L)) (l : Bor L) (b : Bool)
    → ls ≡ Some l → b ≡ is_free_for deep who p (locks l.now) → b ≡ is_open deep who p (locks_in locks ls)
opened locks deep who p ls l b is same = rw is same
