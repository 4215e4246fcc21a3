-- What calls that read what was saved ensure.
use Rattle.std.proofs.Common.{◌≡◌, ℕ, List, ◌++◌, Some, Result, Ok, Err}
use Rattle.std.specs.Prelude.{IfOk}
use Rattle.dav_saved.specs.declared.errors.LoadError.{LoadError}
use Rattle.dav_saved.specs.Reading.{Read, Gives}

-- what is read is saved so, where what reading gives is
pub whole_of : {X Y : Type 0} (spell : Y → List ℕ) (view : X → Y × List ℕ) (r : Result X LoadError) (read : Read Y) (bytes : List ℕ)
    → ((y : Y × List ℕ) → read ≡ Some y → bytes ≡ spell y.0 ++ y.1) → Gives view r read → IfOk r (λ x. bytes ≡ spell (view x).0 ++ (view x).1)
whole_of spell view (Ok x) read bytes takes e = takes (view x) e
whole_of spell view (Err d) read bytes takes e = tt
