-- An error that a `?` returns unchanged.
use Rattle.std.proofs.Common.{◌≡◌, Result, Err, IsErrOf, IsErrAnd, sym, ap, ◌∙◌}
use Rattle.std.proofs.lemmas.Result.{err_from_is_err_and}
use Rattle.dav_run.specs.declared.script.ScriptError.{ScriptError}

injected : {T : Type 0} (x y : ScriptError) → ◌≡◌ {A = Result T ScriptError} (Err x) (Err y) → x ≡ y
injected x y e = cc

-- where the returned error is this one, so is the one that was met
pub handed_on : {T U : Type 0} (r : Result U ScriptError) (from it : ScriptError) → IsErrAnd r (λ e. e ≡ from)
    → IsErrOf r it → ◌≡◌ {A = Result T ScriptError} (Err from) (Err it)
handed_on r from it same is =
    let (e, err, given) = err_from_is_err_and r same in
    ap Err (sym given ∙ injected e it (sym err ∙ is))
