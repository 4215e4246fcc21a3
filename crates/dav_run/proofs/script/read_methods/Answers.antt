use Rattle.std.proofs.Common.{Option, subst}
use Rattle.std.specs.Prelude.{IsSomeAnd}
use Rattle.serde_json.specs.Data.{Items}
use Rattle.dav_run.specs.Script.{AreMethods}
use Rattle.dav_run.proofs.script.read_methods.Goals as goal

pub returns-in_ok-list_of-in-Some-clause-none : goal.returns-in_ok-list_of-in-Some-clause-none
returns-in_ok-list_of-in-Some-clause-none c = λ e set are.
    let Are : Option Items → Type 0 = λ o. IsSomeAnd o (λ ds. AreMethods ds set) in
    c.read_method_list.ensures.none e set (subst Are c.in_ok-list_of-in-Some.ensures.ok (rw c.in-Some.is at are))
