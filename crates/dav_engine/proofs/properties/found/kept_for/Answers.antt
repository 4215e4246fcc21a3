use Rattle.dav_engine.specs.Follows.{followed}
use Rattle.dav_engine.specs.Plan.{ran_done}
use Rattle.dav_engine.proofs.properties.found.kept_for.Goals as goal

pub returns-in-Requested : goal.returns-in-Requested
returns-in-Requested g c = rw c.in-Requested.is c.kept_property.ensures

pub returns-in-AllProperties : goal.returns-in-AllProperties
returns-in-AllProperties g c = rw c.in-AllProperties.is (λ ls. followed ran_done)

pub returns-in-NamesAlone : goal.returns-in-NamesAlone
returns-in-NamesAlone g c = rw c.in-NamesAlone.is (λ ls. followed ran_done)

pub returns-in-Outcomes : goal.returns-in-Outcomes
returns-in-Outcomes g c = rw c.in-Outcomes.is (λ ls. followed ran_done)

pub returns-in-Others : goal.returns-in-Others
returns-in-Others g c = rw c.in-Others.is (λ ls. followed ran_done)
