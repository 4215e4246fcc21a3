use Rattle.std.proofs.Common.{refl}
use Rattle.dav_server.specs.Machine.{untouched}
use Rattle.dav_server.specs.Server.{StopsIn}
use Rattle.dav_server.proofs.StepLemmas.{any_err}
use Rattle.dav_server.proofs.run.answer_next.Goals as goal

pub returns-in_err-reserve-clause-cut : goal.returns-in_err-reserve-clause-cut
returns-in_err-reserve-clause-cut g c = any_err {P = StopsIn _ _ _} _ (record { cut = untouched; reading = λ safe. (refl, refl); ungranted = λ asks unused. (refl, refl) })
