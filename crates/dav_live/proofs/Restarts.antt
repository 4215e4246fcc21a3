-- A first day begins a run, and each start goes on with the run that was.
use Rattle.std.proofs.Common.{ℕ, List}
use Rattle.dav_http.specs.Saved.{IsSaveable, Loads, saved_bytes}
use Rattle.dav_live.specs.Answers.{IsAnswer}
use Rattle.dav_live.specs.Life.{FirstDaysBegin, RestartsGoOn}
use Rattle.dav_live.proofs.FirstDays.{begins}
use Rattle.dav_live.proofs.OneAnswer.{answers_are_one}
use Rattle.dav_live.proofs.RunLemmas.{starts}
use Rattle.dav_live.specs.SavedRuns.{loads_what_was_saved}

pub first_days_begin : {J : Type 0} (has_read : J → List (List ℕ) → Type 0) → FirstDaysBegin has_read
first_days_begin has_read first start blocks new opened fresh =
    begins IsAnswer saved_bytes IsSaveable Loads loads_what_was_saved first has_read start blocks new opened fresh

pub restarts_go_on : {J : Type 0} (kept has_read : J → List (List ℕ) → Type 0) → RestartsGoOn kept has_read
restarts_go_on kept has_read first records old new one start blocks left opened =
    starts IsAnswer saved_bytes IsSaveable Loads loads_what_was_saved answers_are_one first kept has_read records old new one start blocks left opened opened.empty
