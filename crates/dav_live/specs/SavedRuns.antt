-- What was saved of a server, to which a run of records led, is loaded as that server.
use Rattle.std.proofs.Common.{◌≡◌, List, [], ◌∷◌, ap, ◌∙◌}
use Rattle.http_server.specs.declared.response.Response.{Response}
use Rattle.dav_http.specs.Saved.{IsSaveable, Loads, saved_bytes}
use Rattle.dav_http.proofs.SavedLaws.{saved_is_loaded}
use Rattle.dav_kept.specs.Kept.{LoadsWhatWasSaved, RecordsRun, answer_step}
use Rattle.dav_kept.specs.Records.{RecordView, RequestView}
use Rattle.dav_server.specs.Server.{Server}
use Rattle.dav_live.specs.Answers.{IsAnswer, replied, shown}

-- an answer leaves the settings as they are
same_settings : (old new : Server) (q : RequestView) (sent : Response) → IsAnswer old q sent new → new.settings ≡ old.settings
same_settings old new q sent (replied r step is) = step.same
same_settings old _ q sent (shown r sees step status page) = step.same

-- and so does a run of records
run_settings : (first last : Server) (records : List RecordView) → RecordsRun (answer_step IsAnswer) first records last → last.settings ≡ first.settings
run_settings first last [] same = ap (λ (s : Server). s.settings) same
run_settings first last (r ∷ rs) (mid, (sent, status, is), rest) = run_settings mid last rs rest ∙ same_settings first mid r.request sent is

pub loads_what_was_saved : LoadsWhatWasSaved IsAnswer saved_bytes IsSaveable Loads
loads_what_was_saved first state loaded records run can loads = saved_is_loaded first state loaded (run_settings first state records run) can loads
