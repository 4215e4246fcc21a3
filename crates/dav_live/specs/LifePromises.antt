-- What a live server keeps over its whole life: the promises of the machine, and the headline (RFC 4918, sections 6 and 7).
use Rattle.std.specs.Prelude.{◌≡◌, ℕ, true, List, [], ◌∷◌}
use Rattle.std.specs.Option.{is_some}
use Rattle.dav_engine.specs.Reply.{Reply}
use Rattle.dav_http.specs.Steps.{IsExchangeOf, new_server}
use Rattle.dav_kept.specs.Kept.{RecordsRun, answer_step}
use Rattle.dav_kept.specs.Records.{RecordView}
use Rattle.dav_server.specs.Headline.{Headline}
use Rattle.dav_server.specs.Promises.{Promises}
use Rattle.dav_server.specs.Run.{Turn}
use Rattle.dav_server.specs.Server.{Server}
use Rattle.dav_live.specs.Answers.{IsAnswer, caller_of}
use Rattle.dav_live.specs.Numbered.{AreNumbered}

-- a turn of the machine is the request of a record, as the machine gets it, with a list of refusals, perhaps an empty one
abbrev pub IsTurnOf : RecordView → Turn → Type 0
IsTurnOf r t = IsExchangeOf r.request.head r.request.body (caller_of r.request) t.asked × (is_some t.refusals ≡ true)

-- the turns are those of the records, one for each, in order
abbrev pub AreTurnsOf : List RecordView → List Turn → Type 0
AreTurnsOf [] [] = Unit {0}
AreTurnsOf [] (t ∷ ts) = ⊥
AreTurnsOf (r ∷ rs) [] = ⊥
AreTurnsOf (r ∷ rs) (t ∷ ts) = IsTurnOf r t × AreTurnsOf rs ts

-- What the run of these records from the new server of a prefix keeps: its replies and the server that is left are those of the machine
-- (`Headline.machine`), with the promises and the headline, which has no premise left.
pub record KeepsPromises (prefix : List ℕ) (records : List RecordView) (last : Server) : Type 0 where
  pub turns : List Turn
  pub replies : List Reply
  pub are : AreTurnsOf records turns
  pub promises : Promises (new_server prefix) turns replies
  pub headline : Headline (new_server prefix).settings turns replies last

-- Each run of records from a new server, whose tokens are numbered, keeps them.
abbrev pub LivesKeepPromises : Type 0
LivesKeepPromises =
    (prefix : List ℕ) (records : List RecordView) (last : Server)
    → RecordsRun (answer_step IsAnswer) (new_server prefix) records last → AreNumbered 0 records → KeepsPromises prefix records last
