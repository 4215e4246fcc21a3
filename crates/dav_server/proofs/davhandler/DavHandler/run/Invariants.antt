use Rattle.std.proofs.Common.{◌≡◌, take}
use Rattle.dav_server.specs.Server.{AnswersAll, turns}
use Rattle.dav_server.specs.TagLaws.{MomentsAreDates}
use Rattle.dav_server.proofs.davhandler.DavHandler.run.Given as goal

-- the replies so far are those of a run of the requests so far
abbrev pub invariant-loop-exchange : goal.invariant-loop-exchange
invariant-loop-exchange g l =
    (l.self.server.settings ≡ l.fn.self.server.settings)
    × AnswersAll l.fn.self.server (turns (take l.exchange-index l.exchanges)) l.replies.items l.self.server
    × MomentsAreDates (turns (take l.exchange-index l.exchanges))
