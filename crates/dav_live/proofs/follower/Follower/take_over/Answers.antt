use Rattle.std.proofs.Common.{subst, sym}
use Rattle.dav_journal.specs.Journal.{blocks_end}
use Rattle.dav_journal.specs.Pair.{HasReadPair, IsCleanPair, IsReadingPair, counting}
use Rattle.dav_journal.specs.declared.pair.Pair.{Pair}
use Rattle.dav_kept.specs.Followed.{TakesOver, followed_by}
use Rattle.dav_kept.specs.declared.followed.Followed.{Followed}
use Rattle.dav_server.specs.Server.{Server}
use Rattle.dav_live.specs.Answers.{IsAnswer}
use Rattle.dav_live.specs.Behind.{kept_behind}
use Rattle.dav_live.specs.Serving.{kept_of}
use Rattle.dav_live.specs.declared.service.Service.{Service}
use Rattle.dav_live.proofs.follower.Follower.take_over.Goals as goal

pub returns-clause-over : goal.returns-clause-over
returns-clause-over g c = (
  c.open.new.self,
  c.in_ok-open.ensures.reading,
  subst (λ (s : Service Server (Pair g.row.E.Denot)). TakesOver IsAnswer (λ j. blocks_end (counting (followed_by j)))
      (λ j. IsCleanPair g.E.Disk j) (λ j bs. IsReadingPair g.E.Disk j bs) (λ j bs. HasReadPair g.E.Disk j bs) (λ j. blocks_end (counting j))
      (kept_behind c.args.self) c.open.new.self (kept_of s)) (sym c.over.ensures.service)
      (subst (λ (s : Service Server (Followed (Pair g.row.D.Denot))). TakesOver IsAnswer (λ j. blocks_end (counting (followed_by j)))
      (λ j. IsCleanPair g.E.Disk j) (λ j bs. IsReadingPair g.E.Disk j bs) (λ j bs. HasReadPair g.E.Disk j bs) (λ j. blocks_end (counting j))
      (kept_of s) c.open.new.self (kept_of c.in_ok-service.service)) c.into_keeper.ensures c.in_ok-service.ensures.over),
)
