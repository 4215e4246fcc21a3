-- What the reply to a request for a folder on the way tells of: which of the folders that may be seen are there, and what may be read.
use Rattle.std.specs.Prelude.{◌≡◌, ◌≢◌, ℕ, true, List, All, Option, Some}
use Rattle.dav_core.specs.Locks.{Lock}
use Rattle.dav_core.specs.Path.{Path, PathText, names, star}
use Rattle.dav_core.specs.World.{IsWorld, World, is_folder}
use Rattle.dav_engine.specs.Caller.{Caller}
use Rattle.dav_engine.specs.Reply.{Reply}
use Rattle.dav_server.specs.Server.{Server}
use Rattle.dav_access.specs.Rules.{Rules, may_read, may_see}
use Rattle.dav_confined.specs.Seen.{AgreeAt, CoverAlike}
use Rattle.dav_confined.specs.Sight.{Looks}
use Rattle.dav_seen.specs.Ways.{IsWayReply, ways}

-- Two servers are alike for a principal: they agree at all that the principal may read, in what is there and in the locks that cover it, and
-- have folders at the same of the paths that the principal may see; whatever else they hold.
pub record AreAlikeFor (rules : Rules) (who : Option (List ℕ)) (a b : Server) : Type 0 where
  pub settings : b.settings ≡ a.settings
  pub refusals : a.state.store.refusals ≡ b.state.store.refusals
  pub world : IsWorld a.state.store.world
  pub other : IsWorld b.state.store.world
  pub agree : AgreeAt (may_read rules who) a.state.store.world b.state.store.world
  pub folders : (p : Path) → may_see rules who p ≡ true → is_folder a.state.store.world p ≡ is_folder b.state.store.world p
  pub list : List Lock
  pub others : List Lock
  pub locks : a.state.locks ≡ Some list
  pub other_locks : b.state.locks ≡ Some others
  pub covered : CoverAlike (may_read rules who) list others

-- The reply to a request for a folder on the way, of who may look, tells of which folders are there among the paths that may be seen, and of
-- what may be read, and of nothing else: two servers that are alike for who asks give the same reply, byte for byte.
abbrev pub WaysStayInSight : Type 0
WaysStayInSight =
    (rules : Rules) (head bytes : List ℕ) (who : Caller) (a b : Server) (reply other : Reply)
    → Looks rules a.settings.prefix who.principal head → AreAlikeFor rules who.principal a b
    → IsWayReply rules a head bytes who reply → IsWayReply rules b head bytes who other → reply ≡ other

-- Of each folder on the way of which is told, where the one that is asked for may be seen, may be seen that it is there.
abbrev pub WaysMayBeSeen : Type 0
WaysMayBeSeen =
    (rules : Rules) (who : Option (List ℕ)) (w : World) (p : PathText) (members : List (List ℕ))
    → p.bytes ≢ star → may_see rules who (names p) ≡ true → All (λ q. may_see rules who (names q) ≡ true) (ways rules who w p members)
