use Rattle.std.proofs.Common.{◌≡◌, ◌∙◌, ℕ, List, [], ap, drop, subst, sym}
use Rattle.dav_journal.specs.declared.pair.Pair.{Pair}
use Rattle.dav_kept.specs.Kept.{held_by}
use Rattle.dav_kept.specs.declared.followed.Followed.{Followed}
use Rattle.dav_server.specs.Server.{Server}
use Rattle.dav_turns.specs.Turns.{Turn}
use Rattle.dav_live.specs.Behind.{doing_behind, following_of, kept_behind, turns_behind}
use Rattle.dav_live.specs.Serving.{held_of}
use Rattle.dav_live.specs.declared.service.Service.{Service}
use Rattle.dav_live.proofs.follower.Follower.answer.Goals as goal

pub returns-clause-turn : goal.returns-clause-turn
returns-clause-turn g c =
    let turn = c.in_ok-used.ensures.turn in
    let k = doing_behind g.D.Disk in
    let used = c.in_ok-used.used in
    let old = c.args.self.now in
    let new = c.turn.new.self in
    let now = following_of new in
    let heard = subst (λ (b : List ℕ). Turn k b used (turns_behind old) (following_of old) (turns_behind new) now turn.0) c.unheard.ensures turn.1 in (
      used,
      turn.0,
      subst (λ (s : Service Server (Followed (Pair g.row.D.Denot))). Turn k c.args.pipe.now used (turns_behind old) (following_of old) (turns_behind new)
          (record { keeper = s; alloc = now.alloc; clock = now.clock }) turn.0) (sym c.tell.ensures) heard,
      turn.2,
      c.drop_heard.ensures,
    )

pub returns-clause-still : goal.returns-clause-still
returns-clause-still g c = λ empty.
    ap (λ (s : Service Server (Followed (Pair g.row.D.Denot))). held_of s) c.tell.ensures ∙ c.in_ok-used.ensures.still empty
