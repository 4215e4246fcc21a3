use Rattle.std.proofs.Common.{◌≡◌, ◌&&◌, false, take}
use Rattle.std.specs.List.{list_any}
use Rattle.dav_limits.specs.Limits.{is_counted, is_too_much}
use Rattle.dav_limits.proofs.past.is_past_any.Given as goal

-- none so far
abbrev pub invariant-loop-limit : goal.invariant-loop-limit
invariant-loop-limit l =
    list_any (λ k. is_counted l.asked k && is_too_much l.handler.server.state.store.world.nodes l.added k) (take l.limit-index l.limits) ≡ false
