use Rattle.std.proofs.Common.{map, ap, ◌∙◌, Bor, List, ℕ}
use Rattle.std.proofs.lemmas.List.{map-append}
use Rattle.dav_core.specs.ElementView.{node_tree}
use Rattle.dav_seen.proofs.LoopLemmas.{told_turn}
use Rattle.dav_seen.proofs.reading.read_members.Goals as goal

pub loop-name-preserved : goal.loop-name-preserved
loop-name-preserved c = (
  told_turn (λ (n : Bor (List ℕ)). n.now) c.args.members.now c.loop-name.name-index _ c.args.rules.now c.args.handler.now.server c.loop-name.handler.server c.args.body.now c.args.caller.now
      c.args.path.now c.in_ok-one.one (map node_tree c.loop-name.told.items) (map node_tree c.in_ok-more.more.items) (map node_tree c.in_ok-told.told.items)
      c.loop-name-test.true c.loop-name.invariant.0 c.loop-name.invariant.1 c.in_ok-one.ensures c.in_ok-more.ensures.told
      (ap (map node_tree) c.in_ok-told.ensures ∙ map-append node_tree c.loop-name.told.items c.in_ok-more.more.items),
  c.in_ok-more.ensures.same ∙ c.loop-name.invariant.1,
)
