use Rattle.std.proofs.Common.{◌<◌, ◌^◌, rules, subst, sym, ap}
use Rattle.dav_core.specs.World.{Node as Seen}
use Rattle.dav_saved.specs.Worlds.{AreWithin, IsSaveableNode}
use Rattle.dav_store.proofs.node.Node.save.Goals as goal

pub returns-clause-saveable : goal.returns-clause-saveable
returns-clause-saveable c =
    let i = c.self.inside in
    let made : i.made < 2 ^ 64 = search rules in
    let number : i.number < 2 ^ 64 = search rules in
    let created : i.created < 2 ^ 64 = search rules in
    let modified : i.modified < 2 ^ 64 = search rules in
    λ levels within.
    let few = subst (AreWithin levels) (sym (ap (λ (n : Seen). n.properties) c.self.view_is)) within in
    subst (IsSaveableNode levels) c.self.view_is (made, (number, (c.in_ok-put_content.ensures.saveable, (c.in_ok-save.ensures.saveable levels few, (created, modified)))))
