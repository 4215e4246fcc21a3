use Rattle.std.proofs.Common.{ap, map, ◌∙◌}
use Rattle.std.proofs.lemmas.List.{map-append}
use Rattle.dav_core.specs.ElementView.{node_tree}
use Rattle.dav_seen.proofs.ReplyLemmas.{grown}
use Rattle.dav_seen.proofs.reply.with_more.Goals as goal

pub returns : goal.returns
returns c =
    grown _ _ _ _ (map node_tree c.element.inside.children.items) _ (map node_tree c.args.more.items) c.args.element c.element.view_is
    (ap (map node_tree) c.in_ok-children.ensures ∙ map-append node_tree c.element.inside.children.items c.args.more.items)
