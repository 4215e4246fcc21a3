use Rattle.std.proofs.Common.{◌∙◌, ap, map, sym}
use Rattle.dav_core.specs.Element.{children_of}
use Rattle.dav_core.specs.ElementView.{node_tree}
use Rattle.dav_core.proofs.ElementLemmas.{tree_list_trees}
use Rattle.dav_http.proofs.presented.listing.alone.Goals as goal

pub returns-clause-had : goal.returns-clause-had
returns-clause-had c = sym (tree_list_trees (map node_tree c.root.inside.children.items)) ∙ ap children_of c.root.view_is
