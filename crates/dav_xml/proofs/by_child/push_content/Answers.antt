use Rattle.std.proofs.Common.{◌++◌, ◌∙◌, [], ap, map}
use Rattle.dav_core.specs.Element.{trees}
use Rattle.dav_core.specs.ElementView.{node_tree}
use Rattle.dav_xml.specs.Scopes.{pair_bytes}
use Rattle.dav_xml.specs.Spelling.{spellings}
use Rattle.dav_xml.specs.Flat.{flats}
use Rattle.dav_xml.specs.Written.{written_after}
use Rattle.dav_xml.proofs.ByChild.{content_pushed}
use Rattle.dav_xml.proofs.by_child.push_content.Goals as goal

pub returns : goal.returns
returns c =
    let i = c.root.inside in
    content_pushed c.args.out.now.items c.push_children.new.out.items _ _ _ _ i.children.items (map pair_bytes c.in_ok-scope.scope.items) c.args.root.now c.root.view_is c.in_ok-scope.ensures
    (c.in_ok-push_children.ensures ∙ ap (λ xs. c.args.out.now.items ++ spellings (flats (trees (written_after (map pair_bytes xs) [] (trees (map node_tree i.children.items)))))) c.deref.ensures.value)
