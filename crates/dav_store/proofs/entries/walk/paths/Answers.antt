use Rattle.std.proofs.Common.{◌++◌, ap, ◌∙◌}
use Rattle.dav_store.specs.Subtrees.{paths_of, under}
use Rattle.dav_store.proofs.SubtreeLemmas.{under_root}
use Rattle.dav_store.proofs.entries.walk.paths.Goals as goal

pub returns : goal.returns
returns c =
    let ns = c.args.entries.now.nodes in
    c.in_ok-add_paths.ensures ∙ (λ i. c.new-list.ensures.items i ++ paths_of (under (c.root.ensures i) ns)) ∙ ap paths_of (under_root ns)
