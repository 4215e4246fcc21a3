use Rattle.std.proofs.Common.{ap, ◌∙◌, sym}
use Rattle.dav_core.specs.Path.{Path}
use Rattle.dav_store.specs.Store.{Store}
use Rattle.dav_store.specs.Subtrees.{paths_of, under}
use Rattle.dav_store.specs.Used.{used_bytes}
use Rattle.dav_store.proofs.SubtreeLemmas.{under_root}
use Rattle.dav_store.proofs.memfs.MemFs.used_bytes.Goals as goal

pub returns : goal.returns
returns c =
    let ns = c.self.inside.entries.nodes in
    c.used_bytes.ensures ∙ ap (λ (p : Path). used_bytes (under p ns)) c.root-top.ensures ∙ ap used_bytes (under_root ns)
    ∙ ap (λ (s : Store). used_bytes s.world.nodes) c.self.view_is
