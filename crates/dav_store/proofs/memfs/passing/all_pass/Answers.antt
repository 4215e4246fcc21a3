use Rattle.std.proofs.Common.{◌≡◌, ◌≤◌, ℕ, take, length, List, sym, ap, subst, ◌∙◌}
use Rattle.std.specs.Option.{is_some}
use Rattle.std.proofs.lemmas.List.{take_all}
use Rattle.dav_core.specs.World.{Nodes}
use Rattle.dav_core.specs.Path.{Path}
use Rattle.dav_saved.proofs.Lists.{all_at}
use Rattle.dav_store.specs.Passing.{ElementsPass, PropertiesPass}
use Rattle.dav_store.specs.Subtrees.{paths_of}
use Rattle.dav_store.proofs.SubtreeLemmas.{placed_at, paths_len}
use Rattle.dav_store.proofs.LoadedNodes.{all_push}
use Rattle.dav_store.proofs.LoadedWorlds.{one_more}
use Rattle.dav_store.proofs.memfs.passing.all_pass.Goals as goal

pub node_passes-requires : goal.node_passes-requires
node_passes-requires g c =
    let p = placed_at c.args.entries.now.nodes c.args.paths.now c.loop-path.path-index c.path-item.result c.see_sorted.ensures c.requires c.loop-path-test.true c.path-item.is in
    ap is_some p.found

pub returns-then-not-branch : goal.returns-then-not-branch
returns-then-not-branch g c =
    let ns = c.args.entries.now.nodes in
    let p = placed_at ns c.args.paths.now c.loop-path.path-index c.path-item.result c.see_sorted.ensures c.requires c.loop-path-test.true c.path-item.is in
    let says = c.in_ok-node_passes.ensures p.entry.1 p.found in (
      λ t. cc,
      λ all.
          let here = all_at (λ e. PropertiesPass (g.T.ElementTest.passes c.args.test.now) e.1.properties) ns c.loop-path.path-index p.entry p.within p.is all in
          let yes = says.1 here in
          let no = c.if-not-branch.true in cc,
    )

pub loop-path-preserved : goal.loop-path-preserved
loop-path-preserved g c =
    let ns = c.args.entries.now.nodes in
    let i = c.loop-path.path-index in
    let p = placed_at ns c.args.paths.now i c.path-item.result c.see_sorted.ensures c.requires c.loop-path-test.true c.path-item.is in
    let says = c.in_ok-node_passes.ensures p.entry.1 p.found in
    subst (λ (ms : Nodes). ElementsPass (g.T.ElementTest.passes c.args.test.now) ms) (sym (one_more ns i p.entry p.within p.is))
    (all_push (λ e. PropertiesPass (g.T.ElementTest.passes c.args.test.now) e.1.properties) (take i ns) p.entry c.loop-path.invariant (says.0 c.if-not-branch.false))

all_seen : (ns : Nodes) (ps : List Path) (i : ℕ) → ps ≡ paths_of ns → length ps ≤ i → length ns ≤ i
all_seen ns ps i is le = subst (λ (k : ℕ). k ≤ i) (ap (λ (qs : List Path). length qs) is ∙ paths_len ns) le

pub returns : goal.returns
returns g c =
    let ns = c.args.entries.now.nodes in
    let i = c.loop-path.path-index in
    (λ t. subst (λ (ms : Nodes). ElementsPass (g.T.ElementTest.passes c.args.test.now) ms) (take_all i ns (all_seen ns c.args.paths.now i c.requires c.loop-path-test.false)) c.loop-path.invariant, λ all. cc)
