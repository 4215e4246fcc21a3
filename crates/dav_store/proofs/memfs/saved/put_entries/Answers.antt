use Rattle.std.proofs.Common.{◌≡◌, ◌++◌, ℕ, ◌<◌, ◌≤◌, ◌^◌, List, length, subst, ap, ◌∙◌, arith}
use Rattle.std.specs.Option.{is_some}
use Rattle.dav_core.specs.Path.{Path}
use Rattle.dav_core.specs.World.{Nodes}
use Rattle.dav_saved.specs.Spelling.{number, many}
use Rattle.dav_saved.specs.Parts.{AreAll, AreBoth, HasLength64}
use Rattle.dav_saved.specs.Worlds.{entry, AreWithin, IsSaveableNode}
use Rattle.dav_saved.proofs.Lists.{begins, turn, ends, all_at, all_turn, all_done}
use Rattle.dav_store.specs.Subtrees.{paths_of}
use Rattle.dav_store.proofs.SubtreeLemmas.{placed_at, paths_len}
use Rattle.dav_store.proofs.memfs.saved.put_entries.Goals as goal

pub put_entry-requires : goal.put_entry-requires
put_entry-requires c =
    let p = placed_at c.args.entries.now.nodes c.args.paths.now c.loop-path.path-index c.path-item.result c.see_sorted.ensures c.requires c.loop-path-test.true c.path-item.is in
    ap is_some p.found

pub loop-path-init : goal.loop-path-init
loop-path-init c =
    let ns = c.args.entries.now.nodes in
    let count : length c.args.paths.now ≡ length ns = ap (λ (ps : List Path). length ps) c.requires ∙ paths_len ns in
    (begins entry c.args.out.now.items c.put_number.new.out.items ns (c.in_ok-put_number.ensures ∙ ap (λ (k : ℕ). c.args.out.now.items ++ number k) count), λ levels within rest. rest)

pub loop-path-preserved : goal.loop-path-preserved
loop-path-preserved c =
    let ns = c.args.entries.now.nodes in
    let i = c.loop-path.path-index in
    let p = placed_at ns c.args.paths.now i c.path-item.result c.see_sorted.ensures c.requires c.loop-path-test.true c.path-item.is in
    let e = p.entry in
    let added : c.put_entry.new.out.items ≡ c.loop-path.out.items ++ entry e = c.in_ok-put_entry.ensures.added e.1 p.found ∙ ap (λ (q : Path). c.loop-path.out.items ++ entry (q, e.1)) p.path in (
      turn entry c.loop-path.out.items c.put_entry.new.out.items (c.args.out.now.items ++ many entry ns) ns i e p.within p.is added c.loop-path.invariant.0,
      λ levels within.
          let here : AreWithin levels e.1.properties = all_at (λ f. AreWithin levels f.1.properties) ns i e p.within p.is within in
          let one : AreBoth (AreAll HasLength64) (IsSaveableNode levels) e =
          subst (λ (q : Path). AreBoth (AreAll HasLength64) (IsSaveableNode levels) (q, e.1)) p.path (c.in_ok-put_entry.ensures.saveable e.1 p.found levels here) in
          all_turn (AreBoth (AreAll HasLength64) (IsSaveableNode levels)) ns i e p.within p.is one (c.loop-path.invariant.1 levels within),
    )

all_written : (ns : Nodes) (ps : List Path) (i : ℕ) → ps ≡ paths_of ns → length ps ≤ i → length ns ≤ i
all_written ns ps i is le = subst (λ (k : ℕ). k ≤ i) (ap (λ (qs : List Path). length qs) is ∙ paths_len ns) le

pub returns-clause-added : goal.returns-clause-added
returns-clause-added c =
    let ns = c.args.entries.now.nodes in
    ends entry c.loop-path.out.items (c.args.out.now.items ++ many entry ns) ns c.loop-path.path-index (all_written ns c.args.paths.now c.loop-path.path-index c.requires c.loop-path-test.false) c.loop-path.invariant.0

pub returns-clause-saveable : goal.returns-clause-saveable
returns-clause-saveable c =
    let ns = c.args.entries.now.nodes in
    let count : length c.args.paths.now ≡ length ns = ap (λ (ps : List Path). length ps) c.requires ∙ paths_len ns in
    let few : length c.args.paths.now < 2 ^ 64 = omega arith in
    let fits : length ns < 2 ^ 64 = subst (λ (k : ℕ). k < 2 ^ 64) count few in
    λ levels within. (fits, all_done (AreBoth (AreAll HasLength64) (IsSaveableNode levels)) ns c.loop-path.path-index (all_written ns c.args.paths.now c.loop-path.path-index c.requires c.loop-path-test.false) (c.loop-path.invariant.1 levels within))
