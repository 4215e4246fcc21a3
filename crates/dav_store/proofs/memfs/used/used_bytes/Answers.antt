use Rattle.std.proofs.Common.{◌≡◌, ◌+◌, ℕ, Bool, true, false, cond, Option, Some, None, [], ◌∷◌, min, take, sym, ap, ◌∙◌, arith}
use Rattle.std.proofs.lemmas.List.Sums.{sum_by-append}
use Rattle.std.specs.FinMap.{find}
use Rattle.std.specs.List.{sum_by}
use Rattle.dav_core.specs.Numbers.{max_u64}
use Rattle.dav_core.specs.Path.{Path, is_at_or_under, path_cmp}
use Rattle.dav_core.specs.World.{Node}
use Rattle.dav_store.specs.Subtrees.{under}
use Rattle.dav_store.specs.Used.{len_of, used_bytes}
use Rattle.dav_store.proofs.SizeLemmas.{and_one}
use Rattle.dav_store.proofs.SubtreeLemmas.{find-under, placed_at, sorted-under}
use Rattle.dav_store.proofs.LoadedWorlds.{one_more}
use Rattle.dav_store.proofs.memfs.used.used_bytes.Goals as goal

alone : (e : Path × Node) → len_of e ≡ sum_by len_of (e ∷ [])
alone e = omega arith

within : (b : Bool) (o : Option Node) (n : Node) → cond b o None ≡ Some n → o ≡ Some n
within true o n is = is
within false o n is = cc

pub loop-path-preserved : goal.loop-path-preserved
loop-path-preserved c =
    let top = c.args.top.now in
    let all = c.args.entries.now.nodes in
    let ns = under top all in
    let i = c.loop-path.path-index in
    let p = placed_at ns c.args.paths.now i c.path-item.result (sorted-under top all c.see_sorted.ensures) c.requires c.loop-path-test.true c.path-item.is in
    let k = c.path-item.result in
    let there : find path_cmp k all ≡ Some p.entry.1 = within (is_at_or_under k top) (find path_cmp k all) p.entry.1 (sym (find-under top k all) ∙ p.found) in
    c.and_size_at-used.ensures p.entry.1 there
    ∙ and_one c.loop-path.used (sum_by len_of (take i ns)) (len_of p.entry) c.loop-path.invariant
    ∙ ap (λ (n : ℕ). min n max_u64) (ap (λ (n : ℕ). sum_by len_of (take i ns) + n) (alone p.entry) ∙ sym (sum_by-append len_of (take i ns) (p.entry ∷ [])))
    ∙ ap used_bytes (sym (one_more ns i p.entry p.within p.is))
