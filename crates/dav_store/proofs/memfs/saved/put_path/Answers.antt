use Rattle.std.proofs.Common.{◌≡◌, ◌++◌, ◌<◌, ◌^◌, List, ℕ, length, subst, ap, ◌∙◌, rules}
use Rattle.dav_core.specs.Path.{Path}
use Rattle.dav_saved.specs.Spelling.{sized}
use Rattle.dav_saved.specs.Parts.{AreAll, HasLength64}
use Rattle.dav_saved.specs.Worlds.{path}
use Rattle.dav_saved.proofs.Lists.{begins, turn, ends, all_turn, all_done}
use Rattle.dav_store.proofs.memfs.saved.put_path.Goals as goal

pub loop-name-init : goal.loop-name-init
loop-name-init c = (begins sized c.args.out.now.items c.put_number.new.out.items c.as_slice-names.result.now c.in_ok-put_number.ensures, λ rest. rest)

pub loop-name-preserved : goal.loop-name-preserved
loop-name-preserved c =
    let ns = c.as_slice-names.result.now in
    let i = c.loop-name.name-index in
    let x = c.name-item.result in
    let lt = c.loop-name-test.true in
    let added : c.put_bytes.new.out.items ≡ c.loop-name.out.items ++ sized x = c.in_ok-put_bytes.ensures ∙ ap (λ (n : List ℕ). c.loop-name.out.items ++ sized n) c.as_slice.ensures.value in
    let short : length c.as_slice.result.now < 2 ^ 64 = search rules in (
      turn sized c.loop-name.out.items c.put_bytes.new.out.items (c.args.out.now.items ++ path ns) ns i x lt c.name-item.is added c.loop-name.invariant.0,
      all_turn HasLength64 ns i x lt c.name-item.is (subst HasLength64 c.as_slice.ensures.value short) c.loop-name.invariant.1,
    )

pub returns-clause-added : goal.returns-clause-added
returns-clause-added c =
    ends sized c.loop-name.out.items (c.args.out.now.items ++ path c.as_slice-names.result.now) c.as_slice-names.result.now c.loop-name.name-index c.loop-name-test.false c.loop-name.invariant.0
    ∙ ap (λ (p : Path). c.args.out.now.items ++ path p) c.as_slice-names.ensures

pub returns-clause-saveable : goal.returns-clause-saveable
returns-clause-saveable c =
    let few : length c.as_slice-names.result.now < 2 ^ 64 = search rules in
    subst (AreAll HasLength64) c.as_slice-names.ensures (few, all_done HasLength64 c.as_slice-names.result.now c.loop-name.name-index c.loop-name-test.false c.loop-name.invariant.1)
