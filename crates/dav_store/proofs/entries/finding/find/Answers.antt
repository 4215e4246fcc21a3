use Rattle.std.proofs.Common.{◌≡◌, refl, sym, ap, ◌∙◌, ◌++◌, []}
use Rattle.dav_core.specs.Path.{Path, names, parent_of}
use Rattle.dav_core.specs.PathRef.{names_left}
use Rattle.dav_store.specs.Placed.{found, bare}
use Rattle.dav_store.proofs.EntryLemmas.{walked, empty}
use Rattle.dav_store.proofs.entries.finding.find.Goals as goal

pub loop-name-init : goal.loop-name-init
loop-name-init c = ([], ap names_left c.into_iter-name-iterator.ensures.into_iter_gives ∙ c.segments-name-items.ensures, refl, refl)

pub loop-name-preserved : goal.loop-name-preserved
loop-name-preserved c =
    walked (bare c.args.tree.now) c.loop-name.invariant.0 (names_left c.loop-name.name-iterator) (names_left c.next.new.self) (names c.args.path.now) c.in-Some.name.now c.loop-name.at c.child-at.result
    c.loop-name.invariant.1 c.in-Some.ensures.steps c.loop-name.invariant.2 c.child-at.ensures

pub returns : goal.returns
returns c =
    let (p, whole, at, above) = c.loop-name.invariant in
    let done : p ≡ names c.args.path.now = sym (empty p) ∙ ap (λ (r : Path). p ++ r) (sym c.in-None.ensures.steps.0) ∙ whole in
    record {
      at = at ∙ ap (found (bare c.args.tree.now)) done;
      above = above ∙ ap (λ (q : Path). found (bare c.args.tree.now) (parent_of q)) done;
    }
