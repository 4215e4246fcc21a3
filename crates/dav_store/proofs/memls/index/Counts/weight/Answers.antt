use Rattle.std.proofs.Common.{◌≡◌, [], ◌∷◌, ◌++◌, None, sym, ◌∙◌, arith}
use Rattle.dav_core.specs.Path.{names}
use Rattle.dav_core.specs.PathRef.{names_left}
use Rattle.dav_store.specs.Placed.{found}
use Rattle.dav_store.specs.LockIndex.{count_of}
use Rattle.dav_store.proofs.TreePaths.{found-push}
use Rattle.dav_store.proofs.SeatLemmas.{weight_nowhere}
use Rattle.dav_store.proofs.IndexLemmas.{path_on, weight_on}
use Rattle.dav_store.proofs.memls.index.Counts.weight.Goals as goal

pub loop-name-preserved : goal.loop-name-preserved
loop-name-preserved c =
    let (q, whole, at, sum) = c.loop-name.invariant in
    let cut = c.in-Some.ensures.steps in
    let a = weight_on (count_of c.args.self.now) c.args.deep q (names_left c.loop-name.name-iterator) (names_left c.next.new.self) c.in-Some.name.now cut in
    let b = c.counted.ensures q (sym at) in (
      q ++ c.in-Some.name.now ∷ [],
      path_on q (names_left c.loop-name.name-iterator) (names_left c.next.new.self) (names c.args.path.now) c.in-Some.name.now whole cut,
      found-push c.args.self.now q c.loop-name.at c.in-Some.name.now at ∙ sym c.in-Some-child.ensures,
      omega (arith, a, b, sum),
    )

pub returns-in-None-child : goal.returns-in-None-child
returns-in-None-child c =
    let (q, whole, at, sum) = c.loop-name.invariant in
    let cut = c.in-Some.ensures.steps in
    let a = weight_on (count_of c.args.self.now) c.args.deep q (names_left c.loop-name.name-iterator) (names_left c.next.new.self) c.in-Some.name.now cut in
    let b = c.counted.ensures q (sym at) in
    let none : found c.args.self.now (q ++ c.in-Some.name.now ∷ []) ≡ None = found-push c.args.self.now q c.loop-name.at c.in-Some.name.now at ∙ sym c.in-None-child.ensures in
    let z = weight_nowhere c.args.self.now c.args.deep (q ++ c.in-Some.name.now ∷ []) (names_left c.next.new.self) none in
    omega (arith, a, b, sum, z)
