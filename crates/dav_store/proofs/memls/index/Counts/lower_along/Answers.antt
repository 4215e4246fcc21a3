use Rattle.std.proofs.Common.{[], ◌∷◌, ◌++◌, sym, ◌∙◌, arith}
use Rattle.dav_core.specs.Path.{names}
use Rattle.dav_core.specs.PathRef.{names_left}
use Rattle.dav_store.proofs.EntryLemmas.{one_more}
use Rattle.dav_store.proofs.IndexLemmas.{path_on, keys_more}
use Rattle.dav_store.proofs.memls.index.Counts.lower_along.Goals as goal

pub loop-name-preserved : goal.loop-name-preserved
loop-name-preserved c =
    let (q, whole, at, counts) = c.loop-name.invariant in
    let cut = c.in-Some.ensures.steps in (
      q ++ c.in-Some.name.now ∷ [],
      path_on q (names_left c.loop-name.name-iterator) (names_left c.next.new.self) (names c.args.path.now) c.in-Some.name.now whole cut,
      one_more c.lower.new.self q c.in-Some.name.now c.loop-name.at c.child-at.result (at ∙ sym (c.lower.ensures.walks q)) c.child-at.ensures,
      λ k.
          let a = counts k in
          let b = c.lower.ensures.counts q at k in
          let m = keys_more k q c.args.deep (names_left c.loop-name.name-iterator) c.in-Some.name.now (names_left c.next.new.self) cut in
          omega (arith, a, b, m),
    )
