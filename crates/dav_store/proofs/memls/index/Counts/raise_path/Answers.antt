use Rattle.std.proofs.Common.{[], ◌∷◌, ◌++◌, ◌∙◌, arith}
use Rattle.dav_core.specs.Path.{names}
use Rattle.dav_core.specs.PathRef.{names_left}
use Rattle.dav_store.proofs.IndexLemmas.{path_on, keys_more}
use Rattle.dav_store.proofs.memls.index.Counts.raise_path.Goals as goal

pub loop-name-preserved : goal.loop-name-preserved
loop-name-preserved c =
    let (q, whole, at, counts) = c.loop-name.invariant in
    let cut = c.in-Some.ensures.steps in
    let still = c.in_ok-raise.ensures.walks q ∙ at in (
      q ++ c.in-Some.name.now ∷ [],
      path_on q (names_left c.loop-name.name-iterator) (names_left c.next.new.self) (names c.args.path.now) c.in-Some.name.now whole cut,
      c.in_ok-at.ensures.walks q still,
      λ k.
          let a = counts k in
          let b = c.in_ok-raise.ensures.counts q at k in
          let d = c.in_ok-at.ensures.counts q still k in
          let m = keys_more k q c.args.deep (names_left c.loop-name.name-iterator) c.in-Some.name.now (names_left c.next.new.self) cut in
          omega (arith, a, b, d, m),
    )
