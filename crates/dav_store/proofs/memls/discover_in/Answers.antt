use Rattle.std.proofs.Common.{◌∙◌, ◌&&◌, ◌++◌, List, ap, sym, arith, take}
use Rattle.std.specs.List.{filter}
use Rattle.dav_core.specs.Path.{Path, names, is_same_path}
use Rattle.dav_core.specs.Locks.{Lock, covers}
use Rattle.dav_store.proofs.FrontLemmas.{gathered_more, gathered}
use Rattle.dav_store.proofs.memls.discover_in.Goals.{else-loop-len-test, then-loop-len-test+in_ok-push_covering+else-len-len-end}
use Rattle.dav_store.proofs.memls.discover_in.Goals as goal

abbrev at_front : Path → List Lock → Path → List Lock
at_front p ls q = filter (λ m. is_same_path (names m.path) q && covers m p) ls

pub loop-len-preserved : goal.loop-len-preserved
loop-len-preserved c =
    let f : Path → List Lock = at_front (names c.args.path.now) c.args.locks.now in
    c.in_ok-push_covering.ensures ∙ ap (λ (ms : List Lock). ms ++ f (take c.loop-len.len (names c.args.path.now))) c.loop-len.invariant
    ∙ sym (gathered_more f (names c.args.path.now) c.loop-len.len (omega (arith, c.len-len-end.ensures)))

pub returns : goal.returns
returns c =
    let f : Path → List Lock = at_front (names c.args.path.now) c.args.locks.now in
    elim c.loop-len-test.branch [
      | else-loop-len-test w ↦ absurd (omega (arith, w.loop-len-test.false, c.loop-len.auto.len-end))
      | then-loop-len-test+in_ok-push_covering+else-len-len-end w ↦
          ap (λ v. v.items) w.found-is ∙ w.in_ok-push_covering.ensures ∙ ap (λ (ms : List Lock). ms ++ f (take c.loop-len.len (names c.args.path.now))) c.loop-len.invariant
          ∙ sym (gathered_more f (names c.args.path.now) c.loop-len.len (omega (arith, c.len-len-end.ensures, c.loop-len.auto.len-end)))
          ∙ gathered f (names c.args.path.now) c.loop-len.len (omega (arith, c.len-len-end.ensures))
    ]
