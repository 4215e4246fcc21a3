use Rattle.std.proofs.Common.{◌&&◌, ◌++◌, List, take, ap, ◌∙◌}
use Rattle.std.proofs.lemmas.List.{take_all}
use Rattle.std.specs.List.{filter}
use Rattle.dav_core.specs.Path.{names, is_same_path}
use Rattle.dav_core.specs.Locks.{Lock, covers}
use Rattle.dav_store.proofs.memls.push_covering.Goals as goal

pub returns : goal.returns
returns c =
    c.loop-kept.invariant
    ∙ ap (λ (ls : List Lock). c.args.found.now.items ++ filter (λ l. is_same_path (names l.path) (take c.args.len (names c.args.path.now)) && covers l (names c.args.path.now)) ls)
    (take_all c.loop-kept.kept-index c.args.locks.now c.loop-kept-test.false)
