use Rattle.std.proofs.Common.{None, refl}
use Rattle.std.specs.Iterator.{YieldsFirstRef}
use Rattle.std.proofs.lemmas.Iterator.Consumers.{YieldsList-from_first}
use Rattle.dav_core.specs.PathRef.{names_left}
use Rattle.dav_core.proofs.LoopLemmas.{last_seen, drained_items}
use Rattle.dav_core.proofs.davpath.DavPathRef.last_name.Goals as goal

pub returns : goal.returns
returns c =
    let shown = YieldsList-from_first (λ x. x.now) names_left (names_left c.segments.result) refl in
    let items = drained_items {steps = YieldsFirstRef names_left} {s = c.segments.result} c.last.ensures.ran.0 c.last.ensures.ran.1 shown in
    rw (c.last.ensures.ran.2, last_seen (λ x. x.now) None c.last.ensures.ran.0, items, c.segments.ensures) refl
