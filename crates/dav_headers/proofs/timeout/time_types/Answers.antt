use Rattle.std.proofs.Common.{map, lit<, subst}
use Rattle.std.proofs.lemmas.List.{map_push}
use Rattle.std.proofs.lemmas.Iterator.Splits.{YieldsList-from_str_split}
use Rattle.dav_headers.specs.Elements.{trimmed}
use Rattle.dav_headers.specs.Timeout.{AreTimeTypes}
use Rattle.dav_headers.proofs.LoopLemmas.{end_parts}
use Rattle.dav_headers.proofs.TimeoutLemmas.{AreTimeTypes-push, no_time_types-turn}
use Rattle.dav_headers.proofs.timeout.time_types.Goals as goal

pub returns-in_default : goal.returns-in_default
returns-in_default c =
    let none = rw c.trimmed.ensures at c.in_default.ensures in
    no_time_types-turn trimmed c.loop-element.yielded _ c.loop-element.yielded_by (YieldsList-from_str_split 44 c.args.text.now (lit< tt) (cc) (cc) (cc)) _ _ c.in-Some.element c.in-Some.is c.next.ensures.steps none

pub loop-element-preserved : goal.loop-element-preserved
loop-element-preserved c =
    let time_type = rw c.trimmed.ensures at c.in-Some-time_type.ensures in
    rw (map_push, map_push, c.in_ok-push.ensures.items) (AreTimeTypes-push _ _ _ _ c.loop-element.invariant time_type)

pub returns : goal.returns
returns c =
    let e = end_parts c.loop-element.yielded _ c.loop-element.yielded_by (YieldsList-from_str_split 44 c.args.text.now (lit< tt) (cc) (cc) (cc)) _ _ c.in-None.is c.next.ensures.steps in
    subst (λ ps. AreTimeTypes (map trimmed ps) c.loop-element.time_types.items) e c.loop-element.invariant
