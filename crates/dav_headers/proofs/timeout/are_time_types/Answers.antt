use Rattle.std.proofs.Common.{◌∷◌, ◌++◌, ◌∙◌, [], List, map, lit<, subst, ap, refl, not}
use Rattle.std.proofs.lemmas.Bool.{false≢true}
use Rattle.std.proofs.lemmas.List.{map_push}
use Rattle.std.proofs.lemmas.Iterator.Splits.{YieldsList-from_str_split}
use Rattle.dav_headers.specs.Elements.{trimmed}
use Rattle.dav_headers.specs.Timeout.{AreTimeTypes}
use Rattle.dav_headers.specs.declared.timeout.DavTimeout.{DavTimeout}
use Rattle.dav_headers.proofs.LoopLemmas.{end_parts}
use Rattle.dav_headers.proofs.TimeoutLemmas.{AreTimeTypes-push, no_time_types-turn, none_read, one_read}
use Rattle.dav_headers.proofs.timeout.are_time_types.Goals as goal

pub returns-then-is_none : goal.returns-then-is_none
returns-then-is_none c =
    let none = rw c.trimmed.ensures at (none_read c.trimmed.result.now c.time_type.result c.time_type.ensures (ap not c.is_none.ensures ∙ ap (λ b. not (not b)) c.if-is_none.true)) in
    let other = no_time_types-turn trimmed c.loop-element.yielded _ c.loop-element.yielded_by (YieldsList-from_str_split 44 c.args.text.now (lit< tt) (cc) (cc) (cc)) _ _ c.in-Some.element c.in-Some.is c.next.ensures.steps none in
    (λ f. absurd (false≢true f), λ (ws, h). absurd (other ws h))

pub loop-element-preserved : goal.loop-element-preserved
loop-element-preserved c =
    let so_far = c.loop-element.invariant in
    let one = rw c.trimmed.ensures at (one_read c.trimmed.result.now c.time_type.result c.time_type.ensures (ap not c.is_none.ensures ∙ ap (λ b. not (not b)) c.if-is_none.false)) in
    rw (map_push, map_push) (so_far.0 ++ one.0 ∷ [], AreTimeTypes-push (map trimmed (map (λ p. p.now) c.loop-element.yielded)) so_far.0 (trimmed c.in-Some.element.now) one.0 so_far.1 one.1)

pub returns : goal.returns
returns c =
    let e = end_parts c.loop-element.yielded _ c.loop-element.yielded_by (YieldsList-from_str_split 44 c.args.text.now (lit< tt) (cc) (cc) (cc)) _ _ c.in-None.is c.next.ensures.steps in
    let read = subst (λ ps. (ts : List DavTimeout) × AreTimeTypes (map trimmed ps) ts) e c.loop-element.invariant in
    (λ t. read, λ h. refl)
