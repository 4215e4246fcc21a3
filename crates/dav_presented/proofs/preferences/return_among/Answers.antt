use Rattle.std.proofs.Common.{◌≡◌, ◌∙◌, map, lit<, subst, sym, None, true, false}
use Rattle.std.proofs.lemmas.Iterator.Splits.{YieldsList-from_str_split}
use Rattle.std.specs.List.{find}
use Rattle.dav_headers.specs.Elements.{trimmed}
use Rattle.dav_headers.proofs.LoopLemmas.{end_parts, mapped_push, turn_mapped}
use Rattle.dav_presented.specs.Preferences.{is_return}
use Rattle.dav_presented.proofs.PreferenceLemmas.{first_at, none_more}
use Rattle.dav_presented.proofs.preferences.return_among.Goals as goal

pub returns-then-is_return : goal.returns-then-is_return
returns-then-is_return c =
    let (rest, parts) = turn_mapped trimmed c.loop-element.yielded _ c.loop-element.yielded_by (YieldsList-from_str_split 44 c.args.text.now (lit< tt) (cc) (cc) (cc)) _ _ c.in-Some.element c.in-Some.is c.next.ensures.steps in
    first_at is_return (map trimmed (map (λ p. p.now) c.loop-element.yielded)) _ rest (trimmed c.in-Some.element.now) c.trimmed-preference.result.now parts c.loop-element.invariant
    (subst (λ t. is_return t ≡ true) c.trimmed-preference.ensures (sym c.is_return.ensures ∙ c.if-is_return.true)) c.trimmed-preference.ensures

pub loop-element-preserved : goal.loop-element-preserved
loop-element-preserved c =
    subst (λ ps. find is_return ps ≡ None) (mapped_push trimmed (λ p. p.now) c.loop-element.yielded c.in-Some.element)
    (none_more is_return (map trimmed (map (λ p. p.now) c.loop-element.yielded)) (trimmed c.in-Some.element.now) c.loop-element.invariant
    (subst (λ t. is_return t ≡ false) c.trimmed-preference.ensures (sym c.is_return.ensures ∙ c.if-is_return.false)))

pub returns : goal.returns
returns c =
    let e = end_parts c.loop-element.yielded _ c.loop-element.yielded_by (YieldsList-from_str_split 44 c.args.text.now (lit< tt) (cc) (cc) (cc)) _ _ c.in-None.is c.next.ensures.steps in
    sym (subst (λ ps. find is_return (map trimmed ps) ≡ None) e c.loop-element.invariant)
