use Rattle.std.proofs.Common.{◌∙◌, map, sym, lit<, subst, refl, All}
use Rattle.std.proofs.lemmas.Bool.{false≢true}
use Rattle.std.proofs.lemmas.Iterator.Splits.{YieldsList-from_str_split}
use Rattle.std.proofs.lemmas.List.Elements.{All-push}
use Rattle.dav_headers.specs.Language.{IsLanguage}
use Rattle.dav_headers.specs.Elements.{trimmed}
use Rattle.dav_headers.proofs.LanguageLemmas.{at_turn}
use Rattle.dav_headers.proofs.LoopLemmas.{end_parts, mapped_push}
use Rattle.dav_headers.proofs.language.are_languages.Goals as goal

pub returns-then-not-is_language : goal.returns-then-not-is_language
returns-then-not-is_language c =
    let other = λ (h : IsLanguage c.trimmed.result.now). false≢true (sym c.if-not-is_language.true ∙ c.is_language.ensures.1 h) in
    let here = at_turn IsLanguage trimmed c.loop-element.yielded _ c.loop-element.yielded_by (YieldsList-from_str_split 44 c.args.text.now (lit< tt) (cc) (cc) (cc)) _ _ c.in-Some.element c.in-Some.is c.next.ensures.steps in
    (λ f. absurd (false≢true f), λ h. absurd (other (subst IsLanguage (sym c.trimmed.ensures) (here h))))

pub loop-element-preserved : goal.loop-element-preserved
loop-element-preserved c =
    let language = subst IsLanguage c.trimmed.ensures (c.is_language.ensures.0 c.if-not-is_language.false) in
    let all = All-push IsLanguage (map trimmed (map (λ p. p.now) c.loop-element.yielded)) (trimmed c.in-Some.element.now) c.loop-element.invariant language in
    subst (All IsLanguage) (mapped_push trimmed (λ p. p.now) c.loop-element.yielded c.in-Some.element) all

pub returns : goal.returns
returns c =
    let e = end_parts c.loop-element.yielded _ c.loop-element.yielded_by (YieldsList-from_str_split 44 c.args.text.now (lit< tt) (cc) (cc) (cc)) _ _ c.in-None.is c.next.ensures.steps in
    let all = subst (λ ps. All IsLanguage (map trimmed ps)) e c.loop-element.invariant in
    (λ t. all, λ h. refl)
