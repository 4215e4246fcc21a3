use Rattle.std.proofs.Common.{◌∙◌, refl, subst, sym, All}
use Rattle.std.proofs.lemmas.Bool.{false≢true}
use Rattle.std.proofs.lemmas.List.{take_all}
use Rattle.dav_headers.specs.Language.{IsLanguage}
use Rattle.dav_headers.specs.Elements.{elements_of}
use Rattle.dav_headers.specs.Value.{IsText}
use Rattle.dav_headers.proofs.LanguageLemmas.{IsReadable}
use Rattle.dav_headers.proofs.LoopLemmas.{all_at, all_turn}
use Rattle.dav_headers.proofs.language.can_be_read.Goals as goal

pub returns-in_default : goal.returns-in_default
returns-in_default c =
    let hidden = λ (text : IsText c.value-item.result.bytes). false≢true (c.in_default.ensures.succeeds.1 text) in
    (λ f. absurd (false≢true f), λ h. let here = all_at IsReadable c.args.values.now c.loop-value.value-index c.value-item.result c.loop-value-test.true c.value-item.is h in absurd (hidden here.0))

pub returns-then-not-are_languages : goal.returns-then-not-are_languages
returns-then-not-are_languages c =
    let other = λ (h : All IsLanguage (elements_of c.in-Ok.text.now)). false≢true (sym c.if-not-are_languages.true ∙ c.are_languages.ensures.1 h) in
    (λ f. absurd (false≢true f), λ h. let here = all_at IsReadable c.args.values.now c.loop-value.value-index c.value-item.result c.loop-value-test.true c.value-item.is h in absurd (other (rw c.in-Ok.ensures.ok here.1)))

pub loop-value-preserved : goal.loop-value-preserved
loop-value-preserved c =
    let text : IsText c.value-item.result.bytes = c.in-Ok.ensures.succeeds.0 refl in
    let these = c.are_languages.ensures.0 c.if-not-are_languages.false in
    all_turn IsReadable c.args.values.now c.loop-value.value-index c.value-item.result c.loop-value-test.true c.value-item.is c.loop-value.invariant (text, rw c.in-Ok.ensures.ok at these)

pub returns : goal.returns
returns c =
    let all = subst (All IsReadable) (take_all c.loop-value.value-index c.args.values.now c.loop-value-test.false) c.loop-value.invariant in
    (λ t. all, λ h. refl)
