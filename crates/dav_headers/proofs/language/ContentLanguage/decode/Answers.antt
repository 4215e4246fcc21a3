use Rattle.std.proofs.Common.{◌++◌, take, length, refl, ◌∙◌, sym, ap, All, subst, arith}
use Rattle.std.proofs.lemmas.Bool.{false≢true}
use Rattle.std.proofs.lemmas.List.{take_all}
use Rattle.std.specs.List.{flat_map}
use Rattle.dav_headers.specs.Language.{AreLanguages, IsLanguage}
use Rattle.dav_headers.specs.Elements.{elements_of}
use Rattle.dav_headers.proofs.LanguageLemmas.{readable_are_languages, languages_are_readable}
use Rattle.dav_headers.proofs.LoopLemmas.{flat_map_turn}
use Rattle.dav_headers.proofs.IfTokenLemmas.{empty_from_test, many_from_test}
use Rattle.dav_headers.proofs.ReadingLemmas.{out_of_memory}
use Rattle.dav_headers.proofs.language.ContentLanguage.decode.Goals as goal
use Rattle.dav_headers.proofs.language.ContentLanguage.decode.Goals.{then-is_empty-via-then-is_empty, then-is_empty-via-else-is_empty+then-not-can_be_read}

pub returns-then-is_empty : goal.returns-then-is_empty
returns-then-is_empty c = λ items h.
    elim c.then-is_empty.branch [
      | then-is_empty-via-then-is_empty w ↦ let none = empty_from_test c.args.values.now _ c.is_empty.ensures w.if-is_empty.true in omega (arith, h.0, ap length none)
      | then-is_empty-via-else-is_empty+then-not-can_be_read w ↦ false≢true (sym w.if-not-can_be_read.true ∙ w.can_be_read.ensures.1 (languages_are_readable c.args.values.now items h))
    ]

pub returns-in_err-push_elements : goal.returns-in_err-push_elements
returns-in_err-push_elements c =
    let some = many_from_test c.args.values.now _ _ c.is_empty.ensures c.if-is_empty.false refl in
    out_of_memory (λ x. x) AreLanguages c.args.values.now _ c.from_residual.ensures.1
    (flat_map (λ v. elements_of v.bytes) c.args.values.now, readable_are_languages c.args.values.now some (c.can_be_read.ensures.0 c.if-not-can_be_read.false))

pub loop-value-preserved : goal.loop-value-preserved
loop-value-preserved c =
    let turn = flat_map_turn (λ v. elements_of v.bytes) c.args.values.now c.loop-value.value-index c.value-item.result c.loop-value-test.true c.value-item.is in
    let same = ap elements_of c.in-Ok.ensures.ok in
    c.in_ok-push_elements.ensures ∙ ap (λ xs. xs ++ elements_of c.in-Ok.text.now) c.loop-value.invariant ∙ ap (λ ys. flat_map (λ v. elements_of v.bytes) (take c.loop-value.value-index c.args.values.now) ++ ys) same ∙ sym turn

pub invariant_of-result : goal.invariant_of-result
invariant_of-result c =
    let some = many_from_test c.args.values.now _ _ c.is_empty.ensures c.if-is_empty.false refl in
    let read = readable_are_languages c.args.values.now some (c.can_be_read.ensures.0 c.if-not-can_be_read.false) in
    let same = c.loop-value.invariant ∙ ap (flat_map (λ v. elements_of v.bytes)) (take_all c.loop-value.value-index c.args.values.now c.loop-value-test.false) in
    subst (All IsLanguage) (sym same) read.3

pub returns : goal.returns
returns c =
    let some = many_from_test c.args.values.now _ _ c.is_empty.ensures c.if-is_empty.false refl in
    let read = readable_are_languages c.args.values.now some (c.can_be_read.ensures.0 c.if-not-can_be_read.false) in
    let same = c.loop-value.invariant ∙ ap (flat_map (λ v. elements_of v.bytes)) (take_all c.loop-value.value-index c.args.values.now c.loop-value-test.false) in
    (some, read.1, same, subst (All IsLanguage) (sym same) read.3)
