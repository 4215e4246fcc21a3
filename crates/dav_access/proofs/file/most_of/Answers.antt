use Rattle.std.proofs.Common.{◌∷◌, ◌∙◌, ap, map}
use Rattle.dav_access.specs.RulesFaults.{no_number}
use Rattle.dav_access.proofs.RulesTextLemmas.{fault_as, first_now, nil_now}
use Rattle.dav_access.proofs.LimitLemmas.{number_bad, word_extra}
use Rattle.dav_access.proofs.file.most_of.Goals as goal

pub returns-in_default : goal.returns-in_default
returns-in_default c = no_number (nil_now c.args.words.now c.in_default.ensures.cases)

pub returns-in_default-amount_of : goal.returns-in_default-amount_of
returns-in_default-amount_of c =
    let parts = first_now c.args.words.now c.in-Some.word.now c.in-Some.rest.now c.in-Some.ensures.cases.0 in
    fault_as _ _ c.bad_number.result (number_bad (map (λ w. w.now) c.args.words.now) _ (map (λ w. w.now) c.in-Some.rest.now) parts c.in_default-amount_of.ensures) c.bad_number.ensures

pub returns-in-Some-split_first : goal.returns-in-Some-split_first
returns-in-Some-split_first c =
    let parts = first_now c.args.words.now c.in-Some.word.now c.in-Some.rest.now c.in-Some.ensures.cases.0 in
    let more = first_now c.in-Some.rest.now c.in-Some-split_first.extra.now _ c.in-Some-split_first.ensures.cases.0 in
    fault_as _ _ c.too_many.result
    (word_extra (map (λ w. w.now) c.args.words.now) _ _ _ _ (parts ∙ ap (λ ws. c.in-Some.word.now.now ∷ ws) more) c.in-Some-amount_of.ensures) c.too_many.ensures

pub returns-in-None : goal.returns-in-None
returns-in-None c =
    let parts = first_now c.args.words.now c.in-Some.word.now c.in-Some.rest.now c.in-Some.ensures.cases.0 in
    (c.in-Some.word.now.now, parts ∙ ap (λ ws. c.in-Some.word.now.now ∷ ws) (nil_now c.in-Some.rest.now c.in-None.ensures.cases), c.in-Some-amount_of.ensures)
