use Rattle.std.proofs.Common.{◌∷◌, ◌∙◌, ap, map}
use Rattle.std.proofs.lemmas.Result.{err_from_is_err_and}
use Rattle.dav_access.specs.RulesFaults.{most, no_path}
use Rattle.dav_access.proofs.RulesTextLemmas.{fault_as, first_now, nil_now}
use Rattle.dav_access.proofs.LimitLemmas.{limit_path_bad}
use Rattle.dav_access.proofs.file.limited.Goals as goal

pub returns-in_default : goal.returns-in_default
returns-in_default c = λ begins. c.in_default.ensures begins.0 begins.1

pub returns-in_default-split_first : goal.returns-in_default-split_first
returns-in_default-split_first c = no_path (ap (λ ws. c.args.word.now ∷ ws) (nil_now c.args.rest.now c.in_default-split_first.ensures.cases)) c.in-Some.ensures

pub returns-in_err-path_of : goal.returns-in_err-path_of
returns-in_err-path_of c =
    let p = err_from_is_err_and c.from_residual.result c.from_residual.ensures.1 in
    let parts = first_now c.args.rest.now c.in-Some-split_first.path.now c.in-Some-split_first.words.now c.in-Some-split_first.ensures.cases.0 in
    rw (p.1, p.2)
    (fault_as _ _ c.in_err-path_of.field-0.0 (limit_path_bad (map (λ w. w.now) c.args.rest.now) c.args.word.now _ _ c.in-Some.measure parts c.in-Some.ensures) c.in_err-path_of.ensures)

pub returns-in_err-most_of : goal.returns-in_err-most_of
returns-in_err-most_of c =
    let p = err_from_is_err_and c.from_residual-in_err-most_of.result c.from_residual-in_err-most_of.ensures.1 in
    let parts = first_now c.args.rest.now c.in-Some-split_first.path.now c.in-Some-split_first.words.now c.in-Some-split_first.ensures.cases.0 in
    rw (p.1, p.2)
    (fault_as _ _ c.in_err-most_of.field-0.0 (λ f bad. most (ap (λ ws. c.args.word.now ∷ ws) parts) c.in-Some.ensures c.in_ok-path_of.ensures bad) c.in_err-most_of.ensures)

pub returns : goal.returns
returns c =
    let parts = first_now c.args.rest.now c.in-Some-split_first.path.now c.in-Some-split_first.words.now c.in-Some-split_first.ensures.cases.0 in
    let amount = c.in_ok-most_of.ensures in
    record {
      measure_word = c.args.word.now;
      path_word = c.in-Some-split_first.path.now.now;
      most_word = amount.0;
      line_is = ap (λ ws. c.args.word.now ∷ ws) (parts ∙ ap (λ ws. c.in-Some-split_first.path.now.now ∷ ws) amount.1);
      is_measure = c.in-Some.ensures;
      is_path = c.in_ok-path_of.ensures;
      is_most = amount.2;
    }
