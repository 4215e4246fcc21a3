use Rattle.std.proofs.Common.{[], ◌∷◌, ◌∙◌, map, sym, ap, eqb-true}
use Rattle.std.specs.Option.{option_copied}
use Rattle.std.proofs.lemmas.Result.{err_from_is_err_and}
use Rattle.dav_access.specs.RulesFaults.{no_path, nobody, unknown}
use Rattle.dav_access.proofs.RulesTextLemmas.{fault_as, first_now, nil_now, path_bad, right_missing}
use Rattle.dav_access.proofs.file.Reader.granted.Goals as goal

pub returns-in_default : goal.returns-in_default
returns-in_default c =
    fault_as _ _ c.no_right.result (right_missing (option_copied c.args.self.now.users) c.args.self.now.lines.now c.args.word.now (map (λ w. w.now) c.args.rest.now) c.in_default.ensures) c.no_right.ensures

pub returns-in_default-split_first : goal.returns-in_default-split_first
returns-in_default-split_first c = no_path (ap (λ ws. c.args.word.now ∷ ws) (nil_now c.args.rest.now c.in_default-split_first.ensures.cases)) c.in-Some.ensures

pub returns-in_err-path : goal.returns-in_err-path
returns-in_err-path c =
    let p = err_from_is_err_and c.from_residual.result c.from_residual.ensures.1 in
    let parts = first_now c.args.rest.now c.in-Some-split_first.path.now c.in-Some-split_first.names.now c.in-Some-split_first.ensures.cases.0 in
    rw (p.1, p.2)
    (fault_as _ _ c.in_err-path.field-0.0
    (path_bad (option_copied c.args.self.now.users) c.args.self.now.lines.now c.args.word.now (map (λ w. w.now) c.args.rest.now) _ _ c.in-Some.right parts c.in-Some.ensures) c.in_err-path.ensures)

pub returns-then-is_empty : goal.returns-then-is_empty
returns-then-is_empty c =
    let path = c.in-Some-split_first.path.now in
    let names = c.in-Some-split_first.names.now in
    let parts = first_now c.args.rest.now path names c.in-Some-split_first.ensures.cases.0 in
    let none = nil_now names (eqb-true _ _ (sym c.is_empty.ensures ∙ c.if-is_empty.true)) in
    nobody (ap (λ ws. c.args.word.now ∷ ws) (parts ∙ ap (λ ns. path.now ∷ ns) none)) c.in-Some.ensures c.in_ok-path.ensures

pub returns-in_err-whom : goal.returns-in_err-whom
returns-in_err-whom c =
    let p = err_from_is_err_and c.from_residual-in_err-whom.result c.from_residual-in_err-whom.ensures.1 in
    let parts = first_now c.args.rest.now c.in-Some-split_first.path.now c.in-Some-split_first.names.now c.in-Some-split_first.ensures.cases.0 in
    rw (p.1, p.2)
    (fault_as _ _ c.in_err-whom.field-0.0 (λ f has. unknown (ap (λ ws. c.args.word.now ∷ ws) parts) c.in-Some.ensures c.in_ok-path.ensures has) c.in_err-whom.ensures)
