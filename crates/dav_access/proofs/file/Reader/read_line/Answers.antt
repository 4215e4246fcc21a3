use Rattle.std.proofs.Common.{◌∙◌, ap, subst, sym}
use Rattle.std.specs.Option.{option_copied}
use Rattle.std.proofs.lemmas.Result.{err_from_is_err_and}
use Rattle.dav_access.specs.RulesText.{BeginsLimit, IsGrantLine, IsRulesLine, grant, group, is_silent, silent}
use Rattle.dav_access.specs.RulesFaults.{group as fault_group}
use Rattle.dav_access.proofs.RulesTextLemmas.{fault_as, first_now, nil_now}
use Rattle.dav_access.proofs.LimitLemmas.{silent_no_limit}
use Rattle.dav_access.proofs.file.Reader.read_line.Goals as goal

pub returns-in_default : goal.returns-in_default
returns-in_default c =
    let hush = ap is_silent (sym c.words.ensures ∙ nil_now c.words.result.now c.in_default.ensures.cases) in (
      silent_no_limit c.args.line.now hush,
      subst (IsRulesLine (option_copied c.args.self.now.users) c.args.self.now.lines.now c.args.before.now c.args.line.now) (sym c.new.ensures.items) (silent hush),
    )

pub returns-then-is_comment : goal.returns-then-is_comment
returns-then-is_comment c =
    let parts = sym c.words.ensures ∙ first_now c.words.result.now c.in-Some.word.now c.in-Some.rest.now c.in-Some.ensures.cases.0 in
    let hush = ap is_silent parts ∙ sym c.is_comment.ensures ∙ c.if-is_comment.true in (
      silent_no_limit c.args.line.now hush,
      subst (IsRulesLine (option_copied c.args.self.now.users) c.args.self.now.lines.now c.args.before.now c.args.line.now) (sym c.new-then-is_comment.ensures.items) (silent hush),
    )

pub returns-in_default-group : goal.returns-in_default-group
returns-in_default-group c =
    let users = option_copied c.args.self.now.users in
    let lines = c.args.self.now.lines.now in
    let parts = sym c.words.ensures ∙ first_now c.words.result.now c.in-Some.word.now c.in-Some.rest.now c.in-Some.ensures.cases.0 in
    let free = rw c.in_default-2.is at c.in_ok-limit.ensures in (
      subst (λ l. ¬ BeginsLimit l) (sym parts) free,
      grant (ap is_silent parts ∙ sym c.is_comment.ensures ∙ c.if-is_comment.false) c.in_default-group.ensures
          (subst (λ l. IsGrantLine users lines l c.in_ok-granted.field-0.items) (sym parts) c.in_ok-granted.ensures),
    )

pub returns-in_err-check_group : goal.returns-in_err-check_group
returns-in_err-check_group c =
    let p = err_from_is_err_and c.from_residual-in_err-check_group.result c.from_residual-in_err-check_group.ensures.1 in
    rw (p.1, p.2) (fault_as _ _ c.in_err-check_group.field-0.0 (λ f bad. fault_group c.in-Some-group.ensures bad) c.in_err-check_group.ensures)

pub returns : goal.returns
returns c =
    let parts = sym c.words.ensures ∙ first_now c.words.result.now c.in-Some.word.now c.in-Some.rest.now c.in-Some.ensures.cases.0 in
    let free = rw c.in_default-2.is at c.in_ok-limit.ensures in
    let good = c.in_ok-check_group.ensures in (
      subst (λ l. ¬ BeginsLimit l) (sym parts) free,
      subst (IsRulesLine (option_copied c.args.self.now.users) c.args.self.now.lines.now c.args.before.now c.args.line.now) (sym c.new-2.ensures.items)
          (group c.in-Some-group.ensures good.0 good.1 good.2),
    )
