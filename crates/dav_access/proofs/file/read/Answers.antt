use Rattle.std.proofs.Common.{◌∙◌, All, subst, sym}
use Rattle.std.specs.Str.{IsUtf8}
use Rattle.std.specs.Option.{option_copied}
use Rattle.std.proofs.lemmas.Result.{err_from_is_err_and}
use Rattle.dav_access.proofs.RulesTextLemmas.{access_fault}
use Rattle.dav_access.proofs.file.read.Goals as goal

pub returns-in_err-access : goal.returns-in_err-access
returns-in_err-access c =
    let p = err_from_is_err_and c.from_residual-in_err-access.result c.from_residual-in_err-access.ensures.1 in
    rw (p.1, p.2)
    (access_fault (option_copied c.args.users) c.args.text.now c.deref.result.now _ (sym c.has_taken_name.ensures ∙ c.if-has_taken_name.false) (c.deref.ensures.value ∙ c.in_ok-lines.ensures.0)
    (subst (All (All IsUtf8)) (sym c.deref.ensures.value) c.in_ok-lines.ensures.1) c.in_err-access.ensures)
