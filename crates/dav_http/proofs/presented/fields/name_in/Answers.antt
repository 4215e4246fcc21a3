use Rattle.std.proofs.Common.{subst, sym, ◌∙◌}
use Rattle.std.specs.Str.{IsUtf8}
use Rattle.dav_http.specs.Presented.{IsNameIn, escaped, written}
use Rattle.dav_http.proofs.presented.fields.name_in.Goals as goal

pub returns-in-Ok : goal.returns-in-Ok
returns-in-Ok c =
    subst (λ n. IsNameIn c.args.address.now n) (sym (c.in-Ok.ensures.cases.0 ∙ c.requires)) (escaped (subst IsUtf8 c.requires c.in-Ok.ensures.cases.1))

pub returns-in-Err : goal.returns-in-Err
returns-in-Err c = written (λ is. c.in-Err.ensures.cases.0 (subst IsUtf8 (sym c.requires) is))
