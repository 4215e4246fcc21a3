use Rattle.std.proofs.Common.{List, ℕ, Err, Ok, subst}
use Rattle.dav_core.specs.declared.method.DavMethod.TheVariants.{Get}
use Rattle.dav_server.specs.TargetCode.{GivesPath}
use Rattle.dav_live.proofs.AdmissionLemmas.{inside_is, outside_is}
use Rattle.dav_live.proofs.admission.is_outside.Goals as goal

pub returns-in-Ok : goal.returns-in-Ok
returns-in-Ok c =
    let prefix = c.args.prefix.now in
    let is = subst (GivesPath prefix Get c.target.result.now) c.in-Ok.is c.path_of.ensures.path in
    let gives = subst (λ (t : List ℕ). GivesPath prefix Get t (Ok c.in-Ok.field-0)) c.target.ensures is in
    (λ no. cc, λ names. absurd (inside_is prefix c.args.head.now.target c.in-Ok.field-0 gives names))

pub returns : goal.returns
returns c =
    let prefix = c.args.prefix.now in
    let is = subst (GivesPath prefix Get c.target.result.now) c.in-Err.is c.path_of.ensures.path in
    let gives = subst (λ (t : List ℕ). GivesPath prefix Get t (Err c.in-Err.error)) c.target.ensures is in
    outside_is prefix c.args.head.now.target c.in-Err.error c.is_illegal.result gives c.is_illegal.ensures.is c.is_illegal.ensures.ample
