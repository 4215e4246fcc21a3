use Rattle.std.proofs.Common.{◌≡◌, ◌∙◌, Some, ap, sym}
use Rattle.std.specs.Option.{option_copied}
use Rattle.dav_live.specs.Admission.{AdmissionView}
use Rattle.dav_live.proofs.AdmissionLemmas.{looks_by, no_look, untold_look}
use Rattle.dav_live.proofs.admission.Admission.may_look.Goals as goal

pub returns-in_ok-may_look-in-Some : goal.returns-in_ok-may_look-in-Some
returns-in_ok-may_look-in-Some c =
    let prefix : c.as_str-below.result.now ≡ c.args.self.now.prefix = c.as_str-below.ensures.value ∙ ap (λ (a : AdmissionView). a.prefix) c.self.view_is in
    let some : c.args.self.now.rules ≡ Some c.in-Some.rules = sym (ap (λ (a : AdmissionView). a.rules) c.self.view_is) ∙ c.in-Some.is in
    looks_by c.args.self.now c.in-Some.rules (option_copied c.args.user) c.args.kept.now c.in_ok-may_look-in-Some.field-0 some
    (c.is_told.ensures.0 c.if-not-is_told.false)
    (λ s x at is who. c.in_ok-may_look-in-Some.ensures s x (at ∙ sym prefix) is who)

pub returns-in-None : goal.returns-in-None
returns-in-None c =
    no_look c.args.self.now (option_copied c.args.user) c.args.kept.now (sym (ap (λ (a : AdmissionView). a.rules) c.self.view_is) ∙ c.in-None.is)

pub returns-then-not-is_told : goal.returns-then-not-is_told
returns-then-not-is_told c =
    untold_look c.args.self.now (option_copied c.args.user) c.args.kept.now c.is_told.result c.if-not-is_told.true c.is_told.ensures
