use Rattle.std.proofs.Common.{◌≡◌, ◌∙◌, List, ℕ, MatchOption, ap, subst}
use Rattle.dav_core.specs.Path.{PathText}
use Rattle.dav_shards.specs.Shards.{IsElsewhere}
use Rattle.dav_shards.specs.declared.parts.Part.{Part}
use Rattle.dav_live.specs.Admission.{AdmissionView}
use Rattle.dav_live.proofs.admission.Admission.elsewhere_in.Goals as goal

pub returns : goal.returns
returns c =
    let a = c.args.self.now in
    let only : c.deref.result.now ≡ a.only = c.deref.ensures.value ∙ ap (λ (v : AdmissionView). v.only) c.self.view_is in
    let prefix : c.as_str-below.result.now ≡ a.prefix = c.as_str-below.ensures.value ∙ ap (λ (v : AdmissionView). v.prefix) c.self.view_is in
    subst (λ (fs : List PathText). MatchOption c.in_ok-elsewhere_in.field-0 ((part : Part) → ¬ IsElsewhere fs a.prefix c.args.kept.now part) (IsElsewhere fs a.prefix c.args.kept.now)) only
    (subst (λ (t : List ℕ). MatchOption c.in_ok-elsewhere_in.field-0 ((part : Part) → ¬ IsElsewhere c.deref.result.now t c.args.kept.now part) (IsElsewhere c.deref.result.now t c.args.kept.now)) prefix c.in_ok-elsewhere_in.ensures)
