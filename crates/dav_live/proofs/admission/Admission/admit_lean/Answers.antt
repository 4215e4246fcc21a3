use Rattle.std.proofs.Common.{option_map, string_bytes}
use Rattle.dav_live.specs.Admission.{swollen}
use Rattle.dav_live.specs.declared.admission.Reason.TheVariants.{Swollen}
use Rattle.dav_live.proofs.AdmissionLemmas.{turned_away}
use Rattle.dav_live.proofs.admission.Admission.admit_lean.Goals as goal

pub returns-then-has_swollen_body : goal.returns-then-has_swollen_body
returns-then-has_swollen_body c =
    let r = c.refused_of.ensures in
    turned_away c.args.self.now c.args.tokens c.args.head.now c.args.body.now c.refused_of.result r.0 Swollen _ r.1 r.2 r.3
    (swollen (option_map string_bytes c.args.principal) c.requires.let_in (c.has_swollen_body.ensures.0 c.if-has_swollen_body.true))
