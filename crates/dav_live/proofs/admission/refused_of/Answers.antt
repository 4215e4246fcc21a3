use Rattle.std.proofs.Common.{ap, refl, string_bytes, ◌∙◌}
use Rattle.dav_live.proofs.AdmissionLemmas.{user_text}
use Rattle.dav_live.proofs.admission.refused_of.Goals as goal

pub returns : goal.returns
returns c =
    (record { reason = c.args.reason; user = c.unwrap_or.result }, c.refused.ensures, refl, ap string_bytes c.unwrap_or.ensures ∙ user_text c.args.user c.new.result c.new.ensures.bytes)
