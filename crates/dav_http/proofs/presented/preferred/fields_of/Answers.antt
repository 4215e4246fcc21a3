use Rattle.std.proofs.Common.{ap, codes, refl, sym, ◌∙◌}
use Rattle.http_header.specs.HeaderMap.{get_all}
use Rattle.dav_http.proofs.PresentedLemmas.{none_asked}
use Rattle.dav_http.proofs.presented.preferred.fields_of.Goals as goal

pub returns-then-says_nothing : goal.returns-then-says_nothing
returns-then-says_nothing c =
    let fields = c.args.head.now.fields in
    let none = c.if-says_nothing.ensures refl in
    let empty = c.new.ensures in (
      ap (λ h. get_all h (codes "prefer")) empty ∙ sym (none_asked (codes "prefer") fields refl none.0),
      ap (λ h. get_all h (codes "brief")) empty ∙ sym (none_asked (codes "brief") fields refl none.1),
    )
