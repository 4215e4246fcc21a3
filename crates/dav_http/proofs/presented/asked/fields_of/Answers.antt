use Rattle.std.proofs.Common.{ap, codes, refl, sym, ◌∙◌}
use Rattle.http_header.specs.HeaderMap.{get_all}
use Rattle.dav_http.proofs.PresentedLemmas.{none_asked}
use Rattle.dav_http.proofs.presented.asked.fields_of.Goals as goal

pub returns-then-asks_for_all : goal.returns-then-asks_for_all
returns-then-asks_for_all c =
    let fields = c.args.head.now.fields in
    let none = c.if-asks_for_all.ensures refl in
    let empty = c.new.ensures in (
      ap (λ h. get_all h (codes "if-match")) empty ∙ sym (none_asked (codes "if-match") fields refl none.0),
      ap (λ h. get_all h (codes "if-none-match")) empty ∙ sym (none_asked (codes "if-none-match") fields refl none.1),
      ap (λ h. get_all h (codes "if-modified-since")) empty ∙ sym (none_asked (codes "if-modified-since") fields refl none.2),
      ap (λ h. get_all h (codes "if-unmodified-since")) empty ∙ sym (none_asked (codes "if-unmodified-since") fields refl none.3),
      ap (λ h. get_all h (codes "if-range")) empty ∙ sym (none_asked (codes "if-range") fields refl none.4),
      ap (λ h. get_all h (codes "range")) empty ∙ sym (none_asked (codes "range") fields refl none.5),
    )
