use Rattle.std.proofs.Common.{◌++◌, ◌∷◌, [], ◌&&◌, not, codes, Bool, List, ap, sym, ◌∙◌}
use Rattle.std.specs.List.{filter}
use Rattle.std.proofs.lemmas.List.Elements.{filter-append}
use Rattle.dav_core.specs.Element.{ElementTree}
use Rattle.dav_presented.specs.Missing.{is_in_prop, is_told}
use Rattle.dav_presented.specs.Quota.{bytes_property}
use Rattle.dav_presented.proofs.quota.named_quota.Goals as goal

pub returns : goal.returns
returns c =
    let wanted : ElementTree → Bool = λ e. is_in_prop e c.args.prop.now && not (is_told e c.args.response.now) in
    let one : ElementTree = bytes_property (codes "quota-available-bytes") c.args.room.available in
    let other : ElementTree = bytes_property (codes "quota-used-bytes") c.args.room.used in
    c.in_ok-add_named-2.ensures
    ∙ ap (λ (es : List ElementTree). es ++ filter wanted (c.in_ok-used.used ∷ []))
    (c.in_ok-add_named.ensures ∙ ap (λ (es : List ElementTree). es ++ filter wanted (c.in_ok-available.available ∷ [])) c.new-named.ensures.items)
    ∙ ap (λ (e : ElementTree). filter wanted (c.in_ok-available.available ∷ []) ++ filter wanted (e ∷ [])) c.in_ok-used.ensures
    ∙ ap (λ (e : ElementTree). filter wanted (e ∷ []) ++ filter wanted (other ∷ [])) c.in_ok-available.ensures
    ∙ sym (filter-append wanted (one ∷ []) (other ∷ []))
