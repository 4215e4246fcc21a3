use Rattle.std.proofs.Common.{ap, refl, sym, ◌∙◌}
use Rattle.std.proofs.lemmas.List.Sums.{list_all-from_AllPass}
use Rattle.std.specs.List.{find}
use Rattle.http_header.specs.Token.{is_visible_or_blank}
use Rattle.dav_presented.specs.Preferences.{is_return}
use Rattle.dav_presented.proofs.PreferenceLemmas.{understood}
use Rattle.dav_presented.proofs.preferences.return_in.Goals as goal

pub returns-else-has_quote : goal.returns-else-has_quote
returns-else-has_quote c =
    c.return_among.ensures
    ∙ ap (find is_return)
    (understood c.args.value.now c.in-Ok.text.now c.in-Ok.ensures.ok (list_all-from_AllPass is_visible_or_blank c.args.value.now.bytes (c.in-Ok.ensures.succeeds.0 refl))
    (sym c.has_quote.ensures ∙ c.if-has_quote.false))
