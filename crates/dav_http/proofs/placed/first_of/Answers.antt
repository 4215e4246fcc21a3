use Rattle.std.proofs.Common.{◌≡◌, ◌∙◌, sym}
use Rattle.dav_headers.specs.declared.range.XUpdateRange.TheVariants.{AllFrom, FromTo, Last}
use Rattle.dav_http.proofs.PlacedLemmas.{ended}
use Rattle.dav_http.proofs.placed.first_of.Goals as goal

pub returns-in-Last : goal.returns-in-Last
returns-in-Last c values is =
    ended values c.args.update is
    (λ a b e. let other : Last c.in-Last.field-0 ≡ FromTo a b = sym c.in-Last.is ∙ e in cc)
    (λ a e. let other : Last c.in-Last.field-0 ≡ AllFrom a = sym c.in-Last.is ∙ e in cc)
