use Rattle.std.proofs.Common.{ap, codes, sym, ℕ, ◌==◌, ◌∙◌}
use Rattle.http_header.specs.HeaderMap.{get_all}
use Rattle.dav_http.proofs.PlacedLemmas.{is_there}
use Rattle.dav_http.proofs.placed.is_unplaced.Goals as goal

pub returns : goal.returns
returns c =
    let values = get_all c.args.headers.now (codes "content-range") in
    let none = ap (λ (n : ℕ). n == 0) (sym c.in_ok-values.values.ok.0) ∙ sym c.is_empty.ensures ∙ c.if-is_empty.false in
    c.names_none.ensures values (is_there c.in_ok-values.values.items values (c.in_ok-values.ensures ∙ ap (get_all c.args.headers.now) c.CONTENT_RANGE.ensures) none) c.in_ok-range_in.ensures
