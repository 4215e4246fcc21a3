use Rattle.std.proofs.Common.{◌∙◌, sym}
use Rattle.std.specs.Cmp.Lexicographic.{other_text}
use Rattle.std.specs.Prelude.{codes}
use Rattle.dav_headers.proofs.RangeLemmas.{bounds_at_cut}
use Rattle.dav_headers.proofs.range.bounds.Goals as goal

pub returns-in_err-number : goal.returns-in_err-number
returns-in_err-number c =
    let other = other_text c.args.text.now (codes "*") (sym c.if-eq.false ∙ c.eq.ensures) in
    rw c.from_residual-in_err-number.ensures (λ b h. let at = bounds_at_cut c.args.text.now _ _ b c.in_ok-first.ensures.found other h in c.in_err-number.ensures at.0 at.2)

pub returns-in_err-number-2 : goal.returns-in_err-number-2
returns-in_err-number-2 c =
    let other = other_text c.args.text.now (codes "*") (sym c.if-eq.false ∙ c.eq.ensures) in
    rw c.from_residual-in_err-number-2.ensures (λ b h. let at = bounds_at_cut c.args.text.now _ _ b c.in_ok-first.ensures.found other h in c.in_err-number-2.ensures at.1 at.3)
