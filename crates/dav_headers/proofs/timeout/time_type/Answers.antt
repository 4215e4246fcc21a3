use Rattle.std.proofs.Common.{◌++◌, sym, ◌∙◌, ap, arith}
use Rattle.std.specs.Prelude.{codes}
use Rattle.std.specs.Cmp.Lexicographic.{same_text, other_text}
use Rattle.dav_headers.proofs.TimeoutLemmas.{no_time_type, no_seconds}
use Rattle.dav_headers.proofs.timeout.time_type.Goals as goal

pub returns-then-eq : goal.returns-then-eq
returns-then-eq c = same_text c.args.element.now (codes "Infinite") (sym c.if-eq.true ∙ c.eq.ensures)

pub returns-in_err-strip_prefix : goal.returns-in_err-strip_prefix
returns-in_err-strip_prefix c =
    let other = other_text c.args.element.now (codes "Infinite") (sym c.if-eq.false ∙ c.eq.ensures) in
    rw c.from_residual.ensures (no_time_type c.args.element.now other c.in_err-strip_prefix.ensures.cases)

pub returns-in_err-seconds : goal.returns-in_err-seconds
returns-in_err-seconds c =
    let other = other_text c.args.element.now (codes "Infinite") (sym c.if-eq.false ∙ c.eq.ensures) in
    let cut = c.in_ok-strip_prefix.ensures.cases in
    let behind = cut.1.1 ∙ ap (λ rest. codes "Second-" ++ rest) (sym cut.2) in
    rw c.from_residual-in_err-seconds.ensures (no_seconds c.args.element.now c.in_ok-strip_prefix.field-0.now other behind (λ n number small. c.in_err-seconds.ensures n number))

pub returns-then-seconds-gt4294967295 : goal.returns-then-seconds-gt4294967295
returns-then-seconds-gt4294967295 c =
    let other = other_text c.args.element.now (codes "Infinite") (sym c.if-eq.false ∙ c.eq.ensures) in
    let cut = c.in_ok-strip_prefix.ensures.cases in
    let behind = cut.1.1 ∙ ap (λ rest. codes "Second-" ++ rest) (sym cut.2) in
    no_seconds c.args.element.now c.in_ok-strip_prefix.field-0.now other behind (λ n number small. omega (arith, number.1, c.in_ok-seconds.ensures.1, small, c.if-seconds-gt4294967295.true))
