use Rattle.std.proofs.Common.{rules, ◌≡◌, ◌∙◌, Some, ap, sym, length, take, ℕ, List}
use Rattle.std.specs.Int.{w64, from_be_bytes}
use Rattle.dav_journal.specs.Block.{twice}
use Rattle.dav_journal.proofs.TwiceLemmas.{twice_number, twice_part}
use Rattle.dav_journal.proofs.mark.mark_in.Goals as goal

pub returns-then-eq-clause-each : goal.returns-then-eq-clause-each
returns-then-eq-clause-each c n small is =
    let long : length (take 8 c.args.bytes.now) ≡ 8 = ap (λ (bs : List ℕ). length (take 8 bs)) is ∙ ap length (twice_part n) in
    ap Some (c.number-n.ensures long ∙ ap (λ (bs : List ℕ). from_be_bytes w64 (take 8 bs)) is ∙ twice_number n small)

pub returns-else-eq-clause-each : goal.returns-else-eq-clause-each
returns-else-eq-clause-each c n small is =
    let long : length (take 8 c.args.bytes.now) ≡ 8 = ap (λ (bs : List ℕ). length (take 8 bs)) is ∙ ap length (twice_part n) in
    let same : c.number-n.result ≡ n = c.number-n.ensures long ∙ ap (λ (bs : List ℕ). from_be_bytes w64 (take 8 bs)) is ∙ twice_number n small in
    let e : c.args.bytes.now ≡ c.twice_bytes.result = is ∙ ap twice (sym same) ∙ sym c.twice_bytes.ensures in
    absurd (search (rules, e, c.if-eq.false))
