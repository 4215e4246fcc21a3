use Rattle.std.proofs.Common.{◌≡◌, ◌<◌, ◌*◌, ℕ, min, arith, sym, ◌∙◌, ap}
use Rattle.std.proofs.lemmas.Bool.{lt-ltb, ltb-true}
use Rattle.dav_live.specs.Swollen.{quoted_at}
use Rattle.dav_live.proofs.swollen.is_swollen_at.Goals as goal

below : (n s : ℕ) → s ≡ min n 18446744073709551615 → 33554432 < s → 33554432 < n
below n s is past = omega (arith, is, past)

above : (n s : ℕ) → s ≡ min n 18446744073709551615 → 33554432 < n → 33554432 < s
above n s is past = omega (arith, is, past)

pub returns-then-is_quote : goal.returns-then-is_quote
returns-then-is_quote c =
    let names = c.args.marks in
    let n : ℕ = quoted_at c.args.bytes.now c.args.place * names in
    let s = c.saturating_mul.result in
    let is : s ≡ min n 18446744073709551615 = c.saturating_mul.ensures ∙ ap (λ (k : ℕ). min (k * names) 18446744073709551615) c.quoted_at.ensures in (
      λ yes. (sym c.is_quote.ensures ∙ c.if-is_quote.true, below n s is (ltb-true 33554432 s yes)),
      λ swollen. lt-ltb 33554432 s (above n s is swollen.1),
    )
