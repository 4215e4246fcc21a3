use Rattle.std.proofs.Common.{rules, ◌≡◌, ◌∙◌, ap, sym, length, ℕ, List}
use Rattle.std.proofs.lemmas.Nat.{from_be_bytes-to_be_bytes_8}
use Rattle.std.specs.Int.{w64, from_be_bytes}
use Rattle.std.specs.List.{slice_range}
use Rattle.dav_journal.specs.Block.{front_of}
use Rattle.dav_journal.proofs.OneLemmas.{key_part}
use Rattle.dav_journal.proofs.block.key_in.Goals as goal

pub returns-else-eq-clause-none : goal.returns-else-eq-clause-none
returns-else-eq-clause-none c key small is =
    let long : length (slice_range c.args.front.now 8 16) ≡ 8 = ap (λ (bs : List ℕ). length (slice_range bs 8 16)) is ∙ ap length (key_part key) in
    let same : c.number-key.result ≡ key = c.number-key.ensures long ∙ ap (λ (bs : List ℕ). from_be_bytes w64 (slice_range bs 8 16)) is ∙ ap (from_be_bytes w64) (key_part key) ∙ from_be_bytes-to_be_bytes_8 key small in
    let e : c.args.front.now ≡ c.front_bytes.result = is ∙ ap front_of (sym same) ∙ sym c.front_bytes.ensures in
    search (rules, e, c.if-eq.false)
