use Rattle.std.proofs.Common.{◌≡◌, ◌∙◌, ℕ, List, length, ap}
use Rattle.std.proofs.lemmas.Nat.{from_be_bytes-to_be_bytes_8}
use Rattle.std.specs.Int.{w64, from_be_bytes}
use Rattle.std.specs.List.{slice_range}
use Rattle.dav_journal.proofs.ElderLemmas.{elder_len_part}
use Rattle.dav_journal.proofs.elder.elder_len_in.Goals as goal

pub returns : goal.returns
returns c key place content small is =
    let long : length (slice_range c.args.head.now 0 8) ≡ 8 = ap (λ (bs : List ℕ). length (slice_range bs 0 8)) is ∙ ap length (elder_len_part key place content) in
    c.number.ensures long ∙ ap (λ (bs : List ℕ). from_be_bytes w64 (slice_range bs 0 8)) is ∙ ap (from_be_bytes w64) (elder_len_part key place content) ∙ from_be_bytes-to_be_bytes_8 (length content) small
