use Rattle.std.proofs.Common.{◌≡◌, ◌++◌, ◌∷◌, [], ◌∙◌, take, drop, take-append-drop, sym}
use Rattle.std.specs.Int.{w32, w64, to_le_bytes}
use Rattle.dav_turns.proofs.frames.head_in.Goals as goal

pub returns-clause-bytes : goal.returns-clause-bytes
returns-clause-bytes c =
    let bytes = c.args.bytes.now in
    let clocks = c.split_at.result.1.now in
    let (slot, kind, len) = c.front_in-slot.result in
    let front : take 9 bytes ≡ to_le_bytes w32 slot ++ kind ∷ [] ++ to_le_bytes w32 len = sym c.split_at.ensures.front ∙ c.front_in-slot.ensures.bytes in
    let seconds : take 8 clocks ≡ to_le_bytes w64 c.number_in.result = sym c.split_at-2.ensures.front ∙ c.number_in.ensures in
    let date : drop 8 clocks ≡ to_le_bytes w64 c.number_in-2.result = sym c.split_at-2.ensures.back ∙ c.number_in-2.ensures in
    let both : drop 9 bytes ≡ to_le_bytes w64 c.number_in.result ++ to_le_bytes w64 c.number_in-2.result =
    sym c.split_at.ensures.back ∙ sym (take-append-drop 8 clocks) ∙ (λ i. seconds i ++ date i) in
    sym (take-append-drop 9 bytes) ∙ (λ i. front i ++ both i)
