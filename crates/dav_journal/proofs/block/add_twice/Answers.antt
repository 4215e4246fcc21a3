use Rattle.std.proofs.Common.{◌-◌, ◌^◌, ◌++◌, ℕ, List, ap, ◌∙◌}
use Rattle.std.specs.Int.{w64, to_be_bytes}
use Rattle.dav_journal.specs.Block.{twice}
use Rattle.dav_journal.proofs.PartLemmas.{two_parts}
use Rattle.dav_journal.proofs.block.add_twice.Goals as goal

pub returns : goal.returns
unfolding twice
returns c =
    two_parts c.args.out.now.items _ _ (to_be_bytes w64 c.args.n) (to_be_bytes w64 (2 ^ 64 - 1 - c.args.n))
    (c.in_ok-extend_from_slice.ensures.items ∙ ap (λ (l : List ℕ). c.args.out.now.items ++ l) c.to_be_bytes.ensures)
    (c.in_ok-extend_from_slice-2.ensures.items ∙ ap (λ (l : List ℕ). c.extend_from_slice.new.self.items ++ l) c.to_be_bytes-2.ensures)
