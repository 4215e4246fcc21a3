use Rattle.std.proofs.Common.{◌≡◌, ◌≢◌, [], length, ap, ◌==◌, not, arith}
use Rattle.std.proofs.lemmas.Bool.Decides.{nat_tests}
use Rattle.std.proofs.lemmas.List.Sums.{prefix_len-le-length}
use Rattle.dav_core.proofs.SegmentLemmas.{first_name}
use Rattle.dav_core.proofs.davpath.next_name.Goals as goal

pub split_at-requires : goal.split_at-requires
split_at-requires c =
    omega (arith, c.len_before.ensures, prefix_len-le-length (λ b. not (b == 47)) c.skip_slashes-bytes.result.now)

pub returns : goal.returns
returns c =
    let some : c.skip_slashes-bytes.result.now ≢ [] = λ e. let empty : length c.skip_slashes-bytes.result.now ≡ 0 = ap length e in grind (arith, nat_tests) in
    rw (c.split_at.ensures.front, c.split_at.ensures.back, c.len_before.ensures, ← c.skip_slashes-bytes.ensures.same) (first_name c.skip_slashes-bytes.result.now some c.skip_slashes-bytes.ensures.bare)
