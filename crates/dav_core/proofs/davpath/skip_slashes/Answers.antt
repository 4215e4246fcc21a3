use Rattle.std.proofs.Common.{◌==◌, arith}
use Rattle.std.proofs.lemmas.List.{take_rest}
use Rattle.std.proofs.lemmas.List.Sums.{prefix_len-le-length}
use Rattle.dav_core.proofs.SegmentLemmas.{names_behind, bare_behind}
use Rattle.dav_core.proofs.davpath.skip_slashes.Goals as goal

pub slice_bounds-result-count : goal.slice_bounds-result-count
slice_bounds-result-count c =
    omega (arith, c.slashes_at_front.ensures, prefix_len-le-length (λ b. b == 47) c.args.bytes.now)

pub slice_bounds-result-start : goal.slice_bounds-result-start
slice_bounds-result-start c =
    omega (arith, c.slashes_at_front.ensures, prefix_len-le-length (λ b. b == 47) c.args.bytes.now)

pub returns : goal.returns
returns c =
    let rest = take_rest c.args.bytes.now c.slashes_at_front.result in
    record {
      same = rw (rest, c.slashes_at_front.ensures) (names_behind c.args.bytes.now);
      bare = rw (rest, c.slashes_at_front.ensures) (bare_behind c.args.bytes.now);
    }
