use Rattle.std.proofs.Common.{◌≤◌, List, ℕ, length, subst, sym}
use Rattle.dav_core.specs.Path.{Path, names}
use Rattle.dav_store.proofs.FrontLemmas.{names_of_bytes}
use Rattle.dav_store.proofs.paths.count.Goals as goal

pub count_left-requires : goal.count_left-requires
count_left-requires c =
    subst (λ (p : Path). length p ≤ length c.as_bytes.result.now) (sym c.segments.ensures)
    (subst (λ (bytes : List ℕ). length (names c.args.path.now) ≤ length bytes) (sym c.as_bytes.ensures) (names_of_bytes c.args.path.now.bytes))
