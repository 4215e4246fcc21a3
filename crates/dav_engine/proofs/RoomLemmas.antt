-- How deep a walk may go.
use Rattle.std.proofs.Common.{◌≡◌, ◌≢◌, ℕ, ◌-◌, ◌<◌, ◌^◌, suc, Bool, List, [], ◌∷◌, ◌++◌, length, refl, ap, ◌∙◌, arith}
use Rattle.dav_core.specs.Path.{PathText, IsSegment, star, names}
use Rattle.dav_core.proofs.Theorems.{few_names}
use Rattle.dav_engine.specs.Folder.{child_of, room_at}
use Rattle.dav_engine.proofs.ChildLemmas.{names_child}

-- there is room below a path of fewer bytes than 2^64
pub room_step : (p : PathText) → length p.bytes < 2 ^ 64 → room_at p ≡ suc (room_at p - 1)
unfolding room_at
room_step p small = let few = few_names p.bytes in omega (arith, few, small)

pub length_more : (xs : List (List ℕ)) (x : List ℕ) → length (xs ++ x ∷ []) ≡ suc (length xs)
length_more [] x = refl
length_more (y ∷ ys) x = ap suc (length_more ys x)

-- and by one name less at a member
pub room_child : (p : PathText) (name : List ℕ) (dir : Bool) → IsSegment name → p.bytes ≢ star → room_at (child_of p name dir) ≡ room_at p - 1
unfolding room_at
room_child p name dir segment other =
    let count : length (names (child_of p name dir)) ≡ suc (length (names p)) = ap length (names_child p name dir segment other) ∙ length_more (names p) name in
    omega (arith, count)
