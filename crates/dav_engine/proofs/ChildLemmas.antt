-- The names of a path of a member, and of a path that gets a slash.
use Rattle.std.proofs.Common.{◌≡◌, ◌≢◌, ℕ, Bool, true, false, List, [], ◌∷◌, ◌++◌, refl, ◌∙◌}
use Rattle.std.proofs.lemmas.List.{append-nil}
use Rattle.dav_core.specs.Path.{PathText, IsSegment, star, names, names_in, with_slash, with_bytes}
use Rattle.dav_core.proofs.Theorems.{adds_segment, slash_adds_no_name, member_is_no_star, names_joined}
use Rattle.dav_engine.specs.Folder.{closed, child_of}

pub names_closed : (wanted : Bool) (p : PathText) → p.bytes ≢ star → names (closed wanted p) ≡ names p
names_closed true p other = slash_adds_no_name p.bytes other
names_closed false p other = refl

-- a path that gets a slash is no star path
pub closed_is_path : (wanted : Bool) (p : PathText) → p.bytes ≢ star → (closed wanted p).bytes ≢ star
closed_is_path true p other e = member_is_no_star p.bytes [] (append-nil (with_slash p.bytes) ∙ e)
closed_is_path false p other e = other e

-- nor is that of a member
pub slash_is_path : (p : PathText) (name : List ℕ) (dir : Bool) → (child_of p name dir).bytes ≢ star
slash_is_path p name dir e = closed_is_path dir (with_bytes p (with_slash p.bytes ++ name)) (member_is_no_star p.bytes name) e

-- a member's path has its name after those of the folder
pub names_child : (p : PathText) (name : List ℕ) (dir : Bool) → IsSegment name → p.bytes ≢ star → names (child_of p name dir) ≡ names p ++ name ∷ []
names_child p name dir segment other =
    names_closed dir (with_bytes p (with_slash p.bytes ++ name)) (member_is_no_star p.bytes name) ∙ adds_segment p.bytes name segment other

-- and whatever is given as its name, what that names
pub names_member : (p : PathText) (name : List ℕ) (dir : Bool) → p.bytes ≢ star → names (child_of p name dir) ≡ names p ++ names_in name
names_member p name dir other = names_closed dir (with_bytes p (with_slash p.bytes ++ name)) (member_is_no_star p.bytes name) ∙ names_joined p.bytes name other
