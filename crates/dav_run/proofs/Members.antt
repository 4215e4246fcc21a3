-- The names of an object's members, as the keys of a map and as the data that the map is.
use Rattle.std.proofs.Common.{◌≡◌, ℕ, List, [], ◌∷◌, All, map, refl, ap, subst, string_bytes}
use Rattle.std.proofs.lemmas.List.{get_or-map, length-map}
use Rattle.std.proofs.lemmas.List.Elements.{All-map}
use Rattle.std.specs.Map.{keys_of}
use Rattle.serde_json.proofs.Views.{Entry}
use Rattle.serde_json.specs.View.{members_view}
use Rattle.dav_run.specs.Script.{member_names}

-- the names of the data are the texts of the keys
member_names_of_keys : (es : List Entry) → member_names (members_view es) ≡ map string_bytes (keys_of es)
member_names_of_keys [] = refl
member_names_of_keys (e ∷ es) = ap (λ names. string_bytes e.0 ∷ names) (member_names_of_keys es)

-- what holds for the text of each key holds for each name
pub all_names : (P : List ℕ → Type 0) (es : List Entry) → All (λ name. P (string_bytes name)) (keys_of es)
    → All P (member_names (members_view es))
all_names P es h = rw (member_names_of_keys es) (All-map P string_bytes (keys_of es) h)

-- what holds for each name holds for the text of each key
pub all_keys : (P : List ℕ → Type 0) (es : List Entry) → All P (member_names (members_view es))
    → All (λ name. P (string_bytes name)) (keys_of es)
all_keys P es h =
    let names : All P (map string_bytes (keys_of es)) = subst (All P) (member_names_of_keys es) h in
    λ k d below.
    subst P
    (get_or-map string_bytes (keys_of es) k d (string_bytes d) below)
    (names k (string_bytes d) (rw (length-map (keys_of es) string_bytes) below))
