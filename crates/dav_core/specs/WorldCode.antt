-- How the logic stores a world.
use Rattle.std.specs.Prelude.{◌≡◌, ℕ, List, Option, Some, None}
use Rattle.std.specs.Coded.{Coded, code_by, coded_ℕ, coded_list, coded_option, coded×}
use Rattle.std.proofs.Common.{refl}
use Rattle.dav_core.specs.Property.{Properties}
use Rattle.dav_core.specs.PropertyCode.{coded_properties}
use Rattle.dav_core.specs.World.{Kind, Folder, File, Node, World}

abbrev kind_bytes : Kind → Option (List ℕ)
kind_bytes Folder = None
kind_bytes (File bytes) = Some bytes

abbrev kind_with : Option (List ℕ) → Kind
kind_with None = Folder
kind_with (Some bytes) = File bytes

-- A folder or file that is stored as its bytes, if it has any, is read back as it was.
pub kind_with-kind_bytes : (k : Kind) → kind_with (kind_bytes k) ≡ k
kind_with-kind_bytes Folder = refl
kind_with-kind_bytes (File bytes) = refl

-- How the logic stores which of both a node is, a folder or a file with its bytes.
abbrev pub coded_kind : Coded Kind
coded_kind = code_by (Option (List ℕ)) (coded_option (coded_list coded_ℕ)) kind_bytes kind_with kind_with-kind_bytes

-- How the logic stores a folder or file: as its parts.
abbrev pub coded_node : Coded Node
coded_node =
    code_by (ℕ × (ℕ × (Kind × (Properties × (ℕ × ℕ))))) (coded× coded_ℕ (coded× coded_ℕ (coded× coded_kind (coded× coded_properties (coded× coded_ℕ coded_ℕ)))))
    (λ n. (n.made, (n.number, (n.kind, (n.properties, (n.created, n.modified))))))
    (λ p. record { made = p.0; number = p.1.0; kind = p.1.1.0; properties = p.1.1.1.0; created = p.1.1.1.1.0; modified = p.1.1.1.1.1 }) (λ _. refl)

-- How the logic stores a world, one to one; nothing but the checker needs it.
abbrev pub coded_world : Coded World
coded_world =
    code_by (List (List (List ℕ) × Node) × ℕ) (coded× (coded_list (coded× (coded_list (coded_list coded_ℕ)) coded_node)) coded_ℕ)
    (λ w. (w.nodes, w.next)) (λ p. record { nodes = p.0; next = p.1 }) (λ _. refl)
