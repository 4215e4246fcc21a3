-- The path of a first folder has one name.
use Rattle.std.proofs.Common.{◌≡◌, ◌++◌, ℕ, false, List, [], ◌∷◌, append-nil, sym, ap, ◌∙◌}
use Rattle.std.proofs.lemmas.List.Elements.{All-cons, All-nil}
use Rattle.dav_core.specs.Path.{IsName, names_of, path_bytes}
use Rattle.dav_core.proofs.TargetLemmas.{names_kept}

path_of : (name : List ℕ) → path_bytes (name ∷ []) false ≡ 47 ∷ name
path_of name = append-nil ((47 ∷ name) ++ []) ∙ append-nil (47 ∷ name)

pub one_name : (name bytes : List ℕ) → IsName name → bytes ≡ 47 ∷ name → names_of bytes ≡ name ∷ []
one_name name bytes named is = ap names_of (is ∙ sym (path_of name)) ∙ names_kept (name ∷ []) false (All-cons IsName name [] named (All-nil IsName))
