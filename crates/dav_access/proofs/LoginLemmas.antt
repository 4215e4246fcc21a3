-- Digests, one behind another.
use Rattle.std.proofs.Common.{◌≡◌, ◌∙◌, ◌≤◌, ℕ, All, List, [], ◌∷◌, ◌++◌, ap, length, take, drop}
use Rattle.std.proofs.lemmas.Grind.{flat_map-append}
use Rattle.std.proofs.lemmas.List.{append-nil, append_assoc, length-take-le, take-append-drop}
use Rattle.std.proofs.lemmas.List.Elements.{All-append, All-cons, All-nil}
use Rattle.std.specs.List.{flat_map}

-- one digest more, which begins the rest
pub joined_more : (digests : List (List ℕ)) (rest bytes : List ℕ) → flat_map (λ d. d) digests ++ rest ≡ bytes
    → flat_map (λ d. d) (digests ++ take 32 rest ∷ []) ++ drop 32 rest ≡ bytes
joined_more digests rest bytes is =
    ap (λ (l : List ℕ). l ++ drop 32 rest) (flat_map-append (λ (d : List ℕ). d) digests (take 32 rest ∷ []) ∙ ap (λ (l : List ℕ). flat_map (λ d. d) digests ++ l) (append-nil (take 32 rest)))
    ∙ append_assoc (flat_map (λ d. d) digests) (take 32 rest) (drop 32 rest)
    ∙ ap (λ (l : List ℕ). flat_map (λ d. d) digests ++ l) (take-append-drop 32 rest) ∙ is

-- it has the length of one
pub each_more : (digests : List (List ℕ)) (rest : List ℕ) → 32 ≤ length rest → All (λ d. length d ≡ 32) digests
    → All (λ d. length d ≡ 32) (digests ++ take 32 rest ∷ [])
each_more digests rest some each =
    let P : List ℕ → Type 0 = λ d. length d ≡ 32 in
    All-append P digests (take 32 rest ∷ []) each (All-cons P (take 32 rest) [] (length-take-le 32 rest some) (All-nil P))
