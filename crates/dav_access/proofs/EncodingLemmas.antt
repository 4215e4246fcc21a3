-- How a text is compared with what is written of a digest, part by part.
use Rattle.std.proofs.Common.{◌≡◌, ℕ, suc, ◌+◌, ◌<◌, List, [], ◌∷◌, ◌++◌, length, take, drop, get_or, sym, ap, ◌∙◌, append_assoc, add-one}
use Rattle.std.proofs.Math.Seq.{drop-cons, take-suc, take-append_seam}
use Rattle.std.proofs.lemmas.Grind.{flat_map-append}
use Rattle.std.proofs.lemmas.List.{append_cancel_left, append-nil, take-append-drop}
use Rattle.std.specs.List.{flat_map}

-- a text that is cut where its front ends is the front and what follows it
pub cut_after : (text front found rest : List ℕ) → found ≡ take (length front) text → rest ≡ drop (length front) text → found ≡ front
    → text ≡ front ++ rest
cut_after text front found rest before after same =
    sym (take-append-drop (length front) text) ∙ ap (λ xs. xs ++ drop (length front) text) (sym before ∙ same) ∙ ap (λ xs. front ++ xs) (sym after)

-- a text that begins with a front is cut at it
pub cut_front : (text front found rest : List ℕ) → found ≡ take (length front) text → text ≡ front ++ rest → found ≡ front
cut_front text front found rest before is =
    before ∙ ap (λ xs. take (length front) xs) is ∙ take-append_seam front rest

module _ {X : Type 0} (f : X → List ℕ) (xs : List X) (text : List ℕ) where
  -- a part more
  pub part_more : (i : ℕ) (d : X) (rest more : List ℕ) → i < length xs → text ≡ flat_map f (take i xs) ++ rest → rest ≡ f (get_or xs i d) ++ more
      → text ≡ flat_map f (take (i + 1) xs) ++ more
  part_more i d rest more within so_far is =
      let one : flat_map f (take (suc i) xs) ≡ flat_map f (take i xs) ++ f (get_or xs i d) =
      ap (flat_map f) (take-suc xs i d within) ∙ flat_map-append f (take i xs) (get_or xs i d ∷ [])
      ∙ ap (λ ys. flat_map f (take i xs) ++ ys) (append-nil (f (get_or xs i d))) in
      so_far ∙ ap (λ ys. flat_map f (take i xs) ++ ys) is ∙ sym (append_assoc (flat_map f (take i xs)) (f (get_or xs i d)) more)
      ∙ ap (λ ys. ys ++ more) (sym one ∙ ap (λ k. flat_map f (take k xs)) (sym (add-one i)))

  -- what follows the parts so far is the rest of a text that is all parts and an end
  pub rest_is : (i : ℕ) (d : X) (rest last : List ℕ) → i < length xs → text ≡ flat_map f (take i xs) ++ rest → text ≡ flat_map f xs ++ last
      → rest ≡ f (get_or xs i d) ++ (flat_map f (drop (suc i) xs) ++ last)
  rest_is i d rest last within so_far whole =
      let parts : flat_map f xs ≡ flat_map f (take i xs) ++ (f (get_or xs i d) ++ flat_map f (drop (suc i) xs)) =
      ap (flat_map f) (sym (take-append-drop i xs)) ∙ flat_map-append f (take i xs) (drop i xs)
      ∙ ap (λ ys. flat_map f (take i xs) ++ flat_map f ys) (drop-cons xs i d within) in
      append_cancel_left (flat_map f (take i xs)) rest (f (get_or xs i d) ++ (flat_map f (drop (suc i) xs) ++ last))
      (sym so_far ∙ whole ∙ ap (λ ys. ys ++ last) parts ∙ append_assoc (flat_map f (take i xs)) (f (get_or xs i d) ++ flat_map f (drop (suc i) xs)) last
      ∙ ap (λ ys. flat_map f (take i xs) ++ ys) (append_assoc (f (get_or xs i d)) (flat_map f (drop (suc i) xs)) last))
