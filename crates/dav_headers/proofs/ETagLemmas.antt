-- Facts about the texts of entity tags.
use Rattle.std.proofs.Common.{◌≡◌, ◌≢◌, ℕ, Bool, true, false, List, [], ◌∷◌, ◌++◌, ◌∙◌, ap, sym, get_or, arith}
use Rattle.std.specs.Prelude.{codes}
use Rattle.std.proofs.lemmas.List.{append_cancel_left, append_cancel_right}
use Rattle.dav_headers.specs.ETag.{EntityTag, IsEntityTag, IsUnquoted, tag_text}

-- what is between two quotes
pub between_quotes : (text rest inner tag : List ℕ) → text ≡ 34 ∷ rest → rest ≡ inner ++ 34 ∷ [] → text ≡ 34 ∷ (tag ++ 34 ∷ []) → inner ≡ tag
between_quotes text rest inner tag e f g =
    let same : 34 ∷ (inner ++ 34 ∷ []) ≡ 34 ∷ (tag ++ 34 ∷ []) = rw f at (sym e ∙ g) in
    append_cancel_right inner tag (34 ∷ []) (cc)

-- what comes after `W/` is no tag, and neither is the text
pub none_behind_mark : (text rest : List ℕ) → text ≡ codes "W/" ++ rest → ((tag : List ℕ) → ¬ IsEntityTag rest (record { weak = false; tag = tag })) → (e : EntityTag) → ¬ IsEntityTag text e
none_behind_mark text rest e none t h = by_weak t.weak t.tag h.0 h.1
  where
    by_weak : (weak : Bool) (tag : List ℕ) → IsUnquoted tag → text ≡ tag_text weak tag → ⊥
    by_weak true tag clean f = none tag (clean, append_cancel_left (codes "W/") rest (34 ∷ (tag ++ 34 ∷ [])) (sym e ∙ f))
    by_weak false tag clean f = let heads : ◌≡◌ {A = ℕ} 87 34 = ap (λ x. get_or x 0 0) (sym e ∙ f) in omega (arith, heads)

-- a text without `W/` is no weak tag
pub none_alone : (text : List ℕ) → ((rest : List ℕ) → text ≢ codes "W/" ++ rest) → ((tag : List ℕ) → ¬ IsEntityTag text (record { weak = false; tag = tag })) → (e : EntityTag) → ¬ IsEntityTag text e
none_alone text other none t h = by_weak t.weak t.tag h.0 h.1
  where
    by_weak : (weak : Bool) (tag : List ℕ) → IsUnquoted tag → text ≡ tag_text weak tag → ⊥
    by_weak true tag clean f = other (34 ∷ (tag ++ 34 ∷ [])) f
    by_weak false tag clean f = none tag (clean, f)
