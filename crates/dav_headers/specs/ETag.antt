-- Entity tags (RFC 9110, section 8.8.3).
use Rattle.std.specs.Prelude.{ℕ, List, [], ◌∷◌, ◌++◌, Bool, true, false, not, ◌&&◌, bytes_eq, ◌≡◌, Contains, codes, IsSomeAnd, refl}
use Rattle.std.specs.Coded.{Coded, code_by, coded×, coded_list, coded_ℕ, coded_bool}
use Rattle.http_header.specs.FieldValue.{FieldValue}
use Rattle.dav_headers.specs.Value.{only_text}

-- an entity tag: whether it is weak, and the text between its quotes (RFC 9110, section 8.8.3)
pub record EntityTag : Type 0 where
  pub weak : Bool
  pub tag : List ℕ

-- how the logic encodes an entity tag: as the pair of its fields
abbrev pub coded_tag : Coded EntityTag
coded_tag =
    code_by (Bool × List ℕ) (coded× coded_bool (coded_list coded_ℕ))
    (λ e. (e.weak, e.tag)) (λ p. record { weak = p.0; tag = p.1 }) (λ _. refl)

-- a tag as text: `W/` where it is weak, and the tag between quotes (RFC 9110, section 8.8.3)
abbrev pub tag_text : Bool → List ℕ → List ℕ
tag_text true tag = codes "W/" ++ 34 ∷ (tag ++ 34 ∷ [])
tag_text false tag = 34 ∷ (tag ++ 34 ∷ [])

-- the text has no double quote, so it may be between those of an entity tag (RFC 9110, section 8.8.3)
abbrev pub IsUnquoted : List ℕ → Type 0
IsUnquoted tag = ¬ Contains tag 34

-- the text is this entity tag (RFC 9110, section 8.8.3)
abbrev pub IsEntityTag : List ℕ → EntityTag → Type 0
IsEntityTag text e = IsUnquoted e.tag × (text ≡ tag_text e.weak e.tag)

-- the header has one value, and it is the text of this entity tag (RFC 9110, section 8.8.3)
abbrev pub IsETag : List FieldValue → EntityTag → Type 0
IsETag values e = IsSomeAnd (only_text values) (λ text. IsEntityTag text e)

-- the strong comparison (RFC 9110, section 8.8.3.2): neither is weak, and the tags are equal
abbrev pub is_strong_match : EntityTag → EntityTag → Bool
is_strong_match e f = not e.weak && not f.weak && bytes_eq e.tag f.tag

-- the weak comparison (RFC 9110, section 8.8.3.2): the tags are equal, whether weak or not
abbrev pub is_weak_match : EntityTag → EntityTag → Bool
is_weak_match e f = bytes_eq e.tag f.tag
