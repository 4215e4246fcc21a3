-- The value of an If header (RFC 4918, section 10.4): lists of conditions, each on one resource.
use Rattle.std.specs.Prelude.{◌≡◌, ℕ, ◌<◌, ◌++◌, Bool, true, false, if◌then◌else◌, length, List, [], ◌∷◌, Option, Some, None, Ok, IsUtf8}
use Rattle.std.specs.List.{flat_map}
use Rattle.http_header.specs.FieldValue.{FieldValue}
use Rattle.url.specs.Parser.{parse_url}
use Rattle.url.specs.Parts.{Parts}
use Rattle.dav_headers.specs.ETag.{EntityTag, IsEntityTag}
use Rattle.dav_headers.specs.IfTokens.{Token, open_list, close_list, negation, angle, square, word, Spells}

-- what a condition of an If header asks for: a state token, or an entity tag of the resource (RFC 4918, section 10.4.2)
pub data Item : Type 0 where
  state_token : List ℕ → Item
  entity_tag : EntityTag → Item

-- a condition of an If header: what it asks for, and whether there is a `Not` before it (RFC 4918, section 10.4.2)
pub record Condition : Type 0 where
  pub negated : Bool
  pub item : Item

-- one list of an If header: its conditions, and the URL of the resource tag right before it, where it has one (RFC 4918, section 10.4.2)
pub record ConditionList : Type 0 where
  pub resource : Option Parts
  pub conditions : List Condition

-- A token as an item: UTF-8 in `<>` or alone is a state token; the text of an entity tag in `[]` is that tag; `(`, `)` and `Not` are none
-- (RFC 4918, section 10.4.2; RFC 9110, section 8.8.3).
abbrev pub IsItem : Token → Item → Type 0
IsItem (angle t) i = IsUtf8 t × (i ≡ state_token t)
IsItem (word t) i = IsUtf8 t × (i ≡ state_token t)
IsItem (square t) i = (e : EntityTag) × IsUtf8 t × IsEntityTag t e × (i ≡ entity_tag e)
IsItem open_list i = ⊥
IsItem close_list i = ⊥
IsItem negation i = ⊥

-- the tokens are these conditions one after the other, each with `Not` before it where it is negated (RFC 4918, section 10.4.2)
abbrev pub AreConditions : List Token → List Condition → Type 0
AreConditions ts [] = ts ≡ []
AreConditions ts (c ∷ cs) =
    (t : Token) × (more : List Token)
    × IsItem t c.item × (ts ≡ (if c.negated then negation ∷ t ∷ more else t ∷ more)) × AreConditions more cs

-- The tokens of a resource tag: none, or UTF-8 in `<>` that the URL Standard's parser reads, without a base, as this URL. So a relative
-- reference is none (RFC 4918, section 10.4.2).
abbrev pub IsResourceTag : List Token → Option Parts → Type 0
IsResourceTag ts None = ts ≡ []
IsResourceTag ts (Some url) = (t : List ℕ) × IsUtf8 t × (parse_url None t ≡ Ok url) × (ts ≡ angle t ∷ [])

-- the tokens that end a list: `)`, or `Not` and `)` where true; that `Not` means nothing
abbrev pub list_end : Bool → List Token
list_end true = negation ∷ close_list ∷ []
list_end false = close_list ∷ []

-- one list: a resource tag or none, `(`, one or more conditions, and the end (RFC 4918, section 10.4.2)
abbrev pub IsList : List Token → ConditionList → Type 0
IsList ts l =
    (tag : List Token) × (inner : List Token) × (idle : Bool)
    × IsResourceTag tag l.resource × (0 < length l.conditions) × AreConditions inner l.conditions
    × (ts ≡ tag ++ open_list ∷ (inner ++ list_end idle))

-- the tokens are these lists one after the other (RFC 4918, section 10.4.2)
abbrev pub AreLists : List Token → List ConditionList → Type 0
AreLists ts [] = ts ≡ []
AreLists ts (l ∷ ls) =
    (front : List Token) × (rest : List Token) × IsList front l × (ts ≡ front ++ rest) × AreLists rest ls

-- the text is that of an If header with these lists, of which there is at least one (RFC 4918, section 10.4.2)
abbrev pub IsIf : List ℕ → List ConditionList → Type 0
IsIf text ls = (ts : List Token) × Spells text ts × AreLists ts ls × (0 < length ls)

-- the header has one value, and it is that of an If header with these lists (RFC 4918, section 10.4.2)
abbrev pub IsIfHeader : List FieldValue → List ConditionList → Type 0
IsIfHeader values ls = (v : FieldValue) × (values ≡ v ∷ []) × IsIf v.bytes ls

-- ---- state tokens

-- the state token of an item, if it is one
abbrev pub tokens_in : Item → List (List ℕ)
tokens_in (state_token t) = t ∷ []
tokens_in (entity_tag e) = []

-- the state tokens of these conditions in order, those under `Not` too, each as often as it occurs (RFC 4918, section 10.4)
abbrev pub tokens_among : List Condition → List (List ℕ)
tokens_among conditions = flat_map (λ c. tokens_in c.item) conditions

-- the state tokens of all lists of an If header in order, those under `Not` too, each as often as it occurs (RFC 4918, section 10.4)
abbrev pub tokens_of : List ConditionList → List (List ℕ)
tokens_of ls = flat_map (λ l. tokens_among l.conditions) ls
