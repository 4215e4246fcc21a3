-- Lists of conditions as they are written: the bytes of each token, before their meaning is looked at.
use Rattle.std.specs.Prelude.{◌≡◌, ℕ, ◌<◌, ◌++◌, Bool, true, false, ⊤, length, List, [], ◌∷◌, Option, Some, None, option_map, Ok, IsUtf8}
use Rattle.std.specs.List.{AllZip}
use Rattle.url.specs.Parser.{parse_url}
use Rattle.url.specs.Parts.{Parts}
use Rattle.dav_headers.specs.ETag.{EntityTag, IsEntityTag}
use Rattle.dav_headers.specs.IfTokens.{Token, open_list, close_list, negation, angle, square, word}
use Rattle.dav_headers.specs.If.{Item, state_token, entity_tag, Condition, ConditionList}

-- an item of an If header by the bytes of its token: in `<>` or a bare word, or in `[]`
pub data WrittenItem : Type 0 where
  written_token : List ℕ → WrittenItem
  written_tag : List ℕ → WrittenItem

-- a condition of an If header by the bytes of its item, and whether there is a `Not` before it
pub record WrittenCondition : Type 0 where
  pub negated : Bool
  pub item : WrittenItem

-- a list of an If header by the bytes of its tokens: its resource tag, where it has one, and its conditions
pub record WrittenList : Type 0 where
  pub resource : Option (List ℕ)
  pub conditions : List WrittenCondition

-- the item that a token is, by its bytes; none for `(`, `)` and `Not`
abbrev pub item_at : Token → Option WrittenItem
item_at (angle t) = Some (written_token t)
item_at (word t) = Some (written_token t)
item_at (square t) = Some (written_tag t)
item_at open_list = None
item_at close_list = None
item_at negation = None

-- ---- how lists are read: functions that the code follows

-- the conditions up to the closing sign, and the tokens after it; none where the tokens don't go on as a list does
abbrev pub Read : Type 0
Read = Option (List WrittenCondition × List Token)

-- these conditions before those that were read, if any were
abbrev pub with_front : List WrittenCondition → Read → Read
with_front cs r = option_map (λ x. (cs ++ x.0, x.1)) r

-- one condition, of this item
abbrev pub one : Bool → WrittenItem → List WrittenCondition
one negated item = record { negated = negated; item = item } ∷ []

-- The conditions at the tokens after the `(` of a list, and the tokens after its `)`. A `Not` right before that is no condition. None
-- where the tokens don't go on as a list does.
abbrev pub conditions_at : List Token → Read
conditions_at [] = None
conditions_at (open_list ∷ ts) = None
conditions_at (close_list ∷ ts) = Some ([], ts)
conditions_at (angle a ∷ ts) = with_front (one false (written_token a)) (conditions_at ts)
conditions_at (word a ∷ ts) = with_front (one false (written_token a)) (conditions_at ts)
conditions_at (square a ∷ ts) = with_front (one false (written_tag a)) (conditions_at ts)
conditions_at (negation ∷ []) = None
conditions_at (negation ∷ open_list ∷ ts) = None
conditions_at (negation ∷ negation ∷ ts) = None
conditions_at (negation ∷ close_list ∷ ts) = Some ([], ts)
conditions_at (negation ∷ angle a ∷ ts) = with_front (one true (written_token a)) (conditions_at ts)
conditions_at (negation ∷ word a ∷ ts) = with_front (one true (written_token a)) (conditions_at ts)
conditions_at (negation ∷ square a ∷ ts) = with_front (one true (written_tag a)) (conditions_at ts)

-- the resource tag of the list that the tokens begin with, and the tokens after its `(`; none where they begin with no list
abbrev pub front_at : List Token → Option (Option (List ℕ) × List Token)
front_at [] = None
front_at (open_list ∷ ts) = Some (None, ts)
front_at (angle a ∷ open_list ∷ ts) = Some (Some a, ts)
front_at (t ∷ ts) = None

-- the tokens begin with this list, and go on with the rest
abbrev pub ListAt : List Token → WrittenList → List Token → Type 0
ListAt ts l rest =
    (us : List Token) × (front_at ts ≡ Some (l.resource, us)) × (0 < length l.conditions)
    × (conditions_at us ≡ Some (l.conditions, rest))

-- the tokens don't begin with a list
abbrev pub NoList : List Token → Type 0
NoList ts = (l : WrittenList) (rest : List Token) → ¬ ListAt ts l rest

-- the tokens are these lists, one after the other
abbrev pub ListsAt : List Token → List WrittenList → Type 0
ListsAt ts [] = ts ≡ []
ListsAt ts (l ∷ ls) = (rest : List Token) × ListAt ts l rest × ListsAt rest ls

-- ---- what is written, and what it means

-- what the bytes of an item mean: UTF-8 in `<>` or alone is a state token, UTF-8 in `[]` that is the text of an entity tag is that tag
abbrev pub SaysItem : WrittenItem → Item → Type 0
SaysItem (written_token t) i = IsUtf8 t × (i ≡ state_token t)
SaysItem (written_tag t) i = (e : EntityTag) × IsUtf8 t × IsEntityTag t e × (i ≡ entity_tag e)

-- a condition by its bytes means this condition: its item means that item, and `Not` is before both or neither
abbrev pub SaysCondition : WrittenCondition → Condition → Type 0
SaysCondition w c = (c.negated ≡ w.negated) × SaysItem w.item c.item

-- what the bytes of a resource tag mean: UTF-8 that the URL Standard's parser reads, without a base, as this URL; no tag means none
abbrev pub SaysResource : Option (List ℕ) → Option Parts → Type 0
SaysResource None None = ⊤
SaysResource None (Some url) = ⊥
SaysResource (Some t) None = ⊥
SaysResource (Some t) (Some url) = IsUtf8 t × (parse_url None t ≡ Ok url)

-- a list by its bytes means this list: its resource tag and each of its conditions mean those of it
abbrev pub SaysList : WrittenList → ConditionList → Type 0
SaysList w l = SaysResource w.resource l.resource × AllZip SaysCondition w.conditions l.conditions
