-- What contracts see of lists of conditions that borrow the header's bytes, and of the steps in which they are read.
use Rattle.std.specs.Prelude.{◌≡◌, ℕ, ◌<◌, ◌≤◌, List, [], ◌∷◌, length, map, drop, Option, Some, None, option_map}
use Rattle.std.specs.Borrow.{Bor}
use Rattle.dav_headers.specs.IfTokens.{Token}
use Rattle.dav_headers.specs.IfWritten.{WrittenItem, written_token, written_tag, WrittenCondition, WrittenList, with_front, conditions_at}
use Rattle.dav_headers.specs.declared.if_header.written.ItemText.{ItemText}
use Rattle.dav_headers.specs.declared.if_header.written.ItemText.TheVariants.{StateToken, EntityTag}
use Rattle.dav_headers.specs.declared.if_header.written.ConditionText.{ConditionText}
use Rattle.dav_headers.specs.declared.if_header.written.ListText.{ListText}

-- what contracts see of an item that borrows the header's bytes
abbrev pub item_view : ItemText → WrittenItem
item_view (StateToken t) = written_token t.now
item_view (EntityTag t) = written_tag t.now

-- what contracts see of a condition that borrows the header's bytes
abbrev pub condition_view : ConditionText → WrittenCondition
condition_view c = record { negated = c.not; item = item_view c.item }

-- what contracts see of a resource tag that borrows the header's bytes, where there is one
abbrev pub resource_view : Option (Bor (List ℕ)) → Option (List ℕ)
resource_view r = option_map (λ t. t.now) r

-- what contracts see of a list of conditions that borrows the header's bytes
abbrev pub list_view : ListText → WrittenList
list_view l = record { resource = resource_view l.resource; conditions = map condition_view l.conditions.items }

-- The next step in a list, at the tokens after its `(`: a condition, or the end of the list, and how many tokens it takes; none where
-- these tokens don't go on as a list does.
abbrev pub StepsAs : List Token → Option (Option ConditionText × ℕ) → Type 0
StepsAs ts None = conditions_at ts ≡ None
StepsAs ts (Some (None, n)) = (0 < n) × (n ≤ length ts) × (conditions_at ts ≡ Some ([], drop n ts))
StepsAs ts (Some (Some c, n)) =
    (0 < n) × (n ≤ length ts) × (conditions_at ts ≡ with_front (condition_view c ∷ []) (conditions_at (drop n ts)))
