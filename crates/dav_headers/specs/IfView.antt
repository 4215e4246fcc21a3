-- What contracts see of the header `If`: its lists, without capacities.
use Rattle.std.specs.Prelude.{List, map, string_bytes}
use Rattle.dav_headers.specs.If.{Item, state_token, entity_tag, Condition, ConditionList}
use Rattle.dav_headers.specs.declared.if_header.If.{If}
use Rattle.dav_headers.specs.declared.if_header.IfList.{IfList}
use Rattle.dav_headers.specs.declared.if_header.IfCondition.{IfCondition}
use Rattle.dav_headers.specs.declared.if_header.IfItem.{IfItem}
use Rattle.dav_headers.specs.declared.if_header.IfItem.TheVariants.{StateToken, ETag}

-- what contracts see of an item of an `If`
abbrev pub item_value : IfItem → Item
item_value (StateToken t) = state_token (string_bytes t)
item_value (ETag e) = entity_tag e

-- what contracts see of a condition of an `If`
abbrev pub condition_value : IfCondition → Condition
condition_value c = record { negated = c.not; item = item_value c.item }

-- what contracts see of a list of an `If`: its resource tag and its conditions, without capacities
abbrev pub list_value : IfList → ConditionList
list_value l = record { resource = l.resource_tag; conditions = map condition_value l.conditions.items }

-- what contracts see of an `If`: its lists, without capacities
abbrev pub if_lists : If → List ConditionList
if_lists x = map list_value x.0.items
