-- The laws of plans and worlds, as they are stated for methods.
use Rattle.dav_engine.specs.WorldLaws.{ReadingLeavesAll, ProperPlansKeepWorlds, PlansRemember}
use Rattle.dav_engine.proofs.WorldPlans.{reading_leaves, proper_keeps}

pub reading_leaves_all : ReadingLeavesAll
reading_leaves_all plan old new ls ms a only ran = reading_leaves only ran

pub proper_plans_keep_worlds : ProperPlansKeepWorlds
proper_plans_keep_worlds plan old new ls ms a proper world ran = let kept = proper_keeps proper world ran in (kept.world, kept.next)

pub plans_remember : PlansRemember
plans_remember plan old new ls ms a number bytes proper world known ran = (proper_keeps proper world ran).remembered number bytes known
