use Rattle.std.proofs.Common.{◌≡◌, map}
use Rattle.dav_core.specs.Property.{patched, patch_of}
use Rattle.dav_store.specs.Answered.{answer_to}
use Rattle.dav_store.proofs.properties.patched_in_any_order.Given as goal

-- the changes so far were made and answered
abbrev pub invariant-loop-set : goal.invariant-loop-set
invariant-loop-set l = (l.answers.items ≡ map answer_to l.yielded) × (l.entries.items ≡ patched (map patch_of l.yielded) l.fn.entries.items)
