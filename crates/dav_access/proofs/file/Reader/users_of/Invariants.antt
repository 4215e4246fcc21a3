use Rattle.std.proofs.Common.{◌≡◌, map, take}
use Rattle.std.specs.Option.{option_copied}
use Rattle.dav_access.specs.RulesText.{users_among}
use Rattle.dav_access.proofs.file.Reader.users_of.Given as goal

abbrev pub invariant-loop-word : goal.invariant-loop-word
invariant-loop-word l = l.whom.items ≡ users_among (option_copied l.fn.self.users) (take l.word-index (map (λ w. w.now) l.members))
