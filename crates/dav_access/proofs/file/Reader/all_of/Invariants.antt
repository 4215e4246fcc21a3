use Rattle.std.proofs.Common.{map, take}
use Rattle.std.specs.Option.{option_copied}
use Rattle.dav_access.specs.RulesText.{MeanAll}
use Rattle.dav_access.proofs.file.Reader.all_of.Given as goal

abbrev pub invariant-loop-word : goal.invariant-loop-word
invariant-loop-word l = MeanAll (option_copied l.fn.self.users) l.fn.self.lines.now (take l.word-index (map (λ w. w.now) l.words)) l.whom.items
