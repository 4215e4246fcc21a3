use Rattle.std.proofs.Common.{◌≡◌, ◌++◌, drop}
use Rattle.dav_presented.specs.Missing.{untold}
use Rattle.dav_presented.proofs.missing.missing_in.Given as goal

-- what is missing so far and of what is left is all
abbrev pub invariant-loop-property : goal.invariant-loop-property
invariant-loop-property l = l.missing.items ++ untold l.response (drop l.property-index l.asked) ≡ untold l.response l.asked
