use Rattle.std.proofs.Common.{take}
use Rattle.std.specs.List.{AllByRecursion}
use Rattle.dav_http.specs.Holders.{IsOwnOrUnnamed}
use Rattle.dav_http.proofs.handler.holders.are_own_or_unnamed.Given as goal

-- the locks so far are this user's, or have other tokens
abbrev pub invariant-loop-i : goal.invariant-loop-i
invariant-loop-i l = AllByRecursion (IsOwnOrUnnamed l.user l.text) (take l.i l.ls)
