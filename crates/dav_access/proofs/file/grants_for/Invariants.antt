use Rattle.std.proofs.Common.{◌≡◌, map}
use Rattle.dav_access.proofs.file.grants_for.Given as goal

abbrev pub invariant-loop-whom : goal.invariant-loop-whom
invariant-loop-whom l = l.grants.items ≡ map (λ w. record { whom = w; right = l.fn.right; path = l.fn.path }) l.yielded
