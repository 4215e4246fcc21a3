use Rattle.std.proofs.Common.{◌≡◌, length}
use Rattle.dav_access.specs.Crypt.{after_rounds, spread}
use Rattle.dav_access.proofs.crypt.crypt_of.Given as goal

abbrev pub invariant-loop-k : goal.invariant-loop-k
invariant-loop-k l = l.last ≡ after_rounds l.k l.initial.last (spread (length l.password) l.of_password) l.salt
