-- What tests say that passed or failed together.
use Rattle.std.proofs.Common.{◌≡◌, ◌≢◌, ℕ, ◌==◌, false, arith}
use Rattle.std.proofs.lemmas.Bool.Decides.{nat_tests}

-- a byte that fails the test for a slash is none
pub no_slash : (b : ℕ) → (b == 47) ≡ false → b ≢ 47
no_slash b h = grind (arith, nat_tests)
