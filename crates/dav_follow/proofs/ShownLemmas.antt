-- A call that isn't made changes nothing.
use Rattle.std.proofs.Common.{ℕ, List, arith, refl}
use Rattle.sqlite_disk.specs.Disk.{Cut, Torn}

pub torn_none : (at n : ℕ) (file : List ℕ) → Torn at n file file
torn_none at n file = record { no_shorter = omega arith; no_longer = omega arith; below = λ i within low. refl; above = λ i within high. refl }

pub cut_none : (n : ℕ) (file : List ℕ) → Cut n file file
cut_none n file = record { no_shorter = omega arith; no_longer = omega arith; below = λ i within low. refl }
