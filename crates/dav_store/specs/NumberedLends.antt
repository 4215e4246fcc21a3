-- What values by numbers end as, where a `&mut` to one of them is returned.
use Rattle.std.specs.Prelude.{◌≡◌, ℕ, List, Option}
use Rattle.std.specs.Borrow.{LendsSo, Fml, RattleType, MutBor}
use Rattle.std.specs.Ordering.{nat_cmp}
use Rattle.std.specs.BTreeMap.{is_at}
use Rattle.std.specs.Map.{set_value}
use Rattle.dav_store.specs.contracts.tree.numbered.Numbered.{the_row}

-- Once the borrow of the value of a number ends, that number has the last value that was written through r, and nothing else has changed.
abbrev pub lends_at : (V : RattleType) → MutBor (List (ℕ × V.Denot)) → ℕ → Option (MutBor V.Denot) → Fml
lends_at V s n r =
    LendsSo (the_row V) V s r (λ new w. new ≡ set_value (is_at (nat_cmp n)) s.now w) (λ new. new ≡ s.now)
