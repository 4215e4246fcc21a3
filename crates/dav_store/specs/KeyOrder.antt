-- The order of the keys of properties is a total one: by it they stand in a tree.
use Rattle.std.specs.Cmp.{IsTotalOrder, then_total, on_total}
use Rattle.std.specs.Cmp.Lexicographic.{nat_list_cmp_total}
use Rattle.dav_core.specs.Property.{PropertyKey, key_cmp}

-- of two keys one comes before the other, unless they are the same, and what comes before comes before all that is behind
pub key_total : IsTotalOrder key_cmp
key_total = then_total (on_total (λ (k : PropertyKey). k.0) nat_list_cmp_total) (on_total (λ (k : PropertyKey). k.1) nat_list_cmp_total)
