use Rattle.std.proofs.Common.{ℕ, nat_eq, cond, Some, sym, ap, subst, ◌∙◌}
use Rattle.std.specs.HashMap.{get}
use Rattle.dav_store.specs.Entries.{IsKept}
use Rattle.dav_store.proofs.KeptCalls.{kept_single}
use Rattle.dav_store.proofs.entries.of_root.Goals as goal

pub invariant_of-result : goal.invariant_of-result
invariant_of-result c =
    subst (λ t. IsKept t c.insert.new.self) (sym c.in_ok-new.ensures)
    (kept_single c.args.root c.new-made.result c.insert.new.self c.requires c.new-made.ensures.empty
    (λ q. c.in_ok-insert.ensures.updates.0 q ∙ ap (λ (k : ℕ). cond (nat_eq k q) (Some 1) (get nat_eq c.new-made.result q)) c.creation_number.ensures))
