use Rattle.std.proofs.Common.{◌≡◌, ◌||◌, MatchOption, Option, sym, subst}
use Rattle.std.specs.Prelude.{⊤}
use Rattle.dav_core.specs.Path.{PathText, is_at_or_under, names}
use Rattle.dav_confined.specs.Reached.{is_at_or_under_any}
use Rattle.dav_store.specs.declared.memfs.used.Amount.{Amount}
use Rattle.dav_store.specs.Used.{amount_of}
use Rattle.dav_limits.specs.Parts.{under_where}
use Rattle.dav_limits.proofs.part.moved.Goals as goal

pub returns-in_ok-either-in-Some : goal.returns-in_ok-either-in-Some
returns-in_ok-either-in-Some c =
    subst (λ (o : Option PathText). MatchOption c.in_ok-either-in-Some.field-0 ⊤ (λ (a : Amount). a ≡ amount_of (under_where (names c.args.top.now)
    (λ q. is_at_or_under q (names c.args.path.now) || is_at_or_under_any q o) c.args.handler.now.server.state.store.world.nodes)))
    (sym c.in-Some.is) c.in_ok-either-in-Some.ensures
