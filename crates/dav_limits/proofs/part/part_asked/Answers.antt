use Rattle.std.proofs.Common.{◌≡◌, ◌||◌, MatchOption, ap, sym, subst, ◌∙◌}
use Rattle.std.specs.Prelude.{⊤, Some}
use Rattle.dav_core.specs.declared.method.DavMethod.TheVariants.{Move}
use Rattle.dav_core.specs.Path.{is_at_or_under, names}
use Rattle.dav_confined.specs.Asked.{AskedView}
use Rattle.dav_confined.specs.Reached.{is_at_or_under_any}
use Rattle.dav_store.specs.declared.memfs.used.Amount.{Amount}
use Rattle.dav_store.specs.Used.{amount_of}
use Rattle.dav_limits.specs.Parts.{part_of, under_where}
use Rattle.dav_limits.proofs.PartLemmas.{match_weaker}
use Rattle.dav_limits.proofs.ReachLemmas.{IsQuiet, move_part, quiet_part}
use Rattle.dav_limits.proofs.part.part_asked.Goals as goal

pub returns-in_ok-moved-in-Move : goal.returns-in_ok-moved-in-Move
returns-in_ok-moved-in-Move c =
    let top = names c.args.top.now in
    let ns = c.args.handler.now.server.state.store.world.nodes in
    let now = c.args.asked.now in
    let is : now.method ≡ Move = ap (λ (a : AskedView). a.method) (sym c.asked.view_is) ∙ c.in-Move.is in
    let told : MatchOption c.in_ok-moved-in-Move.field-0 ⊤ (λ (m : Amount). m ≡ amount_of (under_where top (λ q. is_at_or_under q (names now.path) || is_at_or_under_any q now.destination) ns)) =
    subst (λ (a : AskedView). MatchOption c.in_ok-moved-in-Move.field-0 ⊤ (λ (m : Amount). m ≡ amount_of (under_where top (λ q. is_at_or_under q (names a.path) || is_at_or_under_any q a.destination) ns)))
    c.asked.view_is c.in_ok-moved-in-Move.ensures in
    match_weaker ⊤ (λ (m : Amount). m ≡ amount_of (under_where top (λ q. is_at_or_under q (names now.path) || is_at_or_under_any q now.destination) ns))
    (λ (m : Amount). m ≡ amount_of (part_of top (Some now) ns)) (λ m e. e ∙ move_part top now ns is) c.in_ok-moved-in-Move.field-0 told

pub returns-in-Get : goal.returns-in-Get
returns-in-Get c =
    c.nothing.ensures
    ∙ quiet_part (names c.args.top.now) c.args.asked.now c.args.handler.now.server.state.store.world.nodes (subst (λ (a : AskedView). IsQuiet a.method) c.asked.view_is c.in-Get.is)
