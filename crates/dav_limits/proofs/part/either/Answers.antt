use Rattle.std.proofs.Common.{◌≡◌, ◌||◌, ◌+◌, ap, min, sym, ◌∙◌}
use Rattle.std.specs.Prelude.{⊤}
use Rattle.dav_core.specs.Numbers.{max_u64}
use Rattle.dav_core.specs.Path.{is_at_or_under, names}
use Rattle.dav_store.specs.declared.memfs.used.Amount.{Amount}
use Rattle.dav_store.specs.Used.{amount_of}
use Rattle.dav_limits.specs.Parts.{under_where}
use Rattle.dav_limits.proofs.PartLemmas.{either_first, either_second, either_sum, match_weaker}
use Rattle.dav_limits.proofs.part.either.Goals as goal

pub returns-then-is_at_or_under : goal.returns-then-is_at_or_under
returns-then-is_at_or_under c =
    c.in_ok-common.ensures
    ∙ ap amount_of (sym (either_first (names c.args.top.now) (names c.args.path.now) (names c.args.other.now) c.args.handler.now.server.state.store.world.nodes (sym c.is_at_or_under.ensures ∙ c.if-is_at_or_under.true)))

pub returns-then-is_at_or_under-2 : goal.returns-then-is_at_or_under-2
returns-then-is_at_or_under-2 c =
    c.in_ok-common-2.ensures
    ∙ ap amount_of (sym (either_second (names c.args.top.now) (names c.args.path.now) (names c.args.other.now) c.args.handler.now.server.state.store.world.nodes (sym c.is_at_or_under-2.ensures ∙ c.if-is_at_or_under-2.true)))

pub returns : goal.returns
returns c =
    let top = names c.args.top.now in
    let p = names c.args.path.now in
    let d = names c.args.other.now in
    let ns = c.args.handler.now.server.state.store.world.nodes in
    let here = c.in_ok-here.here in
    let there = c.in_ok-there.there in
    match_weaker ⊤ (λ (a : Amount). (a.files ≡ here.files + there.files) × (a.bytes ≡ min (here.bytes + there.bytes) max_u64))
    (λ (a : Amount). a ≡ amount_of (under_where top (λ q. is_at_or_under q p || is_at_or_under q d) ns))
    (λ a is. either_sum top p d ns (sym c.is_at_or_under.ensures ∙ c.if-is_at_or_under.false) (sym c.is_at_or_under-2.ensures ∙ c.if-is_at_or_under-2.false) here there a
    c.in_ok-here.ensures c.in_ok-there.ensures is.0 is.1)
    c.sum.result c.sum.ensures
