use Rattle.std.proofs.Common.{◌≡◌, Some, List, slice_get, take, sym, ap, subst, ◌∙◌}
use Rattle.std.specs.List.{AllByRecursion}
use Rattle.std.specs.Option.{option_copied}
use Rattle.std.proofs.lemmas.Option.{get_or_from_slice_get, slice_get_within}
use Rattle.dav_core.specs.Locks.{Lock}
use Rattle.dav_store.proofs.LoadedNodes.{all_push}
use Rattle.dav_store.proofs.LoadedWorlds.{one_more}
use Rattle.dav_confined.specs.Unlocking.{MayEndNamed}
use Rattle.dav_confined.proofs.unlocking.may_end_each.Goals as goal

pub loop-place-preserved : goal.loop-place-preserved
loop-place-preserved c =
    let ls = c.args.locks.now in
    let i = c.loop-place.place in
    let lock = c.in-Some.lock.now in
    let P = MayEndNamed c.args.rules.now (option_copied c.args.who) c.args.unlock.now in
    let at : slice_get ls i ≡ Some lock = sym (ap option_copied (sym c.in-Some.is) ∙ c.get.ensures) in
    let more = one_more ls i lock (slice_get_within ls i lock at) (sym (get_or_from_slice_get ls i lock lock at)) in
    subst (λ (ks : List Lock). AllByRecursion P ks) (sym more)
    (all_push P (take i ls) lock c.loop-place.invariant (c.may_end_named.ensures.0 c.if-not-may_end_named.false))
