use Rattle.std.proofs.Common.{◌≡◌, Some, List, slice_get, take, sym, ap, subst, ◌∙◌}
use Rattle.std.specs.List.{AllByRecursion}
use Rattle.std.specs.Option.{option_copied}
use Rattle.std.proofs.lemmas.Option.{get_or_from_slice_get, slice_get_within}
use Rattle.dav_core.specs.Locks.{Lock}
use Rattle.dav_store.proofs.LoadedNodes.{all_push}
use Rattle.dav_store.proofs.LoadedWorlds.{one_more}
use Rattle.dav_http.specs.Holders.{IsOwnOrUnnamed}
use Rattle.dav_http.proofs.handler.holders.are_own_or_unnamed.Goals as goal

pub loop-i-preserved : goal.loop-i-preserved
loop-i-preserved c =
    let ls = c.args.ls.now in
    let i = c.loop-i.i in
    let lock = c.in-Some.lock.now in
    let at : slice_get ls i ≡ Some lock = sym (ap option_copied (sym c.in-Some.is) ∙ c.get.ensures) in
    let more = one_more ls i lock (slice_get_within ls i lock at) (sym (get_or_from_slice_get ls i lock lock at)) in
    subst (λ (ks : List Lock). AllByRecursion (IsOwnOrUnnamed c.args.user.now c.args.text.now) ks) (sym more)
    (all_push (IsOwnOrUnnamed c.args.user.now c.args.text.now) (take i ls) lock c.loop-i.invariant (c.is_own_or_unnamed.ensures.0 c.if-not-is_own_or_unnamed.false))
