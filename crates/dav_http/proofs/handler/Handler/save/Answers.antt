use Rattle.std.proofs.Common.{◌≡◌, List, [], true, false, refl, sym, ap, subst, ◌∙◌}
use Rattle.dav_core.specs.Asking.{StoreState}
use Rattle.dav_core.specs.Locks.{Lock}
use Rattle.dav_server.specs.Server.{HandlerView}
use Rattle.dav_store.specs.Store.{Store}
use Rattle.dav_http.specs.Saved.{IsSaveable, most_levels}
use Rattle.dav_http.proofs.SavedCalls.{elements_within, owners_within, saveable}
use Rattle.dav_http.proofs.handler.Handler.save.Goals as goal

pub returns-clause-exact : goal.returns-clause-exact
returns-clause-exact c =
    let keepable = c.in_ok-are_keepable.ensures.0 c.if-not-branch.false in
    let fs = c.fs-fs.result.now in
    let ls = c.in-Some.ls.now in
    let unrefused : c.self.inside.handler.server.state.store.refusals ≡ [] = ap (λ (u : StoreState). u.refusals) (sym c.fs-fs.ensures.state) in
    let ample : c.self.inside.handler.server.state.store.short ≡ false = ap (λ (u : StoreState). u.short) (sym c.fs-fs.ensures.state) ∙ sym c.if-was_short.ensures in
    let is = saveable fs.world ls c.self.inside.handler.server unrefused ample (ap (λ (u : StoreState). u.world) c.fs-fs.ensures.state) (sym c.in-Some.ensures.state) c.self.invariant.world keepable
    (c.in_ok-save.ensures.saveable most_levels (elements_within fs.world.nodes keepable.elements))
    (c.in_ok-save-2.ensures.saveable most_levels (owners_within ls keepable.locks)) in
    (λ t. subst (λ (h : HandlerView Store (List Lock)). IsSaveable h.server) c.self.view_is is, λ s. refl)

pub returns-then-was_short-clause-exact : goal.returns-then-was_short-clause-exact
returns-then-was_short-clause-exact c = (
  λ t. cc,
  λ s.
      let short : c.args.self.now.server.state.store.short ≡ true =
      sym (ap (λ (h : HandlerView Store (List Lock)). h.server.state.store.short) c.self.view_is) ∙ ap (λ (u : StoreState). u.short) (sym c.fs-fs.ensures.state) ∙ sym c.if-was_short.ensures in
      let clash : true ≡ false = sym short ∙ s.ample in cc,
)
