use Rattle.std.proofs.Common.{◌≡◌, ℕ, List, true≢false, None, refl, sym, ap, subst, ◌∙◌}
use Rattle.dav_engine.specs.declared.request.Body.TheVariants as body
use Rattle.dav_server.specs.Head.{IsHead, Request}
use Rattle.dav_server.specs.Headers.{headers_of}
use Rattle.dav_server.specs.Machine.{Exchange}
use Rattle.dav_server.proofs.HeadLemmas.{one_head}
use Rattle.dav_confined.specs.Asked.{AskedView, IsAsked, IsUnread}
use Rattle.dav_store.specs.declared.memfs.used.Amount.{Amount}
use Rattle.dav_http.specs.Placed.{AreFirsts}
use Rattle.dav_limits.specs.Added.{added_by}
use Rattle.dav_limits.specs.Limits.{is_past}
use Rattle.dav_limits.proofs.ReadingLemmas.{past_once}
use Rattle.dav_limits.proofs.WatchLemmas.{at_none, at_some}
use Rattle.dav_limits.proofs.past.is_past.Goals as goal

pub returns-in_default : goal.returns-in_default
returns-in_default c = (
  λ never. absurd (true≢false (sym never)),
  λ p. absurd (c.in_default.ensures p.asked.request (subst (λ (h : List ℕ). IsHead h p.asked.request) p.here p.asked.to.head)),
)

pub returns-in_default-2 : goal.returns-in_default-2
returns-in_default-2 c = (
  λ never. absurd (true≢false (sym never)),
  λ p.
      let s = c.args.handler.now.server.settings in
      let unread : IsUnread s p.exchange = at_none (IsAsked s p.exchange) c.in_ok-asked.field-0 c.in_default-2.is (c.in_ok-asked.ensures s p.exchange (sym c.prefix.ensures) p.here) in
      absurd (unread p.asked.request p.asks.method p.asks.path p.asked.to),
)

pub returns : goal.returns
returns c =
    let s = c.args.handler.now.server.settings in
    let ns = c.args.handler.now.server.state.store.world.nodes in
    let head = c.args.head.now in
    let x : Exchange = record { head = head; body = body.None; principal = None; moment = 0; token = None } in
    let asks : AskedView = c.in-Some-2.asked in
    let asked : IsAsked s x asks = at_some (IsUnread s x) (IsAsked s x) c.in_ok-asked.field-0 asks c.in-Some-2.is (c.in_ok-asked.ensures s x (sym c.prefix.ensures) refl) in
    let firsts = c.in_ok-firsts.firsts in
    let one : asked.request ≡ c.in-Some.read = one_head head asked.request c.in-Some.read asked.to.head c.in-Some.ensures in
    let named : AreFirsts (headers_of asked.request.fields) firsts = subst (λ (r : Request). AreFirsts (headers_of r.fields) firsts) (sym one) c.in_ok-firsts.ensures in
    let value : c.in_ok-is_past_any.field-0 ≡ is_past ns asks (added_by ns asks.method asks.path c.args.body.now firsts) c.args.limits.now =
    c.in_ok-is_past_any.ensures ∙ ap (λ (a : Amount). is_past ns asks a c.args.limits.now) c.in_ok-added.ensures in (
      λ yes. record { exchange = x; here = refl; asks = asks; asked = asked; firsts = firsts; named = named; past = sym value ∙ yes },
      λ p. value ∙ past_once s x p.exchange asks p.asks asked p.asked p.here ns c.args.body.now c.args.limits.now firsts p.firsts named p.named p.past,
    )
