use Rattle.std.proofs.Common.{ap, subst, sym, ◌∙◌}
use Rattle.dav_http.specs.Refused.{IsChangedAt, Tells, since_in}
use Rattle.dav_http.proofs.RefusedLemmas.{decides_stale, never_stale}
use Rattle.dav_http.proofs.handler.Handler.is_stale.Goals as goal

pub returns-in-Some-2 : goal.returns-in-Some-2
returns-in-Some-2 c =
    decides_stale c.args.self.now.server c.args.head.now c.in-Some.since c.in-Some-2.moment (sym (ap since_in c.requires) ∙ sym c.in_ok-since.ensures ∙ c.in-Some.is)
    (subst (Tells (IsChangedAt c.args.self.now.server c.args.head.now)) c.in-Some-2.is c.in_ok-moment.ensures)

pub returns-in-None : goal.returns-in-None
returns-in-None c =
    never_stale c.args.self.now.server c.args.head.now (subst (Tells (IsChangedAt c.args.self.now.server c.args.head.now)) c.in-None.is c.in_ok-moment.ensures)
