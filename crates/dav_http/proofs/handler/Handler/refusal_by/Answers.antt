use Rattle.std.proofs.Common.{◌∙◌, subst, sym, true≢false}
use Rattle.dav_http.specs.Refused.{HasUnread, stale, unread}
use Rattle.dav_http.proofs.RefusedLemmas.{all_met}
use Rattle.dav_http.proofs.handler.Handler.refusal_by.Goals as goal

pub returns-then-branch : goal.returns-then-branch
returns-then-branch c = unread (subst HasUnread c.requires (c.in_ok-has_unread.ensures.0 c.if-branch.true))

pub returns-then-branch-2 : goal.returns-then-branch-2
returns-then-branch-2 c =
    stale (λ has. true≢false (sym (c.in_ok-has_unread.ensures.1 (subst HasUnread (sym c.requires) has)) ∙ c.if-branch.false)) (c.in_ok-is_stale.ensures.0 c.if-branch-2.true)

pub returns : goal.returns
returns c =
    all_met c.args.self.now.server c.args.head.now (λ has. true≢false (sym (c.in_ok-has_unread.ensures.1 (subst HasUnread (sym c.requires) has)) ∙ c.if-branch.false))
    (λ is. true≢false (sym (c.in_ok-is_stale.ensures.1 is) ∙ c.if-branch-2.false))
