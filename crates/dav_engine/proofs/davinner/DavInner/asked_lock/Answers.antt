use Rattle.std.proofs.Common.{sym, ap, ◌∙◌}
use Rattle.std.specs.Option.{option_copied}
use Rattle.std.proofs.lemmas.Result.{err_from_is_err_and}
use Rattle.dav_core.specs.declared.method.DavMethod.TheVariants as method
use Rattle.dav_engine.specs.Conditions.{if_match}
use Rattle.dav_engine.specs.Delete.{whole_depth}
use Rattle.dav_engine.specs.LockHeaders.{LockHeaders}
use Rattle.dav_engine.specs.Follows.{viewed}
use Rattle.dav_engine.specs.MembersView.{members_change}
use Rattle.dav_engine.specs.Reach.{reaches_below}
use Rattle.dav_engine.proofs.GrantFollows.{asked_depth, asked_short, asked_failed, asked_unread, asked_nothing, asked_untokened, asked_uncopied, asked_barred, asked_done, above_for}
use Rattle.dav_engine.proofs.ModelLemmas.{follows_lent, follows_for}
use Rattle.dav_engine.proofs.davinner.DavInner.asked_lock.Goals as goal
use Rattle.dav_core.specs.Path.{names}
use Rattle.dav_engine.specs.OnHandler.{caller_in}

pub returns-in_err-reach-clause-plan : goal.returns-in_err-reach-clause-plan
returns-in_err-reach-clause-plan g c =
    let p = err_from_is_err_and c.from_residual.result c.from_residual.ensures.1 in
    let deep = sym (ap (λ (h : LockHeaders). whole_depth h.depth) c.headers.view_is) ∙ sym c.whole_depth.ensures ∙ ap (viewed reaches_below) c.in_err-reach.was in
    rw (p.1, p.2) (asked_depth c.args.headers.now c.args.path.now c.args.body.now (caller_in c.args.self.now) (option_copied c.args.found) _ deep)

pub returns-in_err-verdict-clause-plan : goal.returns-in_err-verdict-clause-plan
returns-in_err-verdict-clause-plan g c =
    let p = err_from_is_err_and c.from_residual-in_err-verdict.result c.from_residual-in_err-verdict.ensures.1 in
    let deep = sym (ap (λ (h : LockHeaders). whole_depth h.depth) c.headers.view_is) ∙ sym c.whole_depth.ensures ∙ ap (viewed reaches_below) c.in_ok-reach.was in
    let one = follows_for (λ (h : LockHeaders). if_match method.Lock h.conditions (option_copied c.args.found)) c.headers.view_is c.if_match.ensures in
    rw (p.1, p.2) (follows_lent g.L.DavLockSystem.locks _ c.as_ref-ls.ensures.value
    (asked_short c.args.headers.now c.args.path.now c.args.body.now (caller_in c.args.self.now) (option_copied c.args.found) (reaches_below c.in_ok-reach.reach) deep c.if_match.result one c.in_err-verdict.field-0.0 c.in_err-verdict.was))

pub returns-in-Some-clause-plan : goal.returns-in-Some-clause-plan
returns-in-Some-clause-plan g c =
    let deep = sym (ap (λ (h : LockHeaders). whole_depth h.depth) c.headers.view_is) ∙ sym c.whole_depth.ensures ∙ ap (viewed reaches_below) c.in_ok-reach.was in
    let one = follows_for (λ (h : LockHeaders). if_match method.Lock h.conditions (option_copied c.args.found)) c.headers.view_is c.if_match.ensures in
    (follows_lent g.L.DavLockSystem.locks _ c.as_ref-ls.ensures.value
    (asked_failed c.args.headers.now c.args.path.now c.args.body.now (caller_in c.args.self.now) (option_copied c.args.found) (reaches_below c.in_ok-reach.reach) deep c.if_match.result one c.in_ok-verdict.verdict c.in_ok-verdict.was c.in-Some.status c.in-Some.is))

pub returns-in_err-info-clause-plan : goal.returns-in_err-info-clause-plan
returns-in_err-info-clause-plan g c =
    let p = err_from_is_err_and c.from_residual-in_err-info.result c.from_residual-in_err-info.ensures.1 in
    let deep = sym (ap (λ (h : LockHeaders). whole_depth h.depth) c.headers.view_is) ∙ sym c.whole_depth.ensures ∙ ap (viewed reaches_below) c.in_ok-reach.was in
    let one = follows_for (λ (h : LockHeaders). if_match method.Lock h.conditions (option_copied c.args.found)) c.headers.view_is c.if_match.ensures in
    rw (p.1, p.2) (follows_lent g.L.DavLockSystem.locks _ c.as_ref-ls.ensures.value
    (asked_unread c.args.headers.now c.args.path.now c.args.body.now (caller_in c.args.self.now) (option_copied c.args.found) (reaches_below c.in_ok-reach.reach) deep c.if_match.result one c.in_ok-verdict.verdict c.in_ok-verdict.was c.in_default.is))

pub returns-in_default-2-clause-plan : goal.returns-in_default-2-clause-plan
returns-in_default-2-clause-plan g c =
    let deep = sym (ap (λ (h : LockHeaders). whole_depth h.depth) c.headers.view_is) ∙ sym c.whole_depth.ensures ∙ ap (viewed reaches_below) c.in_ok-reach.was in
    let one = follows_for (λ (h : LockHeaders). if_match method.Lock h.conditions (option_copied c.args.found)) c.headers.view_is c.if_match.ensures in
    (follows_lent g.L.DavLockSystem.locks _ c.as_ref-ls.ensures.value
    (asked_nothing c.args.headers.now c.args.path.now c.args.body.now (caller_in c.args.self.now) (option_copied c.args.found) (reaches_below c.in_ok-reach.reach) deep c.if_match.result one c.in_ok-verdict.verdict c.in_ok-verdict.was c.in_default.is (sym c.in_ok-info.ensures.ok ∙ c.in_default-2.is)))

pub returns-in_default-token-clause-plan : goal.returns-in_default-token-clause-plan
returns-in_default-token-clause-plan g c =
    let deep = sym (ap (λ (h : LockHeaders). whole_depth h.depth) c.headers.view_is) ∙ sym c.whole_depth.ensures ∙ ap (viewed reaches_below) c.in_ok-reach.was in
    let one = follows_for (λ (h : LockHeaders). if_match method.Lock h.conditions (option_copied c.args.found)) c.headers.view_is c.if_match.ensures in
    (follows_lent g.L.DavLockSystem.locks _ c.as_ref-ls.ensures.value
    (asked_untokened c.args.headers.now c.args.path.now c.args.body.now (caller_in c.args.self.now) (option_copied c.args.found) (reaches_below c.in_ok-reach.reach) deep c.if_match.result one c.in_ok-verdict.verdict c.in_ok-verdict.was c.in_default.is c.in-Some-2.info (sym c.in_ok-info.ensures.ok ∙ c.in-Some-2.is) (sym (ap (λ w. w.token) (c.caller.view_is ∙ c.at-caller.ensures)) ∙ ap option_copied c.in_default-token.is)))

pub returns-in_err-lock_of-clause-plan : goal.returns-in_err-lock_of-clause-plan
returns-in_err-lock_of-clause-plan g c =
    let p = err_from_is_err_and c.from_residual-in_err-lock_of.result c.from_residual-in_err-lock_of.ensures.1 in
    let deep = sym (ap (λ (h : LockHeaders). whole_depth h.depth) c.headers.view_is) ∙ sym c.whole_depth.ensures ∙ ap (viewed reaches_below) c.in_ok-reach.was in
    let one = follows_for (λ (h : LockHeaders). if_match method.Lock h.conditions (option_copied c.args.found)) c.headers.view_is c.if_match.ensures in
    rw (p.1, p.2) (follows_lent g.L.DavLockSystem.locks _ c.as_ref-ls.ensures.value
    (asked_uncopied c.args.headers.now c.args.path.now c.args.body.now (caller_in c.args.self.now) (option_copied c.args.found) (reaches_below c.in_ok-reach.reach) deep c.if_match.result one c.in_ok-verdict.verdict c.in_ok-verdict.was c.in_default.is c.in-Some-2.info (sym c.in_ok-info.ensures.ok ∙ c.in-Some-2.is)))

pub returns-in_err-folder_allowed-clause-plan : goal.returns-in_err-folder_allowed-clause-plan
returns-in_err-folder_allowed-clause-plan g c =
    let p = err_from_is_err_and c.from_residual-in_err-folder_allowed.result c.from_residual-in_err-folder_allowed.ensures.1 in
    let deep = sym (ap (λ (h : LockHeaders). whole_depth h.depth) c.headers.view_is) ∙ sym c.whole_depth.ensures ∙ ap (viewed reaches_below) c.in_ok-reach.was in
    let one = follows_for (λ (h : LockHeaders). if_match method.Lock h.conditions (option_copied c.args.found)) c.headers.view_is c.if_match.ensures in
    let above = above_for (names c.args.path.now) (caller_in c.args.self.now) (members_change c.when_made.result) _ c.headers.view_is c.when_made.ensures (rw c.at-caller.ensures at c.in_err-folder_allowed.ensures) in
    rw (p.1, p.2) (follows_lent g.L.DavLockSystem.locks _ c.as_ref-ls.ensures.value
    (asked_barred c.args.headers.now c.args.path.now c.args.body.now (caller_in c.args.self.now) (option_copied c.args.found) (reaches_below c.in_ok-reach.reach) deep c.if_match.result one c.in_ok-verdict.verdict c.in_ok-verdict.was c.in_default.is c.in-Some-2.info (sym c.in_ok-info.ensures.ok ∙ c.in-Some-2.is) c.in-Some-token.token.now (sym (ap (λ w. w.token) (c.caller.view_is ∙ c.at-caller.ensures)) ∙ ap option_copied c.in-Some-token.is) _ above))

pub returns-clause-plan : goal.returns-clause-plan
returns-clause-plan g c =
    let deep = sym (ap (λ (h : LockHeaders). whole_depth h.depth) c.headers.view_is) ∙ sym c.whole_depth.ensures ∙ ap (viewed reaches_below) c.in_ok-reach.was in
    let one = follows_for (λ (h : LockHeaders). if_match method.Lock h.conditions (option_copied c.args.found)) c.headers.view_is c.if_match.ensures in
    let above = above_for (names c.args.path.now) (caller_in c.args.self.now) (members_change c.when_made.result) _ c.headers.view_is c.when_made.ensures (rw c.at-caller.ensures at c.in_ok-folder_allowed.ensures) in
    (follows_lent g.L.DavLockSystem.locks _ c.as_ref-ls.ensures.value
    (asked_done c.args.headers.now c.args.path.now c.args.body.now (caller_in c.args.self.now) (option_copied c.args.found) (reaches_below c.in_ok-reach.reach) deep c.if_match.result one c.in_ok-verdict.verdict c.in_ok-verdict.was c.in_default.is c.in-Some-2.info (sym c.in_ok-info.ensures.ok ∙ c.in-Some-2.is) c.in-Some-token.token.now (sym (ap (λ w. w.token) (c.caller.view_is ∙ c.at-caller.ensures)) ∙ ap option_copied c.in-Some-token.is) _ above (rw c.at-caller.ensures at c.in_ok-lock_of.ensures.lock)))
