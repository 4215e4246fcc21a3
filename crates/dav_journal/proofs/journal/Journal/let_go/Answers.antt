use Rattle.std.proofs.Common.{[], List, ℕ, sym, subst, inl, inr}
use Rattle.dav_journal.specs.File.{Recovers}
use Rattle.dav_journal.proofs.journal.Journal.let_go.Goals as goal

pub returns-in_err-fade-clause-any_moment : goal.returns-in_err-fade-clause-any_moment
returns-in_err-fade-clause-any_moment g c mixes contents reading blocks going left may =
    inl (c.fade.ensures.any_moment mixes contents reading c.args.former.now blocks going left may)

pub returns-in_err-lose_head-clause-any_moment : goal.returns-in_err-lose_head-clause-any_moment
returns-in_err-lose_head-clause-any_moment g c mixes contents reading blocks going left may =
    let faded = c.in_ok-fade.ensures.reading contents reading in
    let still = c.in_ok-fade.ensures.going contents reading c.args.former.now blocks going in
    inl (c.lose_head.ensures.any_moment mixes contents (faded.0) (faded.1) blocks still left may)

pub returns-in_err-shorten-clause-any_moment : goal.returns-in_err-shorten-clause-any_moment
returns-in_err-shorten-clause-any_moment g c mixes contents reading blocks going left may =
    let faded = c.in_ok-fade.ensures.reading contents reading in
    let still = c.in_ok-fade.ensures.going contents reading c.args.former.now blocks going in
    let lost = c.in_ok-lose_head.ensures.lost contents (faded.0) (faded.1) blocks still in
    inl (inr (c.shorten.ensures.any_moment c.in_ok-lose_head.ensures.synced c.args.former.now (lost.0) left may))

pub returns-in_err-make_anew-clause-any_moment : goal.returns-in_err-make_anew-clause-any_moment
returns-in_err-make_anew-clause-any_moment g c mixes contents reading blocks going left may =
    let faded = c.in_ok-fade.ensures.reading contents reading in
    let still = c.in_ok-fade.ensures.going contents reading c.args.former.now blocks going in
    let lost = c.in_ok-lose_head.ensures.lost contents (faded.0) (faded.1) blocks still in
    let emptied = c.in_ok-shorten.ensures.emptied c.args.former.now (lost.0) (lost.1) in
    inr (c.make_anew.ensures.any_moment mixes c.in_ok-shorten.ensures.synced emptied left may)

pub returns-clause-any_moment : goal.returns-clause-any_moment
returns-clause-any_moment g c mixes contents reading blocks going left may =
    let faded = c.in_ok-fade.ensures.reading contents reading in
    let still = c.in_ok-fade.ensures.going contents reading c.args.former.now blocks going in
    let lost = c.in_ok-lose_head.ensures.lost contents (faded.0) (faded.1) blocks still in
    let emptied = c.in_ok-shorten.ensures.emptied c.args.former.now (lost.0) (lost.1) in
    inr (c.make_anew.ensures.any_moment mixes c.in_ok-shorten.ensures.synced emptied left may)

pub returns-clause-gone : goal.returns-clause-gone
returns-clause-gone g c contents reading blocks going left may =
    let faded = c.in_ok-fade.ensures.reading contents reading in
    let still = c.in_ok-fade.ensures.going contents reading c.args.former.now blocks going in
    let lost = c.in_ok-lose_head.ensures.lost contents (faded.0) (faded.1) blocks still in
    let emptied = c.in_ok-shorten.ensures.emptied c.args.former.now (lost.0) (lost.1) in
    subst (λ (f : List ℕ). Recovers f []) (sym (c.in_ok-make_anew.ensures.synced left may)) (c.in_ok-make_anew.ensures.made emptied)
