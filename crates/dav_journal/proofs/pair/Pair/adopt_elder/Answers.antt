use Rattle.std.proofs.Common.{refl, inl, inr, rules}
use Rattle.dav_journal.specs.Pair.{IsCleanPair}
use Rattle.dav_journal.proofs.AdoptLemmas.{taken_over}
use Rattle.dav_journal.proofs.pair.Pair.adopt_elder.Goals as goal

pub returns-then-not-branch-clause-adopted : goal.returns-then-not-branch-clause-adopted
returns-then-not-branch-clause-adopted g c clean blocks leaves =
    let is = (c.in_ok-copy_elder.ensures.copied clean blocks leaves).0 in
    absurd (search (rules, is, c.if-not-branch.true))

pub returns-in_err-let_go-clause-any_moment : goal.returns-in_err-let_go-clause-any_moment
returns-in_err-let_go-clause-any_moment g c mixes clean blocks leaves left other may might =
    let before : IsCleanPair g.D.Disk c.copy_elder.new.self = (c.let_go.ensures.clean (clean.0), clean.1) in
    let (is, (contents, reading), going, copy) = c.in_ok-copy_elder.ensures.copied before blocks leaves in
    elim (c.let_go.ensures.any_moment mixes contents reading blocks going left may) [
      | inl (inl r) ↦ inl (inl r)
      | inl (inr gone) ↦ inl (inr (gone, copy other might))
      | inr begun ↦ inr (begun, copy other might)
    ]

pub returns-clause-any_moment : goal.returns-clause-any_moment
returns-clause-any_moment g c mixes clean blocks leaves left other may might =
    let before : IsCleanPair g.D.Disk c.copy_elder.new.self = (c.let_go.ensures.clean (clean.0), clean.1) in
    let (is, (contents, reading), going, copy) = c.in_ok-copy_elder.ensures.copied before blocks leaves in
    elim (c.let_go.ensures.any_moment mixes contents reading blocks going left may) [
      | inl (inl r) ↦ inl (inl r)
      | inl (inr gone) ↦ inl (inr (gone, copy other might))
      | inr begun ↦ inr (begun, copy other might)
    ]

pub returns-clause-adopted : goal.returns-clause-adopted
returns-clause-adopted g c clean blocks leaves =
    let before : IsCleanPair g.D.Disk c.copy_elder.new.self = (c.let_go.ensures.clean (clean.0), clean.1) in
    let (is, (contents, reading), going, copy) = c.in_ok-copy_elder.ensures.copied before blocks leaves in (
      refl,
      (λ left other may might. taken_over left other c.args.first.now blocks (c.in_ok-let_go.ensures.gone contents reading blocks going left may) (copy other might)),
    )

pub returns-in_err-copy_elder-clause-newer : goal.returns-in_err-copy_elder-clause-newer
returns-in_err-copy_elder-clause-newer g c clean contents r = let both = c.copy_elder.ensures.newer clean contents r in (both.0, both.1, search rules)

pub returns-then-not-branch-clause-newer : goal.returns-then-not-branch-clause-newer
returns-then-not-branch-clause-newer g c clean contents r = let both = c.copy_elder.ensures.newer clean contents r in (both.0, both.1, refl)

pub returns-in_err-let_go-clause-newer : goal.returns-in_err-let_go-clause-newer
returns-in_err-let_go-clause-newer g c clean contents r =
    let is = (c.in_ok-copy_elder.ensures.newer (c.let_go.ensures.clean (clean.0), clean.1) contents r).2 in
    absurd (search (rules, is, c.if-not-branch.false))

pub returns-clause-newer : goal.returns-clause-newer
returns-clause-newer g c clean contents r =
    let is = (c.in_ok-copy_elder.ensures.newer (c.let_go.ensures.clean (clean.0), clean.1) contents r).2 in
    absurd (search (rules, is, c.if-not-branch.false))
