use Rattle.std.proofs.Common.{◌∷◌, List, ℕ, refl, sym, ◌∙◌, subst, inl, rules}
use Rattle.dav_journal.specs.Elder.{LeavesGoing, LeavesGone}
use Rattle.dav_journal.specs.Pair.{LeavesFormer, PairLeavesOnly}
use Rattle.dav_kept.proofs.former.adopt.Goals as goal

pub returns-in_err-first-clause-any_moment : goal.returns-in_err-first-clause-any_moment
returns-in_err-first-clause-any_moment g c clean blocks leaves left other may might = inl (leaves left may)

pub returns-in_err-adopt_elder-clause-any_moment : goal.returns-in_err-adopt_elder-clause-any_moment
returns-in_err-adopt_elder-clause-any_moment g c clean blocks leaves left other may might =
    let seen = leaves _ (g.met.D.Disk.seen_may_stay _) in
    inl (leaves left ((c.adopt_elder.ensures.newer clean _ seen).0.crash left may))

pub returns-in_err-adopt_elder-clause-elder_any_moment : goal.returns-in_err-adopt_elder-clause-elder_any_moment
returns-in_err-adopt_elder-clause-elder_any_moment g c mixes clean blocks leaves =
    let is = c.deref.ensures.value ∙ c.in_ok-first.ensures in
    subst (λ (f : List ℕ). LeavesGone g.D.Disk c.adopt_elder.new.self c.args.preface.now f blocks) is
    (c.adopt_elder.ensures.any_moment mixes clean blocks (subst (λ (f : List ℕ). LeavesGoing g.D.Disk c.args.pair.now c.args.preface.now f blocks) (sym is) leaves))

pub returns-then-branch-clause-adopted : goal.returns-then-branch-clause-adopted
returns-then-branch-clause-adopted g c clean blocks leaves =
    let seen = leaves _ (g.met.D.Disk.seen_may_stay _) in
    let is = (c.in_ok-adopt_elder.ensures.newer clean _ seen).2 in
    absurd (search (rules, is, c.if-branch.true))

pub returns-then-branch-clause-any_moment : goal.returns-then-branch-clause-any_moment
returns-then-branch-clause-any_moment g c clean blocks leaves left other may might =
    let seen = leaves _ (g.met.D.Disk.seen_may_stay _) in
    inl (leaves left ((c.adopt_elder.ensures.newer clean _ seen).0.crash left may))

pub returns-then-branch-clause-elder : goal.returns-then-branch-clause-elder
returns-then-branch-clause-elder g c clean blocks leaves =
    let is = c.deref.ensures.value ∙ c.in_ok-first.ensures in
    let adopted = c.in_ok-adopt_elder.ensures.adopted clean blocks (subst (λ (f : List ℕ). LeavesGoing g.D.Disk c.args.pair.now c.args.preface.now f blocks) (sym is) leaves) in (
      refl,
      subst (λ (f : List ℕ). PairLeavesOnly g.D.Disk c.adopt_elder.new.self (f ∷ blocks)) is adopted.1,
    )

pub returns-then-branch-clause-elder_any_moment : goal.returns-then-branch-clause-elder_any_moment
returns-then-branch-clause-elder_any_moment g c mixes clean blocks leaves =
    let is = c.deref.ensures.value ∙ c.in_ok-first.ensures in
    subst (λ (f : List ℕ). LeavesGone g.D.Disk c.adopt_elder.new.self c.args.preface.now f blocks) is
    (c.adopt_elder.ensures.any_moment mixes clean blocks (subst (λ (f : List ℕ). LeavesGoing g.D.Disk c.args.pair.now c.args.preface.now f blocks) (sym is) leaves))

pub returns-in_err-adopt-clause-any_moment : goal.returns-in_err-adopt-clause-any_moment
returns-in_err-adopt-clause-any_moment g c clean blocks leaves =
    let seen = leaves _ (g.met.D.Disk.seen_may_stay _) in
    let reads = (c.adopt_elder.ensures.newer (c.adopt.ensures.clean clean) _ seen).0 in
    subst (λ (f : List ℕ). LeavesFormer g.D.Disk c.adopt.new.self (c.args.preface.now ∷ blocks) (f ∷ blocks)) (c.deref-2.ensures.value ∙ c.in_ok-first.ensures)
    (c.adopt.ensures.any_moment clean blocks (λ file may. leaves file (reads.crash file may)))

pub returns-in_err-adopt-clause-elder_any_moment : goal.returns-in_err-adopt-clause-elder_any_moment
returns-in_err-adopt-clause-elder_any_moment g c mixes clean blocks leaves =
    let is = c.deref.ensures.value ∙ c.in_ok-first.ensures in
    let yes_it_is = (c.in_ok-adopt_elder.ensures.adopted (c.adopt.ensures.clean clean) blocks (subst (λ (f : List ℕ). LeavesGoing g.D.Disk c.args.pair.now c.args.preface.now f blocks) (sym is) leaves)).0 in
    absurd (search (rules, yes_it_is, c.if-branch.false))

pub returns-clause-any_moment : goal.returns-clause-any_moment
returns-clause-any_moment g c clean blocks leaves =
    let seen = leaves _ (g.met.D.Disk.seen_may_stay _) in
    let reads = (c.adopt_elder.ensures.newer (c.adopt.ensures.clean clean) _ seen).0 in
    subst (λ (f : List ℕ). LeavesFormer g.D.Disk c.adopt.new.self (c.args.preface.now ∷ blocks) (f ∷ blocks)) (c.deref-2.ensures.value ∙ c.in_ok-first.ensures)
    (c.adopt.ensures.any_moment clean blocks (λ file may. leaves file (reads.crash file may)))

pub returns-clause-adopted : goal.returns-clause-adopted
returns-clause-adopted g c clean blocks leaves =
    let seen = leaves _ (g.met.D.Disk.seen_may_stay _) in
    let reads = (c.adopt_elder.ensures.newer (c.adopt.ensures.clean clean) _ seen).0 in
    let adopted = c.in_ok-adopt.ensures.adopted clean blocks (λ file may. leaves file (reads.crash file may)) in (
      adopted.0,
      subst (λ (f : List ℕ). PairLeavesOnly g.D.Disk c.adopt.new.self (f ∷ blocks)) (c.deref-2.ensures.value ∙ c.in_ok-first.ensures) adopted.1,
    )

pub returns-clause-elder : goal.returns-clause-elder
returns-clause-elder g c clean blocks leaves =
    let is = c.deref.ensures.value ∙ c.in_ok-first.ensures in
    let yes_it_is = (c.in_ok-adopt_elder.ensures.adopted (c.adopt.ensures.clean clean) blocks (subst (λ (f : List ℕ). LeavesGoing g.D.Disk c.args.pair.now c.args.preface.now f blocks) (sym is) leaves)).0 in
    absurd (search (rules, yes_it_is, c.if-branch.false))

pub returns-clause-elder_any_moment : goal.returns-clause-elder_any_moment
returns-clause-elder_any_moment g c mixes clean blocks leaves =
    let is = c.deref.ensures.value ∙ c.in_ok-first.ensures in
    let yes_it_is = (c.in_ok-adopt_elder.ensures.adopted (c.adopt.ensures.clean clean) blocks (subst (λ (f : List ℕ). LeavesGoing g.D.Disk c.args.pair.now c.args.preface.now f blocks) (sym is) leaves)).0 in
    absurd (search (rules, yes_it_is, c.if-branch.false))
