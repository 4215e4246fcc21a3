use Rattle.std.proofs.Common.{◌∷◌, [], List, ℕ, ◌∙◌, subst, inr}
use Rattle.dav_kept.specs.Kept.{Holding, with_batch}
use Rattle.dav_kept.proofs.KeptLemmas.{first_same, if_some}
use Rattle.dav_kept.proofs.kept.Kept.snapshot.Goals as goal

pub returns-in_err-renew-clause-any_moment : goal.returns-in_err-renew-clause-any_moment
returns-in_err-renew-clause-any_moment g c clean blocks kept =
    let H = g.row.H.Denot in
    let k = c.args.self.now in
    let held = c.in_ok-commit.ensures.held in
    let saved = if_some _ _ _ c.in-Some.is c.in_ok-block.ensures in
    let same = first_same g.H.Handles.saved k c.commit.new.self c.deref.result.now (c.commit.ensures.stays.0) held (c.deref.ensures.value ∙ saved.0) in
    inr (
      subst (λ (h : Holding H). g.H.Handles.is_saveable h.state) held saved.1,
      subst (λ (b : List ℕ). g.J.Keeps.leaves c.renew.new.self (with_batch blocks k.batch) (b ∷ [])) same
          (c.renew.ensures.any_moment clean _ (c.room_to_renew.ensures.kept _ (c.in_ok-commit.ensures.kept blocks kept))),
    )

pub returns-clause-any_moment : goal.returns-clause-any_moment
returns-clause-any_moment g c clean blocks kept =
    let H = g.row.H.Denot in
    let k = c.args.self.now in
    let held = c.in_ok-commit.ensures.held in
    let saved = if_some _ _ _ c.in-Some.is c.in_ok-block.ensures in
    let same = first_same g.H.Handles.saved k c.commit.new.self c.deref.result.now (c.commit.ensures.stays.0) held (c.deref.ensures.value ∙ saved.0) in
    inr (
      subst (λ (h : Holding H). g.H.Handles.is_saveable h.state) held saved.1,
      subst (λ (b : List ℕ). g.J.Keeps.leaves c.renew.new.self (with_batch blocks k.batch) (b ∷ [])) same
          (c.renew.ensures.any_moment clean _ (c.room_to_renew.ensures.kept _ (c.in_ok-commit.ensures.kept blocks kept))),
    )

pub returns-clause-kept : goal.returns-clause-kept
returns-clause-kept g c clean blocks kept =
    let k = c.args.self.now in
    let saved = if_some _ _ _ c.in-Some.is c.in_ok-block.ensures in
    let same = first_same g.H.Handles.saved k c.commit.new.self c.deref.result.now (c.commit.ensures.stays.0) c.in_ok-commit.ensures.held (c.deref.ensures.value ∙ saved.0) in
    subst (λ (b : List ℕ). g.J.Keeps.kept c.renew.new.self (b ∷ [])) same
    (c.in_ok-renew.ensures.kept clean _ (c.room_to_renew.ensures.kept _ (c.in_ok-commit.ensures.kept blocks kept)))
