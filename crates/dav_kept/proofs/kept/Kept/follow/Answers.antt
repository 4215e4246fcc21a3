use Rattle.std.proofs.Common.{ℕ, List, [], ◌∷◌, ◌++◌, ◌∙◌, sym, subst, append_assoc, append-nil}
use Rattle.std.specs.List.{concat}
use Rattle.dav_kept.specs.Kept.{Holding, PlaysRecords, held_by, journal_of, answer_step}
use Rattle.dav_kept.proofs.KeptLemmas.{concat_more, of_some, plays_append, plays_none, stays_same, stays_then}
use Rattle.dav_kept.proofs.kept.Kept.follow.Goals as goal

pub loop-init : goal.loop-init
loop-init g c = (
  [],
  plays_none (answer_step g.H.Handles.answers) (held_by c.args.self.now),
  λ clean before so. subst (λ (t : List (List ℕ)). g.J.Keeps.has_so_far (journal_of c.args.self.now) t) (sym (append-nil before)) so,
  stays_same c.args.self.now,
  (λ clean. clean),
)

pub loop-preserved : goal.loop-preserved
loop-preserved g c =
    let H = g.row.H.Denot in
    let step = answer_step g.H.Handles.answers in
    let has = g.J.Keeps.has_so_far in
    let before = c.loop.invariant in
    let block : List ℕ = c.in-Some.block.items in
    let same = c.is_anew.ensures.held ∙ c.coming_block.ensures.held in
    let played : PlaysRecords step block (held_by c.loop.self) (held_by c.play_block.new.self) =
    subst (λ (h : Holding H). PlaysRecords step block h (held_by c.play_block.new.self)) same
    (subst (λ (bytes : List ℕ). PlaysRecords step bytes (held_by c.is_anew.new.self) (held_by c.play_block.new.self)) c.deref.ensures.value c.in_ok-play_block.ensures.played) in (
      before.0 ++ block ∷ [],
      subst (λ (t : List ℕ). PlaysRecords step t (held_by c.args.self.now) (held_by c.play_block.new.self)) (sym (concat_more before.0 block))
          (plays_append step (concat before.0) block _ _ _ before.1 played),
      (λ clean first so.
          let now = subst (λ j. g.J.Keeps.is_clean j) c.play_block.ensures.journal clean in
          let was = c.is_anew.ensures.clean now in
          let read = of_some _ _ _ _ c.in-Some.is (c.in_ok-block.ensures.read was (first ++ before.0) (before.2 (c.coming_block.ensures.clean was) first so)) in
          let after = c.is_anew.ensures.read _ read in
          subst (λ (t : List (List ℕ)). has (journal_of c.play_block.new.self) t) (append_assoc first before.0 (block ∷ []))
          (subst (λ j. has j ((first ++ before.0) ++ block ∷ [])) (sym c.play_block.ensures.journal) after)),
      stays_then _ _ _ (stays_then _ _ _ (stays_then _ _ _ before.3 c.coming_block.ensures.stays) c.is_anew.ensures.stays) c.play_block.ensures.stays,
      (λ clean. before.4 (c.coming_block.ensures.clean (c.is_anew.ensures.clean (subst (λ j. g.J.Keeps.is_clean j) c.play_block.ensures.journal clean)))),
    )
