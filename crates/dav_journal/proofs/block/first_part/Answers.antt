use Rattle.std.proofs.Common.{◌≡◌, ◌++◌, ◌∷◌, [], sym, subst, rules}
use Rattle.dav_journal.specs.Block.{head_of}
use Rattle.dav_journal.proofs.PartsLemmas.{IsGatedText, gated_head, gated_more}
use Rattle.dav_journal.proofs.block.first_part.Goals.{then-is_empty+in_ok-push-2, else-is_empty}
use Rattle.dav_journal.proofs.block.first_part.Goals as goal

pub returns-clause-gated : goal.returns-clause-gated
returns-clause-gated c =
    let head : c.add_head.new.out.items ≡ 1 ∷ head_of c.args.key c.args.place (c.args.content.now ++ c.args.body.now) = search rules in
    let front : IsGatedText c.extend_from_slice.new.self.items =
    subst IsGatedText (sym c.in_ok-extend_from_slice.ensures.items) (gated_more _ c.args.content.now (gated_head c.args.key c.args.place _ _ head)) in
    elim c.if-is_empty.branch [
      | then-is_empty+in_ok-push-2 w ↦ subst (λ v. IsGatedText v.items) (sym w.bytes-is) (subst IsGatedText (sym w.in_ok-push-2.ensures.items) (gated_more _ (0 ∷ []) front))
      | else-is_empty w ↦ subst (λ v. IsGatedText v.items) (sym w.bytes-is) front
    ]
