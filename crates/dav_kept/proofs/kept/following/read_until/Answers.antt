use Rattle.std.proofs.Common.{ℕ, List, [], ◌∷◌, ◌++◌, subst, append_assoc}
use Rattle.dav_kept.proofs.KeptLemmas.{of_some}
use Rattle.dav_kept.proofs.kept.following.read_until.Goals as goal

pub loop-preserved : goal.loop-preserved
loop-preserved g c =
    let before = c.loop.invariant in
    let block : List ℕ = c.in-Some._block.items in (
      (
        before.0.0 ++ block ∷ [],
        λ clean first so.
            subst (λ (t : List (List ℕ)). g.K.Keeps.has_so_far c.next.new.self t) (append_assoc first before.0.0 (block ∷ []))
            (of_some _ _ _ _ c.in-Some.is (c.in_ok-_block.ensures.read clean (first ++ before.0.0) (before.0.1 (c.next.ensures.clean clean) first so))),
      ),
      (λ clean. before.1 (c.next.ensures.clean clean)),
    )
