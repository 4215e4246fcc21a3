use Rattle.std.proofs.Common.{◌∷◌, []}
use Rattle.std.proofs.lemmas.Result.{on_ok_weaker}
use Rattle.dav_journal.proofs.pair.Pair.copy_former.Goals as goal

pub returns-clause-copied : goal.returns-clause-copied
returns-clause-copied g c = on_ok_weaker c.keep_mark.result (λ marked clean former reading.
    let copied = c.in_ok-copy_blocks.ensures.copied in
    let begun = c.in_ok-begin_copy.ensures.kept (c.copy_blocks.ensures.clean (c.keep_mark.ensures.clean (clean.1))) in (
      copied.0,
      copied.1 (clean.0) (former ∷ []) reading,
      marked _ (copied.2 _ begun),
    )) c.keep_mark.ensures.kept
