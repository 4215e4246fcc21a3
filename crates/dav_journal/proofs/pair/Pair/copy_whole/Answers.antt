use Rattle.std.proofs.Common.{◌∷◌, [], rules}
use Rattle.dav_journal.proofs.pair.Pair.copy_whole.Goals as goal

pub returns-clause-copied : goal.returns-clause-copied
returns-clause-copied g c clean =
    let copied = c.in_ok-copy_elder_blocks.ensures.copied in
    let begun = c.in_ok-begin_copy.ensures.kept (c.copy_elder_blocks.ensures.clean (c.keep_mark.ensures.clean (clean.1))) in
    let reading = c.in_ok-begins_with_elder.ensures.begins (search rules) (c.copy_elder_blocks.ensures.reads.clean (clean.0)) in (
      copied.0,
      copied.1 (clean.0) (c.args.former.now ∷ []) reading,
      c.in_ok-keep_mark.ensures.kept _ (copied.2 _ begun),
    )
