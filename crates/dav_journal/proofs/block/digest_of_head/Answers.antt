use Rattle.std.proofs.Common.{◌∙◌, ℕ, List, ap, rules}
use Rattle.sqlite_disk.specs.Digest.{digest}
use Rattle.dav_journal.proofs.block.digest_of_head.Goals as goal

pub returns : goal.returns
returns c = c.digest_of.ensures.value ∙ ap (λ (bs : List ℕ). digest c.args.key bs) (search rules)
