use Rattle.std.proofs.Common.{◌∙◌, rules}
use Rattle.dav_journal.proofs.PartsLemmas.{digest_both}
use Rattle.dav_journal.proofs.block.digest_of_both.Goals as goal

pub returns : goal.returns
returns c =
    let made = digest_both c.args.key c.args.content.now c.args.body.now in
    search rules ∙ made
