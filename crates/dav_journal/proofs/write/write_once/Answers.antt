use Rattle.dav_journal.specs.Parts.{bytes_in}
use Rattle.dav_journal.proofs.BlockLemmas.{content_small}
use Rattle.dav_journal.proofs.MixedLemmas.{block_known, mixed_leaves}
use Rattle.dav_journal.proofs.write.write_once.Goals as goal

pub returns-in_err-write_parts-clause-crash : goal.returns-in_err-write_parts-clause-crash
returns-in_err-write_parts-clause-crash g c mixes key upto contents content small is room rests left may =
    let fits = content_small key c.args.at content (bytes_in c.args.bytes.now) is c.requires.fits in
    let (before, was, step) = c.write_parts.ensures.mixed mixes left may in
    mixed_leaves key contents content (bytes_in c.args.bytes.now) c.args.at upto before left small fits is room (rests before was) step (block_known key left c.args.at content fits)

pub returns-clause-crash : goal.returns-clause-crash
returns-clause-crash g c mixes key upto contents content small is room rests left may =
    let fits = content_small key c.args.at content (bytes_in c.args.bytes.now) is c.requires.fits in
    let (before, was, step) = c.write_parts.ensures.mixed mixes left (c.sync.ensures.crash left may) in
    mixed_leaves key contents content (bytes_in c.args.bytes.now) c.args.at upto before left small fits is room (rests before was) step (block_known key left c.args.at content fits)
