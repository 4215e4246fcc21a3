use Rattle.std.proofs.Common.{◌∙◌, sym}
use Rattle.dav_core.specs.Path.{names}
use Rattle.dav_shards.proofs.PartLemmas.{all_is_here, one_is_here}
use Rattle.dav_shards.proofs.parts.is_here.Goals as goal

pub returns-then-is_empty : goal.returns-then-is_empty
returns-then-is_empty c = c.if-is_empty.true ∙ sym (all_is_here c.args.folders.now (names c.args.path.now) (sym c.is_empty.ensures ∙ c.if-is_empty.true))

pub returns-else-is_empty : goal.returns-else-is_empty
returns-else-is_empty c =
    c.is_in_one.ensures ∙ one_is_here c.args.folders.now (names c.args.path.now) (sym c.is_empty.ensures ∙ c.if-is_empty.false)
