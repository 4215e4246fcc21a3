use Rattle.std.proofs.Common.{arith}
use Rattle.dav_journal.proofs.PartsLemmas.{zeros_eight}
use Rattle.dav_journal.proofs.block.zeros_of_eight.Goals as goal

pub returns-clause-value : goal.returns-clause-value
returns-clause-value c = omega (
  arith,
  zeros_eight c.args.bytes c.well_formed.0.1.0.1,
  c.one_if_zero.ensures.value,
  c.one_if_zero-2.ensures.value,
  c.one_if_zero-3.ensures.value,
  c.one_if_zero-4.ensures.value,
  c.one_if_zero-5.ensures.value,
  c.one_if_zero-6.ensures.value,
  c.one_if_zero-7.ensures.value,
  c.one_if_zero-8.ensures.value,
)
