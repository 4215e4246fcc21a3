use Rattle.std.proofs.Common.{inl}
use Rattle.dav_journal.proofs.ClearLemmas.{others_behind}
use Rattle.dav_journal.proofs.PairLemmas.{behind_beside, beside_behind}
use Rattle.dav_journal.proofs.pair.late_marks_change_nothing.Goals as goal

pub returns : goal.returns
returns c file other late first more counts some keeps = inl (record {
  generation = counts.generation;
  small = counts.small;
  counts = counts.counts;
  beside = behind_beside counts.generation first more late some (others_behind counts.generation other late keeps (beside_behind counts.generation first more other counts.beside));
})
