use Rattle.std.proofs.Common.{refl}
use Rattle.dav_store.proofs.StoreLaws.{memory_comes_last, never_runs_short}
use Rattle.dav_store.proofs.laws.memory_comes_last.Goals as goal

pub returns : goal.returns
returns c = record {
  refusals = λ s. refl;
  memory = memory_comes_last;
  exact = never_runs_short;
}
