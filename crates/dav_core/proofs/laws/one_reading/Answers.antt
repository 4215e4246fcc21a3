use Rattle.dav_core.proofs.TargetLemmas.{Leaves-one, Leaves-allowed, Leaves-valid, Climbs-valid, Reads-one, Reads-valid, Reads-allowed, refused_once}
use Rattle.dav_core.proofs.OutcomeLemmas.{read_or_refused}
use Rattle.dav_core.proofs.laws.one_reading.Goals as goal

pub returns : goal.returns
returns c = record {
  leaves = Leaves-one;
  leaves_no_fault = λ ps a h. (Leaves-allowed ps a h, Leaves-valid ps a h);
  one_fault = Climbs-valid;
  reads = Reads-one;
  read_is_not_refused = λ src a h. (Reads-valid src a h, Reads-allowed src a h);
  one_refusal = refused_once;
  read_or_refused = read_or_refused;
}
