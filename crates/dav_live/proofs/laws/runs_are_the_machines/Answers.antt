use Rattle.dav_live.proofs.MachineRuns.{runs_are_the_machines}
use Rattle.dav_live.proofs.laws.runs_are_the_machines.Goals as goal

pub returns : goal.returns
returns c = runs_are_the_machines
