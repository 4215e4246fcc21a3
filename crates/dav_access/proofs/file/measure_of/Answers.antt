use Rattle.dav_access.specs.RulesText.{files, space}
use Rattle.dav_access.proofs.file.measure_of.Goals as goal

pub returns-in-files : goal.returns-in-files
returns-in-files c = files c.in-files.is

pub returns-in-space : goal.returns-in-space
returns-in-space c = space c.in-space.is
