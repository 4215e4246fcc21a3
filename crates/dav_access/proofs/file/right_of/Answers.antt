use Rattle.dav_access.specs.RulesText.{admin, read, write}
use Rattle.dav_access.proofs.file.right_of.Goals as goal

pub returns-in-read : goal.returns-in-read
returns-in-read c = read c.in-read.is

pub returns-in-write : goal.returns-in-write
returns-in-write c = write c.in-write.is

pub returns-in-admin : goal.returns-in-admin
returns-in-admin c = admin c.in-admin.is
