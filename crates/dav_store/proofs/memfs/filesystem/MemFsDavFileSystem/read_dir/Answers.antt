use Rattle.std.proofs.Common.{arith}
use Rattle.std.proofs.lemmas.Grind.{common_steps}
use Rattle.dav_core.specs.Path.{names}
use Rattle.dav_store.proofs.AskingLemmas.{asks_read_dir}
use Rattle.dav_store.proofs.MemberLemmas.{all_same}
use Rattle.dav_store.proofs.memfs.filesystem.MemFsDavFileSystem.read_dir.Goals as goal

pub returns-then-is_none-clause-asks : goal.returns-then-is_none-clause-asks
returns-then-is_none-clause-asks c = asks_read_dir (names c.args.path.now) c.args.self.now _ _ (grind (arith, common_steps))

pub returns-then-is_file-clause-asks : goal.returns-then-is_file-clause-asks
returns-then-is_file-clause-asks c = asks_read_dir (names c.args.path.now) c.args.self.now _ _ (grind (arith, common_steps))

pub returns-in-Ok-clause-asks : goal.returns-in-Ok-clause-asks
returns-in-Ok-clause-asks c = asks_read_dir (names c.args.path.now) c.args.self.now _ _ (grind (arith, common_steps))

pub returns-in-Err-clause-asks : goal.returns-in-Err-clause-asks
returns-in-Err-clause-asks c = asks_read_dir (names c.args.path.now) c.args.self.now _ _ (grind (arith, common_steps))

pub returns-in-Ok-clause-folder : goal.returns-in-Ok-clause-folder
returns-in-Ok-clause-folder c = λ entry. all_same (λ e. e.folder) (names c.args.path.now) c.in-Ok.list.items c.in-Ok.ensures.folder entry
