use Rattle.std.proofs.Common.{List, ℕ, subst}
use Rattle.dav_core.specs.Calls.{write_bytes}
use Rattle.dav_core.specs.Asking.{seen}
use Rattle.dav_store.specs.Store.{Answers}
use Rattle.dav_store.proofs.AskingLemmas.{asks_write_bytes}
use Rattle.dav_store.proofs.memfs.filesystem.MemFsDavFileSystem.write_bytes.Goals as goal

pub returns-clause-asks : goal.returns-clause-asks
returns-clause-asks c =
    asks_write_bytes c.args.file.now c.args.bytes c.args.now c.args.self.now _ _
    (subst (λ (bytes : List ℕ). Answers (write_bytes c.args.self.now.world c.args.file.now bytes c.args.now) (seen (λ _. c.write_chunk.new.file) c.write_chunk.result) c.args.self.now c.write_chunk.new.self)
    c.as_slice.ensures c.write_chunk.ensures.answers)
