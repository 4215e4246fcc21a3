use Rattle.std.proofs.Common.{List, ℕ, true, refl, sym, ap, subst, ◌∙◌, take}
use Rattle.std.proofs.Math.Seq.{take-length}
use Rattle.dav_core.specs.Calls.{write_bytes}
use Rattle.dav_core.specs.Asking.{seen}
use Rattle.dav_store.specs.Store.{Store, Answers}
use Rattle.dav_store.proofs.AskingLemmas.{asks_write_bytes, refused, lacking}
use Rattle.dav_store.proofs.memfs.filesystem.MemFsDavFileSystem.write_buf.Goals as goal

pub returns-in-Some-clause-asks : goal.returns-in-Some-clause-asks
returns-in-Some-clause-asks g c =
    asks_write_bytes c.args.file.now (g.B.Buf.unread c.args.buf) c.args.now c.args.self.now _ _
    (refused _ c.in-Some.e _ c.args.self.now (sym (c.write_refusal.ensures (g.B.Buf.unread c.args.buf) c.args.now (sym c.remaining-len.ensures)) ∙ c.in-Some.is) refl)

pub returns-in_default-copy_to_bytes-clause-asks : goal.returns-in_default-copy_to_bytes-clause-asks
returns-in_default-copy_to_bytes-clause-asks g c =
    asks_write_bytes c.args.file.now (g.B.Buf.unread c.args.buf) c.args.now c.args.self.now _ _
    (lacking _ _ c.args.self.now _ (sym (c.write_refusal.ensures (g.B.Buf.unread c.args.buf) c.args.now (sym c.remaining-len.ensures)) ∙ c.in_default.is) refl (ap (λ (s : Store). record s { short = true }) c.self.view_is))

pub returns-clause-asks : goal.returns-clause-asks
returns-clause-asks g c =
    asks_write_bytes c.args.file.now (g.B.Buf.unread c.args.buf) c.args.now c.args.self.now _ _
    (subst (λ (bytes : List ℕ). Answers (write_bytes c.args.self.now.world c.args.file.now bytes c.args.now) (seen (λ _. c.write_chunk.new.file) c.write_chunk.result) c.args.self.now c.write_chunk.new.self)
    (c.as_slice.ensures ∙ c.in-Ok.ensures.value ∙ ap (λ n. take n (g.B.Buf.unread c.args.buf)) c.remaining-len.ensures ∙ take-length (g.B.Buf.unread c.args.buf)) c.write_chunk.ensures.answers)
