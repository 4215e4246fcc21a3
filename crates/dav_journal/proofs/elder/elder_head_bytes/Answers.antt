use Rattle.std.proofs.Common.{◌≡◌, ◌++◌, ◌∙◌, ℕ, ap, length}
use Rattle.std.specs.Int.{w64, to_be_bytes}
use Rattle.sqlite_disk.specs.Digest.{digest}
use Rattle.dav_journal.specs.Block.{digest_at}
use Rattle.dav_journal.specs.Elder.{elder_head}
use Rattle.dav_journal.proofs.elder.elder_head_bytes.Goals as goal

pub returns : goal.returns
unfolding elder_head
returns c =
    let content = c.args.content.now in
    let key = c.args.key in
    let told = c.digest_of-told.ensures.value in
    let own : c.digest_of_head.result ≡ digest_at key c.args.place (length content) (digest key content) = c.digest_of_head.ensures ∙ ap (λ (t : ℕ). digest_at key c.args.place (length content) t) told in
    c.three_bytes.ensures
    ∙ ap (λ (t : ℕ). to_be_bytes w64 (length content) ++ (to_be_bytes w64 t ++ to_be_bytes w64 c.digest_of_head.result)) told
    ∙ ap (λ (t : ℕ). to_be_bytes w64 (length content) ++ (to_be_bytes w64 (digest key content) ++ to_be_bytes w64 t)) own
