use Rattle.std.proofs.Common.{◌≡◌, ◌+◌, ◌++◌, ℕ, ap, sym, ◌∙◌, length, length-append}
use Rattle.std.proofs.lemmas.Result.{on_ok_weaker}
use Rattle.std.specs.Int.{w64, to_be_bytes}
use Rattle.sqlite_disk.specs.Digest.{digest}
use Rattle.dav_journal.specs.Block.{digest_at, head_of, twice, zeros_in}
use Rattle.dav_journal.proofs.PartLemmas.{three_parts}
use Rattle.dav_journal.proofs.PartsLemmas.{zeros_both}
use Rattle.dav_journal.proofs.block.add_head.Goals as goal

pub returns : goal.returns
unfolding head_of
returns c =
    let a = c.args.content.now in
    let b = c.args.body.now in
    let content = a ++ b in
    let key = c.args.key in
    let told = c.digest_of_both-told.ensures in
    let len : c.args.len ≡ length content = c.requires ∙ sym (length-append a b) in
    let zeros : c.zeros_of.result + c.zeros_of-2.result ≡ zeros_in content =
    ap (λ (n : ℕ). n + c.zeros_of-2.result) c.zeros_of.ensures.value ∙ ap (λ (n : ℕ). zeros_in a + n) c.zeros_of-2.ensures.value ∙ sym (zeros_both a b) in
    let own : c.digest_of_head.result ≡ digest_at key c.args.place (length content) (digest key content) =
    c.digest_of_head.ensures ∙ ap (λ (n : ℕ). digest_at key c.args.place n c.digest_of_both-told.result) len ∙ ap (λ (t : ℕ). digest_at key c.args.place (length content) t) told in
    on_ok_weaker c.add_digests.result
    (λ e. three_parts c.args.out.now.items _ _ _ (twice (length content)) (twice (zeros_in content)) (to_be_bytes w64 (digest key content) ++ to_be_bytes w64 (digest_at key c.args.place (length content) (digest key content)))
    (c.in_ok-add_twice.ensures ∙ ap (λ (n : ℕ). c.args.out.now.items ++ twice n) len)
    (c.in_ok-add_twice-2.ensures ∙ ap (λ (n : ℕ). c.add_twice.new.out.items ++ twice n) zeros)
    (e ∙ ap (λ (t : ℕ). c.add_twice-2.new.out.items ++ (to_be_bytes w64 t ++ to_be_bytes w64 c.digest_of_head.result)) told
    ∙ ap (λ (t : ℕ). c.add_twice-2.new.out.items ++ (to_be_bytes w64 (digest key content) ++ to_be_bytes w64 t)) own))
    c.add_digests.ensures
