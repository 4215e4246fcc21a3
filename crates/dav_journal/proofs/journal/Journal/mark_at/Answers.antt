use Rattle.std.proofs.Common.{◌≡◌, ◌∙◌, ℕ, Option, length, ap, sym, unwrap_or, rules, arith}
use Rattle.dav_journal.specs.Block.{twice}
use Rattle.dav_journal.proofs.BlockLemmas.{same_held}
use Rattle.dav_journal.proofs.TwiceLemmas.{length-twice}
use Rattle.dav_journal.proofs.journal.Journal.mark_at.Goals as goal

pub returns-clause-most : goal.returns-clause-most
returns-clause-most g c clean m small h =
    let long : length c.read_at.new.buf ≡ 16 = search rules in
    let bytes : c.read_at.new.buf ≡ twice m = same_held _ c.args.place c.read_at.new.buf (twice m) (c.in_ok-read_at.ensures.read clean (search rules)) h (long ∙ sym (length-twice m)) in
    let found = c.mark_in.ensures.each m small bytes in
    omega (arith, c.unwrap_or.ensures ∙ ap (λ (o : Option ℕ). unwrap_or o 0) found)
