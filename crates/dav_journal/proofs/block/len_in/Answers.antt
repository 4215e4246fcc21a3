use Rattle.std.proofs.Common.{◌≡◌, Some, length, ap, arith}
use Rattle.dav_journal.proofs.PartLemmas.{head_long, len_told}
use Rattle.dav_journal.proofs.block.len_in.Goals as goal

pub returns : goal.returns
returns c = λ key place content small is.
    ap Some (len_told key place content c.args.head.now c.in_ok-get.field-0.now c.number.result small is c.in_ok-get.ensures.lookup.0.2 (c.number.ensures (omega (arith, c.in_ok-get.ensures.lookup.0.3))))

pub returns-in_err-get : goal.returns-in_err-get
returns-in_err-get c = λ key place content small is.
    let long : length c.args.head.now ≡ 49 = head_long key place content c.args.head.now is in
    let out = c.in_err-get.ensures.lookup in
    absurd (omega (arith, long, out))
