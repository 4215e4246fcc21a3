use Rattle.std.proofs.Common.{◌-◌, length, Some, refl, ap, arith}
use Rattle.dav_core.proofs.BufferLemmas.{last_place, some_place}
use Rattle.dav_core.proofs.davpath.reading.last_slash.Goals as goal

pub returns-then-buf-i-eq47 : goal.returns-then-buf-i-eq47
returns-then-buf-i-eq47 c = record {
  last = λ front back e clean.
      ap Some (last_place front back c.args.buf.now (c.loop-i.i - 1) e clean (omega arith) c.if-buf-i-eq47.true (λ k more within. c.loop-i.invariant.1 k (omega arith) within));
  none = λ e. absurd (omega (arith, ap length e));
}

pub returns : goal.returns
returns c = record {
  last = λ front back e clean.
      let place = some_place front back c.args.buf.now e in
      absurd (c.loop-i.invariant.1 (length front) (omega arith) place.0 place.1);
  none = λ e. refl;
}
