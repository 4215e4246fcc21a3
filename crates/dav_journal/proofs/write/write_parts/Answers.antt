use Rattle.std.proofs.Common.{◌++◌, ◌+◌, ◌<◌, ◌^◌, ℕ, List, length, IsTrue, sym, subst, ap}
use Rattle.std.proofs.lemmas.Result.{on_ok_weaker}
use Rattle.sqlite_disk.specs.Disk.{Holds, Mixed}
use Rattle.dav_journal.specs.Parts.{PartsView, bytes_in}
use Rattle.dav_journal.proofs.PartsLemmas.{holds_last, holds_then, mixed_first, mixed_then, first_fits, second_fits, third_fits}
use Rattle.dav_journal.proofs.write.write_parts.Goals as goal

pub returns-in_err-write_part-clause-mixed : goal.returns-in_err-write_part-clause-mixed
returns-in_err-write_part-clause-mixed g c mixes left may =
    let a = c.bytes.inside.first.now in
    let b = c.bytes.inside.body.now in
    let d = c.bytes.inside.last.now in
    let whole = ap bytes_in c.bytes.view_is in
    let fits = subst (λ (l : List ℕ). c.args.at + length l < 2 ^ 64) (sym whole) c.requires.fits in
    let (before, was, first) = c.write_part.ensures.mixed mixes (first_fits c.args.at a b d fits) left may in
    (before, was, subst (λ (l : List ℕ). Mixed c.args.at l before left) whole (mixed_first c.args.at a (b ++ d) before left first))

pub returns-in_err-write_part-2-clause-mixed : goal.returns-in_err-write_part-2-clause-mixed
returns-in_err-write_part-2-clause-mixed g c mixes left may =
    let a = c.bytes.inside.first.now in
    let b = c.bytes.inside.body.now in
    let d = c.bytes.inside.last.now in
    let whole = ap bytes_in c.bytes.view_is in
    let fits = subst (λ (l : List ℕ). c.args.at + length l < 2 ^ 64) (sym whole) c.requires.fits in
    let on = subst IsTrue (sym c.write_part.ensures.mixing) mixes in
    let (mid, might, second) = c.write_part-2.ensures.mixed on (second_fits c.args.at a b d fits) left may in
    let (before, was, first) = c.write_part.ensures.mixed mixes (first_fits c.args.at a b d fits) mid might in
    (before, was, subst (λ (l : List ℕ). Mixed c.args.at l before left) whole (mixed_then c.args.at a (b ++ d) before mid left first (mixed_first _ b d mid left second)))

pub returns-clause-mixed : goal.returns-clause-mixed
returns-clause-mixed g c mixes left may =
    let a = c.bytes.inside.first.now in
    let b = c.bytes.inside.body.now in
    let d = c.bytes.inside.last.now in
    let whole = ap bytes_in c.bytes.view_is in
    let fits = subst (λ (l : List ℕ). c.args.at + length l < 2 ^ 64) (sym whole) c.requires.fits in
    let on = subst IsTrue (sym c.write_part.ensures.mixing) mixes in
    let still = subst IsTrue (sym c.write_part-2.ensures.mixing) on in
    let (late, might, third) = c.write_part-3.ensures.mixed still (third_fits c.args.at a b d fits) left may in
    let (mid, could, second) = c.write_part-2.ensures.mixed on (second_fits c.args.at a b d fits) late might in
    let (before, was, first) = c.write_part.ensures.mixed mixes (first_fits c.args.at a b d fits) mid could in
    (before, was, subst (λ (l : List ℕ). Mixed c.args.at l before left) whole (mixed_then c.args.at a (b ++ d) before mid left first (mixed_then _ b d mid late left second third)))

pub returns-clause-written : goal.returns-clause-written
returns-clause-written g c =
    let a = c.bytes.inside.first.now in
    let b = c.bytes.inside.body.now in
    let d = c.bytes.inside.last.now in
    let whole = ap bytes_in c.bytes.view_is in
    let some = subst (λ (p : PartsView). 0 < length p.first) (sym c.bytes.view_is) c.requires.some in
    let two = holds_then c.args.at a b _ _ (c.in_ok-write_part.ensures.written some) c.write_part-2.ensures.others c.in_ok-write_part-2.ensures.written in
    on_ok_weaker c.write_part-3.result (λ third.
    subst (λ (l : List ℕ). Holds (g.D.Disk.seen c.write_part-3.new.disk) c.args.at l) whole
    (holds_last c.args.at a b d _ _ two c.write_part-3.ensures.others third)) c.write_part-3.ensures.written
