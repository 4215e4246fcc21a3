use Rattle.std.proofs.Common.{◌≡◌, ◌∙◌, ◌<◌, ◌^◌, List, ℕ, length, replicate, IsTrue, ap, subst, sym, rules, arith}
use Rattle.sqlite_disk.specs.Disk.{Mixed}
use Rattle.dav_journal.specs.Block.{twice}
use Rattle.dav_journal.specs.Journal.{Rests}
use Rattle.dav_journal.specs.Mark.{IsBlank, IsMarkPlace}
use Rattle.dav_journal.proofs.BlockLemmas.{blocks_le, rests_recovers}
use Rattle.dav_journal.proofs.FrontLemmas.{fade_rests, rests_marked, zeros_fade}
use Rattle.dav_journal.proofs.MarkLemmas.{after_place, blank_written, place_high, place_low}
use Rattle.dav_journal.proofs.TwiceLemmas.{length-twice}
use Rattle.dav_journal.proofs.journal.Journal.set_mark.Goals as goal

-- the next mark is cleared
cleared : (key : ℕ) (contents : List (List ℕ)) (end upto p : ℕ) (old new : List ℕ) → IsMarkPlace p → Rests key contents end upto old → Mixed p (replicate 16 0) old new → Rests key contents end upto new
cleared key contents end upto p old new here r m =
    fade_rests key contents end upto old new r (zeros_fade p 16 old new (place_low p here) (omega (arith, place_high p here)) (omega (arith, blocks_le key old 72 contents end r.blocks, r.some, r.within)) m)

-- what the first write may leave
marked : (key : ℕ) (contents : List (List ℕ)) (end upto p : ℕ) (seen before left bytes : List ℕ) → end < 2 ^ 64 → IsMarkPlace p → IsBlank seen p → before ≡ seen → bytes ≡ twice end → Rests key contents end upto before → Mixed p bytes before left
    → Rests key contents end upto left
marked key contents end upto p seen before left bytes small here blank same is r step =
    rests_marked key contents end upto p before left small here (subst (λ (f : List ℕ). IsBlank f p) (sym same) blank) r (subst (λ (bs : List ℕ). Mixed p bs before left) is step)

pub returns-in_err-write_at-clause-any_moment : goal.returns-in_err-write_at-clause-any_moment
returns-in_err-write_at-clause-any_moment g c contents kept only left may =
    let j = c.args.self.now in
    let long : length c.twice_bytes.result ≡ 16 = ap length c.twice_bytes.ensures ∙ length-twice j.end in
    let mixing : IsTrue (g.D.Disk.is_mixing j.disk) = search (rules, c.mixes.ensures, c.if-not-mixes.false) in
    let (before, was, step) = c.write_at.ensures.mixed mixing (omega (arith, long, place_high _ kept.place)) left may in
    rests_recovers j.key contents j.end j.zeros left kept.small
    (marked j.key contents j.end j.zeros j.mark _ before left c.twice_bytes.result (omega arith) kept.place kept.blank (only before was) c.twice_bytes.ensures (kept.outcomes before was) step)

pub returns-in_err-write_at-2-clause-any_moment : goal.returns-in_err-write_at-2-clause-any_moment
returns-in_err-write_at-2-clause-any_moment g c contents kept only left may =
    let j = c.args.self.now in
    let long : length c.twice_bytes.result ≡ 16 = ap length c.twice_bytes.ensures ∙ length-twice j.end in
    let next : IsMarkPlace c.mark_after-next.result = subst IsMarkPlace (sym c.mark_after-next.ensures) (after_place j.mark kept.place) in
    let mixing : IsTrue (g.D.Disk.is_mixing j.disk) = search (rules, c.mixes.ensures, c.if-not-mixes.false) in
    let still : IsTrue (g.D.Disk.is_mixing c.write_at.new.self) = search (rules, mixing, c.write_at.ensures.mixing) in
    let (mid, was, second) = c.write_at-2.ensures.mixed still (omega (arith, place_high _ next)) left may in
    let (before, first, step) = c.write_at.ensures.mixed mixing (omega (arith, long, place_high _ kept.place)) mid was in
    rests_recovers j.key contents j.end j.zeros left kept.small (cleared j.key contents j.end j.zeros _ mid left next
    (marked j.key contents j.end j.zeros j.mark _ before mid c.twice_bytes.result (omega arith) kept.place kept.blank (only before first) c.twice_bytes.ensures (kept.outcomes before first) step) second)

pub returns-clause-any_moment : goal.returns-clause-any_moment
returns-clause-any_moment g c contents kept only left may =
    let j = c.args.self.now in
    let long : length c.twice_bytes.result ≡ 16 = ap length c.twice_bytes.ensures ∙ length-twice j.end in
    let next : IsMarkPlace c.mark_after-next.result = subst IsMarkPlace (sym c.mark_after-next.ensures) (after_place j.mark kept.place) in
    let mixing : IsTrue (g.D.Disk.is_mixing j.disk) = search (rules, c.mixes.ensures, c.if-not-mixes.false) in
    let still : IsTrue (g.D.Disk.is_mixing c.write_at.new.self) = search (rules, mixing, c.write_at.ensures.mixing) in
    let (mid, was, second) = c.write_at-2.ensures.mixed still (omega (arith, place_high _ next)) left may in
    let (before, first, step) = c.write_at.ensures.mixed mixing (omega (arith, long, place_high _ kept.place)) mid was in
    rests_recovers j.key contents j.end j.zeros left kept.small (cleared j.key contents j.end j.zeros _ mid left next
    (marked j.key contents j.end j.zeros j.mark _ before mid c.twice_bytes.result (omega arith) kept.place kept.blank (only before first) c.twice_bytes.ensures (kept.outcomes before first) step) second)

pub returns-clause-kept : goal.returns-clause-kept
returns-clause-kept g c contents kept only =
    let j = c.args.self.now in
    let long : length c.twice_bytes.result ≡ 16 = ap length c.twice_bytes.ensures ∙ length-twice j.end in
    let next : IsMarkPlace c.mark_after-next.result = subst IsMarkPlace (sym c.mark_after-next.ensures) (after_place j.mark kept.place) in
    let mixing : IsTrue (g.D.Disk.is_mixing j.disk) = search (rules, c.mixes.ensures, c.if-not-mixes.false) in
    let still : IsTrue (g.D.Disk.is_mixing c.write_at.new.self) = search (rules, mixing, c.write_at.ensures.mixing) in
    record {
      small = kept.small;
      low = kept.low;
      outcomes = λ left may.
          let (mid, was, second) = c.write_at-2.ensures.mixed still (omega (arith, place_high _ next)) left may in
          let (before, first, step) = c.write_at.ensures.mixed mixing (omega (arith, long, place_high _ kept.place)) mid was in
          cleared j.key contents j.end j.zeros _ mid left next
          (marked j.key contents j.end j.zeros j.mark _ before mid c.twice_bytes.result (omega arith) kept.place kept.blank (only before first) c.twice_bytes.ensures (kept.outcomes before first) step) second;
      place = next;
      blank = blank_written _ c.mark_after-next.result 16 (omega arith) (c.in_ok-write_at-2.ensures.written (omega arith));
    }
