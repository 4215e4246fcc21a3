use Rattle.std.proofs.Common.{◌<◌, ◌^◌, [], ℕ, Some, refl, sym, subst, inl, inr, arith}
use Rattle.dav_journal.specs.Journal.{IsReading}
use Rattle.dav_journal.specs.Pair.{HasFirst, IsSpare}
use Rattle.dav_journal.proofs.PairLemmas.{first_spare}
use Rattle.dav_journal.proofs.pair.Pair.choose.Goals as goal

pub returns-then-one-other-2-clause-chosen : goal.returns-then-one-other-2-clause-chosen
returns-then-one-other-2-clause-chosen g c one other first second =
    let p = c.args.self.now in
    let turn = c.turn-then-one-other-2.ensures in
    let mine = subst (λ o. HasFirst g.D.Disk p.counts o) c.in-Some-Some.is-0 first in
    let yours = subst (λ o. HasFirst g.D.Disk p.spare o) c.in-Some-Some.is-1 second in
    record {
      small = subst (λ (n : ℕ). n < 2 ^ 64) (sym turn.generation) yours.first.small;
      reading = subst (λ j. IsReading g.D.Disk j []) (sym turn.counts) other;
      spare = subst (λ j. IsSpare g.D.Disk j c.turn-then-one-other-2.new.self.generation) (sym turn.spare) (first_spare g.D.Disk p.counts (Some c.in-Some-Some.one) _ one mine (omega (arith, turn.generation, c.if-one-other-2.true)));
    }

pub returns-else-one-other-2-clause-chosen : goal.returns-else-one-other-2-clause-chosen
returns-else-one-other-2-clause-chosen g c one other first second =
    let p = c.args.self.now in
    let mine = subst (λ o. HasFirst g.D.Disk p.counts o) c.in-Some-Some.is-0 first in
    let yours = subst (λ o. HasFirst g.D.Disk p.spare o) c.in-Some-Some.is-1 second in
    record {
      small = mine.first.small;
      reading = one;
      spare = first_spare g.D.Disk p.spare (Some c.in-Some-Some.other) _ other yours (omega (arith, c.if-one-other.false, c.if-one-other-2.false));
    }

pub returns-then-one-other-2-clause-generation : goal.returns-then-one-other-2-clause-generation
returns-then-one-other-2-clause-generation g c first second =
    let turn = c.turn-then-one-other-2.ensures in
    let yours = subst (λ o. HasFirst g.D.Disk c.args.self.now.spare o) c.in-Some-Some.is-1 second in
    inl (subst (λ j. HasFirst g.D.Disk j (Some c.turn-then-one-other-2.new.self.generation)) (sym turn.counts) (subst (λ (n : ℕ). HasFirst g.D.Disk c.args.self.now.spare (Some n)) (sym turn.generation) yours))

pub returns-else-one-other-2-clause-generation : goal.returns-else-one-other-2-clause-generation
returns-else-one-other-2-clause-generation g c first second = inl (subst (λ o. HasFirst g.D.Disk c.args.self.now.counts o) c.in-Some-Some.is-0 first)

pub returns-in-None-None-clause-generation : goal.returns-in-None-None-clause-generation
returns-in-None-None-clause-generation g c first second = inr (subst (λ o. HasFirst g.D.Disk c.args.self.now.counts o) c.in-None-None.is-0 first, refl)

pub returns-in-Some-None-clause-generation : goal.returns-in-Some-None-clause-generation
returns-in-Some-None-clause-generation g c first second = inl (subst (λ o. HasFirst g.D.Disk c.args.self.now.counts o) c.in-Some-None.is-0 first)

pub returns-in-None-Some-clause-generation : goal.returns-in-None-Some-clause-generation
returns-in-None-Some-clause-generation g c first second =
    let turn = c.turn.ensures in
    let yours = subst (λ o. HasFirst g.D.Disk c.args.self.now.spare o) c.in-None-Some.is-1 second in
    inl (subst (λ j. HasFirst g.D.Disk j (Some c.turn.new.self.generation)) (sym turn.counts) (subst (λ (n : ℕ). HasFirst g.D.Disk c.args.self.now.spare (Some n)) (sym turn.generation) yours))
