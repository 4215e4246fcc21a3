use Rattle.std.proofs.Common.{◌≡◌, ◌+◌, ◌++◌, [], ◌∷◌, ap, List, ℕ, subst, sym, inl, inr, arith}
use Rattle.std.proofs.lemmas.Result.{on_ok_weaker}
use Rattle.std.specs.Int.{w64, to_be_bytes}
use Rattle.dav_journal.specs.File.{Recovers}
use Rattle.dav_journal.specs.Journal.{IsKept}
use Rattle.dav_journal.proofs.PairLemmas.{kept_opened, kept_recovers, older_behind, pair_alone, pair_renewed, turned}
use Rattle.dav_journal.proofs.pair.Pair.begin_anew.Given as given
use Rattle.dav_journal.proofs.pair.Pair.begin_anew.Goals as goal

pub returns-in_default-clause-any_moment : goal.returns-in_default-clause-any_moment
returns-in_default-clause-any_moment g c clean contents kept left other may might =
    let p = c.args.self.now in
    inl (pair_alone left other p.generation contents kept.small (kept_recovers g.D.Disk p.counts _ kept.kept left may) (kept_recovers g.D.Disk p.spare _ kept.spare other might))

pub returns-in_err-drop_late_marks-clause-any_moment : goal.returns-in_err-drop_late_marks-clause-any_moment
returns-in_err-drop_late_marks-clause-any_moment g c clean contents kept left other may might =
    let p = c.args.self.now in
    inl (pair_alone left other p.generation contents kept.small (kept_recovers g.D.Disk p.counts _ kept.kept left may) (c.drop_late_marks.ensures.any_moment [] kept.spare other might))

pub returns-in_err-keep_both-clause-any_moment : goal.returns-in_err-keep_both-clause-any_moment
returns-in_err-keep_both-clause-any_moment g c clean contents kept left other may might =
    let p = c.args.self.now in
    let counts = kept_recovers g.D.Disk p.counts _ kept.kept left may in
    let next : c.in-Some.generation ≡ p.generation + 1 = omega arith in
    elim (c.keep_both.ensures.any_moment [] (c.in_ok-drop_late_marks.ensures.kept [] kept.spare) other might) [
      | inl none ↦ inl (pair_alone left other p.generation contents kept.small counts none)
      | inr block ↦ inr (turned other left (c.args.content.now ∷ []) (pair_renewed other left c.in-Some.generation c.args.content.now (omega (arith, next)) (omega arith)
          (subst (λ (b : List ℕ). Recovers other (b ∷ [])) (ap (λ (l : List ℕ). l ++ c.args.content.now) c.to_be_bytes.ensures) block) (older_behind p.generation c.in-Some.generation left contents (omega (arith, next)) counts)))
    ]

pub returns-in_err-keep_mark-clause-any_moment : goal.returns-in_err-keep_mark-clause-any_moment
returns-in_err-keep_mark-clause-any_moment g c clean contents kept left other may might =
    let p = c.args.self.now in
    let counts = kept_recovers g.D.Disk p.counts _ kept.kept left may in
    let next : c.in-Some.generation ≡ p.generation + 1 = omega arith in
    let block = c.keep_mark.ensures.any_moment _ (c.in_ok-keep_both.ensures.kept [] (c.in_ok-drop_late_marks.ensures.kept [] kept.spare)) other might in
    inr (turned other left (c.args.content.now ∷ []) (pair_renewed other left c.in-Some.generation c.args.content.now (omega (arith, next)) (omega arith)
    (subst (λ (b : List ℕ). Recovers other (b ∷ [])) (ap (λ (l : List ℕ). l ++ c.args.content.now) c.to_be_bytes.ensures) block) (older_behind p.generation c.in-Some.generation left contents (omega (arith, next)) counts)))

-- the file that counts now
now_kept : (g : given.Over) (c : goal.After-clear g) → IsKept g.D.Disk c.args.self.now.spare [] → IsKept g.D.Disk c.turn.new.self.counts ((to_be_bytes w64 c.in-Some.generation ++ c.args.content.now) ∷ [])
now_kept g c spare =
    let marked = c.in_ok-keep_mark.ensures.kept _ (c.in_ok-keep_both.ensures.kept [] (c.in_ok-drop_late_marks.ensures.kept [] spare)) in
    subst (λ j. IsKept g.D.Disk j ((to_be_bytes w64 c.in-Some.generation ++ c.args.content.now) ∷ [])) (sym c.turn.ensures.counts)
    (subst (λ (b : List ℕ). IsKept g.D.Disk c.keep_mark.new.self (b ∷ [])) (ap (λ (l : List ℕ). l ++ c.args.content.now) c.to_be_bytes.ensures) marked)

was_kept : (g : given.Over) (c : goal.After-clear g) (contents : List (List ℕ)) → IsKept g.D.Disk c.args.self.now.counts contents → IsKept g.D.Disk c.turn.new.self.spare contents
was_kept g c contents kept = subst (λ j. IsKept g.D.Disk j contents) (sym c.turn.ensures.spare) kept

pub returns-clause-kept : goal.returns-clause-kept
returns-clause-kept g c = on_ok_weaker c.clear.result (λ cleared clean contents kept. record {
  small = omega (arith, c.turn.ensures.generation);
  kept = subst (λ (n : ℕ). IsKept g.D.Disk c.turn.new.self.counts ((to_be_bytes w64 n ++ c.args.content.now) ∷ [])) (sym c.turn.ensures.generation) (now_kept g c kept.spare);
  spare = cleared (clean.1) (kept_opened g.D.Disk c.turn.new.self.spare _ (was_kept g c _ kept.kept));
}) c.clear.ensures.kept

pub returns-clause-any_moment : goal.returns-clause-any_moment
returns-clause-any_moment g c clean contents kept left other may might =
    let p = c.args.self.now in
    let next : c.in-Some.generation ≡ p.generation + 1 = omega arith in
    let counts = kept_recovers g.D.Disk c.turn.new.self.counts _ (now_kept g c kept.spare) left may in
    let was = was_kept g c _ kept.kept in
    let behind = c.clear.ensures.behind (clean.1) (kept_opened g.D.Disk c.turn.new.self.spare _ was) c.in-Some.generation
    (λ file before. older_behind p.generation c.in-Some.generation file contents (omega (arith, next)) (kept_recovers g.D.Disk c.turn.new.self.spare _ was file before)) other might in
    inr (pair_renewed left other c.in-Some.generation c.args.content.now (omega (arith, next)) (omega arith) counts behind)
