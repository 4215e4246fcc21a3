use Rattle.std.proofs.Common.{◌≡◌, ◌++◌, ◌∷◌, [], List, ℕ, ap, sym, ◌∙◌, subst, inl, inr}
use Rattle.std.proofs.lemmas.List.{append_assoc}
use Rattle.std.proofs.lemmas.Result.{on_ok_weaker}
use Rattle.std.specs.Int.{w64, to_be_bytes}
use Rattle.dav_journal.specs.File.{Recovers}
use Rattle.dav_journal.specs.Journal.{IsKept}
use Rattle.dav_journal.specs.Pair.{with_generation}
use Rattle.dav_journal.proofs.PairLemmas.{begins_first, ends_first, ends_later, kept_recovers, pair_alone}
use Rattle.dav_journal.proofs.pair.Pair.add.Given as given
use Rattle.dav_journal.proofs.pair.Pair.add.Goals as goal

pub returns-in_err-block-clause-any_moment : goal.returns-in_err-block-clause-any_moment
returns-in_err-block-clause-any_moment g c contents kept left other may might =
    let p = c.args.self.now in
    inl (pair_alone left other p.generation contents kept.small (kept_recovers g.D.Disk p.counts _ kept.kept left may) (kept_recovers g.D.Disk p.spare _ kept.spare other might))

-- with the first block
first_kept : (g : given.Over) (c : goal.After-drop-block g) (contents : List (List ℕ)) → IsKept g.D.Disk c.args.self.now.counts (with_generation c.args.self.now.generation contents)
    → with_generation c.args.self.now.generation contents ++ (c.deref.result.now ++ c.args.body.now) ∷ []
    ≡ with_generation c.args.self.now.generation (contents ++ (c.args.content.now ++ c.args.body.now) ∷ [])
first_kept g c contents kept =
    let p = c.args.self.now in
    let rests = kept.outcomes _ (g.met.D.Disk.seen_may_stay p.counts.disk) in
    let first = c.deref.ensures.value ∙ c.in_ok-block.ensures in
    let both = ap (λ (l : List ℕ). l ++ c.args.body.now) first ∙ append_assoc (to_be_bytes w64 p.generation) c.args.content.now c.args.body.now in
    begins_first p.generation contents (c.args.content.now ++ c.args.body.now) (c.deref.result.now ++ c.args.body.now) (ends_first p.counts.key p.generation _ contents p.counts.end rests.blocks (sym c.len.ensures ∙ c.if-len-eq-START.true)) both

-- with a later one
later_kept : (g : given.Over) (c : goal.After-keep_both-2 g) (contents : List (List ℕ)) → IsKept g.D.Disk c.args.self.now.counts (with_generation c.args.self.now.generation contents)
    → with_generation c.args.self.now.generation contents ++ (c.args.content.now ++ c.args.body.now) ∷ []
    ≡ with_generation c.args.self.now.generation (contents ++ (c.args.content.now ++ c.args.body.now) ∷ [])
later_kept g c contents kept =
    let p = c.args.self.now in
    let rests = kept.outcomes _ (g.met.D.Disk.seen_may_stay p.counts.disk) in
    ends_later p.counts.key p.generation _ contents (c.args.content.now ++ c.args.body.now) p.counts.end rests.blocks (λ here. c.if-len-eq-START.false (c.len.ensures ∙ here))

pub returns-then-len-eq-START-clause-kept : goal.returns-then-len-eq-START-clause-kept
returns-then-len-eq-START-clause-kept g c = on_ok_weaker c.keep_both.result (λ more contents kept. record {
  small = kept.small;
  kept = subst (λ (bs : List (List ℕ)). IsKept g.D.Disk c.keep_both.new.self bs) (first_kept g c contents kept.kept) (more _ kept.kept);
  spare = kept.spare;
}) c.keep_both.ensures.kept

pub returns-then-len-eq-START-clause-any_moment : goal.returns-then-len-eq-START-clause-any_moment
returns-then-len-eq-START-clause-any_moment g c contents kept left other may might =
    let p = c.args.self.now in
    let alone = kept_recovers g.D.Disk p.spare _ kept.spare other might in
    elim (c.keep_both.ensures.any_moment _ kept.kept left may) [
      | inl was ↦ inl (pair_alone left other p.generation contents kept.small was alone)
      | inr more ↦ inr (pair_alone left other p.generation _ kept.small (subst (λ (bs : List (List ℕ)). Recovers left bs) (first_kept g c contents kept.kept) more) alone)
    ]

pub returns-clause-kept : goal.returns-clause-kept
returns-clause-kept g c = on_ok_weaker c.keep_both-2.result (λ more contents kept. record {
  small = kept.small;
  kept = subst (λ (bs : List (List ℕ)). IsKept g.D.Disk c.keep_both-2.new.self bs) (later_kept g c contents kept.kept) (more _ kept.kept);
  spare = kept.spare;
}) c.keep_both-2.ensures.kept

pub returns-clause-any_moment : goal.returns-clause-any_moment
returns-clause-any_moment g c contents kept left other may might =
    let p = c.args.self.now in
    let alone = kept_recovers g.D.Disk p.spare _ kept.spare other might in
    elim (c.keep_both-2.ensures.any_moment _ kept.kept left may) [
      | inl was ↦ inl (pair_alone left other p.generation contents kept.small was alone)
      | inr more ↦ inr (pair_alone left other p.generation _ kept.small (subst (λ (bs : List (List ℕ)). Recovers left bs) (later_kept g c contents kept.kept) more) alone)
    ]
