use Rattle.std.proofs.Common.{true≢false, Bool, None, ℕ, List, [], ◌∷◌, ◌++◌, refl, sym, ap, subst, ◌∙◌, append-nil}
use Rattle.std.proofs.lemmas.Result.{on_ok_weaker}
use Rattle.std.specs.List.{concat}
use Rattle.dav_kept.specs.Kept.{Begins, Holding, PlaysRecords, Preface, answer_step, first_block, held_by, journal_of, preface_of, with_first}
use Rattle.dav_kept.proofs.KeptLemmas.{of_none, of_some, plays_none}
use Rattle.dav_kept.proofs.kept.Kept.replay.Goals as goal

pub returns-in_default-clause-run : goal.returns-in_default-clause-run
returns-in_default-clause-run g c =
    let H = g.row.H.Denot in
    let step = answer_step g.H.Handles.answers in
    let was = held_by c.args.self.now in
    let none = ap (λ (h : Holding H). h.batch) c.requires.first in (
      None,
      [],
      record {
        begin = was;
        begins = c.requires.first;
        plays = subst (λ (h : Holding H). PlaysRecords step h.batch was h) (sym c.next_block.ensures.held) (subst (λ (t : List ℕ). PlaysRecords step t was was) (sym none) (plays_none step was));
      },
      (λ clean so. subst (λ (b : Bool). g.J.Keeps.has_read (journal_of c.next_block.new.self) (with_first b (first_block (preface_of c.next_block.new.self) None) []))
          (sym (c.next_block.ensures.stays.novelty ∙ c.requires.is_new)) (of_none _ _ _ c.in_default.not-Some (c.in_ok-block.ensures.read clean [] so))),
      (λ novel. (refl, refl)),
    )

pub returns-clause-run : goal.returns-clause-run
returns-clause-run g c = on_ok_weaker c.play_blocks.result (λ played.
    let H = g.row.H.Denot in
    let step = answer_step g.H.Handles.answers in
    let started = c.in_ok-start.ensures.begins in
    let begin = held_by c.start.new.self in
    let new_one = c.play_blocks.new.self in
    let new = held_by new_one in
    let first = first_block (preface_of new_one) started.0 in
    let none = c.play_blocks.ensures.stays.batch ∙ c.in_ok-start.ensures.batch in (
      started.0,
      played.0,
      record {
        begin = begin;
        begins = subst (λ (h : Holding H). Begins g.H.Handles.loads h.state started.0 begin) c.next_block.ensures.held started.2;
        plays = subst (λ (t : List ℕ). PlaysRecords step t begin new) (sym (ap (λ (b : List ℕ). concat played.0 ++ b) none ∙ append-nil (concat played.0))) played.1;
      },
      (λ clean so.
          let now = subst (λ j. g.J.Keeps.is_clean j) c.start.ensures.journal (c.play_blocks.ensures.clean clean) in
          let read = of_some _ _ _ _ c.in-Some.is (c.in_ok-block.ensures.read now [] so) in
          let is = sym c.deref.ensures.value ∙ started.1 ∙ ap (λ (p : Preface). first_block p started.0) (sym c.play_blocks.ensures.stays.preface) in
          subst (λ (b : Bool). g.J.Keeps.has_read (journal_of c.play_blocks.new.self) (with_first b first played.0)) (sym c.play_blocks.ensures.stays.novelty)
          (played.2 clean (first ∷ []) (subst (λ (b : List ℕ). g.J.Keeps.has_so_far (journal_of c.start.new.self) (b ∷ [])) is
          (subst (λ j. g.J.Keeps.has_so_far j (c.in-Some.block.items ∷ [])) (sym c.start.ensures.journal) read)))),
      (λ novel. absurd (true≢false (sym novel ∙ c.play_blocks.ensures.stays.novelty))),
    )) c.play_blocks.ensures.played

pub returns-clause-batch : goal.returns-clause-batch
returns-clause-batch g c = on_ok_weaker c.play_blocks.result (λ played. c.play_blocks.ensures.stays.batch ∙ c.in_ok-start.ensures.batch) c.play_blocks.ensures.played
