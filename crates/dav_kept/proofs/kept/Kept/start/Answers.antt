use Rattle.std.proofs.Common.{◌≡◌, ◌++◌, List, ℕ, None, Some, length, sym, ap, subst, ◌∙◌, append-nil, rules}
use Rattle.std.proofs.lemmas.List.{nil_from_length}
use Rattle.std.proofs.lemmas.Result.{on_ok_weaker}
use Rattle.dav_kept.specs.Kept.{Begins, Holding, Preface, filled, held_by, preface_of}
use Rattle.dav_kept.specs.Records.{sized_bytes}
use Rattle.dav_kept.proofs.kept.Kept.start.Goals as goal

pub returns-then-is_empty-clause-begins : goal.returns-then-is_empty-clause-begins
returns-then-is_empty-clause-begins g c = on_ok_weaker c.see_preface.result (λ found.
    let zero : length c.in-Some.rest.now ≡ 0 = search rules in
    let none = nil_from_length c.in-Some.rest.now zero in (
      None,
      c.in-Some.ensures.taken ∙ ap (λ (l : List ℕ). sized_bytes c.in-Some.preface.now ++ l) none ∙ append-nil (sized_bytes c.in-Some.preface.now) ∙ ap sized_bytes found,
      c.see_preface.ensures.held ∙ c.requires,
    )) c.see_preface.ensures.found

pub returns-clause-begins : goal.returns-clause-begins
returns-clause-begins g c = on_ok_weaker c.load.result (λ loaded.
    let H = g.row.H.Denot in
    let found = c.in_ok-see_preface.ensures.found ∙ ap (λ (p : Preface). filled 4096 p) (sym c.load.ensures.stays.preface) in (
      Some loaded.0,
      c.in-Some.ensures.taken ∙ ap (λ (l : List ℕ). sized_bytes l ++ c.in-Some.rest.now) found ∙ ap (λ (l : List ℕ). sized_bytes (filled 4096 (preface_of c.load.new.self)) ++ l) loaded.1,
      subst (λ (h : Holding H). Begins g.H.Handles.loads h.state (Some loaded.0) (held_by c.load.new.self)) c.see_preface-2.ensures.held loaded.2,
    )) c.load.ensures.loaded
