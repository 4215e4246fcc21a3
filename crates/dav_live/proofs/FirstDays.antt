-- What is opened of a journal in which nothing was kept is the run of no records.
use Rattle.std.proofs.Common.{◌≡◌, ℕ, ◌+◌, max, List, [], ◌++◌, Option, None, sym, ap, subst, ◌∙◌, inl, inr}
use Rattle.std.proofs.lemmas.List.Elements.{All-nil}
use Rattle.http_server.specs.declared.response.Response.{Response}
use Rattle.dav_kept.specs.Kept.{Holding, IsRunOf, LoadsWhatWasSaved, PlaysRecords, RecordsRun, Snapshot, answer_step, first_day, held_by, is_new}
use Rattle.dav_kept.specs.Life.{Lives}
use Rattle.dav_kept.specs.Records.{IsRecord, RecordView, RequestView, count_tokens, latest_moment}
use Rattle.dav_kept.specs.declared.kept.Kept.{Kept}
use Rattle.dav_kept.proofs.KeptLemmas.{same_records}
use Rattle.dav_kept.proofs.LifeLemmas.{after_start, lives_are_runs}
use Rattle.dav_live.specs.Runs.{BeginsRun, IsFirstDay, IsOpened}

-- records of no bytes are none, and lead nowhere
plays_nothing : {S : Type 0} (step : S → RecordView → S → Type 0) (first : S) (bytes : List ℕ) (old new : Holding S) → bytes ≡ [] → new.batch ≡ [] → old ≡ first_day first
    → PlaysRecords step bytes old new → new ≡ first_day first
plays_nothing {S} step first bytes old new none empty is plays =
    let leads = plays.leads in
    let no_records : leads.records ≡ [] = same_records step bytes old.state new.state plays.tokens plays.latest leads [] (All-nil IsRecord) none in
    let state : new.state ≡ first =
    subst (λ (rs : List RecordView). RecordsRun step old.state rs new.state) no_records leads.runs ∙ ap (λ (h : Holding S). h.state) is in
    let tokens : new.tokens ≡ 0 =
    plays.counted ∙ ap (λ (n : ℕ). old.tokens + n) (leads.counted ∙ ap count_tokens no_records) ∙ ap (λ (h : Holding S). h.tokens + 0) is in
    let latest : new.latest ≡ 0 =
    plays.last ∙ ap (λ (n : ℕ). max old.latest n) (leads.last ∙ ap latest_moment no_records) ∙ ap (λ (h : Holding S). max h.latest 0) is in
    λ i. record { state = state i; batch = empty i; tokens = tokens i; latest = latest i }

module _ {S : Type 0} (answers : S → RequestView → Response → S → Type 0) (saved : S → List ℕ) (is_saveable : S → Type 0) (loads : S → List ℕ → S → Type 0)
    (back : LoadsWhatWasSaved answers saved is_saveable loads) (first : S) where
  begins_here : (now : Holding S) → IsRunOf (answer_step answers) loads first None [] now → now.batch ≡ [] → BeginsRun answers saved is_saveable first None [] now
  begins_here now run empty =
      let day = lives_are_runs answers saved is_saveable loads back first None [] (first_day first) Lives.begins in
      let since = after_start answers saved is_saveable loads first back None [] [] (first_day first) now day run in
      record {
        held = plays_nothing (answer_step answers) first now.batch run.begin now empty empty run.begins run.plays;
        since = since;
        are = same_records (answer_step answers) _ _ _ _ _ since.all [] (All-nil IsRecord) ((λ i. since.beginning.0 i ++ empty i));
      }

  begins_at : (start : Option Snapshot) (blocks : List (List ℕ)) (now : Holding S) → start ≡ None → blocks ≡ [] → IsRunOf (answer_step answers) loads first start blocks now
      → now.batch ≡ [] → BeginsRun answers saved is_saveable first start blocks now
  begins_at start blocks now none nothing run empty =
      let there = subst (λ (s : Option Snapshot). IsRunOf (answer_step answers) loads first s [] now) none
      (subst (λ (bs : List (List ℕ)). IsRunOf (answer_step answers) loads first start bs now) nothing run) in
      subst (λ (bs : List (List ℕ)). BeginsRun answers saved is_saveable first start bs now) (sym nothing)
      (subst (λ (s : Option Snapshot). BeginsRun answers saved is_saveable first s [] now) (sym none) (begins_here now there empty))

  pub begins : {J : Type 0} (has_read : J → List (List ℕ) → Type 0) (start : Option Snapshot) (blocks : List (List ℕ)) (new : Kept S J)
      → IsOpened answers loads has_read first start blocks new → IsFirstDay (is_new new) start blocks → BeginsRun answers saved is_saveable first start blocks (held_by new)
  begins has_read start blocks new opened (inl fresh) =
      let none = opened.none fresh in begins_at start blocks (held_by new) none.1 none.0 opened.run opened.empty
  begins has_read start blocks new opened (inr (none, nothing)) = begins_at start blocks (held_by new) none nothing opened.run opened.empty
