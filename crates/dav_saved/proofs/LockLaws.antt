-- A list of locks that is read is the list that was saved, and what was saved is read again.
use Rattle.std.proofs.Common.{◌≡◌, ℕ, List, ◌++◌, refl, sym, ap, ◌∙◌}
use Rattle.dav_core.specs.Locks.{Lock}
use Rattle.dav_saved.specs.Spelling.{sized, optional}
use Rattle.dav_saved.specs.Reading.{text_at, sized_at, optional_at}
use Rattle.dav_saved.specs.Trees.{IsText}
use Rattle.dav_saved.specs.Parts.{both, both_at, value, value_at, moment, moment_at, flag, flag_at, HasLength64, AreBoth, IsValue}
use Rattle.dav_saved.specs.Locks.{place, place_at, terms, terms_at, lock_fields, fields_of_lock, lock_fields_at, lock, lock_of, lock_at, locks, locks_at, IsMoment, IsFlag, IsPlace, AreTerms, IsOptional, IsSaveableLock, AreSaveableLocks}
use Rattle.dav_saved.proofs.Fields.{TakesBy, AgainBy, some_is, sized_takes, sized_again, text_takes, text_again, optional_takes, list_takes}
use Rattle.dav_saved.proofs.PartLaws.{both_takes, both_again, as_takes, as_again, lists_again, value_takes, value_again, moment_takes, moment_again, flag_takes, flag_again, options_again}

place_takes : TakesBy place place_at
unfolding place_at
place_takes = both_takes sized sized text_at sized_at text_takes sized_takes

place_again : AgainBy IsPlace place place_at
unfolding place_at
place_again = both_again IsText HasLength64 sized sized text_at sized_at text_again sized_again

terms_take : TakesBy terms terms_at
unfolding terms_at
terms_take =
    let flags = both_takes flag flag flag_at flag_at flag_takes flag_takes in
    let lasts = both_takes moment (both flag flag) moment_at (both_at flag_at flag_at) moment_takes flags in
    both_takes moment (both moment (both flag flag)) moment_at (both_at moment_at (both_at flag_at flag_at)) moment_takes lasts

terms_again : AgainBy AreTerms terms terms_at
unfolding terms_at
terms_again =
    let flags = both_again IsFlag IsFlag flag flag flag_at flag_at flag_again flag_again in
    let lasts = both_again IsMoment (AreBoth IsFlag IsFlag) moment (both flag flag) moment_at (both_at flag_at flag_at) moment_again flags in
    both_again IsMoment (AreBoth IsMoment (AreBoth IsFlag IsFlag)) moment (both moment (both flag flag)) moment_at (both_at moment_at (both_at flag_at flag_at)) moment_again lasts

lock_fields_take : (levels : ℕ) → TakesBy lock_fields (lock_fields_at levels)
unfolding lock_fields_at
lock_fields_take levels =
    let owned = both_takes value terms (value_at levels) terms_at (value_takes levels) terms_take in
    let known = both_takes optional (both value terms) optional_at (both_at (value_at levels) terms_at) optional_takes owned in
    let placed = both_takes place (both optional (both value terms)) place_at (both_at optional_at (both_at (value_at levels) terms_at)) place_takes known in
    both_takes sized (both place (both optional (both value terms))) text_at (both_at place_at (both_at optional_at (both_at (value_at levels) terms_at))) text_takes placed

lock_fields_again : (levels : ℕ) → AgainBy (AreBoth IsText (AreBoth IsPlace (AreBoth IsOptional (AreBoth (IsValue levels) AreTerms)))) lock_fields (lock_fields_at levels)
unfolding lock_fields_at
lock_fields_again levels =
    let V = IsValue levels in
    let owned = both_again V AreTerms value terms (value_at levels) terms_at (value_again levels) terms_again in
    let known = both_again IsOptional (AreBoth V AreTerms) optional (both value terms) optional_at (both_at (value_at levels) terms_at) options_again owned in
    let placed = both_again IsPlace (AreBoth IsOptional (AreBoth V AreTerms)) place (both optional (both value terms)) place_at (both_at optional_at (both_at (value_at levels) terms_at)) place_again known in
    both_again IsText (AreBoth IsPlace (AreBoth IsOptional (AreBoth V AreTerms))) sized (both place (both optional (both value terms))) text_at (both_at place_at (both_at optional_at (both_at (value_at levels) terms_at))) text_again placed

lock_takes : (levels : ℕ) → TakesBy lock (lock_at levels)
unfolding lock_at
lock_takes levels = as_takes lock_of fields_of_lock lock_fields (lock_fields_at levels) (λ f. refl) (lock_fields_take levels)

lock_again : (levels : ℕ) → AgainBy (IsSaveableLock levels) lock (lock_at levels)
unfolding lock_at
lock_again levels = as_again lock_of fields_of_lock (AreBoth IsText (AreBoth IsPlace (AreBoth IsOptional (AreBoth (IsValue levels) AreTerms)))) lock_fields (lock_fields_at levels) (λ l. refl) (lock_fields_again levels)

pub locks_take : (levels : ℕ) → TakesBy locks (locks_at levels)
unfolding locks_at
locks_take levels = list_takes lock (lock_at levels) (lock_takes levels)

pub locks_again : (levels : ℕ) → AgainBy (AreSaveableLocks levels) locks (locks_at levels)
unfolding locks_at
locks_again levels = lists_again (IsSaveableLock levels) lock (lock_at levels) (lock_again levels)

pub locks_apart : (levels : ℕ) (v w : List Lock) (r s : List ℕ) → AreSaveableLocks levels v → AreSaveableLocks levels w → locks v ++ r ≡ locks w ++ s → (v ≡ w) × (r ≡ s)
locks_apart levels v w r s fv fw e =
    let same : ◌≡◌ {A = List Lock × List ℕ} (v, r) (w, s) = some_is (v, r) (w, s) (sym (locks_again levels v r fv) ∙ ap (locks_at levels) e ∙ locks_again levels w s fw) in
    (ap (λ (p : List Lock × List ℕ). p.0) same, ap (λ (p : List Lock × List ℕ). p.1) same)
