use Rattle.std.proofs.Common.{◌∷◌, [], List, ℕ, ◌∙◌, subst}
use Rattle.std.proofs.lemmas.Result.{on_ok_weaker}
use Rattle.dav_journal.specs.Journal.{IsKept}
use Rattle.dav_journal.proofs.AdoptLemmas.{opened_read}
use Rattle.dav_journal.proofs.pair.adopting.begin_copy.Goals as goal

pub returns-clause-kept : goal.returns-clause-kept
returns-clause-kept g c = on_ok_weaker c.keep.result (λ kept clean.
    let cleared = c.keep.ensures.clean clean in
    let told = c.clear.ensures.clean cleared in
    let reading = c.in_ok-open.ensures.reading (c.first_generation.ensures.reads.clean told) in
    let has = c.in_ok-first_generation.ensures.read told reading (c.in_ok-open.ensures.long (c.first_generation.ensures.reads.clean told)) in
    subst (λ (b : List ℕ). IsKept g.D.Disk c.keep.new.self (b ∷ [])) (c.deref.ensures.value ∙ c.in_ok-block.ensures)
    (kept [] (c.in_ok-clear.ensures.kept cleared (opened_read g.D.Disk _ [] (has.0) (has.1.more))))) c.keep.ensures.kept
