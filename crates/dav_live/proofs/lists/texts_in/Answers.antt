use Rattle.std.proofs.Common.{Option, Some, List, ℕ, ◌+◌, ◌-◌, arith, drop, take, length, refl, sym, subst, ◌∙◌}
use Rattle.std.proofs.lemmas.List.{length-drop, take_all}
use Rattle.dav_live.specs.Lists.{AreTexts}
use Rattle.dav_live.proofs.ListsLemmas.{both_texts, one_text}
use Rattle.dav_live.proofs.lists.texts_in.Goals as goal

pub returns-in-None : goal.returns-in-None
returns-in-None c = one_text c.args.report.now (sym c.zero_in.ensures ∙ c.in-None.is)

pub returns-in-Some : goal.returns-in-Some
returns-in-Some c =
    let r = c.args.report.now in
    let i = c.in-Some.place in
    subst (λ (o : Option (List ℕ)). AreTexts r o (Some (take (length r - (i + 1)) (drop (i + 1) r)))) (sym c.text_if_any.ensures)
    (both_texts r _ _ i (sym c.zero_in.ensures ∙ c.in-Some.is) refl (take_all (length r - (i + 1)) (drop (i + 1) r) (omega (arith, length-drop (i + 1) r))))
