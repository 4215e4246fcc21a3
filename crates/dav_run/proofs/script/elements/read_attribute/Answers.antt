use Rattle.std.proofs.Common.{arith, ◌≡◌, ◌∷◌, [], ℕ, List, length, subst, sym}
use Rattle.std.specs.Prelude.{Option, IsSomeAnd, string_bytes}
use Rattle.serde_json.specs.Data.{Items}
use Rattle.serde_json.specs.View.{items_view}
use Rattle.dav_core.specs.Method.{texts_of}
use Rattle.dav_run.specs.Script.{AreItems, IsText}
use Rattle.dav_run.proofs.ScriptTrees.{two_read, both_read}
use Rattle.dav_run.proofs.script.elements.read_attribute.Goals as goal

pub returns-then-len-ne2-clause-none : goal.returns-then-len-ne2-clause-none
returns-then-len-ne2-clause-none c = λ e a is.
    let Are : Option Items → Type 0 = λ o. IsSomeAnd o (λ ds. AreItems IsText ds (a.0 ∷ a.1 ∷ [])) in
    let two = two_read (items_view c.in_ok-list_of.field-0.now) c.in_ok-texts.texts.items a.0 a.1 c.in_ok-texts.ensures.ok (subst Are c.in_ok-list_of.ensures.ok is) in
    absurd (omega (arith, two))

pub returns-clause-ok : goal.returns-clause-ok
returns-clause-ok c =
    let pair = string_bytes c.in_ok-name.name ∷ string_bytes c.in_ok-value.value ∷ [] in
    let Are : Option Items → Type 0 = λ o. IsSomeAnd o (λ ds. AreItems IsText ds pair) in
    let two : length c.in_ok-texts.texts.items ≡ 2 = omega arith in
    let both = both_read c.in_ok-texts.texts.items c.index.result.now c.index-2.result.now two c.index.ensures c.index-2.ensures in
    let same : texts_of c.in_ok-texts.texts.items ≡ pair = cc (both, c.in_ok-name.ensures.ok, c.in_ok-value.ensures.ok) in
    let are = subst (λ (l : List (List ℕ)). AreItems IsText (items_view c.in_ok-list_of.field-0.now) l) same c.in_ok-texts.ensures.ok in
    subst Are (sym c.in_ok-list_of.ensures.ok) are
