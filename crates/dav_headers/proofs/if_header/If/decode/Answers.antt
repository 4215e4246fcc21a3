use Rattle.std.proofs.Common.{◌≡◌, ℕ, List, ap, sym, ◌∙◌, subst, get_or}
use Rattle.dav_headers.specs.If.{IsIf}
use Rattle.dav_headers.specs.IfTokens.{Spells}
use Rattle.dav_headers.proofs.ValueLemmas.{one_value}
use Rattle.dav_headers.proofs.if_header.If.decode.Goals as goal

pub returns-in-len1-clause-invalid : goal.returns-in-len1-clause-invalid
returns-in-len1-clause-invalid c = λ e ls (v, is, h).
    let value = c.value-item.result in
    let same : value ≡ v = c.value-item.is ∙ ap (λ x. get_or x 0 value) is in
    let P : List ℕ → Type 0 = λ x. IsIf x ls in
    c.read.ensures.invalid e ls (subst P (ap (λ x. x.bytes) (sym same) ∙ sym c.as_bytes.ensures.value) h)

pub returns-in-len1-clause-memory : goal.returns-in-len1-clause-memory
returns-in-len1-clause-memory c = λ e.
    let value = c.value-item.result in
    let (ts, spells) = c.read.ensures.memory e in
    let P : List ℕ → Type 0 = λ x. Spells x ts in
    (value, ts, one_value c.args.values.now value c.in-len1.len_at_least c.in-len1.len_below c.value-item.is, subst P c.as_bytes.ensures.value spells)
