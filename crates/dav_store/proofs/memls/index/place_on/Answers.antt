use Rattle.std.proofs.Common.{◌≡◌, sym, ap, ◌∙◌, take, bytes_eq}
use Rattle.dav_core.specs.Path.{names}
use Rattle.dav_store.proofs.SeatedLemmas.{none_named, looked_same, looked_other}
use Rattle.dav_store.proofs.memls.index.place_on.Goals as goal

pub returns-then-seated-eq0 : goal.returns-then-seated-eq0
returns-then-seated-eq0 c = sym (none_named (take c.args.len (names c.args.path.now)) c.args.token.now c.args.locks.now (sym c.requires ∙ c.if-seated-eq0.true))

pub returns-then-eq : goal.returns-then-eq
returns-then-eq c =
    let token : c.as_str.result.now ≡ c.in-Some.kept.now.token = c.as_str.ensures.value ∙ ap (λ l. l.token) (c.behind-kept.view_is ∙ c.lock.ensures) in
    sym (looked_same (take c.args.len (names c.args.path.now)) c.args.token.now c.args.locks.now c.in-Some.i c.in-Some.kept.now c.in-Some.ensures (sym c.requires ∙ c.if-seated-eq1.true)
    (ap (λ t. bytes_eq t c.args.token.now) (sym token) ∙ sym c.eq.ensures ∙ c.if-eq.true))

pub returns-else-eq : goal.returns-else-eq
returns-else-eq c =
    let token : c.as_str.result.now ≡ c.in-Some.kept.now.token = c.as_str.ensures.value ∙ ap (λ l. l.token) (c.behind-kept.view_is ∙ c.lock.ensures) in
    sym (looked_other (take c.args.len (names c.args.path.now)) c.args.token.now c.args.locks.now c.in-Some.i c.in-Some.kept.now c.in-Some.ensures (sym c.requires ∙ c.if-seated-eq1.true)
    (ap (λ t. bytes_eq t c.args.token.now) (sym token) ∙ sym c.eq.ensures ∙ c.if-eq.false))
