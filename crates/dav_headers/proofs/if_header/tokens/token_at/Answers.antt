use Rattle.std.proofs.Common.{◌≡◌, ◌≢◌, Some, ◌∙◌, sym, ap, rules}
use Rattle.std.proofs.lemmas.List.{take_rest}
use Rattle.dav_headers.specs.IfTokens.{negation}
use Rattle.dav_headers.specs.IfTokenMachine.{token_at, word_at}
use Rattle.dav_headers.proofs.IfTokenLemmas.{token_at-first, token_at-word, token_at-none, token_at-not}
use Rattle.dav_headers.proofs.if_header.tokens.token_at.Goals as goal
use Rattle.dav_headers.proofs.if_header.tokens.token_at.Goals.{in_default-via-in-Some+in_default, in_default-via-in_default}

pub returns-then-starts_with-clause-is : goal.returns-then-starts_with-clause-is
returns-then-starts_with-clause-is c =
    let text = c.args.text.now in
    ap (λ rest. Some (negation, rest)) (take_rest text 3) ∙ sym (token_at-not text (sym c.starts_with.ensures.value ∙ c.if-starts_with.true))

pub returns-in-Some-eq40-default-clause-is : goal.returns-in-Some-eq40-default-clause-is
returns-in-Some-eq40-default-clause-is c =
    let arm = c.in-Some-eq40-default in
    sym (token_at-first c.args.text.now arm.field-0-0.now 40 arm.rest.now arm.ensures.cases.0 arm.field-0-0-test)

pub returns-in-Some-eq41-default-clause-is : goal.returns-in-Some-eq41-default-clause-is
returns-in-Some-eq41-default-clause-is c =
    let arm = c.in-Some-eq41-default in
    sym (token_at-first c.args.text.now arm.field-0-0.now 41 arm.rest.now arm.ensures.cases.0 arm.field-0-0-test)

pub returns-in-Some-eq60-default-clause-is : goal.returns-in-Some-eq60-default-clause-is
returns-in-Some-eq60-default-clause-is c =
    let arm = c.in-Some-eq60-default in
    c.angle_at.ensures.is ∙ sym (token_at-first c.args.text.now arm.field-0-0.now 60 arm.rest.now arm.ensures.cases.0 arm.field-0-0-test)

pub returns-in-Some-eq91-default-clause-is : goal.returns-in-Some-eq91-default-clause-is
returns-in-Some-eq91-default-clause-is c =
    let arm = c.in-Some-eq91-default in
    c.square_at.ensures.is ∙ sym (token_at-first c.args.text.now arm.field-0-0.now 91 arm.rest.now arm.ensures.cases.0 arm.field-0-0-test)

pub returns-in_default-clause-is : goal.returns-in_default-clause-is
returns-in_default-clause-is c =
    let text = c.args.text.now in
    let no_not = sym c.starts_with.ensures.value ∙ c.if-starts_with.false in
    let alone : token_at text ≡ word_at text = elim c.in_default.branch [
      | in_default-via-in-Some+in_default w ↦
          let first = w.in_default.field-0.0.now in
          let parts = rw w.in_default.is at c.split_first.ensures.cases in
          let h : (first ≢ 40) × (first ≢ 41) × (first ≢ 60) × (first ≢ 91) = search rules in
          token_at-word text first w.in_default.field-0.1.now parts.0 h.0 h.1 h.2 h.3 no_not
      | in_default-via-in_default w ↦ token_at-none text (rw w.in_default.is at c.split_first.ensures.cases)
    ] in
    c.word_at.ensures.is ∙ sym alone
