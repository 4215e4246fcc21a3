use Rattle.std.proofs.Common.{◌≡◌, ◌≢◌, ◌<◌, ◌^◌, ℕ, ◌++◌, List, codes, max, min, rules, sym, ap, ◌∙◌, subst}
use Rattle.std.proofs.lemmas.List.{append_cancel_left}
use Rattle.std.specs.Str.Parse.{IsNumeral, digits_value, without_leading_plus}
use Rattle.dav_access.specs.Secrets.{AsksRounds, HasRounds, asked, usual}
use Rattle.dav_access.specs.Texts.{IsSplit}
use Rattle.dav_access.proofs.SecretLemmas.{front_once, same_split}
use Rattle.dav_access.proofs.secret.rounds_in.Goals as goal
use Rattle.dav_access.proofs.secret.rounds_in.Goals.{in_default-via-in-None-1, in_default-via-in-Some+in-None-1, in_default-via-in-Some+in-Some-split_at_first+in-Err-1}

pub returns : goal.returns
returns c =
    let parsed = c.in-Ok.ensures.value.0 in
    let asks : AsksRounds c.args.text.now c.in-Ok.rounds c.in-Some-split_at_first.rest.now = record {
      number = c.in-Some-split_at_first.number.now;
      after = c.in-Some.asked.now;
      begins = c.in-Some.ensures;
      ends = c.in-Some-split_at_first.ensures;
      decimal = parsed.0.0;
      value = parsed.1;
      small = subst (λ (n : ℕ). n < 2 ^ 32) (sym parsed.1) parsed.0.1;
    } in
    let clamped : min (max c.in-Ok.rounds 1000) 1000000 ≡ c.min.result = ap (λ k. min k 1000000) (sym c.max.ensures) ∙ sym c.min.ensures in
    subst (λ (n : ℕ). HasRounds c.args.text.now n c.in-Some-split_at_first.rest.now) clamped (asked asks)

pub returns-2 : goal.returns-2
returns-2 c =
    usual (λ rounds rest asks. elim c.in_default.branch [
      | in_default-via-in-None-1 w ↦
          let lacks : (after : List ℕ) → c.args.text.now ≢ codes "rounds=" ++ after = search rules in lacks asks.after asks.begins
      | in_default-via-in-Some+in-None-1 w ↦
          let same : asks.after ≡ w.in-Some.asked.now = append_cancel_left (codes "rounds=") asks.after w.in-Some.asked.now (sym asks.begins ∙ w.in-Some.ensures) in
          let lacks : (before after : List ℕ) → ¬ IsSplit 36 w.in-Some.asked.now before after = search rules in
          lacks asks.number rest (same_split same asks.ends)
      | in_default-via-in-Some+in-Some-split_at_first+in-Err-1 w ↦
          let same : asks.after ≡ w.in-Some.asked.now = append_cancel_left (codes "rounds=") asks.after w.in-Some.asked.now (sym asks.begins ∙ w.in-Some.ensures) in
          let number : asks.number ≡ w.in-Some-split_at_first.number.now = front_once (same_split same asks.ends) w.in-Some-split_at_first.ensures in
          let fails : ¬ (IsNumeral 10 (without_leading_plus w.in-Some-split_at_first.number.now)
          × digits_value 10 (without_leading_plus w.in-Some-split_at_first.number.now) < 2 ^ 32) = search (rules, w.parse.ensures.value) in
          fails (
            subst (λ (t : List ℕ). IsNumeral 10 (without_leading_plus t)) number asks.decimal,
            subst (λ (t : List ℕ). digits_value 10 (without_leading_plus t) < 2 ^ 32) number (subst (λ (n : ℕ). n < 2 ^ 32) asks.value asks.small),
          )
    ])
