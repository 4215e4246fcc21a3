use Rattle.std.proofs.Common.{◌≡◌, ◌≤◌, ℕ, List, length, rules, subst, arith}
use Rattle.dav_access.specs.Secrets.{IsSecret}
use Rattle.dav_access.specs.Texts.{IsSplit}
use Rattle.dav_access.proofs.SecretLemmas.{front_once, back_once, parts_split}
use Rattle.dav_access.proofs.secret.parts_of.Goals as goal
use Rattle.dav_access.proofs.secret.parts_of.Goals.{then-salt-gt-MOST_SALT-via-then-salt-gt-MOST_SALT, then-salt-gt-MOST_SALT-via-else-salt-gt-MOST_SALT+then-digest-ne-DIGEST}

pub returns-in_err-salt : goal.returns-in_err-salt
returns-in_err-salt c =
    let none : ¬ (IsSecret c.args.secret.now) =
    λ is.
    let lacks : (before after : List ℕ) → ¬ IsSplit 36 c.rounds_in-rounds.result.1.now before after = search rules in
    lacks is.1 is.2 (parts_split c.in_ok-after_front.ensures c.rounds_in-rounds.ensures is.3) in
    search rules

pub returns-then-salt-gt-MOST_SALT : goal.returns-then-salt-gt-MOST_SALT
returns-then-salt-gt-MOST_SALT c is =
    let split = parts_split c.in_ok-after_front.ensures c.rounds_in-rounds.ensures is.3 in
    let salt : is.1 ≡ c.in_ok-salt.salt.now = front_once split c.in_ok-salt.ensures in
    let digest : is.2 ≡ c.in_ok-salt.digest.now = back_once split c.in_ok-salt.ensures in
    let short : length c.in_ok-salt.salt.now ≤ 16 = subst (λ (t : List ℕ). length t ≤ 16) salt is.3.short in
    let whole : length c.in_ok-salt.digest.now ≡ 43 = subst (λ (t : List ℕ). length t ≡ 43) digest is.3.whole in
    elim c.then-salt-gt-MOST_SALT.branch [
      | then-salt-gt-MOST_SALT-via-then-salt-gt-MOST_SALT w ↦ omega arith
      | then-salt-gt-MOST_SALT-via-else-salt-gt-MOST_SALT+then-digest-ne-DIGEST w ↦ search rules
    ]
