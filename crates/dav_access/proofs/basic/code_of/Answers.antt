use Rattle.std.proofs.Common.{◌≢◌, ◌∷◌, ◌++◌, List, ℕ, codes, map, replicate, rules, ap, ◌∙◌}
use Rattle.std.specs.Char.{to_ascii_lowercase}
use Rattle.dav_access.specs.Basic.{HasCode}
use Rattle.dav_access.proofs.BasicLemmas.{after_is, scheme_is}
use Rattle.dav_access.proofs.basic.code_of.Goals as goal

pub returns-then-not-eq_ignore_ascii_case : goal.returns-then-not-eq_ignore_ascii_case
returns-then-not-eq_ignore_ascii_case c code has =
    let other : map to_ascii_lowercase c.in_ok-scheme.scheme.now ≢ codes "basic" = search rules in
    other (ap (map to_ascii_lowercase) (c.in_ok-scheme.ensures.cases.1 ∙ scheme_is c.args.value.now code has) ∙ has.basic)

pub returns-in_err-after_space : goal.returns-in_err-after_space
returns-in_err-after_space c =
    let lacks : (rest : List ℕ) → c.in_ok-scheme.after.now ≢ 32 ∷ rest = search rules in
    let none : (code : List ℕ) → ¬ HasCode c.args.value.now code =
    λ code has. lacks (replicate has.spaces 32 ++ code) (c.in_ok-scheme.ensures.cases.2 ∙ after_is c.args.value.now code has) in
    search rules
