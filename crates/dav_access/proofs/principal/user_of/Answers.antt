use Rattle.std.proofs.Common.{List, ℕ, string_bytes, inr, rules, subst, sym}
use Rattle.dav_access.specs.Basic.{IsBasic}
use Rattle.dav_access.specs.Crypt.{Fits}
use Rattle.dav_access.specs.Users.{IsListed}
use Rattle.dav_access.proofs.principal.user_of.Goals as goal

pub returns-clause-refusal : goal.returns-clause-refusal
returns-clause-refusal c =
    let name = string_bytes c.in-Some.shown.name in
    let password = string_bytes c.in-Some.shown.password in
    let basic : IsBasic c.args.value.now name password = search rules in
    let unfit : (secret : List ℕ) → IsListed c.args.users.now name secret → ¬ Fits password secret =
    λ secret listed fits.
    let known = c.knows.ensures.complete secret
    (subst (λ (n : List ℕ). IsListed c.args.users.now n secret) (sym c.as_str.ensures.value) listed)
    (subst (λ (p : List ℕ). Fits p secret) (sym c.as_bytes.ensures.value) fits) in
    search rules in
    inr (password, basic, unfit)
