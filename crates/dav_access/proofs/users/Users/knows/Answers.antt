use Rattle.std.proofs.Common.{◌≡◌, ◌<◌, List, ℕ, [], length, get_or, sym, ap, ◌∙◌, subst}
use Rattle.dav_access.specs.Crypt.{Fits}
use Rattle.dav_access.specs.Users.{IsFirstOf}
use Rattle.dav_access.proofs.UserLemmas.{place_once, place_out, user_at}
use Rattle.dav_access.proofs.users.Users.knows.Goals as goal

pub returns-in-Some-clause-complete : goal.returns-in-Some-clause-complete
returns-in-Some-clause-complete c secret is fits =
    let place : is.place ≡ c.in-Some.place = place_once c.args.self.now c.args.name.now secret c.in-Some.place (subst (λ (n : List ℕ). IsFirstOf c.args.self.now n c.in-Some.place) c.as_bytes.ensures.value c.in-Some.ensures) is in
    let items = c.self.inside.users.items in
    let within : c.in-Some.place < length items = place_out c.args.self.now items c.in-Some.place c.self.view_is c.in-Some.ensures.within in
    let user = user_at c.args.self.now items c.in-Some.place c.index_mut.result.now ([], []) c.self.view_is within c.index_mut.ensures.value in
    let listed = is.here ([], []) in
    let same : secret ≡ c.index_mut.result.now.check =
    ap (λ (u : List ℕ × List ℕ). u.1) (sym listed ∙ ap (λ j. get_or c.args.self.now j ([], [])) place ∙ user) in
    c.admits.ensures.complete (subst (λ (s : List ℕ). Fits c.args.password.now s) same fits)

pub returns-in-None-clause-complete : goal.returns-in-None-clause-complete
returns-in-None-clause-complete c secret is fits =
    absurd (c.in-None.ensures is.place ([], []) is.within (ap (λ u. u.0) (is.here ([], [])) ∙ sym c.as_bytes.ensures.value))
