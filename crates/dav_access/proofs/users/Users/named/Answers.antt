use Rattle.std.proofs.Common.{◌≡◌, ◌<◌, ◌∙◌, true, List, ℕ, [], length, get_or, sym, ap, subst, bytes_eq}
use Rattle.std.proofs.lemmas.List.Folds.{list_any_at, list_any_none}
use Rattle.dav_xml.proofs.Declared.{bytes_differ}
use Rattle.dav_xml.proofs.Nested.{same_bytes}
use Rattle.dav_access.proofs.UserLemmas.{place_out, user_at}
use Rattle.dav_access.proofs.users.Users.named.Goals as goal

pub returns-in-Some : goal.returns-in-Some
returns-in-Some c =
    let name = c.args.name.now in
    let users = c.args.self.now in
    let first = c.in-Some.ensures in
    let place = c.in-Some.place in
    let items = c.self.inside.users.items in
    let within : place < length items = place_out users items place c.self.view_is first.within in
    let at = user_at users items place c.index.result.now ([], []) c.self.view_is within c.index.ensures in
    let here : (get_or users place ([], [])).0 ≡ name = first.here ([], []) in (
      list_any_at (λ u. bytes_eq u.0 name) users place ([], []) first.within (subst (λ (n : List ℕ). bytes_eq n name ≡ true) (sym here) (same_bytes name)),
      sym (ap (λ (u : List ℕ × List ℕ). u.0) at) ∙ here,
    )

pub returns-in-None : goal.returns-in-None
returns-in-None c =
    list_any_none (λ u. bytes_eq u.0 c.args.name.now) c.args.self.now (λ k d within. bytes_differ _ _ (c.in-None.ensures k d within))
