use Rattle.std.proofs.Common.{◌≡◌, ◌≢◌, ◌<◌, List, ℕ, length, get_or, rules, sym, ap, ◌∙◌, subst, arith}
use borrow.Author.Count.{below_more}
use Rattle.dav_access.specs.declared.users.User.{User}
use Rattle.dav_access.specs.Users.{IsName}
use Rattle.dav_access.proofs.UserLemmas.{place_in, user_at}
use Rattle.dav_access.proofs.users.Users.place_of.Goals as goal

pub returns-then-eq : goal.returns-then-eq
returns-then-eq c =
    let same : c.as_str.result.now ≡ c.args.name.now = search rules in
    let place = c.loop-place.place in
    let items = c.self.inside.users.items in
    let list : c.deref-user-items.result.now ≡ items = c.deref-user-items.ensures.value in
    let within : place < length items = subst (λ (us : List User). place < length us) list c.loop-place-test.true in
    let item : c.user-item.result ≡ get_or items place c.user-item.result =
    c.user-item.is ∙ ap (λ (us : List User). get_or us place c.user-item.result) list in
    record {
      within = place_in c.args.self.now items place c.self.view_is within;
      here = λ d. ap (λ (u : List ℕ × List ℕ). u.0) (user_at c.args.self.now items place c.user-item.result d c.self.view_is within item)
          ∙ sym c.as_str.ensures.text ∙ same;
      first = c.loop-place.invariant;
      named = subst IsName (sym c.as_str.ensures.text ∙ same) c.as_str.ensures.named;
    }

pub loop-place-preserved : goal.loop-place-preserved
loop-place-preserved c k d low high =
    let other : c.as_str.result.now ≢ c.args.name.now = search rules in
    let place = c.loop-place.place in
    let items = c.self.inside.users.items in
    let list : c.deref-user-items.result.now ≡ items = c.deref-user-items.ensures.value in
    let within : place < length items = subst (λ (us : List User). place < length us) list c.loop-place-test.true in
    let item : c.user-item.result ≡ get_or items place c.user-item.result =
    c.user-item.is ∙ ap (λ (us : List User). get_or us place c.user-item.result) list in
    let P : ℕ → Type 0 = λ j. (get_or c.args.self.now j d).0 ≢ c.args.name.now in
    below_more P place (λ j lt. c.loop-place.invariant j d (omega arith) lt)
    (λ is. other (c.as_str.ensures.text
    ∙ ap (λ (u : List ℕ × List ℕ). u.0) (sym (user_at c.args.self.now items place c.user-item.result d c.self.view_is within item)) ∙ is)) k high
