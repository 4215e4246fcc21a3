use Rattle.std.proofs.Common.{◌≡◌, ◌≢◌, ◌+◌, ◌≤◌, ◌++◌, ◌∷◌, List, ℕ, [], length, map, rules, sym, inl, inr, arith}
use Rattle.std.proofs.lemmas.List.{append-nil, map-append, nil_from_length}
use Rattle.std.proofs.lemmas.Bool.Decides.{nat_tests}
use Rattle.std.specs.Str.{IsUtf8}
use Rattle.dav_access.specs.declared.users.User.{User}
use Rattle.dav_access.specs.Users.{IsGoodLine, IsSkipped, IsUserLine, ended}
use Rattle.dav_access.proofs.UserLemmas.{cut_shorter, line_skipped, line_listed, fault_further, fault_here}
use Rattle.dav_access.proofs.users.users_in.Goals as goal
use Rattle.dav_access.proofs.users.users_in.Goals.{then-not-is_skipped+in_ok-user+in-Some+in_ok-push-in-Some, else-not-is_skipped}

pub is_empty-requires-text-self : goal.is_empty-requires-text-self
is_empty-requires-text-self c = λ _. c.loop-rest.invariant.3

pub returns-in-None : goal.returns-in-None
returns-in-None c =
    let some : c.loop-rest.rest.now ≢ [] = search (rules, nat_tests) in
    let stays : ¬ IsSkipped c.first_line.result.0.now = search rules in
    let none : (user : List ℕ × List ℕ) → ¬ IsUserLine c.first_line.result.0.now user = search rules in
    let bad : ¬ IsGoodLine c.first_line.result.0.now = λ good. elim good [ inl s ↦ stays s | inr u ↦ none u.0 u.1 ] in
    fault_here c.args.text.now c.loop-rest.rest.now c.first_line.result.0.now c.first_line.result.1.now some c.first_line.ensures.line c.first_line.ensures.rest
    c.loop-rest.count bad c.loop-rest.invariant.1

pub loop-rest-preserved : goal.loop-rest-preserved
loop-rest-preserved c =
    let some : c.loop-rest.rest.now ≢ [] = search (rules, nat_tests) in
    let text = c.args.text.now in
    let rest = c.loop-rest.rest.now in
    let line = c.first_line.result.0.now in
    let after = c.first_line.result.1.now in
    let is = c.first_line.ensures.line in
    let then = c.first_line.ensures.rest in
    let f : User → List ℕ × List ℕ = λ u. (u.name, u.check) in
    let utf8 : IsUtf8 after = search rules in
    let good : IsGoodLine line = elim c.if-not-is_skipped.branch [
      | then-not-is_skipped+in_ok-user+in-Some+in_ok-push-in-Some w ↦ inr (f w.in-Some.user, search rules)
      | else-not-is_skipped w ↦ inl (search rules)
    ] in
    let shorter : length after + 1 ≤ length rest = search (rules, cut_shorter rest after some then) in (
      λ more h. elim c.if-not-is_skipped.branch [
        | then-not-is_skipped+in_ok-user+in-Some+in_ok-push-in-Some w ↦
            let items = c.loop-rest.users.items in
            let user = w.in-Some.user in
            let pushed : map f (items ++ user ∷ []) ≡ map f items ++ f user ∷ [] = map-append f items (user ∷ []) in
            let stays : ¬ IsSkipped line = search rules in
            let says : IsUserLine line (f user) = search rules in
            rw (w.users-is, w.in_ok-push-in-Some.ensures.items, pushed)
            (line_listed text rest line after some is then (map f items) more (f user) stays says c.loop-rest.invariant.0 h)
        | else-not-is_skipped w ↦
            let skips : IsSkipped line = search rules in
            rw w.users-is (line_skipped text rest line after some is then (map f c.loop-rest.users.items) more skips c.loop-rest.invariant.0 h)
      ],
      λ n h. fault_further text rest line after some is then c.loop-rest.count n good c.loop-rest.invariant.1 h,
      omega arith,
      utf8,
    )

pub returns : goal.returns
returns c =
    let none : c.loop-rest.rest.now ≡ [] = nil_from_length c.loop-rest.rest.now (search (rules, nat_tests)) in
    let f : User → List ℕ × List ℕ = λ u. (u.name, u.check) in
    rw (sym (append-nil (map f c.loop-rest.users.items))) (c.loop-rest.invariant.0 [] (rw none ended))
