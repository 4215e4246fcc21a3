use Rattle.std.proofs.Common.{◌≡◌, ◌∙◌, List, ℕ, Option, inl, sym, ap, subst, true≢false, rules, string_bytes, option_map}
use Rattle.std.proofs.lemmas.Option.{MatchOption-at_none, MatchOption-at_some}
use Rattle.std.specs.Option.{option_copied}
use Rattle.dav_http.specs.Placed.{BeginsPast}
use Rattle.dav_live.specs.Admission.{AdmissionView, HasLeaveIn, HasManySlashes, IsClosedTo, IsElsewhereIn, IsHereIn, IsOutside, closed, elsewhere, outside, too_far, too_long}
use Rattle.dav_live.specs.declared.admission.Reason.TheVariants.{Elsewhere, Outside, ReadOnly, TooFar, TooLong}
use Rattle.dav_live.proofs.AdmissionLemmas.{turned_away}
use Rattle.dav_live.proofs.admission.Admission.admit.Goals as goal

pub returns-then-has_many_slashes : goal.returns-then-has_many_slashes
returns-then-has_many_slashes c =
    let r = c.refused_of.ensures in
    let many : HasManySlashes c.args.head.now = search rules in
    turned_away c.args.self.now c.args.tokens c.args.head.now c.args.body.now c.refused_of.result r.0 TooLong _ r.1 r.2 r.3
    (too_long (option_map string_bytes c.args.principal) c.requires.let_in c.requires.lean many)

pub returns-then-branch : goal.returns-then-branch
returns-then-branch c =
    let r = c.refused_of-then-branch.ensures in
    let few : ¬ HasManySlashes c.args.head.now = search rules in
    let prefix : c.as_str.result.now ≡ c.args.self.now.prefix = c.as_str.ensures.value ∙ ap (λ (a : AdmissionView). a.prefix) c.self.view_is in
    let is : IsOutside c.as_str.result.now c.args.head.now = search rules in
    turned_away c.args.self.now c.args.tokens c.args.head.now c.args.body.now c.refused_of-then-branch.result r.0 Outside _ r.1 r.2 r.3
    (outside (option_map string_bytes c.args.principal) c.requires.let_in c.requires.lean few (subst (λ p. IsOutside p c.args.head.now) prefix is))

pub returns-then-is_closed_to : goal.returns-then-is_closed_to
returns-then-is_closed_to c =
    let r = c.refused_of-then-is_closed_to.ensures in
    let few : ¬ HasManySlashes c.args.head.now = search rules in
    let prefix : c.as_str.result.now ≡ c.args.self.now.prefix = c.as_str.ensures.value ∙ ap (λ (a : AdmissionView). a.prefix) c.self.view_is in
    let inside : ¬ IsOutside c.as_str.result.now c.args.head.now = search rules in
    let is : IsClosedTo c.args.self.now c.args.head.now = search rules in
    turned_away c.args.self.now c.args.tokens c.args.head.now c.args.body.now c.refused_of-then-is_closed_to.result r.0 ReadOnly _ r.1 r.2 r.3
    (closed (option_map string_bytes c.args.principal) c.requires.let_in c.requires.lean few (subst (λ p. ¬ IsOutside p c.args.head.now) prefix inside) is)

pub returns-in-Some : goal.returns-in-Some
returns-in-Some c =
    let a = c.args.self.now in
    let who = option_map string_bytes c.args.principal in
    let r = c.refused_of-in-Some.ensures in
    let few : ¬ HasManySlashes c.args.head.now = search rules in
    let prefix : c.as_str.result.now ≡ a.prefix = c.as_str.ensures.value ∙ ap (λ (v : AdmissionView). v.prefix) c.self.view_is in
    let inside : ¬ IsOutside c.as_str.result.now c.args.head.now = λ is. true≢false (sym (c.in_ok-is_outside.ensures.1 is) ∙ c.if-branch.false) in
    let free : ¬ IsClosedTo a c.args.head.now = search rules in
    let lent : option_copied c.as_deref.result ≡ who = search rules in
    let has : HasLeaveIn a (option_copied c.as_deref.result) c.deref.result.now = search rules in
    let there : IsElsewhereIn a c.in_ok-kept.kept.items c.in-Some.part = subst (λ (b : List ℕ). IsElsewhereIn a b c.in-Some.part) c.deref-2.ensures.value (MatchOption-at_some _ _ c.in-Some.part c.in-Some.is c.in_ok-part.ensures) in
    turned_away a c.args.tokens c.args.head.now c.args.body.now c.refused_of-in-Some.result r.0 (Elsewhere c.in-Some.part) _ r.1 r.2 r.3
    (elsewhere who c.in_ok-kept.kept.items c.in-Some.part c.requires.let_in c.requires.lean few (subst (λ p. ¬ IsOutside p c.args.head.now) prefix inside) free c.in_ok-kept.ensures
    (inl (subst (λ (u : Option (List ℕ)). HasLeaveIn a u c.in_ok-kept.kept.items) lent (subst (λ (b : List ℕ). HasLeaveIn a (option_copied c.as_deref.result) b) c.deref.ensures.value has))) there)

pub returns-then-branch-2 : goal.returns-then-branch-2
returns-then-branch-2 c =
    let a = c.args.self.now in
    let who = option_map string_bytes c.args.principal in
    let r = c.refused_of-then-branch-2.ensures in
    let few : ¬ HasManySlashes c.args.head.now = search rules in
    let prefix : c.as_str.result.now ≡ a.prefix = c.as_str.ensures.value ∙ ap (λ (v : AdmissionView). v.prefix) c.self.view_is in
    let inside : ¬ IsOutside c.as_str.result.now c.args.head.now = λ is. true≢false (sym (c.in_ok-is_outside.ensures.1 is) ∙ c.if-branch.false) in
    let free : ¬ IsClosedTo a c.args.head.now = search rules in
    let lent : option_copied c.as_deref.result ≡ who = search rules in
    let has : HasLeaveIn a (option_copied c.as_deref.result) c.deref.result.now = search rules in
    let past : BeginsPast a.most_body c.args.head.now = search rules in
    let here : IsHereIn a c.in_ok-kept.kept.items = subst (λ (b : List ℕ). IsHereIn a b) c.deref-2.ensures.value (MatchOption-at_none _ _ c.in_default.is c.in_ok-part.ensures) in
    turned_away a c.args.tokens c.args.head.now c.args.body.now c.refused_of-then-branch-2.result r.0 TooFar _ r.1 r.2 r.3
    (too_far who c.in_ok-kept.kept.items c.requires.let_in c.requires.lean few (subst (λ p. ¬ IsOutside p c.args.head.now) prefix inside) free c.in_ok-kept.ensures
    (subst (λ (u : Option (List ℕ)). HasLeaveIn a u c.in_ok-kept.kept.items) lent (subst (λ (b : List ℕ). HasLeaveIn a (option_copied c.as_deref.result) b) c.deref.ensures.value has)) here past)

pub admitted-requires-clause-within : goal.admitted-requires-clause-within
admitted-requires-clause-within c =
    λ past.
    true≢false (sym (c.in_ok-begins_past.ensures.1 (subst (λ (n : ℕ). BeginsPast n c.args.head.now) (sym (ap (λ (v : AdmissionView). v.most_body) c.self.view_is)) past)) ∙ c.if-branch-2.false)

pub returns-then-not-branch : goal.returns-then-not-branch
returns-then-not-branch c = c.look_of.ensures c.args.tokens c.args.body.now c.requires.lean

pub admitted-requires-clause-here : goal.admitted-requires-clause-here
admitted-requires-clause-here c =
    let a = c.args.self.now in
    subst (λ (b : List ℕ). IsHereIn a b) c.deref-2.ensures.value (MatchOption-at_none _ _ c.in_default.is c.in_ok-part.ensures)
