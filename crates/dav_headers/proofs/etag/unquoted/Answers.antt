use Rattle.std.proofs.Common.{◌∷◌, ◌∙◌, rules, subst, sym, ap, drop, lit<}
use Rattle.std.proofs.lemmas.Option.{MatchOption-at_none, MatchOption-at_some}
use Rattle.std.proofs.lemmas.Str.Pattern.{strip_prefix_char, strip_suffix_char}
use Rattle.std.specs.List.{Contains}
use Rattle.dav_headers.proofs.ETagLemmas.{between_quotes}
use Rattle.dav_headers.proofs.etag.unquoted.Goals as goal

pub returns-in_err-strip_prefix-clause-none : goal.returns-in_err-strip_prefix-clause-none
returns-in_err-strip_prefix-clause-none c =
    let e = strip_prefix_char 34 c.args.text.now _ c.strip_prefix.ensures.cases (lit< tt) in
    rw c.from_residual.ensures (λ tag h. MatchOption-at_none _ _ (c.in_err-strip_prefix.was) e _ h.1)

pub returns-then-contains-clause-none : goal.returns-then-contains-clause-none
returns-then-contains-clause-none c = λ tag h.
    let inside : Contains c.in_ok-tag.tag.now 34 = search rules in
    let e = strip_prefix_char 34 c.args.text.now _ c.strip_prefix.ensures.cases (lit< tt) in
    let f = strip_suffix_char 34 _ _ c.strip_suffix.ensures.cases (lit< tt) in
    h.0 (subst (λ t. Contains t 34) (between_quotes c.args.text.now _ c.in_ok-tag.tag.now tag (MatchOption-at_some _ _ _ c.in_ok-strip_prefix.was e) (MatchOption-at_some _ _ _ c.in_ok-tag.was f) h.1) inside)

pub returns-in_err-tag-clause-none : goal.returns-in_err-tag-clause-none
returns-in_err-tag-clause-none c =
    let e = strip_prefix_char 34 c.args.text.now _ c.strip_prefix.ensures.cases (lit< tt) in
    let f = strip_suffix_char 34 _ _ c.strip_suffix.ensures.cases (lit< tt) in
    let first = MatchOption-at_some _ _ _ c.in_ok-strip_prefix.was e in
    rw c.from_residual-in_err-tag.ensures (λ tag h. MatchOption-at_none _ _ c.in_err-tag.was f tag (ap (drop 1) (sym first ∙ h.1)))

pub returns-else-contains-clause-found : goal.returns-else-contains-clause-found
returns-else-contains-clause-found c =
    let clean : ¬ (Contains c.in_ok-tag.tag.now 34) = search rules in
    let e = strip_prefix_char 34 c.args.text.now _ c.strip_prefix.ensures.cases (lit< tt) in
    let f = strip_suffix_char 34 _ _ c.strip_suffix.ensures.cases (lit< tt) in
    (clean, MatchOption-at_some _ _ _ c.in_ok-strip_prefix.was e ∙ ap (λ t. 34 ∷ t) (MatchOption-at_some _ _ _ c.in_ok-tag.was f))
