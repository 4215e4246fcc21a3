use Rattle.std.proofs.Common.{◌≢◌, ◌≡◌, ◌++◌, List, MatchOption, subst, ℕ}
use Rattle.std.proofs.lemmas.Bool.Decides.{Decides-eqb}
use Rattle.std.proofs.lemmas.Slice.Eq.{strip_prefix_is}
use Rattle.dav_live.proofs.RejectionLemmas.{authority_by, no_authority}
use Rattle.dav_live.proofs.hosts.authority_of.Goals as goal

pub returns-in-None : goal.returns-in-None
returns-in-None c = λ a. no_authority c.args.origin.now a c.in-None.ensures

pub returns-in-Some : goal.returns-in-Some
returns-in-Some c =
    authority_by c.args.origin.now c.in-Some.field-0-0.now c.in-Some.rest.now c.strip_prefix.result c.in-Some.ensures
    (subst (λ (p : List ℕ). MatchOption c.strip_prefix.result ((x : List ℕ) → c.in-Some.rest.now ≢ p ++ x) (λ x. c.in-Some.rest.now ≡ p ++ x.now)) c.as_slice.ensures
    (strip_prefix_is Decides-eqb c.in-Some.rest.now c.as_slice.result.now c.strip_prefix.result c.strip_prefix.ensures.cases))
