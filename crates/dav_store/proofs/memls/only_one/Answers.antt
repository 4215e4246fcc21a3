use Rattle.std.proofs.Common.{◌≡◌, ◌≤◌, ◌<◌, ◌∙◌, ℕ, Option, Result, Ok, Err, IfSome, length, Some, sym, subst}
use Rattle.std.specs.Result.{result_ok}
use Rattle.std.specs.List.Sorted.{IsSearchInRange}
use Rattle.dav_core.specs.Path.{names, PathText}
use Rattle.dav_store.specs.LockIndex.{tally, weight}
use Rattle.dav_store.proofs.IndexSound.{matters_alone}
use Rattle.dav_store.proofs.memls.only_one.Goals as goal

within_by : (r : Result ℕ ℕ) (n i : ℕ) → IsSearchInRange r n → result_ok r ≡ Some i → i < n
within_by (Ok j) n i h is = subst (λ (o : Option ℕ). IfSome o (λ m. m < n)) is h
within_by (Err j) n i h is = cc

pub returns-then-matters : goal.returns-then-matters
returns-then-matters c =
    let light = subst (λ (o : Option ℕ). IfSome o (λ n. weight (λ k. tally k c.args.locks.now) c.args.deep (names c.path.result.now) ≤ 1)) c.in_ok-grant.was (c.only_grant.ensures c.args.locks.now c.requires) in
    matters_alone c.args.deep (names c.args.path.now) c.index-locks-i.result c.in_ok-i.i c.args.locks.now
    (within_by c.binary_search_by_key.result (length c.args.locks.now) c.in_ok-i.i c.binary_search_by_key.ensures.bound (sym c.ok.ensures.value ∙ c.in_ok-i.was))
    (sym c.index-locks-i.is) (sym c.matters.ensures ∙ c.if-matters.true)
    (subst (λ (p : PathText). weight (λ k. tally k c.args.locks.now) c.args.deep (names p) ≤ 1) c.path.ensures light)
