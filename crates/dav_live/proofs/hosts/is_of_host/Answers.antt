use Rattle.std.proofs.Common.{List, Option, false, option_map, sym, subst, ℕ}
use Rattle.std.specs.Bool.{Decides}
use denote.Ref.{Bor}
use Rattle.dav_live.specs.Rejections.{IsOfHost}
use Rattle.dav_live.proofs.RejectionLemmas.{of_host, of_no_host}
use Rattle.dav_live.proofs.hosts.is_of_host.Goals as goal

pub returns-in-Some-authority_of : goal.returns-in-Some-authority_of
returns-in-Some-authority_of c =
    subst (λ (o : Option (Bor (List ℕ))). Decides c.are_one.result (IsOfHost c.args.origin.now (option_map (λ v. v.now) o))) (sym c.in-Some.is)
    (of_host c.args.origin.now c.in-Some-authority_of.authority.now c.in-Some.host.now c.are_one.result c.in-Some-authority_of.ensures c.are_one.ensures)

pub returns-in-None : goal.returns-in-None
returns-in-None c =
    subst (λ (o : Option (Bor (List ℕ))). Decides false (IsOfHost c.args.origin.now (option_map (λ v. v.now) o))) (sym c.in-Some.is) (of_no_host c.args.origin.now c.in-Some.host.now c.in-None.ensures)
