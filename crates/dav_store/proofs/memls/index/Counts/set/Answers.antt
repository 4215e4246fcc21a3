use Rattle.std.proofs.Common.{◌≡◌, true, false, cond, None, sym, ap, subst, ◌∙◌}
use Rattle.std.specs.Option.{is_some}
use Rattle.dav_core.specs.Path.{is_same_path}
use Rattle.dav_store.specs.Tree.{value_of}
use Rattle.dav_store.specs.Placed.{found, bare}
use Rattle.dav_store.specs.LockIndex.{IsSeatTree}
use Rattle.dav_store.specs.LockIndex.{Seats, seat_count, count_of}
use Rattle.dav_store.proofs.BareTrees.{value_bare, valued_bare}
use Rattle.dav_store.proofs.SeatLemmas.{tree_valued, found_same, counts_valued}
use Rattle.dav_store.proofs.memls.index.Counts.set.Goals as goal

pub invariant_of-self : goal.invariant_of-self
invariant_of-self c = c.self.invariant

pub returns-in_default-clause-counts : goal.returns-in_default-clause-counts
returns-in_default-clause-counts c some q at k =
    let none : value_of c.args.self.now c.args.id ≡ None = ap (λ (u : Seats). value_of u c.args.id) (sym c.self.view_is) ∙ value_bare c.self.inside.tree c.args.id ∙ sym c.in_default.ensures.value in
    let no : false ≡ true = sym (ap is_some none) ∙ some in cc

pub invariant_of-self-2 : goal.invariant_of-self-2
invariant_of-self-2 c =
    subst IsSeatTree (valued_bare c.self.inside.tree c.args.id c.args.seat)
    (tree_valued (bare c.self.inside.tree) c.self.invariant c.args.id c.in-Ok.old.now c.args.seat (value_bare c.self.inside.tree c.args.id ∙ sym c.in-Ok.ensures.value))

pub returns-clause-walks : goal.returns-clause-walks
returns-clause-walks c some q =
    ap (λ (u : Seats). found u q) (sym (valued_bare c.self.inside.tree c.args.id c.args.seat))
    ∙ found_same (bare c.self.inside.tree) c.self.invariant c.args.id c.in-Ok.old.now c.args.seat (value_bare c.self.inside.tree c.args.id ∙ sym c.in-Ok.ensures.value) q
    ∙ ap (λ (u : Seats). found u q) c.self.view_is

pub returns-clause-counts : goal.returns-clause-counts
returns-clause-counts c some q at k =
    ap (λ (u : Seats). count_of u k) (sym (valued_bare c.self.inside.tree c.args.id c.args.seat))
    ∙ counts_valued (bare c.self.inside.tree) c.self.invariant c.args.id c.in-Ok.old.now c.args.seat (value_bare c.self.inside.tree c.args.id ∙ sym c.in-Ok.ensures.value) q (ap (λ (u : Seats). found u q) c.self.view_is ∙ at) k
    ∙ (λ i. cond (is_same_path q k.1) (seat_count k.0 c.args.seat) (count_of (c.self.view_is i) k))
